-- Each contract of this crate's entries and of its seams determines its answer: it is an equation with a definition.
use mathlib.Core.Path.{sym, ◌∙◌}
use Rattle.ticket.specs.Determined.{Determines}
use Rattle.parts.proofs.answer.number.Reads as number
use Rattle.parts.proofs.range.in_range.Reads as in_range_lem
use Rattle.parts.proofs.made.blank.Reads as blank
use Rattle.parts.proofs.made.idle.Reads as idle
use Rattle.parts.proofs.made.standing.Reads as standing
use Rattle.parts.proofs.made.flagged.Reads as flagged
use Rattle.parts.proofs.made.empty_unit.Reads as empty-unit
use Rattle.parts.proofs.made.registered.Reads as registered
use Rattle.parts.proofs.made.core.Reads as core
use Rattle.parts.proofs.made.dropped.Reads as dropped
use Rattle.parts.proofs.answer.whose.Reads as whose
use Rattle.parts.proofs.state.is_idle.Reads as is-idle
use Rattle.parts.proofs.state.two_stage.Reads as two-stage
use Rattle.parts.proofs.state.waits.Reads as waits
use Rattle.parts.proofs.state.is_away.Reads as is-away
use Rattle.parts.proofs.state.is_marked.Reads as is-marked
use Rattle.parts.proofs.state.is_dropped.Reads as is-dropped
use Rattle.parts.proofs.state.is_live.Reads as is_live
use Rattle.parts.proofs.state.stands.Reads as stands
use Rattle.parts.proofs.state.holds.Reads as holds
use Rattle.parts.proofs.state.holds_one.Reads as holds-one
use Rattle.parts.proofs.state.holds_both.Reads as holds-both
use Rattle.parts.proofs.state.holds_first.Reads as holds-first
use Rattle.parts.proofs.state.unserved.Reads as unserved
use Rattle.parts.proofs.profile.dequeues.Reads as dequeues
use Rattle.parts.proofs.profile.suits.Reads as suits

pub number_determined : Determines number.Post
number_determined κs a x y s t p q = p ∙ sym q

pub in_range_determined : Determines in_range_lem.Post
in_range_determined κs a x y s t p q = p ∙ sym q

pub blank_determined : Determines blank.Post
blank_determined κs a x y s t p q = p ∙ sym q

pub idle_determined : Determines idle.Post
idle_determined κs a x y s t p q = p ∙ sym q

pub is_idle_determined : Determines is-idle.Post
is_idle_determined κs a x y s t p q = p ∙ sym q

pub two_stage_determined : Determines two-stage.Post
two_stage_determined κs a x y s t p q = p ∙ sym q

pub waits_determined : Determines waits.Post
waits_determined κs a x y s t p q = p ∙ sym q

pub is_away_determined : Determines is-away.Post
is_away_determined κs a x y s t p q = p ∙ sym q

pub stands_determined : Determines stands.Post
stands_determined κs a x y s t p q = p ∙ sym q

pub holds_determined : Determines holds.Post
holds_determined κs a x y s t p q = p ∙ sym q

pub holds_one_determined : Determines holds-one.Post
holds_one_determined κs a x y s t p q = p ∙ sym q

pub holds_both_determined : Determines holds-both.Post
holds_both_determined κs a x y s t p q = p ∙ sym q

pub holds_first_determined : Determines holds-first.Post
holds_first_determined κs a x y s t p q = p ∙ sym q

pub unserved_determined : Determines unserved.Post
unserved_determined κs a x y s t p q = p ∙ sym q

pub standing_determined : Determines standing.Post
standing_determined κs a x y s t p q = p ∙ sym q

pub flagged_determined : Determines flagged.Post
flagged_determined κs a x y s t p q = p ∙ sym q

pub empty_unit_determined : Determines empty-unit.Post
empty_unit_determined κs a x y s t p q = p ∙ sym q

pub registered_determined : Determines registered.Post
registered_determined κs a x y s t p q = p ∙ sym q

pub core_determined : Determines core.Post
core_determined κs a x y s t p q = p ∙ sym q

pub dropped_determined : Determines dropped.Post
dropped_determined κs a x y s t p q = p ∙ sym q

pub whose_determined : Determines whose.Post
whose_determined κs a x y s t p q = p ∙ sym q

pub is_marked_determined : Determines is-marked.Post
is_marked_determined κs a x y s t p q = p ∙ sym q

pub is_dropped_determined : Determines is-dropped.Post
is_dropped_determined κs a x y s t p q = p ∙ sym q

pub is_live_determined : Determines is_live.Post
is_live_determined κs a x y s t p q = p ∙ sym q

pub dequeues_determined : Determines dequeues.Post
dequeues_determined κs a x y s t p q = p ∙ sym q

pub suits_determined : Determines suits.Post
suits_determined κs a x y s t p q = p ∙ sym q
