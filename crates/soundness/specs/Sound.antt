-- "Sound. A table is sound when: .." The clauses that speak of its cores, in the paragraph's order and words; with what "soundness here wants" of
-- the dequeueing profile (document 02, wish 10).
use Rattle.std.specs.Prelude.{ℕ, ◌+◌, Bool, true, false, cond, ◌&&◌, ◌||◌, not, List, leb, ltb, eqb, get_or}
use Rattle.ticket.specs.Order.{behind, compare}
use Rattle.ticket.specs.declared.kinds.Ticket.{Ticket}
use Rattle.ticket.specs.declared.order.Comparison.{Comparison}
use Rattle.ticket.specs.declared.order.Comparison.TheVariants.{Older, Younger, Same, Opposite}
use Rattle.parts.specs.Fold.{every, some}
use Rattle.parts.specs.State.{is_idle_lem, is_live_lem, is_dropped, two_stage_lem, unserved}
use Rattle.parts.specs.Profile.{suits}
use Rattle.parts.specs.Parts.{cores, idle}
use Rattle.parts.specs.declared.kinds.Core.{Core}
use Rattle.parts.specs.declared.kinds.Counts.{Counts}

-- "everything past them is blank": a core past the count is idle
abbrev pub within : Counts → ℕ → Core → Bool
within n k c = ltb k n.cores || is_idle_lem c.state

-- the core's state is one of its profile's: in D "an away core either registered at its unit .., or dropped", and no second unit; neither in T
abbrev pub suited : Counts → Core → Bool
suited n c = suits n.profile c.state

-- "an idle core has ticket 0"
abbrev pub idle_blank : Core → Bool
idle_blank c = not (is_idle_lem c.state) || (eqb c.own.0 0 && eqb c.first.0 0)

-- "dropped: .. no ticket, its 0 blank"
abbrev pub dropped_blank : Core → Bool
dropped_blank c = not (is_dropped c.state) || eqb c.own.0 0

-- "every unit a core names is in the table"; "a held or awaited second is of the second class, and its first of the first class"
abbrev pub names : Counts → Core → Bool → Bool
names n c two =
    cond two
    (ltb c.first.0 n.first && leb n.first c.second.0 && ltb c.second.0 (n.first + n.second))
    (ltb c.first.0 (n.first + n.second))

abbrev pub named : Counts → Core → Bool
named n c = is_idle_lem c.state || names n c (two_stage_lem c.state)

-- "each lies 1 to 32,768 behind the counter": what a ticket that compares so with the counter does; Younger is 32,769 or more, Same 0
abbrev pub half_behind_lem : Comparison → Bool
half_behind_lem x = elim x [ Older ↦ true | Younger ↦ false | Same ↦ false | Opposite ↦ true ]

abbrev pub recent : Ticket → Core → Bool
recent m c = not (is_live_lem c.state) || half_behind_lem (compare c.own.0 m.0)

-- "own tickets differ pairwise": core k, which is c, and core j, which is d, if both tickets are live. On the circle the one does not lie 0 behind
-- the other; of tickets of sixteen bits that is the same (`differ_plain`).
abbrev pub differ : ℕ → Core → ℕ → Core → Bool
differ k c j d = eqb k j || not (is_live_lem c.state) || not (is_live_lem d.state) || not (eqb (behind c.own.0 d.own.0) 0)

-- "a core waiting for or away from the unit this core holds first": c's carried ticket belongs to d
abbrev pub lends : Core → Core → Bool
lends c d = unserved d.state && eqb d.first.0 c.first.0 && eqb d.own.0 c.carried.0

-- "reads older than the own": what a carried ticket that compares so with the own one does; Opposite cannot be where both lie so behind the counter
abbrev pub reads_older_lem : Comparison → Bool
reads_older_lem x = elim x [ Older ↦ true | Younger ↦ false | Same ↦ false | Opposite ↦ false ]

-- "a carried ticket that isn't the own one belongs to .., reads older than the own, and occurs only while a second unit is awaited or
-- held"; what a core without a second unit does not speak of is blank
abbrev pub inherits : List Core → Core → Bool
inherits all c = some (λ (j : ℕ). lends c (get_or all j idle)) cores && reads_older_lem (compare c.carried.0 c.own.0)

abbrev pub carries : List Core → Core → Bool
carries all c =
    cond (two_stage_lem c.state) (eqb c.carried.0 c.own.0 || inherits all c) (eqb c.carried.0 c.own.0 && eqb c.second.0 0)

-- the clauses of core k
unfoldable pub core_sound : Counts → Ticket → List Core → ℕ → Bool
core_sound n m all k =
    let c = get_or all k idle in
    within n k c &&
    suited n c &&
    idle_blank c &&
    dropped_blank c &&
    named n c &&
    recent m c &&
    every (λ (j : ℕ). differ k c j (get_or all j idle)) cores &&
    carries all c
