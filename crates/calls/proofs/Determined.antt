-- The contract of this crate's seam determines its answer: it is an equation with a definition.
use mathlib.Core.Path.{sym, ◌∙◌}
use Rattle.ticket.specs.Determined.{Determines}
use Rattle.calls.proofs.fresh_run.Reads as fresh-run

pub fresh_run_determined : Determines fresh-run.Post
fresh_run_determined κs a x y s t p q = p ∙ sym q
