-- Each contract of this crate determines its answer: it has an equation with a definition.
use mathlib.Core.Path.{sym, ◌∙◌}
use seplogic.Ra.Ura.{Ura}
use base.Logic.{SProp}
use prog.Memory.{Memory}
use prog.Routine.{Routine}
use types.Logic.{Logic}
use contract.Monad.{Fun}
use Rattle.ticket.specs.Determined.{Determines, DeterminesLent}
use Rattle.ticket.proofs.Determined.{agree}
use Rattle.script.proofs.reader.read_step.Reads as Read-step
use Rattle.script.proofs.reader.read_header.Reads as read-header
use Rattle.script.specs.contracts.reader.ScriptReader.open as opens
use Rattle.script.specs.contracts.reader.ScriptReader.place as place
use Rattle.script.specs.contracts.reader.ScriptReader.left as left
use Rattle.script.specs.contracts.reader.ScriptReader.header as header
use Rattle.script.specs.contracts.reader.ScriptReader.next as next

pub read_step_determined : Determines Read-step.Post
read_step_determined κs a x y s t p q = p.0 ∙ sym q.0

pub read_header_determined : Determines read-header.Post
read_header_determined κs a x y s t p q = p.0 ∙ sym q.0

-- the script reader's
module _ {M : Type 1} {𝓤 : Ura M} (𝓛 : Logic 𝓤) (mem : Memory → SProp 𝓤) (run : Routine → Fun 𝓤) where
  pub open_determined : DeterminesLent 𝓤 opens.ended (opens.clauses 𝓛 mem run)
  open_determined κs a g x y s t = agree 𝓤 (λ p q. p ∙ sym q)

  pub place_determined : DeterminesLent 𝓤 place.ended (place.clauses 𝓛 mem run)
  place_determined κs a g x y s t = agree 𝓤 (λ p q. p ∙ sym q)

  pub left_determined : DeterminesLent 𝓤 left.ended (left.clauses 𝓛 mem run)
  left_determined κs a g x y s t = agree 𝓤 (λ p q. p ∙ sym q)

  pub header_determined : DeterminesLent 𝓤 header.ended (header.clauses 𝓛 mem run)
  header_determined κs a g x y s t = agree 𝓤 (λ p q. p.0 ∙ sym q.0)

  pub next_determined : DeterminesLent 𝓤 next.ended (next.clauses 𝓛 mem run)
  next_determined κs a g x y s t = agree 𝓤 (λ p q. p.0 ∙ sym q.0)
