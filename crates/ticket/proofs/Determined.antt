-- Each contract of this crate determines its answer: it is an equation with a definition, so two answers are both equal to it.
use Rattle.std.proofs.Common.{sym, ◌∙◌}
use seplogic.Ra.Ura.{Ura}
use base.Logic.{SProp, ent, sep, fst∗, snd∗}
use prog.Memory.{Memory}
use prog.Routine.{Routine}
use types.Logic.{Logic}
use contract.Monad.{Fun, fact, fact_i, fact_use}
use Rattle.ticket.specs.Determined.{Determines, DeterminesLent, DeterminesLentLeft}
use Rattle.ticket.proofs.kinds.Grant.of.Reads as grant-of
use Rattle.ticket.proofs.order.behind.Reads as behind
use Rattle.ticket.proofs.order.compare.Reads as compare
use Rattle.ticket.proofs.order.after.Reads as after
use Rattle.ticket.proofs.issue.IssuingUnit.issue.Reads as issue
use Rattle.ticket.specs.contracts.issue.IssuingUnit.advance as advance
use Rattle.ticket.proofs.issue.take.Reads as take

pub grant_of_determined : Determines grant-of.Post
grant_of_determined κs a x y s t p q = p ∙ sym q

pub behind_determined : Determines behind.Post
behind_determined κs a x y s t p q = p ∙ sym q

pub compare_determined : Determines compare.Post
compare_determined κs a x y s t p q = p ∙ sym q

pub after_determined : Determines after.Post
after_determined κs a x y s t p q = p ∙ sym q

pub issue_determined : Determines issue.Post
issue_determined κs a x y s t p q = p ∙ sym q

pub take_determined : Determines take.Post
take_determined κs a x y s t p q = p ∙ sym q

-- what two facts give
pub agree : {M : Type 1} (𝓤 : Ura M) {P Q R : Type 0} → (P → Q → R) → ent 𝓤 (sep 𝓤 (fact 𝓤 P) (fact 𝓤 Q)) (fact 𝓤 R)
agree 𝓤 {P} {Q} {R} k =
    fact_use 𝓤 P (fst∗ 𝓤 (fact 𝓤 P) (fact 𝓤 Q)) (λ p. fact_use 𝓤 Q (snd∗ 𝓤 (fact 𝓤 P) (fact 𝓤 Q)) (λ q. fact_i 𝓤 R (sep 𝓤 (fact 𝓤 P) (fact 𝓤 Q)) (k p q)))

-- the lent unit's
module _ {M : Type 1} {𝓤 : Ura M} (𝓛 : Logic 𝓤) (mem : Memory → SProp 𝓤) (run : Routine → Fun 𝓤) where
  pub advance_determined : DeterminesLent 𝓤 advance.ended (advance.clauses 𝓛 mem run)
  advance_determined κs a g x y s t = agree 𝓤 (λ p q. p.0 ∙ sym q.0)

  pub advance_left : DeterminesLentLeft 𝓤 advance.ended (λ κs s. s.0.now) (advance.clauses 𝓛 mem run)
  advance_left κs a g x y s t = agree 𝓤 (λ p q. p.1 ∙ sym q.1)
