-- Of tickets of sixteen bits, lying 0 behind is being the same number: "own tickets differ pairwise" is said on the circle, and means the numbers.
use Prim.Native.Nat.{ℕ, ◌<◌}
use mathlib.Core.Bool.{Bool, true, false}
use mathlib.Core.Path.{◌≡◌, refl, sym, ◌∙◌, ap}
use lib.Dec.{eqb}
use borrow.Author.Tests.{eqb-true, eq-eqb, eqb-false, ne_eqb}
use Rattle.ticket.specs.Order.{circle, behind}
use Rattle.ticket.specs.declared.order.Comparison.TheVariants.{Same}
use Rattle.ticket.proofs.Circle.{behind_self}
use Rattle.ticket.proofs.Laws.{compared, same_only}

pub differ_plain : (a b : ℕ) → a < circle → b < circle → eqb (behind a b) 0 ≡ eqb a b
differ_plain a b small small' = go (eqb a b) refl
  where
    go : (e : Bool) → eqb a b ≡ e → eqb (behind a b) 0 ≡ e
    go true e = eq-eqb (behind a b) 0 (ap (λ (c : ℕ). behind a c) (sym (eqb-true a b e)) ∙ behind_self a)
    go false e = ne_eqb (behind a b) 0 (λ z. eqb-false a b e (same_only a b small small' (compared a b Same z)))
