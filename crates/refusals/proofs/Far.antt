-- How far a ticket lies behind the counter, by their difference after the cut; and the one ticket that lies opposite.
use Prim.Native.Nat.{ℕ, ◌<◌}
use mathlib.Core.Path.{◌≡◌, refl}
use native.Mathlib.Omega.{arith}
use lib.Dec.{leb}
use borrow.Author.Tests.{le-leb, lt-leb}
use Rattle.ticket.specs.Order.{circle, half, behind, compare}
use Rattle.ticket.specs.declared.order.Comparison.{Comparison}
use Rattle.ticket.specs.declared.order.Comparison.TheVariants.{Older, Younger, Same, Opposite}
use Rattle.ticket.proofs.Laws.{seen}
use Rattle.refusals.specs.Judge.{far}

pub far_behind : (n t : ℕ) → leb half (behind n t) ≡ far (compare t n)
far_behind n t = go (compare t n) refl
  where
    go : (x : Comparison) → compare t n ≡ x → leb half (behind n t) ≡ far (compare t n)
    go Older e = let s = seen n t Older e in rw e (lt-leb half (behind n t) (omega arith))
    go Younger e = let s = seen n t Younger e in rw e (le-leb half (behind n t) (omega arith))
    go Same e = let s = seen n t Same e in rw e (lt-leb half (behind n t) (omega arith))
    go Opposite e = let s = seen n t Opposite e in rw e (le-leb half (behind n t) (omega arith))

module _ (n t o : ℕ) (is : o ≡ behind n half) where
  pub opposite_half : t ≡ o → behind n t ≡ half
  unfolding behind
  opposite_half e = omega (arith, e, is)

  pub half_opposite : t < circle → behind n t ≡ half → t ≡ o
  unfolding behind
  half_opposite small e = omega (arith, e, is, small)
