-- The bytes that are copied to the front are those that are left.
use Prim.Native.Nat.{ℕ, ◌+◌, ◌-◌}
use mathlib.Core.Bool.{Bool, true, false}
use mathlib.Core.List.{List}
use mathlib.Core.Path.{◌≡◌, refl, sym, ◌∙◌, ap}
use native.Mathlib.Omega.{arith}
use lib.Dec.{leb}
use borrow.Author.Tests.{leb-true, leb-false}
use lib.ListN.{length, take, drop, length-take, length-drop}
use Rattle.std.specs.Prelude.{min}
use Rattle.std.specs.List.{copy_within}
use Rattle.std.proofs.lemmas.List.{take_min, drop-take, drop_all}
use Rattle.digits.specs.Text.{pasted}
use Rattle.pieces.specs.Piece.{left}

module _ (p : List ℕ) (place have end start : ℕ) (till : end ≡ min have (length p)) (from : start ≡ min place end) where
  -- a place past the end leaves nothing, as the end does
  from_start : drop start (take end p) ≡ left p place have
  from_start = go (leb place end) refl ∙ ap (drop place) (ap (λ (n : ℕ). take n p) till ∙ take_min have p)
    where
      go : (b : Bool) → leb place end ≡ b → drop start (take end p) ≡ drop place (take end p)
      go true e = let z : start ≡ place = omega (arith, from, leb-true place end e) in rw z
      go false e =
          let most = length-take end p in
          let past = leb-false place end e in
          drop_all start (take end p) (omega arith) ∙ sym (drop_all place (take end p) (omega arith))

  copied : take (end - start) (drop start p) ≡ left p place have
  copied =
      let z : end ≡ start + (end - start) = omega arith in
      sym (drop-take start (end - start) p) ∙ ap (λ (n : ℕ). drop start (take n p)) (sym z) ∙ from_start

  as_many : end - start ≡ length (left p place have)
  as_many = let n = length-take (end - start) (drop start p) in let m = length-drop start p in omega (arith, ap length copied)

  pub moved :
      (m : List ℕ) → m ≡ copy_within p start end 0 → (end - start ≡ length (left p place have)) × (m ≡ pasted p 0 (left p place have))
  moved m is = (as_many, is ∙ rw (copied, as_many))
