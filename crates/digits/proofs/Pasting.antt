-- Bytes put from a place on: one byte, and one run of bytes after another. The lists stay grouped to the right, as the definitions of
-- lines have them. Whoever put a whole line has written it, and where there is no room the bytes are as they were.
use Prim.Native.Nat.{ℕ, ◌+◌, ◌≤◌, ◌<◌}
use mathlib.Core.Bool.{Bool, true, false}
use mathlib.Core.List.{List, [], ◌∷◌, ◌++◌, append_assoc}
use mathlib.Core.Path.{◌≡◌, refl, sym, ◌∙◌, ap, subst}
use native.Mathlib.Numerals.{add-one}
use native.Mathlib.Omega.{arith}
use borrow.Author.Tests.{le-leb}
use lib.ListN.{length, take, drop, set, length-set, length-append, length-drop}
use lib.Seq.{set_split, length-take-le, take-append_seam, drop-append-add, drop-drop}
use Rattle.digits.specs.Text.{Puts}
use Rattle.digits.specs.Room.{fits, wrote, left}
use Rattle.digits.specs.Written.{Next, NoRoom}

pub one : (o : List ℕ) (at b q : ℕ) → q ≡ at + 1 → at < length o → Puts o (set o at b) at q (b ∷ [])
one o at b q e h = record { holds = rw add-one (set_split o at b h); goes = e; fits = omega arith }

module _ {o m : List ℕ} {at p : ℕ} {xs : List ℕ} (a : Puts o m at p xs) where
  -- what stands up to the next place
  front : length (take at o ++ xs) ≡ p
  front =
      length-append (take at o) xs ∙ ap (λ (n : ℕ). n + length xs) (length-take-le at o (omega (arith, a.fits))) ∙ sym a.goes

  parted : m ≡ (take at o ++ xs) ++ drop p o
  parted =
      a.holds
      ∙ ap (λ (n : ℕ). take at o ++ (xs ++ drop n o)) (sym a.goes)
      ∙ sym (append_assoc (take at o) xs (drop p o))

  pub kept : length m ≡ length o
  kept =
      ap length parted
      ∙ length-append (take at o ++ xs) (drop p o)
      ∙ omega (arith, front, length-drop p o, a.fits, a.goes)

  -- the bytes after the first ones fit, if all do
  pub rest : (ys : List ℕ) → at + length (xs ++ ys) ≤ length o → p + length ys ≤ length m
  rest ys h = omega (arith, length-append xs ys, kept, a.goes)

  module _ {o' : List ℕ} {q : ℕ} {ys : List ℕ} (b : Puts m o' p q ys) where
    taken : take p m ≡ take at o ++ xs
    taken =
        ap (λ (l : List ℕ). take p l) parted
        ∙ subst (λ (n : ℕ). take n ((take at o ++ xs) ++ drop p o) ≡ take at o ++ xs) front (take-append_seam (take at o ++ xs) (drop p o))

    dropped : drop (p + length ys) m ≡ drop (at + length (xs ++ ys)) o
    dropped =
        let z : p + length ys ≡ at + length (xs ++ ys) = omega (arith, length-append xs ys, a.goes) in
        ap (λ (l : List ℕ). drop (p + length ys) l) parted
        ∙ subst
        (λ (n : ℕ). drop (n + length ys) ((take at o ++ xs) ++ drop p o) ≡ drop (length ys) (drop p o))
        front
        (drop-append-add (take at o ++ xs) (drop p o) (length ys))
        ∙ drop-drop (length ys) p o
        ∙ ap (λ (n : ℕ). drop n o) z

    pub then : Puts o o' at q (xs ++ ys)
    then =
        let d = drop (at + length (xs ++ ys)) o in
        record {
          holds =
              b.holds
              ∙ ap (λ (l : List ℕ). l ++ (ys ++ drop (p + length ys) m)) taken
              ∙ ap (λ (l : List ℕ). (take at o ++ xs) ++ (ys ++ l)) dropped
              ∙ append_assoc (take at o) xs (ys ++ d)
              ∙ ap (λ (l : List ℕ). take at o ++ l) (sym (append_assoc xs ys d));
          goes = omega (arith, length-append xs ys, a.goes, b.goes);
          fits = omega (arith, length-append xs ys, kept, a.goes, b.fits);
        }

  pub written : (Next p ≡ wrote o at xs) × (m ≡ left o at xs)
  written =
      let e : fits o at xs ≡ true = le-leb (at + length xs) (length o) a.fits in
      (rw (e, a.goes), rw e a.holds)

pub pair : (o : List ℕ) (at a b q : ℕ) → q ≡ at + 2 → at + 2 ≤ length o → Puts o (set (set o at a) (at + 1) b) at q (a ∷ b ∷ [])
pair o at a b q e h =
    then (one o at a (at + 1) refl (omega arith)) (one (set o at a) (at + 1) b q (omega arith) (omega (arith, length-set o at a)))

-- the first bytes fit, if all do
pub first : (o : List ℕ) (at : ℕ) (xs ys : List ℕ) → at + length (xs ++ ys) ≤ length o → at + length xs ≤ length o
first o at xs ys h = omega (arith, length-append xs ys)

-- what was answered to whether the bytes have room
module _ (o : List ℕ) (at : ℕ) (xs : List ℕ) (b : Bool) (says : b ≡ fits o at xs) where
  pub refused : b ≡ false → (NoRoom ≡ wrote o at xs) × (o ≡ left o at xs)
  refused e = (rw (sym says ∙ e), rw (sym says ∙ e))
