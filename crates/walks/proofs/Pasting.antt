-- Writing into an output, with more room after it, twice in a row, and from its start. Each by where the seams
-- of `pasted` lie.
use Prim.Native.Nat.{ℕ, ◌+◌, ◌≤◌}
use mathlib.Core.Bool.{Bool, true, false}
use mathlib.Core.List.{List, [], ◌++◌, append_assoc}
use mathlib.Core.Path.{◌≡◌, refl, sym, ◌∙◌, ap}
use native.Mathlib.Nat.{add-zero}
use native.Mathlib.Omega.{arith}
use lib.ListN.{length, take, drop, length-append, length-drop, take-append-drop}
use lib.Seq.{drop-append-le, drop-append-add, take-append-le, take-append-add, take_at, drop_at, drop-drop, length-take-le}
use borrow.Author.Tests.{leb-true, leb-false, le-leb, lt-leb}
use Rattle.digits.specs.Text.{pasted}
use Rattle.digits.specs.Room.{fits}

pub fits_says : (out : List ℕ) (at : ℕ) (xs : List ℕ) → fits out at xs ≡ true → at + length xs ≤ length out
fits_says out at xs e = leb-true (at + length xs) (length out) e

-- more room

module _ (out room : List ℕ) (at : ℕ) (xs : List ℕ) where
  pub fits_more : fits out at xs ≡ true → fits (out ++ room) at xs ≡ true
  fits_more e =
      let h = fits_says out at xs e in
      let l = length-append out room in
      le-leb (at + length xs) (length (out ++ room)) (omega arith)

  pub pasted_more : at + length xs ≤ length out → pasted (out ++ room) at xs ≡ pasted out at xs ++ room
  pasted_more h =
      rw (take-append-le at out room (omega arith), drop-append-le (at + length xs) out room h)
      (simp append_assoc)

-- bytes before the output

module _ (front out : List ℕ) (at : ℕ) (xs : List ℕ) where
  pub fits_on : fits (front ++ out) (length front + at) xs ≡ fits out at xs
  fits_on = go (fits out at xs) refl
    where
      go : (t : Bool) → fits out at xs ≡ t → fits (front ++ out) (length front + at) xs ≡ t
      go true e =
          let h = leb-true (at + length xs) (length out) e in
          let l = length-append front out in
          le-leb (length front + at + length xs) (length (front ++ out)) (omega arith)
      go false e =
          let h = leb-false (at + length xs) (length out) e in
          let l = length-append front out in
          lt-leb (length front + at + length xs) (length (front ++ out)) (omega arith)

  pub pasted_on : pasted (front ++ out) (length front + at) xs ≡ front ++ pasted out at xs
  pasted_on =
      let z : length front + at + length xs ≡ length front + (at + length xs) = omega arith in
      rw (take-append-add front out at, z, drop-append-add front out (at + length xs)) (append_assoc front (take at out) _)

-- nothing written

pub pasted_nothing : (out : List ℕ) (at : ℕ) → pasted out at [] ≡ out
pasted_nothing out at = rw (add-zero at) (take-append-drop at out)

-- where the written bytes stand

module _ (out : List ℕ) (at : ℕ) (xs : List ℕ) (h : at ≤ length out) where
  before_long : length (take at out) ≡ at
  before_long = length-take-le at out h

  head_long : length (take at out ++ xs) ≡ at + length xs
  head_long = let b = before_long in omega (arith, length-append (take at out) xs)

  grouped : pasted out at xs ≡ take at out ++ xs ++ drop (at + length xs) out
  grouped = sym (append_assoc (take at out) xs (drop (at + length xs) out))

  pub take_before : take at (pasted out at xs) ≡ take at out
  take_before = take_at (take at out) (xs ++ drop (at + length xs) out) at before_long

  pub take_with : take (at + length xs) (pasted out at xs) ≡ take at out ++ xs
  take_with = rw grouped (take_at (take at out ++ xs) (drop (at + length xs) out) (at + length xs) head_long)

  pub drop_after : drop (at + length xs) (pasted out at xs) ≡ drop (at + length xs) out
  drop_after = rw grouped (drop_at (take at out ++ xs) (drop (at + length xs) out) (at + length xs) head_long)

  pub pasted_length : at + length xs ≤ length out → length (pasted out at xs) ≡ length out
  pasted_length g =
      let b = before_long in
      let k = length-append (take at out) (xs ++ drop (at + length xs) out) in
      let l = length-append xs (drop (at + length xs) out) in
      let m = length-drop (at + length xs) out in
      omega arith

  -- two writes in a row
  pub pasted_twice : (ys : List ℕ) → pasted (pasted out at xs) (at + length xs) ys ≡ pasted out at (xs ++ ys)
  pasted_twice ys =
      let z : at + length (xs ++ ys) ≡ at + length xs + length ys = omega (arith, length-append xs ys) in
      let d : drop (at + length xs + length ys) (pasted out at xs) ≡ drop (at + length xs + length ys) out =
      sym (drop-drop (length ys) (at + length xs) (pasted out at xs))
      ∙ ap (drop (length ys)) drop_after
      ∙ drop-drop (length ys) (at + length xs) out
      in
      rw (take_with, d, z) (simp append_assoc)
