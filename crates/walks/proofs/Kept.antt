-- A line that stops the walk leaves the desk as it is; one that is answered writes only from each output's place up to the place after it. So a
-- walk leaves the bytes before its first line and those past its last one, and its stop is the next line's.
use Prim.Native.Nat.{ℕ, ◌+◌, ◌-◌, ◌≤◌}
use mathlib.Core.Bool.{true}
use mathlib.Core.List.{List}
use mathlib.Core.Path.{◌≡◌, refl, sym, ◌∙◌, ap}
use native.Mathlib.Nat.{le_refl}
use native.Mathlib.Omega.{arith}
use lib.ListN.{length, take, drop}
use lib.Seq.{take-take, drop-drop}
use Rattle.parts.proofs.Bools.{and_left, and_right}
use Rattle.walks.specs.Walk.{Reply, Turn, Steady, Output, has_room, put, Desk, Ended, walked}
use Rattle.walks.specs.Claims.{Kept}
use Rattle.walks.proofs.Pasting.{fits_says, take_before, drop_after, pasted_length}
use Rattle.walks.proofs.Along.{Goes, Halts, along}

kept_same : (o : Output) → Kept o o
kept_same o = record { onward = le_refl o.wrote; size = refl; before = refl; further = refl }

-- a line, and what follows it
module _ (o m : Output) (xs : List ℕ) (room : has_room o xs ≡ true) (later : Kept (put o xs) m) where
  fit : o.wrote + length xs ≤ length o.bytes
  fit = fits_says o.bytes o.wrote xs room

  put_before : take o.wrote m.bytes ≡ take o.wrote o.bytes
  put_before =
      let f = fit in
      let k = o.wrote in
      let n = o.wrote + length xs in
      sym (take-take k n m.bytes (omega arith)) ∙
      ap (take k) later.before ∙
      take-take k n (put o xs).bytes (omega arith) ∙
      take_before o.bytes k xs (omega arith)

  put_further : drop m.wrote (put o xs).bytes ≡ drop m.wrote o.bytes
  put_further =
      let f = fit in
      let g = later.onward in
      let n = m.wrote in
      let k = o.wrote + length xs in
      let z : k + (n - k) ≡ n = omega arith in
      ap (λ (j : ℕ). drop j (put o xs).bytes) (sym z) ∙
      sym (drop-drop (n - k) k (put o xs).bytes) ∙
      ap (drop (n - k)) (drop_after o.bytes o.wrote xs (omega arith)) ∙
      drop-drop (n - k) k o.bytes ∙
      ap (λ (j : ℕ). drop j o.bytes) z

  kept_put : Kept o m
  kept_put =
      let f = fit in
      let g = later.onward in
      record {
        onward = omega arith;
        size = later.size ∙ pasted_length o.bytes o.wrote xs (omega arith) f;
        before = put_before;
        further = later.further ∙ put_further;
      }

module _ {Q W : Type 0} (T : Turn Q W) (steady : Steady T) where
  pub kept : (d : Desk Q) (s : List ℕ) → let e = walked T d s in Kept d.first e.desk.first × Kept d.second e.desk.second
  kept d s =
      along T steady s (λ (d : Desk Q) (e : Ended Q W). Kept d.first e.desk.first × Kept d.second e.desk.second)
      (λ (d : Desk Q) (why : W) (w : Halts T d s why). (kept_same d.first, kept_same d.second))
      (λ (d : Desk Q) (a : Reply Q) (e : Ended Q W) (w : Goes T d s a) later. (
        kept_put d.first e.desk.first a.said (and_left (has_room d.first a.said) (has_room d.second a.also) w.fits) later.0,
        kept_put d.second e.desk.second a.also (and_right (has_room d.first a.said) (has_room d.second a.also) w.fits) later.1,
      ))
      d

  -- the next line, where a walk stopped, stops it for that reason
  pub halts_there : (d : Desk Q) (s : List ℕ) → let e = walked T d s in Halts T e.desk s e.why
  halts_there d s =
      along T steady s (λ (d : Desk Q) (e : Ended Q W). Halts T e.desk s e.why)
      (λ (d : Desk Q) (why : W) (w : Halts T d s why). w)
      (λ (d : Desk Q) (a : Reply Q) (e : Ended Q W) (w : Goes T d s a) later. later)
      d
