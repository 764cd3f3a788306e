-- Counts in range: where an image's words stand, and that their number is small.
use Prim.Native.Nat.{ℕ, suc, ◌+◌, ◌*◌, ◌/◌, ◌%◌, ◌≤◌, ◌<◌}
use mathlib.Core.Bool.{true}
use mathlib.Core.Path.{◌≡◌, sym, ◌∙◌, ap, subst}
use native.Mathlib.Nat.{add-zero, suc-mul, div-lt_iff_lt-mul, div-eq_of_lt, mul-add-div_right, mul-add-mod_self_right, mod-eq_of_lt, mod-lt, mul-le-mul, mul-le-mul_right}
use native.Mathlib.Omega.{arith}
use mir.Syntax.{w64}
use mir.Val.{Fits}
use Rattle.parts.specs.Parts.{cores, units}
use Rattle.parts.specs.Range.{in_range}
use Rattle.parts.specs.declared.kinds.Counts.{Counts}
use Rattle.parts.proofs.Ranging.{cores_few, first_few, second_few}
use Rattle.images.specs.Image.{per_unit, unit_count, word_count}

-- how many words the largest table has; and how many bytes a unit: four for each register, eight for the next in line
abbrev pub words_most : ℕ
words_most = units * (cores + 1)

abbrev pub unit_bytes : ℕ
unit_bytes = 4 * cores + 8

module _ (c : Counts) (e : in_range c ≡ true) where
  pub units_few : unit_count c ≤ units
  units_few =
      let first = first_few c e in
      let second = second_few c e in
      omega arith

  pub few_words : word_count c ≤ words_most
  few_words =
      let l = cores_few c e in
      mul-le-mul {n₂ = units} {m₂ = cores + 1} units_few (omega arith)

  -- a unit within the counts has its place in the array, and its offset fits
  module _ (u all : ℕ) (is : all ≡ unit_count c) (h : u < all) where
    pub unit_room : u < units
    unit_room = omega (arith, units_few)

    pub unit_offset : Fits w64 (u * unit_bytes)
    unit_offset = omega (arith, unit_room)

-- what is divided by
pub divides : (c : Counts) → 0 < per_unit c
divides c = omega arith

-- a core's place is below the last, and the last is a place
pub core_place_lem : (c : Counts) (k : ℕ) → k < c.cores → k < per_unit c
core_place_lem c k h = omega arith

pub last_place : (c : Counts) → c.cores < per_unit c
last_place c = omega arith

-- word i is one of the units', and of a unit's places
module _ (c : Counts) (i : ℕ) where
  pub unit_in_lem : i < word_count c → i / per_unit c < unit_count c
  unit_in_lem h = (div-lt_iff_lt-mul (divides c)).1 h

  pub place_in : i % per_unit c < per_unit c
  place_in = mod-lt i (divides c)

-- place k of unit u is a word of its own
module _ (c : Counts) (u k : ℕ) (l : k < per_unit c) where
  pub word_in : u < unit_count c → u * per_unit c + k < word_count c
  word_in h =
      let a : suc u * per_unit c ≤ word_count c = mul-le-mul_right (per_unit c) h in
      let b = suc-mul u (per_unit c) in
      omega arith

  -- the same, by a number that is how many places a unit has
  pub word_at_lem : (m : ℕ) → m ≡ per_unit c → u < unit_count c → u * m + k < word_count c
  word_at_lem m is h = subst (λ (z : ℕ). u * z + k < word_count c) (sym is) (word_in h)

  pub word_unit : (u * per_unit c + k) / per_unit c ≡ u
  word_unit = mul-add-div_right (divides c) u k ∙ ap (λ (z : ℕ). u + z) (div-eq_of_lt l) ∙ add-zero u

  pub word_place : (u * per_unit c + k) % per_unit c ≡ k
  word_place = mul-add-mod_self_right u (per_unit c) k ∙ mod-eq_of_lt l

-- the number of words fits a usize, whatever the counts
pub count_fits : (a b k : ℕ) → a < 65536 → b < 65536 → k ≤ 65536 → (a + b) * k < 8589934592
count_fits a b k h l m =
    let n : (a + b) * k ≤ 131070 * 65536 =
    mul-le-mul {n₂ = 131070} {m₂ = 65536} (omega arith) (omega arith) in
    omega arith
