-- A word of eighteen bits and a register say the same: each is the other's reading. The word is a sum of three parts, and what
-- dividing by 2^16 and 2^17 leaves of it are those parts.
use Prim.Native.Nat.{ℕ, ◌+◌, ◌*◌, ◌/◌, ◌%◌, ◌≤◌, ◌<◌}
use mathlib.Core.Bool.{Bool, true, false}
use mathlib.Core.Path.{◌≡◌, refl, sym, ◌∙◌, ap}
use native.Mathlib.Omega.{arith}
use lib.Dec.{eqb}
use borrow.Author.Tests.{eqb-true, eqb-false}
use Rattle.parts.specs.declared.kinds.Register.{Register}
use Rattle.words.specs.Word.{bit, word_of, register_of}

pub bit_most : (b : Bool) → bit b ≤ 1
bit_most true = omega arith
bit_most false = omega arith

-- a bit read back as a test, and a test as a bit
bit_test : (b : Bool) → eqb (bit b) 1 ≡ b
bit_test true = refl
bit_test false = refl

test_bit : (n : ℕ) → n ≤ 1 → bit (eqb n 1) ≡ n
test_bit n h = go (eqb n 1) refl
  where
    go : (b : Bool) → eqb n 1 ≡ b → bit b ≡ n
    go true e = sym (eqb-true n 1 e)
    go false e = let d = eqb-false n 1 e in omega arith

-- what divides out of a sum of a small number and a multiple
low_part : (s q : ℕ) → s < 65536 → (s + 65536 * q) % 65536 ≡ s
low_part s q h = omega arith

middle_part : (s q : ℕ) → s < 65536 → (s + 65536 * q) / 65536 ≡ q
middle_part s q h = omega arith

high_part : (s q : ℕ) → s < 131072 → (s + 131072 * q) / 131072 ≡ q
high_part s q h = omega arith

module _ (r : Register) (low : r.ticket.0 < 65536) where
  pub word_narrow : word_of r < 262144
  word_narrow = omega (arith, bit_most r.valid, bit_most r.flag)

  pub word_register : register_of (word_of r) ≡ r
  word_register =
      let v = bit r.valid in
      let f = bit r.flag in
      let l = bit_most r.valid in
      let two : word_of r ≡ r.ticket.0 + 65536 * (v + 2 * f) = omega arith in
      let a : word_of r % 65536 ≡ r.ticket.0 = ap (λ (w : ℕ). w % 65536) two ∙ low_part r.ticket.0 (v + 2 * f) low in
      let b : word_of r / 65536 ≡ v + 2 * f = ap (λ (w : ℕ). w / 65536) two ∙ middle_part r.ticket.0 (v + 2 * f) low in
      let d : (v + 2 * f) % 2 ≡ v = omega arith in
      let e : word_of r / 131072 ≡ f = high_part (r.ticket.0 + 65536 * v) f (omega arith) in
      rw (a, b, d, e, bit_test r.valid, bit_test r.flag)

pub register_word : (w : ℕ) → w < 262144 → word_of (register_of w) ≡ w
register_word w h =
    let v = test_bit (w / 65536 % 2) (omega arith) in
    let f = test_bit (w / 131072) (omega arith) in
    omega arith
