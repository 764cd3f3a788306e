-- The number that each answer carries, by the tests it comes from: 30 where no word or register is given.
use Prim.Native.Nat.{ℕ}
use mathlib.Core.Bool.{Bool, true, false, cond}
use mathlib.Core.Path.{◌≡◌, refl}
use Rattle.parts.specs.declared.kinds.Register.{Register}
use Rattle.words.specs.Word.{Word, Refused, Shown, Bad, packable, word_of, pack, register_of, is_good, unpack, packed_number, unpacked_number}

-- a function of a choice is a choice of its values
pub one_choice : {A B : Type 0} (f : A → B) (b : Bool) (x y : A) → f (cond b x y) ≡ cond b (f x) (f y)
one_choice f true x y = refl
one_choice f false x y = refl

pub pack_number : (r : Register) → packed_number (pack r) ≡ cond (packable r) 0 30
pack_number r = one_choice packed_number (packable r) (Word (word_of r)) Refused

pub unpack_number : (w : ℕ) → unpacked_number (unpack w) ≡ cond (is_good w) 0 30
unpack_number w = one_choice unpacked_number (is_good w) (Shown (register_of w)) Bad
