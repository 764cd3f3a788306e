-- What a good word is: one of eighteen bits, whose register is packable.
use Prim.Native.Nat.{ℕ, ◌<◌}
use mathlib.Core.Bool.{true}
use mathlib.Core.Path.{◌≡◌}
use lib.Dec.{ltb}
use borrow.Author.Tests.{ltb-true}
use Rattle.parts.proofs.Bools.{and_left, and_right}
use Rattle.words.specs.Word.{packable, register_of, is_good}

module _ (w : ℕ) (e : is_good w ≡ true) where
  pub narrow : w < 262144
  narrow = ltb-true w 262144 (and_left (ltb w 262144) (packable (register_of w)) e)

  pub good_packable : packable (register_of w) ≡ true
  good_packable = and_right (ltb w 262144) (packable (register_of w)) e
