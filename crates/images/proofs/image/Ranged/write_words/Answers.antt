use borrow.Author.Rules.{rules}
use Prim.Native.Nat.{ℕ, ◌<◌}
use mathlib.Core.Bool.{true}
use mathlib.Core.List.{List}
use mathlib.Core.Path.{◌≡◌, ◌∙◌, ap}
use native.Mathlib.Omega.{arith}
use lib.ListN.{length}
use Rattle.parts.specs.declared.kinds.Counts.{Counts}
use Rattle.parts.specs.declared.kinds.LockUnit.{LockUnit}
use Rattle.parts.specs.declared.kinds.Register.{Register}
use Rattle.parts.proofs.Folds.{none, more}
use Rattle.words.specs.Word.{packable}
use Rattle.images.specs.Image.{register_at, writable}
use Rattle.images.proofs.Good.{room_total, register_packable}
use Rattle.images.proofs.image.Ranged.write_words.Goals as goal

-- the register of a word within the room
fit :
    (c : Counts) (xs : List LockUnit) (out : List ℕ) (i : ℕ) (r : Register) →
    writable c xs (length out) ≡ true →
    i < length out →
    r ≡ register_at c xs i →
    packable r ≡ true
fit c xs out i r able h is =
    ap packable is ∙ register_packable c xs (length out) able i (let t = room_total c xs (length out) able in omega arith)

pub loop-i-init : goal.loop-i-init
loop-i-init c = search (none, rules)

pub unwrap-requires : goal.unwrap-requires
unwrap-requires c = search (fit, rules)

pub loop-i-preserved : goal.loop-i-preserved
loop-i-preserved c = search (more, fit, rules)
