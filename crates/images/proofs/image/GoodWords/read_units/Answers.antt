use borrow.Author.Rules.{rules}
use Prim.Native.Nat.{ℕ, ◌+◌, ◌<◌}
use mathlib.Core.Bool.{Bool, true, false}
use mathlib.Core.List.{List}
use mathlib.Core.Path.{◌≡◌, sym, ◌∙◌, ap}
use native.Mathlib.Omega.{arith}
use lib.ListN.{set}
use Rattle.std.proofs.Common.{Err}
use Rattle.parts.specs.Range.{in_range}
use Rattle.parts.specs.declared.kinds.Counts.{Counts}
use Rattle.parts.specs.declared.kinds.LockUnit.{LockUnit}
use Rattle.parts.proofs.Folds.{none, more}
use Rattle.parts.proofs.Loops.{every_more}
use Rattle.images.specs.Image.{unit_count, empty_units_lem, good_words, unit_of, next_agrees, read_image}
use Rattle.images.specs.declared.image.ImageRefusal.TheVariants.{BadImage}
use Rattle.images.proofs.Tests.{every_fails}
use Rattle.images.proofs.image.GoodWords.read_units.Goals as goal
use Rattle.images.proofs.image.GoodWords.read_units.Invariants.{place, first}

-- one more unit
placed : (c : Counts) (ws : List ℕ) (u : ℕ) (xs : List LockUnit) (x : LockUnit) → xs ≡ first c ws u → x ≡ unit_of c ws u → set xs u x ≡ first c ws (u + 1)
placed c ws u xs x so is = more (place c ws) u empty_units_lem xs (set xs u x) so (ap (set xs u) is)

-- one whose next in line is another
refuses :
    (c : Counts) (ws : List ℕ) (u all : ℕ) (b : Bool) →
    in_range c ≡ true →
    good_words c ws ≡ true →
    all ≡ unit_count c →
    u < all →
    b ≡ next_agrees c ws u →
    b ≡ false →
    Err BadImage ≡ read_image c ws
refuses c ws u all b ranged good is h says e =
    rw (ranged, good, every_fails (next_agrees c ws) (unit_count c) u (omega arith) (sym says ∙ e))

pub loop-u-init : goal.loop-u-init
loop-u-init c = search (none, rules)

pub returns-then-not-next_agrees : goal.returns-then-not-next_agrees
returns-then-not-next_agrees c = search (refuses, rules)

pub loop-u-preserved : goal.loop-u-preserved
loop-u-preserved c = (search (placed, rules), search (every_more, rules))
