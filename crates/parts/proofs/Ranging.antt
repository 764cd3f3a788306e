-- Counts in range are no more than the arrays have, and fit their profile.
use Prim.Native.Nat.{◌≤◌}
use mathlib.Core.Bool.{Bool, true, ◌&&◌}
use mathlib.Core.Path.{◌≡◌, refl, sym, ◌∙◌, ap}
use lib.Dec.{leb}
use borrow.Author.Tests.{leb-true, eqb-true}
use Rattle.parts.specs.Parts.{cores}
use Rattle.parts.specs.Range.{in_range, per_class, classed}
use Rattle.parts.specs.declared.kinds.Counts.{Counts}
use Rattle.parts.specs.declared.kinds.Fill.{Fill}
use Rattle.parts.specs.declared.kinds.Fill.TheVariants.{Blank}
use Rattle.parts.specs.declared.kinds.Profile.{Profile}
use Rattle.parts.specs.declared.kinds.Profile.TheVariants.{D}
use Rattle.parts.proofs.Bools.{and_left, and_right}

-- the same counts, with whatever fills their last byte
abbrev pub filled : Counts → Fill → Counts
filled c f = record { cores = c.cores; first = c.first; second = c.second; profile = c.profile; fill = f }

-- counts are told by what they count and their profile
counts_filled : (c : Counts) (f : Fill) → filled c f ≡ filled c Blank
counts_filled c Blank = refl

pub counts_whole : (c : Counts) → filled c Blank ≡ c
counts_whole c = sym (counts_filled c c.fill)

-- each part of the test
module _ (c : Counts) (e : in_range c ≡ true) where
  abbrev two : Bool
  two = leb 1 c.cores && leb c.cores cores

  abbrev four : Bool
  four = two && leb 1 c.first && leb c.first per_class

  five_true : (four && leb c.second per_class) ≡ true
  five_true = and_left (four && leb c.second per_class) (classed c.profile c.second) e

  four_true : four ≡ true
  four_true = and_left four (leb c.second per_class) five_true

  three_true : (two && leb 1 c.first) ≡ true
  three_true = and_left (two && leb 1 c.first) (leb c.first per_class) four_true

  two_true : two ≡ true
  two_true = and_left two (leb 1 c.first) three_true

  pub cores_some : 1 ≤ c.cores
  cores_some = leb-true 1 c.cores (and_left (leb 1 c.cores) (leb c.cores cores) two_true)

  pub cores_few : c.cores ≤ cores
  cores_few = leb-true c.cores cores (and_right (leb 1 c.cores) (leb c.cores cores) two_true)

  pub first_some : 1 ≤ c.first
  first_some = leb-true 1 c.first (and_right two (leb 1 c.first) three_true)

  pub first_few : c.first ≤ per_class
  first_few = leb-true c.first per_class (and_right (two && leb 1 c.first) (leb c.first per_class) four_true)

  pub second_few : c.second ≤ per_class
  second_few = leb-true c.second per_class (and_right four (leb c.second per_class) five_true)

  pub range_classed : classed c.profile c.second ≡ true
  range_classed = and_right (four && leb c.second per_class) (classed c.profile c.second) e

  -- in D there is no second-class unit
  pub none_second : c.profile ≡ D → c.second ≡ 0
  none_second d = eqb-true c.second 0 (sym (ap (λ (p : Profile). classed p c.second) d) ∙ range_classed)
