-- Places: a core or unit of an array is its own place, and every place is within its array.
use Prim.Native.Nat.{ℕ, ◌<◌}
use mathlib.Core.Bool.{Bool, true, false, cond}
use mathlib.Core.Path.{◌≡◌, refl, ap}
use native.Mathlib.Omega.{arith}
use lib.Dec.{ltb}
use borrow.Author.Tests.{lt-ltb, ltb-true}
use Rattle.ticket.specs.declared.kinds.CoreNo.{CoreNo}
use Rattle.ticket.specs.declared.kinds.UnitNo.{UnitNo}
use Rattle.parts.specs.Parts.{cores, units}
use Rattle.parts.specs.Answer.{whose}
use Rattle.parts.specs.State.{two_stage_lem}
use Rattle.places.specs.Places.{in_cores, in_units, core_place, unit_place, other_place}
use Rattle.parts.specs.declared.kinds.Core.{Core}
use Rattle.parts.specs.declared.answer.Step.{Step}
use Rattle.parts.specs.declared.answer.Step.TheVariants.{R, N, P, I, C, L}

-- of either kind of number: a is read as `number a`, and z has the number 0
module _ {A : Type 0} (number : A → ℕ) (z a : A) (n : ℕ) where
  itself : number a < n → cond (ltb (number a) n) a z ≡ a
  itself h = ap (λ (b : Bool). cond b a z) (lt-ltb (number a) n h)

  within : number z < n → number (cond (ltb (number a) n) a z) < n
  within h = go (ltb (number a) n) refl
    where
      go : (b : Bool) → ltb (number a) n ≡ b → number (cond b a z) < n
      go true e = ltb-true (number a) n e
      go false e = h

pub core_itself : (k : CoreNo) → k.0 < cores → in_cores k ≡ k
core_itself k = itself (λ (j : CoreNo). j.0) (record { 0 = 0 }) k cores

pub unit_itself : (u : UnitNo) → u.0 < units → in_units u ≡ u
unit_itself u = itself (λ (v : UnitNo). v.0) (record { 0 = 0 }) u units

unit_within : (u : UnitNo) → (in_units u).0 < units
unit_within u = within (λ (v : UnitNo). v.0) (record { 0 = 0 }) u units (omega arith)

pub core_place_within : (s : Step) → (core_place s).0 < cores
core_place_within s = within (λ (j : CoreNo). j.0) (record { 0 = 0 }) (whose s) cores (omega arith)

pub unit_place_within : (s : Step) (c : Core) → (unit_place s c).0 < units
unit_place_within (R k u) c = unit_within u
unit_place_within (N k u) c = unit_within u
unit_place_within (P k) c = unit_within c.first
unit_place_within (I k) c = unit_within c.first
unit_place_within (C k) c = unit_within c.first
unit_place_within (L k) c = unit_within c.first

pub other_place_within : (s : Step) (c : Core) → (other_place s c).0 < units
other_place_within s c = go (two_stage_lem c.state)
  where
    go : (b : Bool) → (cond b (in_units c.second) (unit_place s c)).0 < units
    go true = unit_within c.second
    go false = unit_place_within s c
