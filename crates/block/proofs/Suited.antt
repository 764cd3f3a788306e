-- What a state says of its ticket, and what a profile says of its states: in D nobody has a second unit, in T nobody is marked or dropped.
use mathlib.Core.Bool.{Bool, true, false, ◌&&◌}
use mathlib.Core.Path.{◌≡◌, refl, sym, ◌∙◌, ap, subst}
use lib.Dec.{leb}
use borrow.Author.Tests.{eqb-true}
use Rattle.parts.specs.Parts.{cores}
use Rattle.parts.specs.State.{is_idle_lem, is_live_lem, is_marked, is_dropped, stands, two_stage_lem, unserved}
use Rattle.parts.specs.Profile.{suits}
use Rattle.parts.specs.Range.{in_range, per_class, classed}
use Rattle.parts.specs.declared.kinds.Counts.{Counts}
use Rattle.parts.specs.declared.kinds.Profile.{Profile}
use Rattle.parts.specs.declared.kinds.Profile.TheVariants.{T, D}
use Rattle.parts.specs.declared.kinds.State.{State}
use Rattle.parts.specs.declared.kinds.State.TheVariants.{Idle, Waiting, Holding, WaitingSecond, HoldingBoth, Away, Marked, Dropped}
use Rattle.parts.proofs.Bools.{and_right, clash}

-- a live core is not idle
pub live_busy : (z : State) → is_live_lem z ≡ true → is_idle_lem z ≡ false
live_busy Idle e = absurd (clash e refl)
live_busy Waiting e = refl
live_busy Holding e = refl
live_busy WaitingSecond e = refl
live_busy HoldingBoth e = refl
live_busy Away e = refl
live_busy Marked e = refl
live_busy Dropped e = refl

-- nor dropped
pub live_undropped : (z : State) → is_live_lem z ≡ true → is_dropped z ≡ false
live_undropped Idle e = refl
live_undropped Waiting e = refl
live_undropped Holding e = refl
live_undropped WaitingSecond e = refl
live_undropped HoldingBoth e = refl
live_undropped Away e = refl
live_undropped Marked e = refl
live_undropped Dropped e = absurd (clash e refl)

-- whoever stands is live
pub stands_live : (z : State) → stands z ≡ true → is_live_lem z ≡ true
stands_live Idle e = absurd (clash e refl)
stands_live Waiting e = refl
stands_live Holding e = refl
stands_live WaitingSecond e = refl
stands_live HoldingBoth e = refl
stands_live Away e = absurd (clash e refl)
stands_live Marked e = refl
stands_live Dropped e = absurd (clash e refl)

-- whoever waits for its first unit, or is away from it and not dropped, is live
pub unserved_live : (z : State) → unserved z ≡ true → is_dropped z ≡ false → is_live_lem z ≡ true
unserved_live Idle e d = absurd (clash e refl)
unserved_live Waiting e d = refl
unserved_live Holding e d = refl
unserved_live WaitingSecond e d = refl
unserved_live HoldingBoth e d = refl
unserved_live Away e d = refl
unserved_live Marked e d = refl
unserved_live Dropped e d = absurd (clash refl d)

-- Profiles

no_two : (z : State) → suits D z ≡ true → two_stage_lem z ≡ true → ⊥
no_two Idle s e = clash e refl
no_two Waiting s e = clash e refl
no_two Holding s e = clash e refl
no_two WaitingSecond s e = clash s refl
no_two HoldingBoth s e = clash s refl
no_two Away s e = clash e refl
no_two Marked s e = clash e refl
no_two Dropped s e = clash e refl

-- a profile that has a second unit is T
pub two_in_T : (p : Profile) (z : State) → suits p z ≡ true → two_stage_lem z ≡ true → p ≡ T
two_in_T T z s e = refl
two_in_T D z s e = absurd (no_two z s e)

pub single_in_D : (p : Profile) (z : State) → p ≡ D → suits p z ≡ true → two_stage_lem z ≡ false
single_in_D p z d s = go (two_stage_lem z) refl
  where
    go : (b : Bool) → two_stage_lem z ≡ b → two_stage_lem z ≡ false
    go true e = absurd (no_two z (subst (λ (q : Profile). suits q z ≡ true) d s) e)
    go false e = e

-- in T nobody is dropped or marked
undropped_T : (z : State) → suits T z ≡ true → is_dropped z ≡ false
undropped_T Idle s = refl
undropped_T Waiting s = refl
undropped_T Holding s = refl
undropped_T WaitingSecond s = refl
undropped_T HoldingBoth s = refl
undropped_T Away s = refl
undropped_T Marked s = refl
undropped_T Dropped s = absurd (clash s refl)

unmarked_T : (z : State) → suits T z ≡ true → is_marked z ≡ false
unmarked_T Idle s = refl
unmarked_T Waiting s = refl
unmarked_T Holding s = refl
unmarked_T WaitingSecond s = refl
unmarked_T HoldingBoth s = refl
unmarked_T Away s = refl
unmarked_T Marked s = absurd (clash s refl)
unmarked_T Dropped s = refl

pub undropped_in_T : (p : Profile) (z : State) → p ≡ T → suits p z ≡ true → is_dropped z ≡ false
undropped_in_T p z e s = undropped_T z (subst (λ (q : Profile). suits q z ≡ true) e s)

pub unmarked_in_T : (p : Profile) (z : State) → p ≡ T → suits p z ≡ true → is_marked z ≡ false
unmarked_in_T p z e s = unmarked_T z (subst (λ (q : Profile). suits q z ≡ true) e s)

-- nor is anybody where somebody has a second unit
pub two_undropped : (p : Profile) (y z : State) → suits p y ≡ true → two_stage_lem y ≡ true → suits p z ≡ true → is_dropped z ≡ false
two_undropped p y z s e = undropped_in_T p z (two_in_T p y s e)

-- where a core is marked away the profile is D
pub marked_in_D : (p : Profile) (z : State) → z ≡ Marked → suits p z ≡ true → p ≡ D
marked_in_D T z e s = absurd (clash (ap is_marked e) (unmarked_T z s))
marked_in_D D z e s = refl

pub dropped_in_D : (p : Profile) (z : State) → z ≡ Dropped → suits p z ≡ true → p ≡ D
dropped_in_D T z e s = absurd (clash (ap is_dropped e) (undropped_T z s))
dropped_in_D D z e s = refl

pub away_in_T : (p : Profile) (z : State) → z ≡ Away → suits p z ≡ true → p ≡ T
away_in_T T z e s = refl
away_in_T D z e s = absurd (clash s (ap (suits D) e))

-- the states that both have
pub suits_idle : (p : Profile) → suits p Idle ≡ true
suits_idle T = refl
suits_idle D = refl

pub suits_waiting : (p : Profile) → suits p Waiting ≡ true
suits_waiting T = refl
suits_waiting D = refl

pub suits_holding : (p : Profile) → suits p Holding ≡ true
suits_holding T = refl
suits_holding D = refl

-- those of T, and of D
pub suits_T : (p : Profile) (z : State) → p ≡ T → suits T z ≡ true → suits p z ≡ true
suits_T p z e s = subst (λ (q : Profile). suits q z ≡ true) (sym e) s

pub suits_D : (p : Profile) (z : State) → p ≡ D → suits D z ≡ true → suits p z ≡ true
suits_D p z e s = subst (λ (q : Profile). suits q z ≡ true) (sym e) s

-- "it has no second-class units"
pub none_second : (c : Counts) → in_range c ≡ true → c.profile ≡ D → c.second ≡ 0
none_second c e d =
    eqb-true c.second 0 (ap (λ (p : Profile). classed p c.second) (sym d) ∙ and_right (leb 1 c.cores && leb c.cores cores && leb 1 c.first && leb c.first per_class && leb c.second per_class) (classed c.profile c.second) e)
