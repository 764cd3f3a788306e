-- Tests joined by and, or and not: what a joined test says of its parts, and a joined test from equal parts.
use mathlib.Core.Bool.{Bool, true, false, ◌&&◌, ◌||◌, not, cond}
use mathlib.Core.Logic.{◌⊎◌, inl, inr}
use mathlib.Core.Path.{◌≡◌, refl, sym, ◌∙◌, ap, ap₂, subst}
use lib.Dec.{T}

pub and_left : (a b : Bool) → (a && b) ≡ true → a ≡ true
and_left true b e = refl
and_left false b e = e

pub and_right : (a b : Bool) → (a && b) ≡ true → b ≡ true
and_right true b e = e
and_right false true e = refl
and_right false false e = e

pub and_both : {a b : Bool} → a ≡ true → b ≡ true → (a && b) ≡ true
and_both p q = ap₂ ◌&&◌ p q

pub or_cases : (a b : Bool) → (a || b) ≡ true → (a ≡ true) ⊎ (b ≡ true)
or_cases true b e = inl refl
or_cases false b e = inr e

pub or_left : {a : Bool} (b : Bool) → a ≡ true → (a || b) ≡ true
or_left b p = ap (λ (x : Bool). x || b) p

pub or_right : (a : Bool) {b : Bool} → b ≡ true → (a || b) ≡ true
or_right true p = refl
or_right false p = p

pub not_true_false : (a : Bool) → not a ≡ true → a ≡ false
not_true_false true e = sym e
not_true_false false e = refl

-- equal parts, equal tests: what `search` puts a chain of calls together with
pub both : {a b x y : Bool} → a ≡ x → b ≡ y → (a && b) ≡ (x && y)
both p q = ap₂ ◌&&◌ p q

pub either : {a b x y : Bool} → a ≡ x → b ≡ y → (a || b) ≡ (x || y)
either p q = ap₂ ◌||◌ p q

pub flipped : {a x : Bool} → a ≡ x → not a ≡ not x
flipped p = ap not p

pub clash : {a : Bool} → a ≡ true → a ≡ false → ⊥
clash p q = subst T (sym p ∙ q) tt

-- a choice, as a call decided it
pub chosen : {A : Type 0} (b d : Bool) (r p q : A) → b ≡ d → b ≡ true → r ≡ p → r ≡ cond d p q
chosen b d r p q says e is = is ∙ ap (λ (z : Bool). cond z p q) (sym e ∙ says)

pub other : {A : Type 0} (b d : Bool) (r p q : A) → b ≡ d → b ≡ false → r ≡ q → r ≡ cond d p q
other b d r p q says e is = is ∙ ap (λ (z : Bool). cond z p q) (sym e ∙ says)
