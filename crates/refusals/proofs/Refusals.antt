-- A chain of refusals, each with the test that the code made of it: the first that is due is the verdict.
use mathlib.Core.Bool.{Bool, true, false}
use mathlib.Core.Path.{◌≡◌, sym, ◌∙◌, refl}
use Rattle.refusals.specs.Judge.{unless}
use Rattle.parts.specs.declared.answer.Answer.{Answer}
use Rattle.refusals.specs.Verdict.{Verdict, Refused, Allowed}
use Prim.Native.Nat.{ℕ}
use native.Mathlib.Omega.{arith}

-- the test says that the refusal is due, or that it is not
pub due : (b d : Bool) (a : Answer) (v : Verdict) → b ≡ d → b ≡ true → Refused a ≡ unless d a v
due b d a v says e = rw (sym says ∙ e)

pub further : (b d : Bool) (a : Answer) (v w : Verdict) → b ≡ d → b ≡ false → w ≡ v → w ≡ unless d a v
further b d a v w says e next = rw (sym says ∙ e) next

-- allowed only if the condition for the refusal does not hold
pub unless_not : (b : Bool) (a : Answer) (v : Verdict) → unless b a v ≡ Allowed → (b ≡ false) × (v ≡ Allowed)
unless_not true a v e = absurd (refused a e)
  where
    refused : (a : Answer) → Refused a ≡ Allowed → ⊥
    refused a e = let z : ◌≡◌ {A = ℕ} 0 1 = cc in omega arith
unless_not false a v e = (refl, e)
