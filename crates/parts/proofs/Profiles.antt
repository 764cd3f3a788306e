-- What each profile's states are, from the tests that the code makes one by one.
use mathlib.Core.Bool.{Bool, ◌&&◌, ◌||◌, not}
use mathlib.Core.Path.{◌≡◌, sym, ◌∙◌, ap}
use Rattle.parts.specs.State.{two_stage_lem, is_away, is_marked, is_dropped}
use Rattle.parts.specs.Profile.{suits}
use Rattle.parts.specs.declared.kinds.Profile.{Profile}
use Rattle.parts.specs.declared.kinds.Profile.TheVariants.{T, D}
use Rattle.parts.specs.declared.kinds.State.{State}
use Rattle.parts.proofs.Bools.{both, either, flipped}

pub suits_T : (p : Profile) (z : State) (m d : Bool) → p ≡ T → m ≡ is_marked z → d ≡ is_dropped z → (not m && not d) ≡ suits p z
suits_T p z m d e a b = both (flipped a) (flipped b) ∙ sym (ap (λ (q : Profile). suits q z) e)

pub suits_D :
    (p : Profile) (z : State) (t w m d : Bool) →
    p ≡ D →
    t ≡ two_stage_lem z →
    w ≡ is_away z →
    m ≡ is_marked z →
    d ≡ is_dropped z →
    (not t && (not w || m || d)) ≡ suits p z
suits_D p z t w m d e f g a b = both (flipped f) (either (either (flipped g) a) b) ∙ sym (ap (λ (q : Profile). suits q z) e)
