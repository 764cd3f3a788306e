-- Shown: of a contract, that it determines its answer. "Show that two answers satisfying it are equal." `post k a x s` is what a function's `ensures` clauses say together: at the
-- lifetimes k and the arguments a, of the result x and of what stands behind the parameters at the end, s.
use Rattle.std.specs.Prelude.{◌≡◌}
use seplogic.Ra.Ura.{Ura}
use base.Logic.{ent, sep}
use contract.Monad.{fact}
use contract.Lifetimes.{Lfts}
use denote.Triple.Clauses.{Ended, AtExit, Clauses}
use denote.Triple.Entry.{Args, Res}

abbrev pub Determines {κ α ξ σ} :
    {K : Type κ} {A : K → Type α} {X : K → Type ξ} {S : K → Type σ} → ((k : K) → A k → X k → S k → Type 0) → Type (κ ⊔ α ⊔ ξ ⊔ σ)
Determines {K} {A} {X} {S} post = (k : K) (a : A k) (x y : X k) (s t : S k) → post k a x s → post k a y t → x ≡ y

-- The same of lent memory: `left` reads from s what it holds at the end.
abbrev pub DeterminesLeft {κ α ξ σ ℓ} :
    {K : Type κ} {A : K → Type α} {X : K → Type ξ} {S : K → Type σ} {L : Type ℓ} →
    ((k : K) → S k → L) →
    ((k : K) → A k → X k → S k → Type 0) →
    Type (κ ⊔ α ⊔ ξ ⊔ σ ⊔ ℓ)
DeterminesLeft {K} {A} {X} {S} left post = (k : K) (a : A k) (x y : X k) (s t : S k) → post k a x s → post k a y t → left k s ≡ left k t

-- The two for a contract about a struct that is lent or that holds a loan. What its `ensures` clauses say is an assertion about memory and
-- no type: on any memory, what they say of two answers gives that these are equal.
abbrev pub DeterminesLent : {M : Type 1} (𝓤 : Ura M) (T : Ended) → Clauses 𝓤 T → Type 1
DeterminesLent 𝓤 T c =
    (k : Lfts T.signature.lifetimes) (a : Args T.signature k) (g : (c k a).ghost) (x y : Res T.signature k) (s t : AtExit T k) →
    ent 𝓤 (sep 𝓤 ((c k a).ensures g x s) ((c k a).ensures g y t)) (fact 𝓤 (x ≡ y))

abbrev pub DeterminesLentLeft :
    {M : Type 1} (𝓤 : Ura M) (T : Ended) {L : Type 0} → ((k : Lfts T.signature.lifetimes) → AtExit T k → L) → Clauses 𝓤 T → Type 1
DeterminesLentLeft 𝓤 T left c =
    (k : Lfts T.signature.lifetimes) (a : Args T.signature k) (g : (c k a).ghost) (x y : Res T.signature k) (s t : AtExit T k) →
    ent 𝓤 (sep 𝓤 ((c k a).ensures g x s) ((c k a).ensures g y t)) (fact 𝓤 (left k s ≡ left k t))
