-- A list that is filled place by place: xs is what ys becomes.
use Prim.Native.Nat.{ℕ, ◌+◌, ◌≤◌, ◌<◌}
use mathlib.Core.List.{List, [], ◌∷◌, ◌++◌}
use mathlib.Core.Path.{◌≡◌, sym, ◌∙◌, ap}
use native.Mathlib.Numerals.{add-one}
use lib.ListN.{length, get_or, set, take}
use lib.Seq.{take_all, take-suc, take-suc-set}

module _ {A : Type 0} (xs ys : List A) (i : ℕ) (so : take i ys ≡ take i xs) where
  pub fills : (d a : A) → i < length xs → i < length ys → a ≡ get_or xs i d → take (i + 1) (set ys i a) ≡ take (i + 1) xs
  fills d a l m e =
      rw add-one
      (take-suc-set ys i a m ∙ ap (λ (b : A). take i ys ++ (b ∷ [])) e ∙ ap (λ (l : List A). l ++ (get_or xs i d ∷ [])) so ∙
      sym (take-suc xs i d l))

  pub filled : length xs ≤ i → length ys ≤ i → ys ≡ xs
  filled l m = sym (take_all i ys m) ∙ so ∙ take_all i xs l
