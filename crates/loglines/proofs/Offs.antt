-- The number at a place of a list, and the first field that is off: by the first number of a list and those behind it.
use Prim.Native.Nat.{ℕ, suc, ◌+◌, ◌-◌, ◌≤◌}
use mathlib.Core.Bool.{Bool, true, false, cond}
use mathlib.Core.List.{List, [], ◌∷◌}
use mathlib.Core.Logic.{◌⊎◌, inl, inr, ⊎_elim}
use mathlib.Core.Path.{◌≡◌, refl, sym, ◌∙◌, ap}
use native.Mathlib.Omega.{arith}
use lib.Dec.{eqb, leb}
use lib.ListN.{length, get_or, drop, drop_of_length-le}
use borrow.Author.Tests.{leb-true, leb-false, le-leb, lt-leb, eqb-true, eqb-false, eq-eqb, ne_eqb}
use Rattle.ticket.specs.declared.kinds.Ticket.{Ticket}
use Rattle.parts.specs.declared.answer.Answer.{Answer}
use Rattle.parts.specs.declared.answer.Grants.{Grants}
use Rattle.parts.specs.declared.answer.Grants.TheVariants.{None, One, Two}
use Rattle.numbers.proofs.Turns.{opened}
use Rattle.loglines.specs.Log.{given_by, one_on_lem, first_off, seen_at}
use Rattle.loglines.specs.Parts.{off_by, ended_at, judged_by}
use Rattle.std.specs.Option.{option_eq}
use Rattle.loglines.specs.Parts.{Judged, Agrees}
use Rattle.loglines.specs.Log.{Seen, Missing, Number}

-- The number at a place

pub seen_first : (x : ℕ) (xs : List ℕ) → seen_at (x ∷ xs) 1 ≡ Number x
seen_first x xs = rw (le-leb 1 (suc (length xs)) (omega arith))

one_less : (p n : ℕ) → 1 ≤ p → leb p (suc n) ≡ leb (p - 1) n
one_less p n h = go (leb p (suc n)) refl
  where
    go : (b : Bool) → leb p (suc n) ≡ b → b ≡ leb (p - 1) n
    go true e = sym (le-leb (p - 1) n (omega (arith, leb-true p (suc n) e)))
    go false e = sym (lt-leb (p - 1) n (omega (arith, leb-false p (suc n) e)))

pub seen_later : (x : ℕ) (xs : List ℕ) (p : ℕ) → 2 ≤ p → seen_at (x ∷ xs) p ≡ seen_at xs (p - 1)
seen_later x xs p h =
    let t = one_less p (length xs) (omega arith) in
    let z : p - 1 ≡ suc (p - 1 - 1) = omega arith in
    let g : get_or (x ∷ xs) (p - 1) 0 ≡ get_or xs (p - 1 - 1) 0 = ap (λ (i : ℕ). get_or (x ∷ xs) i 0) z in
    λ i. cond (t i) (Number (g i)) Missing

-- what stands behind the first m numbers: nothing, or a number, which is the one at the place m + 1
abbrev pub At : List ℕ → ℕ → Type 0
At gs m =
    ((drop m gs ≡ []) × (seen_at gs (m + 1) ≡ Missing))
    ⊎ ((m + 1 ≤ length gs) × (drop m gs ≡ get_or gs m 0 ∷ drop (m + 1) gs) × (seen_at gs (m + 1) ≡ Number (get_or gs m 0)))

at : (gs : List ℕ) (m : ℕ) → At gs m
at gs m = go (leb (m + 1) (length gs)) refl
  where
    go : (b : Bool) → leb (m + 1) (length gs) ≡ b → At gs m
    go true e =
        let h = leb-true (m + 1) (length gs) e in
        let z : m + 1 - 1 ≡ m = omega arith in
        inr (h, opened gs m (omega arith), rw (e, z))
    go false e =
        let h : length gs ≤ m = omega (arith, leb-false (m + 1) (length gs) e) in
        inl (drop_of_length-le gs h, rw e)

-- no step gives more than seven numbers
pub given_most : (a : Answer) (t : Ticket) (g : Grants) → length (given_by a t g) ≤ 7
given_most a t None = omega arith
given_most a t (One g) = omega arith
given_most a t (Two g h) = omega arith

-- The first that is off

-- what is shown as it is given is not off
pub first_same : (ns : List ℕ) → first_off ns ns ≡ 0
unfolding first_off
first_same [] = refl
first_same (n ∷ ns) = rw (eq-eqb n n refl, first_same ns)

-- what numbers come to where m before them agreed and o is the first of them that is off
abbrev judged_at : ℕ → ℕ → ℕ → List ℕ → List ℕ → Judged
judged_at n m o ns es = cond (eqb o 0) Agrees (off_by n (m + o) (seen_at ns o) (seen_at es o))

abbrev pub judged_on : ℕ → ℕ → List ℕ → List ℕ → Judged
judged_on n m ns es = judged_at n m (first_off ns es) ns es

pub judged_start : (n : ℕ) (ns es : List ℕ) → judged_by n ns es ≡ judged_on n 0 ns es
judged_start n ns es =
    let o = first_off ns es in
    let z : o ≡ 0 + o = omega arith in
    λ i. cond (eqb o 0) Agrees (off_by n (z i) (seen_at ns o) (seen_at es o))

-- a number that agrees moves what is off one place on
one_on :
    (n m o v : ℕ) (ns es : List ℕ) → judged_at n m (one_on_lem o) (v ∷ ns) (v ∷ es) ≡ judged_at n (m + 1) o ns es
one_on n m o v ns es = go (eqb o 0) refl
  where
    go :
        (b : Bool) →
        eqb o 0 ≡ b →
        judged_at n m (cond b 0 (o + 1)) (v ∷ ns) (v ∷ es) ≡ cond b Agrees (off_by n (m + 1 + o) (seen_at ns o) (seen_at es o))
    go true e = refl
    go false e =
        let d = eqb-false o 0 e in
        let p : m + (o + 1) ≡ m + 1 + o = omega arith in
        let z : o + 1 - 1 ≡ o = omega arith in
        let x = seen_later v ns (o + 1) (omega arith) ∙ ap (seen_at ns) z in
        let y = seen_later v es (o + 1) (omega arith) ∙ ap (seen_at es) z in
        rw (ne_eqb (o + 1) 0 (λ q. omega arith)) (λ i. off_by n (p i) (x i) (y i))

same_on : (n m v : ℕ) (ns es : List ℕ) → judged_on n m (v ∷ ns) (v ∷ es) ≡ judged_on n (m + 1) ns es
unfolding first_off
same_on n m v ns es =
    ap (λ (t : Bool). judged_at n m (cond t (one_on_lem (first_off ns es)) 1) (v ∷ ns) (v ∷ es)) (eq-eqb v v refl) ∙
    one_on n m (first_off ns es) v ns es

-- where no number is left, nothing may be given
end_missing : (n m : ℕ) → judged_on n m [] [] ≡ Agrees
unfolding first_off
end_missing n m = refl

end_given : (n m e : ℕ) (es : List ℕ) → judged_on n m [] (e ∷ es) ≡ off_by n (m + 1) Missing (Number e)
unfolding first_off
end_given n m e es = ap (off_by n (m + 1) Missing) (seen_first e es)

more_missing : (n m v : ℕ) (ns : List ℕ) → judged_on n m (v ∷ ns) [] ≡ off_by n (m + 1) (Number v) Missing
unfolding first_off
more_missing n m v ns = ap (λ (x : Seen). off_by n (m + 1) x Missing) (seen_first v ns)

more_other : (n m v e : ℕ) (ns es : List ℕ) → eqb v e ≡ false → judged_on n m (v ∷ ns) (e ∷ es) ≡ off_by n (m + 1) (Number v) (Number e)
unfolding first_off
more_other n m v e ns es d =
    ap (λ (t : Bool). judged_at n m (cond t (one_on_lem (first_off ns es)) 1) (v ∷ ns) (e ∷ es)) d ∙
    (λ i. off_by n (m + 1) (seen_first v ns i) (seen_first e es i))

-- the next number that is given, at the place m + 1
module _ (n m : ℕ) (gs : List ℕ) (given : Seen) (is : given ≡ seen_at gs (m + 1)) where
  pub judged_end : ended_at n (m + 1) given ≡ judged_on n m [] (drop m gs)
  judged_end = ⊎_elim (λ w. rw (is, w.1, w.0) (sym (end_missing n m))) (λ w. rw (is, w.2, w.1) (sym (end_given n m _ _))) (at gs m)

  pub judged_off : (v : ℕ) (ns : List ℕ) → option_eq eqb given (Number v) ≡ false → off_by n (m + 1) (Number v) given ≡ judged_on n m (v ∷ ns) (drop m gs)
  judged_off v ns d =
      ⊎_elim
      (λ w. rw (is, w.1, w.0) (sym (more_missing n m v ns)))
      (λ w.
      let o = eqb-false (get_or gs m 0) v (sym (ap (λ (g : Seen). option_eq eqb g (Number v)) (is ∙ w.2)) ∙ d) in
      rw (is, w.2, w.1) (sym (more_other n m v _ ns _ (ne_eqb v (get_or gs m 0) (λ e. o (sym e))))))
      (at gs m)

  pub judged_same :
      (v : ℕ) (ns : List ℕ) →
      option_eq eqb given (Number v) ≡ true →
      (m + 1 ≤ length gs) × (judged_on n m (v ∷ ns) (drop m gs) ≡ judged_on n (m + 1) ns (drop (m + 1) gs))
  judged_same v ns e =
      ⊎_elim
      (λ w. let z : false ≡ true = sym (ap (λ (g : Seen). option_eq eqb g (Number v)) (is ∙ w.1)) ∙ e in absurd (let y : ◌≡◌ {A = ℕ} 0 1 = cc in omega arith))
      (λ w.
      let z : v ≡ get_or gs m 0 = sym (eqb-true (get_or gs m 0) v (sym (ap (λ (g : Seen). option_eq eqb g (Number v)) (is ∙ w.2)) ∙ e)) in
      (w.0, rw (w.1, ← z) (same_on n m v ns (drop (m + 1) gs))))
      (at gs m)
