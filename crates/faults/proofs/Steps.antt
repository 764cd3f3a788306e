-- A line has a fault exactly where the reader finds no step in it, and at a place exactly where the reader gives 21.
use Prim.Native.Nat.{ℕ, suc, ◌-◌, ◌≤◌}
use mathlib.Core.Bool.{Bool, true, false, cond, ◌||◌, not}
use mathlib.Core.List.{List}
use mathlib.Core.Logic.{◌⊎◌, inl, inr}
use mathlib.Core.Path.{◌≡◌, refl, sym, ◌∙◌, ap}
use native.Mathlib.Omega.{arith}
use lib.Dec.{eqb, leb}
use lib.ListN.{length, get_or, take, drop, drop_of_length-le, get_or-eq_default}
use borrow.Author.Tests.{eqb-true, leb-true, leb-false}
use Rattle.parts.specs.Parts.{core_no, unit_no}
use Rattle.parts.specs.declared.answer.Step.TheVariants.{R, N, P, I, C, L}
use Rattle.numbers.specs.Bytes.{tab}
use Rattle.numbers.specs.Number.{field}
use Rattle.numbers.specs.Field.{Field as Number}
use Rattle.numbers.specs.Field.{Bad, Last, Then}
use Rattle.lines.specs.Bytes.{line_most}
use Rattle.lines.specs.Reading.{ending, line_end_lem, one_number, two_numbers_lem, after_core, after_letter as afterLine, parse_step_lem}
use Rattle.lines.specs.Ending.{Ending}
use Rattle.lines.specs.Ending.{At, Long, Short}
use Rattle.lines.specs.Parsed.{Parsed}
use Rattle.lines.specs.Parsed.{Good, Not}
use Rattle.std.specs.Prelude.{Option, Some, None, Ok, Err, unwrap_or}
use Rattle.faults.specs.Fault.{Found, wrong, step_numbers, numbers, kind_of, other, upto, numbers_from_lem, from_left, returned, line_fault, fault_at}
use Rattle.faults.specs.Claims.{StepFaults}
use Rattle.faults.specs.declared.fault.Form.{Form}
use Rattle.faults.specs.declared.fault.Form.TheVariants.{Script}
use Rattle.faults.specs.declared.fault.Kind.TheVariants.{Step}
use Rattle.faults.specs.declared.fault.Fault.TheVariants.{Return, Empty, Letter, TooFew, Field}
use Rattle.faults.proofs.Scanned.{wrong_by, from_place}
use Rattle.faults.proofs.Places.{fault_to}

-- a carriage return takes no fault away, and makes none
pub kept : (s : List ℕ) (f : Found) → wrong (returned s f) ≡ wrong f
kept s (Ok x) = refl
kept s (Err g) = go (eqb (get_or s (length s - 1) 0) 13)
  where
    go : (t : Bool) → wrong (cond t (Err Return) (Err g)) ≡ true
    go true = refl
    go false = refl

-- a line of one byte or none has no byte 9 behind its letter
pub no_tab : (s : List ℕ) → length s ≤ 1 → eqb (get_or s 1 0) tab ≡ false
no_tab s h = let z : get_or s 1 0 ≡ 0 = get_or-eq_default s 0 h in rw z

-- what is wrong with a line that has a tab behind its letter, which has so many numbers, if there are lines with it
abbrev pub behind : Form → List ℕ → Option ℕ → Found
behind form s n = elim n [ None ↦ Err Letter | Some m ↦ numbers_from_lem (kind_of form (get_or s 0 0)) m (upto 2 None) (drop 2 s) ]

-- the reader's answer for a line
module _ (form : Form) (s : List ℕ) (reads : Bool → Bool) (none : reads false ≡ true) where
  abbrev has : Option ℕ
  has = numbers form (get_or s 0 0)

  -- what is wrong, by whether the line is empty, or short, or has a tab behind its letter
  abbrev left : Bool → Bool → Bool → Option ℕ → Found
  left e h t n =
      cond e (Err Empty)
      (elim n [
        | None ↦ Err Letter
        | Some m ↦
            cond h (Err TooFew) (cond t (numbers_from_lem (kind_of form (get_or s 0 0)) m (upto 2 None) (drop 2 s)) (Err (Field 1 (other true (get_or s 1 0)))))
      ])

  short : (e t : Bool) (n : Option ℕ) → wrong (left e true t n) ≡ true
  short true t n = refl
  short false t None = refl
  short false t (Some m) = refl

  no_number : (n : Option ℕ) → wrong (left false false false n) ≡ true
  no_number None = refl
  no_number (Some m) = refl

  -- a line is short, or its second byte is a tab or another
  pub by_tab : wrong (behind form s has) ≡ reads true → wrong (from_left form s) ≡ reads (eqb (get_or s 1 0) tab)
  by_tab tabbed = go (leb (length s) 1) refl
    where
      e : Bool
      e = eqb (length s) 0

      t : Bool
      t = eqb (get_or s 1 0) tab

      longer : (x y : Bool) → leb (length s) 1 ≡ false → e ≡ x → wrong (left x false y has) ≡ reads y
      longer true y long is = let z = eqb-true (length s) 0 is in let l = leb-false (length s) 1 long in absurd (omega arith)
      longer false true long is = tabbed
      longer false false long is = no_number has ∙ sym none

      go : (h : Bool) → leb (length s) 1 ≡ h → wrong (left e (leb (length s) 1) t has) ≡ reads t
      go true is = ap (λ (h : Bool). wrong (left e h t has)) is ∙ short e t has ∙ sym (ap reads (no_tab s (leb-true (length s) 1 is)) ∙ none)
      go false is = ap (λ (h : Bool). wrong (left e h t has)) is ∙ longer e t is refl

-- The letters, and how many numbers each has

abbrev numbers_by : Bool → Bool → Option ℕ
numbers_by r q = cond r (Some 2) (cond q (Some 1) None)

-- none, where there is no line with the letter
abbrev pub some_of : Option ℕ → ℕ
some_of n = unwrap_or n 0

abbrev pub good : Parsed → Bool
good p = elim p [ Good x ↦ true | Not ↦ false ]

module _ (b : ℕ) where
  pub two_good : (k u : ℕ) → good (two_numbers_lem b k u) ≡ eqb (some_of (step_numbers b)) 2
  two_good k u = go (eqb b 82) (eqb b 78) (eqb b 80 || eqb b 73 || eqb b 67 || eqb b 76)
    where
      go : (r n q : Bool) → good (cond r (Good (R (core_no k) (unit_no u))) (cond n (Good (N (core_no k) (unit_no u))) Not)) ≡ eqb (some_of (numbers_by (r || n) q)) 2
      go true n q = refl
      go false true q = refl
      go false false true = refl
      go false false false = refl

  pub one_good : (k : ℕ) → good (one_number b k) ≡ eqb (some_of (step_numbers b)) 1
  one_good k = first_two (eqb b 82) (eqb b 78) refl refl
    where
      rest :
          (p i c l : Bool) →
          good (cond p (Good (P (core_no k))) (cond i (Good (I (core_no k))) (cond c (Good (C (core_no k))) (cond l (Good (L (core_no k))) Not)))) ≡
          eqb (some_of (numbers_by false (p || i || c || l))) 1
      rest true i c l = refl
      rest false true c l = refl
      rest false false true l = refl
      rest false false false true = refl
      rest false false false false = refl

      first_two : (r n : Bool) → eqb b 82 ≡ r → eqb b 78 ≡ n → good (one_number b k) ≡ eqb (some_of (step_numbers b)) 1
      first_two true n e f = rw (eqb-true b 82 e)
      first_two false true e f = rw (eqb-true b 78 f)
      first_two false false e f = rw (e, f) (rest (eqb b 80) (eqb b 73) (eqb b 67) (eqb b 76))

  pub few : (step_numbers b ≡ None) ⊎ ((step_numbers b ≡ Some 1) ⊎ (step_numbers b ≡ Some 2))
  few = go (eqb b 82 || eqb b 78) (eqb b 80 || eqb b 73 || eqb b 67 || eqb b 76)
    where
      go : (r q : Bool) → (numbers_by r q ≡ None) ⊎ ((numbers_by r q ≡ Some 1) ⊎ (numbers_by r q ≡ Some 2))
      go true q = inr (inr refl)
      go false true = inr (inl refl)
      go false false = inl refl

-- Behind the tab, by how many numbers the letter has

module _ (s : List ℕ) (b n : ℕ) (one : (k : ℕ) → good (one_number b k) ≡ eqb n 1) (two : (k u : ℕ) → good (two_numbers_lem b k u) ≡ eqb n 2) where
  -- a second number is none, where the letter has not two
  not_two : eqb n 2 ≡ false → (v : ℕ) (f : Number) → true ≡ not (good (after_core b v f))
  not_two e v Bad = refl
  not_two e v (Last u) = ap not (sym (two v u ∙ e))
  not_two e v (Then u j) = refl

  behind_0 : n ≡ 0 → (f : Number) → true ≡ not (good (afterLine s b f))
  behind_0 e Bad = refl
  behind_0 e (Last v) = ap not (sym (one v ∙ ap (λ (m : ℕ). eqb m 1) e))
  behind_0 e (Then v i) = not_two (ap (λ (m : ℕ). eqb m 2) e) v (field s i)

  behind_1 : n ≡ 1 → (f : Number) → wrong_by Step 1 s 2 f ≡ not (good (afterLine s b f))
  behind_1 e Bad = refl
  behind_1 e (Last v) = ap not (sym (one v ∙ ap (λ (m : ℕ). eqb m 1) e))
  behind_1 e (Then v i) = not_two (ap (λ (m : ℕ). eqb m 2) e) v (field s i)

  second : n ≡ 2 → (v : ℕ) (f : Number) → wrong_by Step 2 s 3 f ≡ not (good (after_core b v f))
  second e v Bad = refl
  second e v (Last u) = ap not (sym (two v u ∙ ap (λ (m : ℕ). eqb m 2) e))
  second e v (Then u j) = refl

  behind_2 : n ≡ 2 → (f : Number) → wrong_by Step 2 s 2 f ≡ not (good (afterLine s b f))
  behind_2 e Bad = refl
  behind_2 e (Last v) = ap not (sym (one v ∙ ap (λ (m : ℕ). eqb m 1) e))
  behind_2 e (Then v i) = from_place Step 2 s i 3 ∙ second e v (field s i)

-- a line

abbrev step_reads : List ℕ → Bool → Bool
step_reads s t = not (good (cond t (afterLine s (get_or s 0 0) (field s 2)) Not))

step_line : (s : List ℕ) → wrong (line_fault Script s) ≡ not (good (parse_step_lem s))
step_line s = kept s (from_left Script s) ∙ by_tab Script s (step_reads s) refl (go (few (get_or s 0 0)))
  where
    b : ℕ
    b = get_or s 0 0

    n : ℕ
    n = some_of (step_numbers b)

    off : Option ℕ → Bool
    off m = wrong (behind Script s m)

    go : (step_numbers b ≡ None) ⊎ ((step_numbers b ≡ Some 1) ⊎ (step_numbers b ≡ Some 2)) → off (step_numbers b) ≡ not (good (afterLine s b (field s 2)))
    go (inl e) = ap off e ∙ behind_0 s b n (one_good b) (two_good b) (ap some_of e) (field s 2)
    go (inr (inl e)) = ap off e ∙ from_place Step 1 s 2 2 ∙ behind_1 s b n (one_good b) (two_good b) (ap some_of e) (field s 2)
    go (inr (inr e)) = ap off e ∙ from_place Step 2 s 2 2 ∙ behind_2 s b n (one_good b) (two_good b) (ap some_of e) (field s 2)

-- a place: nothing is left there, or a line that ends, is too long, or is not finished

pub none_left : (m at : ℕ) (s : List ℕ) → length s ≤ at → ending (suc m) at (drop at s) ≡ Short
unfolding ending
none_left m at s h = rw (drop_of_length-le s h)

abbrev number_by : Parsed → ℕ
number_by p = elim p [ Good x ↦ 0 | Not ↦ 21 ]

abbrev step_by : List ℕ → ℕ → Ending → ℕ
step_by s at w = elim w [ At e ↦ number_by (parse_step_lem (take (e - at) (drop at s))) | Long ↦ 21 | Short ↦ 22 ]

pub step_faults : StepFaults
step_faults s at = go (leb (length s) at) refl
  where
    told : (p : Parsed) → not (good p) ≡ eqb (number_by p) 21
    told (Good x) = refl
    told Not = refl

    ends : (w : Ending) → wrong (fault_to Script s at w) ≡ eqb (step_by s at w) 21
    ends (At e) = step_line (take (e - at) (drop at s)) ∙ told (parse_step_lem (take (e - at) (drop at s)))
    ends Long = refl
    ends Short = refl

    go : (t : Bool) → leb (length s) at ≡ t → wrong (fault_at Script s at) ≡ eqb (cond (leb (length s) at) 0 (step_by s at (line_end_lem s at))) 21
    go true e =
        ap (λ (w : Ending). wrong (fault_to Script s at w)) (none_left (line_most - 1) at s (leb-true (length s) at e)) ∙
        ap (λ (t : Bool). eqb (cond t 0 (step_by s at (line_end_lem s at))) 21) (sym e)
    go false e = ends (line_end_lem s at) ∙ ap (λ (t : Bool). eqb (cond t 0 (step_by s at (line_end_lem s at))) 21) (sym e)
