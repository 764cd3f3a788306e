-- A log's line has a fault exactly where no step with numbers behind it is read, and at a place exactly where the check gives 21.
use Prim.Native.Nat.{ℕ, zero, suc, ◌+◌, ◌-◌, ◌<◌}
use mathlib.Core.Bool.{Bool, true, false, cond, ◌||◌, not}
use mathlib.Core.List.{List, [], ◌∷◌}
use mathlib.Core.Logic.{◌⊎◌, inl, inr, ⊎_elim}
use mathlib.Core.Path.{◌≡◌, refl, sym, ◌∙◌, ap}
use native.Mathlib.Nat.{not-suc-le-zero}
use native.Mathlib.Omega.{arith}
use lib.Dec.{eqb, leb}
use lib.ListN.{length, get_or, take, drop}
use borrow.Author.Tests.{lt-leb}
use Rattle.numbers.specs.Number.{field}
use Rattle.numbers.specs.Field.{Field as Number}
use Rattle.numbers.specs.Field.{Bad, Last, Then}
use Rattle.lines.specs.Reading.{ending, one_number, two_numbers_lem}
use Rattle.lines.specs.Ending.{Ending}
use Rattle.lines.specs.Ending.{At, Long, Short}
use Rattle.lines.specs.Parsed.{Parsed}
use Rattle.lines.specs.Parsed.{Good, Not}
use Rattle.loglines.specs.Log.{log_most, numbers_from_lem as readFrom, Shown, shown_after, step_part, parse_log}
use Rattle.loglines.proofs.Parts.{more, field_moves}
use Rattle.std.specs.Prelude.{Option, Some, None, Err}
use Rattle.faults.specs.Fault.{NoFault, wrong, step_numbers, upto, numbers_from_lem, from_left, line_fault}
use Rattle.faults.specs.Claims.{LogFaults}
use Rattle.faults.specs.declared.fault.Form.TheVariants.{Log}
use Rattle.faults.specs.declared.fault.Kind.TheVariants.{Logged}
use Rattle.faults.specs.declared.fault.Fault.TheVariants.{TooFew}
use Rattle.faults.proofs.Scanned.{wrong_by, from_place}
use Rattle.faults.proofs.Steps.{kept, behind, by_tab, some_of, good, one_good, two_good, few}
use Rattle.faults.proofs.Places.{fault_to}

abbrev Read : Type 0
Read = List ℕ ⊎ Unit {0}

-- The numbers, of which the letter has n

module _ (n : ℕ) (s : List ℕ) where
  -- too few from field k on, or one that is none
  abbrev fewer : ℕ → Read → Bool
  fewer k w = ⊎_elim (λ (ns : List ℕ). leb (k + length ns - 1) n) (λ (x : Unit {0}). true) w

  abbrev by_field : (ℕ → Read) → Number → Read
  by_field rest w = elim w [ Bad ↦ inr tt | Last v ↦ inl (v ∷ []) | Then v j ↦ more v (rest j) ]

  ends : (t : Bool) → wrong (cond t (Err TooFew) NoFault) ≡ t
  ends true = refl
  ends false = refl

  goes_on : (t later : Bool) → (wrong (cond t NoFault NoFault) || later) ≡ later
  goes_on true later = refl
  goes_on false later = refl

  one_more : (k v : ℕ) (w : Read) → fewer (k + 1) w ≡ fewer k (more v w)
  one_more k v (inl ns) = let z : k + 1 + length ns - 1 ≡ k + length (v ∷ ns) - 1 = omega arith in ap (λ (m : ℕ). leb m n) z
  one_more k v (inr x) = refl

  fields : (f i k : ℕ) → length s - i < f → wrong (numbers_from_lem Logged n (upto k None) (drop i s)) ≡ fewer k (readFrom f s i)
  unfolding readFrom
  fields zero i k h = absurd (not-suc-le-zero h)
  fields (suc f) i k h = from_place Logged n s i k ∙ go (field s i) refl (fields f)
    where
      go :
          (w : Number) →
          field s i ≡ w →
          ((j m : ℕ) → length s - j < f → wrong (numbers_from_lem Logged n (upto m None) (drop j s)) ≡ fewer m (readFrom f s j)) →
          wrong_by Logged n s k w ≡ fewer k (by_field (λ j. readFrom f s j) w)
      go Bad e later = refl
      go (Last v) e later = let z : k ≡ k + length (v ∷ []) - 1 = omega arith in ends (leb k n) ∙ ap (λ (m : ℕ). leb m n) z
      go (Then v j) e later =
          let m = field_moves s i v j e in
          goes_on (leb k n) (wrong (numbers_from_lem Logged n (upto (k + 1) None) (drop j s))) ∙
          later j (k + 1) (omega (arith, m.0, m.1)) ∙
          one_more k v (readFrom f s j)

-- The step part

abbrev shows : Shown ⊎ Unit {0} → Bool
shows w = ⊎_elim (λ (x : Shown). true) (λ (x : Unit {0}). false) w

shown_by : (p : Parsed) (ns : List ℕ) (other : Shown ⊎ Unit {0}) → shows (shown_after p ns other) ≡ (good p || shows other)
shown_by (Good x) ns other = refl
shown_by Not ns other = refl

module _ (b n : ℕ) (one : (k : ℕ) → good (one_number b k) ≡ eqb n 1) (two : (k u : ℕ) → good (two_numbers_lem b k u) ≡ eqb n 2) where
  abbrev part : Read → Shown ⊎ Unit {0}
  part w = ⊎_elim (step_part b) inr w

  alone : (k : ℕ) → shows (step_part b (k ∷ [])) ≡ (eqb n 1 || false)
  alone k = shown_by (one_number b k) [] (inr tt) ∙ ap (λ (t : Bool). t || false) (one k)

  longer : (k u : ℕ) (ns : List ℕ) → shows (step_part b (k ∷ u ∷ ns)) ≡ (eqb n 1 || (eqb n 2 || false))
  longer k u ns =
      shown_by (one_number b k) (u ∷ ns) (shown_after (two_numbers_lem b k u) ns (inr tt)) ∙
      ap (λ (t : Bool). good (one_number b k) || t) (shown_by (two_numbers_lem b k u) ns (inr tt)) ∙
      ap (λ (t : Bool). t || (good (two_numbers_lem b k u) || false)) (one k) ∙
      ap (λ (t : Bool). eqb n 1 || (t || false)) (two k u)

  -- where the letter has none, no line is read
  with_none : n ≡ 0 → (w : Read) → true ≡ not (shows (part w))
  with_none e (inr x) = refl
  with_none e (inl []) = refl
  with_none e (inl (k ∷ [])) = ap not (sym (alone k ∙ ap (λ (m : ℕ). eqb m 1 || false) e))
  with_none e (inl (k ∷ u ∷ ns)) = ap not (sym (longer k u ns ∙ ap (λ (m : ℕ). eqb m 1 || (eqb m 2 || false)) e))

  with_one : n ≡ 1 → (w : Read) → fewer 1 [] 2 w ≡ not (shows (part w))
  with_one e (inr x) = refl
  with_one e (inl []) = refl
  with_one e (inl (k ∷ [])) = ap not (sym (alone k ∙ ap (λ (m : ℕ). eqb m 1 || false) e))
  with_one e (inl (k ∷ u ∷ ns)) =
      lt-leb (2 + length (k ∷ u ∷ ns) - 1) 1 (omega arith) ∙ ap not (sym (longer k u ns ∙ ap (λ (m : ℕ). eqb m 1 || (eqb m 2 || false)) e))

  with_two : n ≡ 2 → (w : Read) → fewer 2 [] 2 w ≡ not (shows (part w))
  with_two e (inr x) = refl
  with_two e (inl []) = refl
  with_two e (inl (k ∷ [])) = ap not (sym (alone k ∙ ap (λ (m : ℕ). eqb m 1 || false) e))
  with_two e (inl (k ∷ u ∷ ns)) =
      lt-leb (2 + length (k ∷ u ∷ ns) - 1) 2 (omega arith) ∙ ap not (sym (longer k u ns ∙ ap (λ (m : ℕ). eqb m 1 || (eqb m 2 || false)) e))

-- a line

abbrev log_reads : List ℕ → Bool → Bool
log_reads s t = not (shows (cond t (⊎_elim (step_part (get_or s 0 0)) inr (readFrom (length s) s 2)) (inr tt)))

behind_tab : (s : List ℕ) → wrong (behind Log s (step_numbers (get_or s 0 0))) ≡ log_reads s true
unfolding readFrom
behind_tab [] = refl
behind_tab (c ∷ cs) = go (few b)
  where
    s : List ℕ
    s = c ∷ cs

    b : ℕ
    b = get_or s 0 0

    read : Read
    read = readFrom (length s) s 2

    enough : length s - 2 < length s
    enough = omega arith

    n : ℕ
    n = some_of (step_numbers b)

    off : Option ℕ → Bool
    off m = wrong (behind Log s m)

    go : (step_numbers b ≡ None) ⊎ ((step_numbers b ≡ Some 1) ⊎ (step_numbers b ≡ Some 2)) → off (step_numbers b) ≡ log_reads s true
    go (inl e) = ap off e ∙ with_none b n (one_good b) (two_good b) (ap some_of e) read
    go (inr (inl e)) = ap off e ∙ fields 1 s (length s) 2 2 enough ∙ with_one b n (one_good b) (two_good b) (ap some_of e) read
    go (inr (inr e)) = ap off e ∙ fields 2 s (length s) 2 2 enough ∙ with_two b n (one_good b) (two_good b) (ap some_of e) read

log_line : (s : List ℕ) → wrong (line_fault Log s) ≡ not (shows (parse_log s))
log_line s = kept s (from_left Log s) ∙ by_tab Log s (log_reads s) refl (behind_tab s)

-- a place

abbrev number_by : Shown ⊎ Unit {0} → ℕ
number_by w = ⊎_elim (λ (x : Shown). 0) (λ (x : Unit {0}). 21) w

abbrev log_by : List ℕ → ℕ → Ending → ℕ
log_by s at w = elim w [ At e ↦ number_by (parse_log (take (e - at) (drop at s))) | Long ↦ 21 | Short ↦ 22 ]

pub log_faults : LogFaults
log_faults s at = go (ending log_most at (drop at s))
  where
    told : (w : Shown ⊎ Unit {0}) → not (shows w) ≡ eqb (number_by w) 21
    told (inl x) = refl
    told (inr x) = refl

    go : (w : Ending) → wrong (fault_to Log s at w) ≡ eqb (log_by s at w) 21
    go (At e) = log_line (take (e - at) (drop at s)) ∙ told (parse_log (take (e - at) (drop at s)))
    go Long = refl
    go Short = refl
