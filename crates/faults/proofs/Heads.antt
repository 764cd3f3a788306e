-- A line has a fault exactly where the reader finds no header in it, or one whose counts are out of range; and at a place exactly where the reader
-- gives 20.
use Prim.Native.Nat.{ℕ, ◌-◌}
use mathlib.Core.Bool.{Bool, true, false, cond, ◌&&◌, ◌||◌, not}
use mathlib.Core.List.{List}
use mathlib.Core.Path.{◌≡◌, refl, sym, ◌∙◌, ap}
use lib.Dec.{eqb, leb}
use lib.ListN.{length, get_or, take, drop}
use borrow.Author.Tests.{leb-true}
use Rattle.parts.specs.Parts.{cores}
use Rattle.parts.specs.Range.{per_class, classed, in_range}
use Rattle.parts.specs.declared.kinds.Counts.{Counts}
use Rattle.parts.specs.declared.kinds.Fill.TheVariants.{Blank}
use Rattle.parts.specs.declared.kinds.Profile.{Profile}
use Rattle.parts.specs.declared.kinds.Profile.TheVariants.{T, D}
use Rattle.numbers.specs.Number.{field}
use Rattle.numbers.specs.Field.{Field as Number}
use Rattle.numbers.specs.Field.{Bad, Last, Then}
use Rattle.lines.specs.Bytes.{line_most, script_letter}
use Rattle.lines.specs.Reading.{line_end_lem}
use Rattle.lines.specs.Ending.{Ending}
use Rattle.lines.specs.Ending.{At, Long, Short}
use Rattle.headers.specs.Header.{with_counter_lem, with_second_lem, with_first_lem, with_cores, with_letter, parse_header_lem}
use Rattle.headers.specs.ParsedHeader.{ParsedHeader}
use Rattle.headers.specs.ParsedHeader.{Good, Not}
use Rattle.std.specs.Prelude.{Option, Some, None, Err}
use Rattle.faults.specs.Fault.{NoFault, wrong, first, upto, numbers_from_lem, from_left, line_fault, fault_at}
use Rattle.faults.specs.Claims.{HeaderFaults}
use Rattle.faults.specs.declared.fault.Form.TheVariants.{Header}
use Rattle.faults.specs.declared.fault.Kind.TheVariants.{Head}
use Rattle.faults.specs.declared.fault.Fault.{Fault}
use Rattle.faults.specs.declared.fault.Fault.TheVariants.{Letter, TooFew, Cores, First, Second}
use Rattle.faults.proofs.Scanned.{wrong_by, from_place}
use Rattle.faults.proofs.Places.{fault_to}
use Rattle.faults.proofs.Steps.{kept, by_tab, none_left}

abbrev good : ParsedHeader → Bool
good p = elim p [ Good c n ↦ in_range c | Not ↦ false ]

-- a count that is in range or not, with a fault g of its own
module _ (g : Fault) where
  off_tabbed : (x : Bool) → wrong (first (cond (not x) (Err g) NoFault) NoFault) ≡ not x
  off_tabbed true = refl
  off_tabbed false = refl

  off_ended : (x : Bool) → wrong (first (cond (not x) (Err g) NoFault) (Err TooFew)) ≡ true
  off_ended true = refl
  off_ended false = refl

either_way : (q : Bool) → (not q || true) ≡ true
either_way true = refl
either_way false = refl

-- what a header of profile p has behind its letter
module _ (p : Profile) (s : List ℕ) where
  abbrev wrong_at : ℕ → Number → Bool
  wrong_at k f = wrong_by (Head p) 4 s k f

  abbrev counts_of : ℕ → ℕ → ℕ → Counts
  counts_of a b c = record { cores = a; first = b; second = c; profile = p; fill = Blank }

  module _ (a b c : ℕ) where
    -- the counter, behind counts that are in range or not
    counter :
        (q z : Bool) →
        in_range (counts_of a b c) ≡ (q && z) →
        (f : Number) →
        (not q || (not z || wrong_at 5 f)) ≡ not (good (with_counter_lem p a b c f))
    counter true true e Bad = refl
    counter true false e Bad = refl
    counter false z e Bad = refl
    counter true true e (Last n) = ap not (sym e)
    counter true false e (Last n) = ap not (sym e)
    counter false z e (Last n) = ap not (sym e)
    counter true true e (Then n i) = refl
    counter true false e (Then n i) = refl
    counter false z e (Then n i) = refl

  grouped : (x y q z w : Bool) → ((((x && y) && q) && z) && w) ≡ ((x && (y && q)) && (z && w))
  grouped true true true z w = refl
  grouped true true false z w = refl
  grouped true false q z w = refl
  grouped false y q z w = refl

  module _ (a b : ℕ) where
    abbrev in_first : Bool
    in_first = leb 1 b && leb b per_class

    abbrev in_cores : Bool
    in_cores = leb 1 a && leb a cores

    abbrev in_second : ℕ → Bool
    in_second c = leb c per_class && classed p c

    ranged : (c : ℕ) → in_range (counts_of a b c) ≡ ((in_cores && in_first) && in_second c)
    ranged c = grouped in_cores (leb 1 b) (leb b per_class) (leb c per_class) (classed p c)

    second : (f : Number) → (not (in_cores && in_first) || wrong_at 4 f) ≡ not (good (with_second_lem s p a b f))
    second Bad = either_way (in_cores && in_first)
    second (Last c) =
        ap (λ (t : Bool). not (in_cores && in_first) || t) (off_ended (Second c) (in_second c)) ∙ either_way (in_cores && in_first)
    second (Then c j) =
        ap (λ (t : Bool). not (in_cores && in_first) || (t || wrong (numbers_from_lem (Head p) 4 (upto 5 None) (drop j s)))) (off_tabbed (Second c) (in_second c)) ∙
        ap (λ (t : Bool). not (in_cores && in_first) || (not (in_second c) || t)) (from_place (Head p) 4 s j 5) ∙
        counter a b c (in_cores && in_first) (in_second c) (ranged c) (field s j)

  both : (x y w : Bool) → (not x || (not y || w)) ≡ (not (x && y) || w)
  both true y w = refl
  both false y w = refl

  module _ (a : ℕ) where
    abbrev cores_in : Bool
    cores_in = leb 1 a && leb a cores

    firsts : (f : Number) → (not cores_in || wrong_at 3 f) ≡ not (good (with_first_lem s p a f))
    firsts Bad = either_way cores_in
    firsts (Last b) =
        ap (λ (t : Bool). not cores_in || t) (off_ended (First b) (leb 1 b && leb b per_class)) ∙ either_way cores_in
    firsts (Then b j) =
        ap (λ (t : Bool). not cores_in || (t || wrong (numbers_from_lem (Head p) 4 (upto 4 None) (drop j s)))) (off_tabbed (First b) (leb 1 b && leb b per_class)) ∙
        ap (λ (t : Bool). not cores_in || (not (leb 1 b && leb b per_class) || t)) (from_place (Head p) 4 s j 4) ∙
        both cores_in (leb 1 b && leb b per_class) (wrong_at 4 (field s j)) ∙
        second a b (field s j)

  counts : (f : Number) → wrong_at 2 f ≡ not (good (with_cores s p f))
  counts Bad = refl
  counts (Last a) = off_ended (Cores a) (leb 1 a && leb a cores)
  counts (Then a j) =
      ap (λ (t : Bool). t || wrong (numbers_from_lem (Head p) 4 (upto 3 None) (drop j s))) (off_tabbed (Cores a) (leb 1 a && leb a cores)) ∙
      ap (λ (t : Bool). not (leb 1 a && leb a cores) || t) (from_place (Head p) 4 s j 3) ∙
      firsts a (field s j)

-- a line

abbrev header_reads : List ℕ → Bool → Bool
header_reads s t = not (good (cond t (with_letter s (get_or s 0 0) (field s 2)) Not))

header_line_lem : (s : List ℕ) → wrong (line_fault Header s) ≡ not (good (parse_header_lem s))
header_line_lem s =
    kept s (from_left Header s) ∙
    by_tab Header s (header_reads s) refl (go (eqb (get_or s 0 0) (script_letter T)) (eqb (get_or s 0 0) (script_letter D)))
  where
    off : Profile → Option ℕ → Bool
    off p n = wrong (elim n [ None ↦ Err Letter | Some m ↦ numbers_from_lem (Head p) m (upto 2 None) (drop 2 s) ])

    go :
        (t d : Bool) →
        off (cond t T D) (cond (t || d) (Some 4) None) ≡ not (good (cond t (with_cores s T (field s 2)) (cond d (with_cores s D (field s 2)) Not)))
    go true d = from_place (Head T) 4 s 2 2 ∙ counts T s (field s 2)
    go false true = from_place (Head D) 4 s 2 2 ∙ counts D s (field s 2)
    go false false = refl

abbrev number_by : ParsedHeader → ℕ
number_by p = elim p [ Good c n ↦ cond (in_range c) 0 20 | Not ↦ 20 ]

abbrev header_by : List ℕ → ℕ → Ending → ℕ
header_by s at w = elim w [ At e ↦ number_by (parse_header_lem (take (e - at) (drop at s))) | Long ↦ 20 | Short ↦ 22 ]

pub header_faults : HeaderFaults
header_faults s at = go (leb (length s) at) refl
  where
    ranged_or_not : (r : Bool) → not r ≡ eqb (cond r 0 20) 20
    ranged_or_not true = refl
    ranged_or_not false = refl

    told : (p : ParsedHeader) → not (good p) ≡ eqb (number_by p) 20
    told (Good c n) = ranged_or_not (in_range c)
    told Not = refl

    ends : (w : Ending) → wrong (fault_to Header s at w) ≡ eqb (header_by s at w) 20
    ends (At e) = header_line_lem (take (e - at) (drop at s)) ∙ told (parse_header_lem (take (e - at) (drop at s)))
    ends Long = refl
    ends Short = refl

    go : (t : Bool) → leb (length s) at ≡ t → wrong (fault_at Header s at) ≡ eqb (cond (leb (length s) at) 22 (header_by s at (line_end_lem s at))) 20
    go true e =
        ap (λ (w : Ending). wrong (fault_to Header s at w)) (none_left (line_most - 1) at s (leb-true (length s) at e)) ∙
        ap (λ (t : Bool). eqb (cond t 22 (header_by s at (line_end_lem s at))) 20) (sym e)
    go false e = ends (line_end_lem s at) ∙ ap (λ (t : Bool). eqb (cond t 22 (header_by s at (line_end_lem s at))) 20) (sym e)
