-- A log line that is written is read: its numbers are found field by field, each up to the next tab, and its end is its first line end.
use Prim.Native.Nat.{ℕ, ◌+◌, ◌-◌, ◌*◌, ◌≤◌, ◌<◌}
use mathlib.Core.List.{List, [], ◌∷◌, ◌++◌, append_assoc, append-nil}
use mathlib.Core.Logic.{inl}
use mathlib.Core.Path.{◌≡◌, refl, sym, ◌∙◌, ap}
use native.Mathlib.Omega.{arith}
use lib.ListN.{length, take, drop, length-append}
use lib.Seq.{take-append_seam}
use Rattle.parts.specs.declared.answer.Step.{Step}
use Rattle.parts.specs.declared.answer.Step.TheVariants.{R, N, P, I, C, L}
use Rattle.numbers.specs.Bytes.{end}
use Rattle.numbers.specs.Number.{decimal}
use Rattle.numbers.proofs.Scanning.{decimal_length}
use Rattle.lines.specs.Bytes.{letter_of}
use Rattle.lines.specs.Reading.{ending}
use Rattle.lines.specs.Ending.{At}
use Rattle.digits.specs.Text.{tabbed}
use Rattle.writing.specs.Writing.{fields, numbers_of}
use Rattle.writing.specs.Claims.{Small}
use Rattle.writing.proofs.ReadsBack.{Plain, ending_plain, plain_append, plain_tabbed, field_last, field_then}
use Rattle.loglines.specs.Log.{log_most, numbers_from_lem, parse_log}
use Rattle.loglines.specs.Quick.{tabs}
use Rattle.loglines.proofs.Parts.{more, numbers_last, numbers_then}

-- The numbers of a line

pub fields_end : (ns : List ℕ) → fields ns ≡ tabs ns ++ (end ∷ [])
fields_end [] = refl
fields_end (n ∷ ns) = ap (λ (l : List ℕ). tabbed n ++ l) (fields_end ns) ∙ sym (append_assoc (tabbed n) (tabs ns) (end ∷ []))

numbers_written :
    (s : List ℕ) (n : ℕ) (ns : List ℕ) (f i : ℕ) →
    Small (n ∷ ns) →
    length s - i < f →
    drop i s ≡ decimal n ++ tabs ns →
    numbers_from_lem f s i ≡ inl (n ∷ ns)
numbers_written s n [] f i (most, small) h e =
    numbers_last s f i n (omega arith) (field_last s i n most (e ∙ append-nil (decimal n)))
numbers_written s n (m ∷ ms) f i (most, small) h e =
    let j = i + length (decimal n) + 1 in
    let w = field_then s i n most (decimal m ++ tabs ms) e in
    numbers_then s f f i n j h (omega arith) w.0 ∙ ap (more n) (numbers_written s m ms f j small (omega arith) w.1)

-- of a letter and at least one number, without the line's end
pub numbers_read :
    (letter n : ℕ) (ns : List ℕ) →
    Small (n ∷ ns) →
    let body = letter ∷ tabs (n ∷ ns) in numbers_from_lem (length body) body 2 ≡ inl (n ∷ ns)
numbers_read letter n ns small =
    let body : List ℕ = letter ∷ tabs (n ∷ ns) in
    numbers_written body n ns (length body) 2 small (omega arith) refl

-- The line

abbrev pub line_body : Step → List ℕ → List ℕ
line_body x gs = letter_of x ∷ tabs (numbers_of x ++ gs)

pub parse_written : (x : Step) (gs : List ℕ) → Small (numbers_of x ++ gs) → parse_log (line_body x gs) ≡ inl (record { step = x; shown = gs })
parse_written (R k u) gs small = simp (numbers_read 82 k.0 (u.0 ∷ gs) small)
parse_written (N k u) gs small = simp (numbers_read 78 k.0 (u.0 ∷ gs) small)
parse_written (P k) [] small = simp (numbers_read 80 k.0 [] small)
parse_written (P k) (g ∷ gs) small = simp (numbers_read 80 k.0 (g ∷ gs) small)
parse_written (I k) [] small = simp (numbers_read 73 k.0 [] small)
parse_written (I k) (g ∷ gs) small = simp (numbers_read 73 k.0 (g ∷ gs) small)
parse_written (C k) [] small = simp (numbers_read 67 k.0 [] small)
parse_written (C k) (g ∷ gs) small = simp (numbers_read 67 k.0 (g ∷ gs) small)
parse_written (L k) [] small = simp (numbers_read 76 k.0 [] small)
parse_written (L k) (g ∷ gs) small = simp (numbers_read 76 k.0 (g ∷ gs) small)

pub letter_plain : (x : Step) → letter_of x ≡ end → ⊥
letter_plain (R k u) e = omega arith
letter_plain (N k u) e = omega arith
letter_plain (P k) e = omega arith
letter_plain (I k) e = omega arith
letter_plain (C k) e = omega arith
letter_plain (L k) e = omega arith

pub tabs_plain : (ns : List ℕ) → Plain (tabs ns)
tabs_plain [] = tt
tabs_plain (n ∷ ns) = plain_append (tabbed n) (tabs ns) (plain_tabbed n) (tabs_plain ns)

-- How long it is

fields_most : (ns : List ℕ) → Small ns → length (fields ns) ≤ 1 + 6 * length ns
fields_most [] small = omega arith
fields_most (n ∷ ns) (most, small) =
    let l = length-append (tabbed n) (fields ns) in
    omega (arith, (decimal_length n most).1, fields_most ns small)

few_numbers : (x : Step) → length (numbers_of x) ≤ 2
few_numbers (R k u) = omega arith
few_numbers (N k u) = omega arith
few_numbers (P k) = omega arith
few_numbers (I k) = omega arith
few_numbers (C k) = omega arith
few_numbers (L k) = omega arith

pub small_append : (ns ms : List ℕ) → Small ns → Small ms → Small (ns ++ ms)
small_append [] ms h k = k
small_append (n ∷ ns) ms (a, h) k = (a, small_append ns ms h k)

-- a line with these numbers shown behind its step
abbrev pub line_bytes : Step → List ℕ → List ℕ
line_bytes x gs = letter_of x ∷ fields (numbers_of x ++ gs)

-- a line with other bytes behind it: where it ends, what stands before its end, and how that is read
pub record LogReads (x : Step) (gs after : List ℕ) : Type 0 where
  pub e : ℕ
  pub ends : ending log_most 0 (line_bytes x gs ++ after) ≡ At e
  pub long : length (line_bytes x gs) ≡ e + 1
  pub parse : parse_log (take e (line_bytes x gs ++ after)) ≡ inl (record { step = x; shown = gs })

pub log_written : (x : Step) (gs after : List ℕ) → Small (numbers_of x ++ gs) → length gs ≤ 7 → LogReads x gs after
log_written x gs after small few =
    let ns = numbers_of x ++ gs in
    let l = length-append (numbers_of x) gs in
    let most : length (line_bytes x gs) ≤ log_most = omega (arith, fields_most ns small, few_numbers x) in
    let body = line_body x gs in
    let whole : line_bytes x gs ≡ body ++ (end ∷ []) = ap (λ (l : List ℕ). letter_of x ∷ l) (fields_end ns) in
    let long : length (line_bytes x gs) ≡ length body + 1 = ap (λ (l : List ℕ). length l) whole ∙ length-append body (end ∷ []) in
    let follow : line_bytes x gs ++ after ≡ body ++ (end ∷ after) =
    ap (λ (l : List ℕ). l ++ after) whole ∙ append_assoc body (end ∷ []) after
    in
    let zero_on : 0 + length body ≡ length body = omega arith in
    record {
      e = length body;
      ends =
          ap (λ (l : List ℕ). ending log_most 0 l) follow ∙
          ending_plain log_most 0 body after (letter_plain x, tabs_plain ns) (omega arith) ∙
          ap At zero_on;
      long = long;
      parse =
          ap (λ (l : List ℕ). parse_log (take (length body) l)) follow ∙
          ap (λ (l : List ℕ). parse_log l) (take-append_seam body (end ∷ after)) ∙
          parse_written x gs small;
    }
