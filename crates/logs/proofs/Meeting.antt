-- A line whose step was read quickly: the step is the one that is read in full, and where the bytes behind it are the text of what the rules give,
-- the line is the one that the rules give, which reads back.
use Prim.Native.Nat.{ℕ, ◌+◌, ◌-◌, ◌≤◌, ◌<◌}
use mathlib.Core.Bool.{Bool, true}
use mathlib.Core.List.{List, [], ◌∷◌, ◌++◌, append_assoc}
use mathlib.Core.Logic.{◌⊎◌, inl, inr, ⊎_elim}
use mathlib.Core.Path.{◌≡◌, refl, sym, ◌∙◌, ap, subst}
use native.Mathlib.Omega.{arith}
use lib.ListN.{length, take, drop, take-append-drop, length-append, length-drop}
use lib.Seq.{take_all, drop-drop, take-append_seam}
use Rattle.ticket.specs.declared.kinds.Ticket.{Ticket}
use Rattle.parts.specs.Answer.{number_of}
use Rattle.parts.specs.declared.answer.Answer.{Answer}
use Rattle.parts.specs.declared.answer.Grants.{Grants}
use Rattle.parts.specs.declared.answer.Grants.TheVariants.{None, One, Two}
use Rattle.parts.specs.declared.answer.Step.{Step}
use Rattle.numbers.specs.Bytes.{end}
use Rattle.numbers.specs.Number.{decimal}
use Rattle.digits.specs.Text.{tabbed, Puts}
use Rattle.expected.specs.Expected.{grants_bytes, shown_bytes}
use Rattle.expected.proofs.Lengths.{expected_bound}
use Rattle.lines.specs.Bytes.{letter_of}
use Rattle.lines.specs.Reading.{ending}
use Rattle.lines.specs.Ending.{At}
use Rattle.writing.specs.Writing.{fields, numbers_of}
use Rattle.writing.specs.Claims.{Small}
use Rattle.loglines.specs.Log.{log_most, Shown, parse_log, grants_given, given_by}
use Rattle.loglines.specs.Parts.{part_in, rest_from, judged_in}
use Rattle.loglines.specs.Quick.{tabs, step_text, OneDigit, StandsAt, SameBytes}
use Rattle.logs.specs.Due.{plain_due, Reads, Follows, met_by, plain_met}
use Rattle.logs.specs.declared.call.Rest.{Rest}
use Rattle.logs.specs.declared.call.Behind.{Behind}
use Rattle.logs.specs.declared.call.Behind.TheVariants.{Quick, Full}
use Rattle.std.specs.Prelude.{Option, Some}
use Rattle.logs.specs.Due.{Reading, Agrees}
use Rattle.loglines.specs.Parts.{Part, Begins, Not}
use Rattle.loglines.specs.Parts.{Judged}
use Rattle.loglines.specs.Parts.{Agrees as AllGiven}
use Rattle.loglines.proofs.Parts.{parse_bad, parse_line}
use Rattle.loglines.proofs.Quickly.{in_full}
use Rattle.loglines.proofs.Offs.{given_most, first_same}
use Rattle.loglines.proofs.ReadsBack.{small_append, line_bytes, log_written}
use Rattle.logs.proofs.Turning.{full, same_reading, ranged, due_at}

-- The step is the one that is read in full

same_part : (x y : Step) (n m : ℕ) (f g : Option ℕ) → Begins y n f ≡ Begins x m g → y ≡ x
same_part x y n m f g e = ap (λ (p : Part). elim p [ Begins z k h ↦ z | Not ↦ y ]) e

pub same_step : (s : List ℕ) (place : ℕ) (x : Step) (b : Behind) → Reads s place x b → (y : Step) (r : Rest) → plain_due s place ≡ Reading y r → y ≡ x
same_step s place x (Quick from) reads y r is =
    let w = full s place y r is in
    same_part x y _ _ _ _ (sym w.part ∙ in_full s place from w.e x reads w.ends)
same_step s place x (Full q) reads y r is = (same_reading x y q r (sym is ∙ reads)).0

-- The text of a line

three : (a b c e : List ℕ) → (a ++ (b ++ c)) ++ e ≡ a ++ (b ++ (c ++ e))
three a b c e = simp append_assoc

five : (a b c d f e : List ℕ) → (a ++ ((b ++ c) ++ (d ++ f))) ++ e ≡ a ++ (b ++ (c ++ (d ++ (f ++ e))))
five a b c d f e = simp append_assoc

grants_fields : (g : Grants) → grants_bytes g ++ (end ∷ []) ≡ fields (grants_given g)
grants_fields None = refl
grants_fields (One g) = three (tabbed 1) (tabbed g.unit.0) (tabbed g.core.0) (end ∷ [])
grants_fields (Two g h) =
    five (tabbed 2) (tabbed g.unit.0) (tabbed g.core.0) (tabbed h.unit.0) (tabbed h.core.0) (end ∷ [])

pub shown_fields : (a : Answer) (n : Ticket) (g : Grants) → shown_bytes a n g ≡ fields (given_by a n g)
shown_fields a n g = ap (λ (l : List ℕ). tabbed (number_of a) ++ (tabbed n.0 ++ l)) (grants_fields g)

pub tabs_fields : (ns gs : List ℕ) → tabs ns ++ fields gs ≡ fields (ns ++ gs)
tabs_fields [] gs = refl
tabs_fields (n ∷ ns) gs = append_assoc (tabbed n) (tabs ns) (fields gs) ∙ ap (λ (l : List ℕ). tabbed n ++ l) (tabs_fields ns gs)

digit_small : (ns : List ℕ) → OneDigit ns → Small ns
digit_small [] h = tt
digit_small (n ∷ ns) (a, h) = (omega arith, digit_small ns h)

-- what stands behind the step part is the text of some numbers
module _
    (s : List ℕ) (place from : ℕ) (x : Step) (stands : StandsAt s place x from) (gs after : List ℕ) (small : Small gs) (few : length gs ≤ 7)
    (text : drop from s ≡ fields gs ++ after) where
  left_text : drop place s ≡ line_bytes x gs ++ after
  left_text =
      let n = length (step_text x) in
      let rest : drop n (drop place s) ≡ fields gs ++ after =
      drop-drop n place s ∙ ap (λ (i : ℕ). drop i s) (sym stands.next) ∙ text
      in
      sym (take-append-drop n (drop place s)) ∙
      ap (λ (l : List ℕ). l ++ drop n (drop place s)) stands.text ∙
      ap (λ (l : List ℕ). step_text x ++ l) rest ∙
      sym (append_assoc (step_text x) (fields gs) after) ∙
      ap (λ (l : List ℕ). (letter_of x ∷ l) ++ after) (tabs_fields (numbers_of x) gs)

  judged_given : (t : List ℕ) (n : ℕ) (f : Option ℕ) → part_in t ≡ Begins x n f → parse_log t ≡ inl (record { step = x; shown = gs }) → judged_in t n f gs ≡ AllGiven
  judged_given t n f part parse = go (rest_from t f) refl
    where
      read : List ℕ → Shown ⊎ Unit {0}
      read ns = inl (record { step = x; shown = ns })

      shown_same : (ns : List ℕ) → read ns ≡ read gs → ns ≡ gs
      shown_same ns e = ap (⊎_elim (λ (l : Shown). l.shown) (λ (u : Unit {0}). [])) e

      go : (w : List ℕ ⊎ Unit {0}) → rest_from t f ≡ w → judged_in t n f gs ≡ AllGiven
      go (inl ns) rest =
          let z : ns ≡ gs = shown_same ns (sym (parse_line t x n f part ns rest) ∙ parse) in
          simp (rest, z, first_same gs)
      go (inr none) rest =
          let e : inr tt ≡ read gs = sym (parse_bad t x n f part rest) ∙ parse in
          let z : ◌≡◌ {A = ℕ} 0 1 = cc in
          absurd (omega arith)

  pub quick_agrees : plain_met s place gs ≡ Agrees (from + length (fields gs))
  quick_agrees =
      let r = log_written x gs after (small_append (numbers_of x) gs (digit_small (numbers_of x) stands.short) small) few in
      let ends : ending log_most 0 (drop place s) ≡ At r.e = ap (ending log_most 0) left_text ∙ r.ends in
      let parse : parse_log (take r.e (drop place s)) ≡ inl (record { step = x; shown = gs }) =
      ap (λ (l : List ℕ). parse_log (take r.e l)) left_text ∙ r.parse
      in
      let n = length (numbers_of x) in
      let f = Some (length (step_text x) + 1) in
      let part : part_in (take r.e (drop place s)) ≡ Begins x n f = in_full s place from r.e x stands ends in
      let l = length-append (tabs (numbers_of x)) (fields gs) in
      let m = ap length (tabs_fields (numbers_of x) gs) in
      let z : place + r.e + 1 ≡ from + length (fields gs) = omega (arith, r.long, stands.next, l, m) in
      due_at s place gs x n f r.e ends part ∙
      ap (λ (j : Judged). met_by j (place + r.e)) (judged_given (take r.e (drop place s)) n f part parse) ∙
      ap Agrees z

-- What the code asks of the line behind its step

module _ (s : List ℕ) (place : ℕ) where
  -- read in full
  pub follows_in : (b : Behind) → Follows s place b → (r : Rest) → b ≡ Full r → (r.numbers ≤ 2) × (place ≤ r.end) × (r.end < length s)
  follows_in b line r is = let w = subst (Follows s place) is line in ranged s place w.0 r w.1

  -- read quickly
  module _ (b : Behind) (line : Follows s place b) (from : ℕ) (is : b ≡ Quick from) where
    reads : Follows s place (Quick from)
    reads = subst (Follows s place) is line

    stands : StandsAt s place reads.0 from
    stands = reads.1

    module _
        (a : Answer) (t : Ticket) (g : Grants) (small : Small (given_by a t g)) (o m : List ℕ) (n : ℕ) (put : Puts o m 0 n (shown_bytes a t g)) (yes : Bool)
        (alike : SameBytes (take (length s - from) (drop from s)) m n yes) (so : yes ≡ true) where
      same : SameBytes (drop from s) m n yes
      same =
          let l = length-drop from s in
          subst (λ (t : List ℕ). SameBytes t m n yes) (take_all (length s - from) (drop from s) (omega arith)) alike

      long : n ≡ length (shown_bytes a t g)
      long = put.goes ∙ omega arith

      behind : take n (drop from s) ≡ shown_bytes a t g
      behind =
          (same so).0 ∙
          ap (take n) put.holds ∙
          ap (λ (k : ℕ). take k (shown_bytes a t g ++ drop (0 + length (shown_bytes a t g)) o)) long ∙
          take-append_seam (shown_bytes a t g) (drop (0 + length (shown_bytes a t g)) o)

      text : drop from s ≡ fields (given_by a t g) ++ drop n (drop from s)
      text =
          sym (take-append-drop n (drop from s)) ∙
          ap (λ (l : List ℕ). l ++ drop n (drop from s)) (behind ∙ shown_fields a t g)

      pub quick_met : Agrees (from + n) ≡ plain_met s place (given_by a t g)
      quick_met =
          let z : n ≡ length (fields (given_by a t g)) = long ∙ ap length (shown_fields a t g) in
          ap (λ (k : ℕ). Agrees (from + k)) z ∙
          sym
          (quick_agrees s place from reads.0 stands (given_by a t g) (drop n (drop from s)) small (given_most a t g) text)

-- the space for the text
pub shown_most : (a : Answer) (t : Ticket) (g : Grants) → length (shown_bytes a t g) ≤ 88
shown_most a t g = let l = length-append (decimal 0) (shown_bytes a t g) in omega (arith, expected_bound 0 a t g)
