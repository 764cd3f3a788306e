-- The numbers of a line by the reader's fields: what is wrong from a place on, told by what the reader finds there. By recursion over the bytes.
use Prim.Native.Nat.{ℕ, ◌+◌, ◌-◌, ◌*◌}
use mathlib.Core.Bool.{Bool, true, false, cond, ◌&&◌, ◌||◌, not}
use mathlib.Core.List.{List, [], ◌∷◌}
use mathlib.Core.Path.{◌≡◌, refl, sym, ◌∙◌, ap}
use lib.Dec.{eqb, leb}
use lib.ListN.{drop}
use lib.Seq.{drop-drop}
use Rattle.numbers.specs.Bytes.{tab}
use Rattle.numbers.specs.Number.{number_most, scan, field}
use Rattle.numbers.specs.Field.{Field as Number}
use Rattle.numbers.specs.Field.{Bad, Last, Then}
use Rattle.std.specs.Prelude.{Option, Some, None, Ok, Err, is_some, unwrap_or}
use Rattle.faults.specs.Fault.{Found, wrong, Look, Digit, Fails, Next, On, Stop, other, tabbed, ended, upto, at_tab, next_by, numbers_from_lem}
use Rattle.faults.specs.declared.fault.Kind.{Kind}
use Rattle.faults.specs.declared.fault.Wrong.{Wrong}
use Rattle.faults.specs.declared.fault.Wrong.TheVariants.{LeadingZero, TooGreat}

module _ (kind : Kind) (n : ℕ) (s : List ℕ) where
  -- whether something is wrong from field k on, which is read so
  abbrev pub wrong_by : ℕ → Number → Bool
  wrong_by k f =
      elim f [ Bad ↦ true | Last v ↦ wrong (ended kind n k (Some v)) | Then v j ↦ wrong (tabbed kind n k v) || wrong (numbers_from_lem kind n (upto (k + 1) None) (drop j s)) ]

  abbrev goes : List ℕ → Next → Found
  goes bs q = elim q [ On then ↦ numbers_from_lem kind n then bs | Stop f ↦ Err f ]

  -- a byte by the tests of it: a tab; a digit; after a lone zero; not too great
  abbrev looked : Bool → ℕ → Wrong → Bool → Bool → Bool → Bool → Look
  looked some e o t d z m = cond t (at_tab some) (cond d (cond z (Fails LeadingZero) (cond m (Digit e) (Fails TooGreat))) (Fails o))

  module _ (b : ℕ) (bs : List ℕ) (i k e : ℕ) (o : Wrong) (on : drop (i + 1) s ≡ bs) where
    at_tab_lem :
        (f : Found) →
        wrong (goes bs (elim f [ Ok x ↦ On (upto (k + 1) None) | Err g ↦ Stop g ])) ≡
        (wrong f || wrong (numbers_from_lem kind n (upto (k + 1) None) (drop (i + 1) s)))
    at_tab_lem (Ok x) = ap (λ (l : List ℕ). wrong (numbers_from_lem kind n (upto (k + 1) None) l)) (sym on)
    at_tab_lem (Err g) = refl

    at_byte :
        (v : Option ℕ) (t d z m : Bool) →
        wrong (numbers_from_lem kind n (upto k (Some e)) bs) ≡ wrong_by k (scan true e (i + 1) bs) →
        wrong (goes bs (next_by kind n (upto k v) (looked (is_some v) e o t d z m))) ≡
        wrong_by k (cond t (cond (is_some v) (Then (unwrap_or v 0) (i + 1)) Bad) (cond (d && not z && m) (scan true e (i + 1) bs) Bad))
    at_byte (Some v) true d z m later = at_tab_lem (tabbed kind n k v)
    at_byte None true d z m later = refl
    at_byte v false false z m later = refl
    at_byte v false true true m later = refl
    at_byte v false true false false later = refl
    at_byte v false true false true later = later

  rest : (i b : ℕ) (bs : List ℕ) → drop i s ≡ b ∷ bs → drop (i + 1) s ≡ bs
  rest i b bs e = sym (drop-drop 1 i s) ∙ ap (drop 1) e

  from_byte :
      (bs : List ℕ) (i k : ℕ) (v : Option ℕ) →
      drop i s ≡ bs →
      wrong (numbers_from_lem kind n (upto k v) bs) ≡ wrong_by k (scan (is_some v) (unwrap_or v 0) i bs)
  unfolding numbers_from_lem scan
  from_byte [] i k (Some v) e = refl
  from_byte [] i k None e = refl
  from_byte (b ∷ bs) i k v e =
      let n = 10 * unwrap_or v 0 + (b - 48) in
      at_byte b bs i k n (other (is_some v) b) (rest i b bs e) v (eqb b tab) (leb 48 b && leb b 57) (is_some v && eqb (unwrap_or v 0) 0) (leb n number_most)
      (from_byte bs (i + 1) k (Some n) (rest i b bs e))

  -- the numbers from a place on, by the field that the reader finds there
  pub from_place : (i k : ℕ) → wrong (numbers_from_lem kind n (upto k None) (drop i s)) ≡ wrong_by k (field s i)
  from_place i k = from_byte (drop i s) i k None refl
