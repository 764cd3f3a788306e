-- One turn of `numbers_from`'s loop over the bytes of s, at byte i: the rest of s is opened into that byte and what follows it, and the definition
-- takes its case by what the turn gave. `whole` is what the loop is to answer.
use Prim.Native.Nat.{ℕ, ◌+◌, ◌≤◌, ◌<◌}
use mathlib.Core.List.{List}
use mathlib.Core.Path.{◌≡◌, sym, ◌∙◌, ap}
use native.Mathlib.Omega.{arith}
use lib.ListN.{length, get_or, drop, drop_of_length-le}
use Rattle.numbers.proofs.Turns.{opened}
use Rattle.std.specs.Prelude.{None, Ok, Err, unwrap_or}
use Rattle.faults.specs.Fault.{Found, Look, Tab, Digit, Fails, Next, On, Stop, tabbed, ended, upto, next_by, next, look, numbers_from_lem}
use Rattle.faults.specs.declared.fault.Kind.{Kind}
use Rattle.faults.specs.declared.fault.Fault.{Fault}
use Rattle.faults.specs.declared.fault.Upto.{Upto}

-- the field after a byte is the same or the next
abbrev field_of : Next → ℕ
field_of r = elim r [ On a ↦ a.field | Stop f ↦ 0 ]

field_most : (kind : Kind) (n : ℕ) (a : Upto) (l : Look) → field_of (next_by kind n a l) ≤ a.field + 1
field_most kind n a Tab = go (tabbed kind n a.field (unwrap_or a.value 0))
  where
    go : (f : Found) → field_of (elim f [ Ok x ↦ On (upto (a.field + 1) None) | Err g ↦ Stop g ]) ≤ a.field + 1
    go (Ok x) = omega arith
    go (Err g) = omega arith
field_most kind n a (Digit d) = omega arith
field_most kind n a (Fails w) = omega arith

module _ (kind : Kind) (n : ℕ) (s : List ℕ) (i : ℕ) (a : Upto) (r : Next) (says : r ≡ next kind n a (get_or s i 0)) where
  pub at_field : (b : Upto) → a.field ≤ i → r ≡ On b → b.field ≤ i + 1
  at_field b h is =
      let most = field_most kind n a (look a.value (get_or s i 0)) in
      let same : field_of (next kind n a (get_or s i 0)) ≡ b.field = ap field_of (sym says ∙ is) in
      omega arith

  module _ (whole : Found) (so : whole ≡ numbers_from_lem kind n a (drop i s)) (h : i < length s) where
    abbrev goes : Next → Found
    goes q = elim q [ On then ↦ numbers_from_lem kind n then (drop (i + 1) s) | Stop f ↦ Err f ]

    turned : whole ≡ goes r
    unfolding numbers_from_lem
    turned = so ∙ ap (numbers_from_lem kind n a) (opened s i h) ∙ ap goes (sym says)

    pub at_stop : (f : Fault) → r ≡ Stop f → Err f ≡ whole
    at_stop f is = sym (turned ∙ ap goes is)

    pub at_on : (b : Upto) → r ≡ On b → whole ≡ numbers_from_lem kind n b (drop (i + 1) s)
    at_on b is = turned ∙ ap goes is

pub at_end :
    (kind : Kind) (n : ℕ) (s : List ℕ) (i : ℕ) (a : Upto) (whole r : Found) →
    whole ≡ numbers_from_lem kind n a (drop i s) →
    length s ≤ i →
    r ≡ ended kind n a.field a.value →
    r ≡ whole
unfolding numbers_from_lem
at_end kind n s i a whole r so h is = is ∙ sym (so ∙ ap (numbers_from_lem kind n a) (drop_of_length-le s h))
