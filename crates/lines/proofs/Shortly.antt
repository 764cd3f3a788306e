-- A short line reads as any line does. Its bytes are the letter, a tab, a digit and the end, or the letter, a tab, a digit, a tab, a digit
-- and the end; so the first line end is its last byte, unless the letter is one itself, and then both ways find no step. The bytes up to it
-- are parsed digit by digit.
use Prim.Native.Nat.{ℕ, ◌+◌, ◌-◌, ◌*◌, ◌≤◌, ◌<◌}
use mathlib.Core.Bool.{Bool, true, false, cond, ◌&&◌}
use mathlib.Core.List.{List, [], ◌∷◌}
use mathlib.Core.Path.{◌≡◌, refl, ◌∙◌, ap, subst}
use native.Mathlib.Omega.{arith}
use borrow.Author.Tests.{eqb-true, eqb-false, ltb-false, ne_eqb, lt-leb, le-leb, leb-true}
use lib.Dec.{eqb, leb, ltb}
use lib.ListN.{length, get_or, take, drop}
use Rattle.ticket.specs.declared.kinds.CoreNo.{CoreNo}
use Rattle.ticket.specs.declared.kinds.UnitNo.{UnitNo}
use Rattle.parts.specs.Parts.{core_no, unit_no}
use Rattle.parts.proofs.Bools.{and_left, and_right}
use Rattle.numbers.specs.Bytes.{tab, end}
use Rattle.lines.specs.Bytes.{line_most}
use Rattle.numbers.specs.Number.{number_most, scan}
use Rattle.lines.specs.Reading.{ending, line_end_lem, one_number, two_numbers_lem, parse_step_lem, step_line_lem, read_step}
use Rattle.lines.specs.ShortLine.{digit, short_two, short_one, short_line}
use Rattle.numbers.specs.Field.{Last, Then}
use Rattle.lines.specs.Ending.{At}
use Rattle.lines.specs.Parsed.{Not}
use Rattle.lines.specs.Short.{Short, One, Two, Other}
use Rattle.numbers.proofs.Turns.{opened}

pub digit_says : (b : ℕ) → digit b ≡ true → (48 ≤ b) × (b ≤ 57)
digit_says b e = (leb-true 48 b (and_left (leb 48 b) (leb b 57) e), leb-true b 57 (and_right (leb 48 b) (leb b 57) e))

-- a digit where a number starts, and what is read after it
starts : (i b : ℕ) (more : List ℕ) → 48 ≤ b → b ≤ 57 → scan false 0 i (b ∷ more) ≡ scan true (b - 48) (i + 1) more
unfolding scan
starts i b more l h =
    let z : 10 * 0 + (b - 48) ≡ b - 48 = omega arith in
    simp (
      z,
      ne_eqb b tab (λ e. omega arith),
      le-leb 48 b l,
      le-leb b 57 h,
      le-leb (b - 48) number_most (omega arith),
    )

ends : (i v : ℕ) → scan true v i [] ≡ Last v
unfolding scan
ends i v = refl

goes_on : (i v : ℕ) (more : List ℕ) → scan true v i (tab ∷ more) ≡ Then v (i + 1)
unfolding scan
goes_on i v more = refl

-- the bytes of a short line, with a digit each
module _ (a k : ℕ) (k-digit : (48 ≤ k) × (k ≤ 57)) where
  parse_one : parse_step_lem (a ∷ tab ∷ k ∷ []) ≡ one_number a (k - 48)
  parse_one = rw (starts 2 k [] k-digit.0 k-digit.1, ends 3 (k - 48))

  parse_two : (u : ℕ) → (48 ≤ u) × (u ≤ 57) → parse_step_lem (a ∷ tab ∷ k ∷ tab ∷ u ∷ []) ≡ two_numbers_lem a (k - 48) (u - 48)
  parse_two u u-digit =
      rw (starts 2 k (tab ∷ u ∷ []) k-digit.0 k-digit.1, goes_on 3 (k - 48) (u ∷ []), starts 4 u [] u-digit.0 u-digit.1, ends 5 (u - 48))

-- where the line ends that starts with these bytes
ends_one : (i a k : ℕ) (more : List ℕ) → (a ≡ end → ⊥) → (48 ≤ k) × (k ≤ 57) → ending line_most i (a ∷ tab ∷ k ∷ end ∷ more) ≡ At (i + 3)
unfolding ending
ends_one i a k more d w =
    let z : i + 1 + 1 + 1 ≡ i + 3 = omega arith in
    simp (ne_eqb a end d, ne_eqb k end (λ e. omega (arith, w.0))) (ap At z)

ends_two :
    (i a k u : ℕ) (more : List ℕ) →
    (a ≡ end → ⊥) →
    (48 ≤ k) × (k ≤ 57) →
    (48 ≤ u) × (u ≤ 57) →
    ending line_most i (a ∷ tab ∷ k ∷ tab ∷ u ∷ end ∷ more) ≡ At (i + 5)
unfolding ending
ends_two i a k u more d w v =
    let z : i + 1 + 1 + 1 + 1 + 1 ≡ i + 5 = omega arith in
    simp (ne_eqb a end d, ne_eqb k end (λ e. omega (arith, w.0)), ne_eqb u end (λ e. omega (arith, v.0))) (ap At z)

ends_at_once : (i : ℕ) (more : List ℕ) → ending line_most i (end ∷ more) ≡ At i
unfolding ending
ends_at_once i more = refl

-- a line that starts before the script's end
module _ (s : List ℕ) (at : ℕ) (h : at < length s) where
  -- its end stands n bytes further on
  line_at : (n : ℕ) → line_end_lem s at ≡ At (at + n) → read_step s at ≡ step_line_lem (parse_step_lem (take n (drop at s))) (at + n + 1)
  line_at n e =
      let z : at + n - at ≡ n = omega arith in
      rw (lt-leb (length s) at h, e, z)

  -- the letter is a line end itself: the line is empty
  empty : (next : ℕ) (more : List ℕ) → drop at s ≡ end ∷ more → read_step s at ≡ step_line_lem Not next
  empty next more e =
      let z : line_end_lem s at ≡ At (at + 0) = rw e (ends_at_once at more ∙ ap At (omega arith)) in
      line_at 0 z

  module _ (a k : ℕ) (more : List ℕ) (k-digit : (48 ≤ k) × (k ≤ 57)) where
    reads_one : drop at s ≡ a ∷ tab ∷ k ∷ end ∷ more → read_step s at ≡ step_line_lem (one_number a (k - 48)) (at + 4)
    reads_one e = go (eqb a end) refl
      where
        go : (b : Bool) → eqb a end ≡ b → read_step s at ≡ step_line_lem (one_number a (k - 48)) (at + 4)
        go true is =
            let z : a ≡ end = eqb-true a end is in
            rw z (empty (at + 4) (tab ∷ k ∷ end ∷ more) (e ∙ rw z))
        go false is =
            let z : line_end_lem s at ≡ At (at + 3) = rw e (ends_one at a k more (eqb-false a end is) k-digit) in
            let n : at + 3 + 1 ≡ at + 4 = omega arith in
            line_at 3 z ∙ rw (e, parse_one a k k-digit, n)

    reads_two :
        (u : ℕ) →
        (48 ≤ u) × (u ≤ 57) →
        drop at s ≡ a ∷ tab ∷ k ∷ tab ∷ u ∷ end ∷ more →
        read_step s at ≡ step_line_lem (two_numbers_lem a (k - 48) (u - 48)) (at + 6)
    reads_two u u-digit e = go (eqb a end) refl
      where
        go : (b : Bool) → eqb a end ≡ b → read_step s at ≡ step_line_lem (two_numbers_lem a (k - 48) (u - 48)) (at + 6)
        go true is =
            let z : a ≡ end = eqb-true a end is in
            rw z (empty (at + 6) (tab ∷ k ∷ tab ∷ u ∷ end ∷ more) (e ∙ rw z))
        go false is =
            let z : line_end_lem s at ≡ At (at + 5) = rw e (ends_two at a k u more (eqb-false a end is) k-digit u-digit) in
            let n : at + 5 + 1 ≡ at + 6 = omega arith in
            line_at 5 z ∙ rw (e, parse_two a k k-digit u u-digit, n)

-- what a short line is read as
abbrev pub AsShort : List ℕ → ℕ → Short → Type 0
AsShort s at (One l k) = read_step s at ≡ step_line_lem (one_number l k.0) (at + 4)
AsShort s at (Two l k u) = read_step s at ≡ step_line_lem (two_numbers_lem l k.0 u.0) (at + 6)
AsShort s at Other = Unit

-- where six bytes are left: the tests of `short_line`, one after another
module _ (s : List ℕ) (at : ℕ) (h : 6 ≤ length s - at) where
  abbrev byte : ℕ → ℕ
  byte i = get_or s (at + i) 0

  next : (i : ℕ) → i < 6 → drop (at + i) s ≡ byte i ∷ drop (at + (i + 1)) s
  next i l =
      let z : at + i + 1 ≡ at + (i + 1) = omega arith in
      opened s (at + i) (omega arith) ∙ rw z

  four : drop at s ≡ get_or s at 0 ∷ byte 1 ∷ byte 2 ∷ byte 3 ∷ drop (at + 4) s
  four = opened s at (omega arith) ∙ rw (next 1 (omega arith), next 2 (omega arith), next 3 (omega arith))

  six : drop at s ≡ get_or s at 0 ∷ byte 1 ∷ byte 2 ∷ byte 3 ∷ byte 4 ∷ byte 5 ∷ drop (at + 6) s
  six = four ∙ rw (next 4 (omega arith), next 5 (omega arith))

  module _ (opens : (eqb (byte 1) tab && digit (byte 2)) ≡ true) where
    tabs : byte 1 ≡ tab
    tabs = eqb-true (byte 1) tab (and_left (eqb (byte 1) tab) (digit (byte 2)) opens)

    core : (48 ≤ byte 2) × (byte 2 ≤ 57)
    core = digit_says (byte 2) (and_right (eqb (byte 1) tab) (digit (byte 2)) opens)

    by_second :
        (b : Bool) →
        (eqb (byte 3) tab && digit (byte 4) && eqb (byte 5) end) ≡ b →
        AsShort s at (cond b (Two (get_or s at 0) (core_no (byte 2 - 48)) (unit_no (byte 4 - 48))) Other)
    by_second true e =
        let p = and_left (eqb (byte 3) tab && digit (byte 4)) (eqb (byte 5) end) e in
        let t : byte 3 ≡ tab = eqb-true (byte 3) tab (and_left (eqb (byte 3) tab) (digit (byte 4)) p) in
        let u = digit_says (byte 4) (and_right (eqb (byte 3) tab) (digit (byte 4)) p) in
        let n : byte 5 ≡ end = eqb-true (byte 5) end (and_right (eqb (byte 3) tab && digit (byte 4)) (eqb (byte 5) end) e) in
        reads_two s at (omega arith) (get_or s at 0) (byte 2) (drop (at + 6) s) core (byte 4) u (six ∙ rw (tabs, t, n))
    by_second false e = tt

    by_end : (b : Bool) → eqb (byte 3) end ≡ b → AsShort s at (cond b (One (get_or s at 0) (core_no (byte 2 - 48))) (short_two s at (byte 2 - 48)))
    by_end true e =
        let n : byte 3 ≡ end = eqb-true (byte 3) end e in
        reads_one s at (omega arith) (get_or s at 0) (byte 2) (drop (at + 4) s) core (four ∙ rw (tabs, n))
    by_end false e = by_second (eqb (byte 3) tab && digit (byte 4) && eqb (byte 5) end) refl

  by_first :
      (b : Bool) →
      (eqb (byte 1) tab && digit (byte 2)) ≡ b →
      AsShort s at (cond b (cond (eqb (byte 3) end) (One (get_or s at 0) (core_no (byte 2 - 48))) (short_two s at (byte 2 - 48))) Other)
  by_first true e = by_end e (eqb (byte 3) end) refl
  by_first false e = tt

pub short_reads : (s : List ℕ) (at : ℕ) → AsShort s at (short_line s at)
short_reads s at = go (ltb (length s - at) 6) refl
  where
    go : (b : Bool) → ltb (length s - at) 6 ≡ b → AsShort s at (cond b Other (short_one s at))
    go true e = tt
    go false e = by_first s at (ltb-false (length s - at) 6 e) (eqb (get_or s (at + 1) 0) tab && digit (get_or s (at + 2) 0)) refl

pub short_one_lem : (s : List ℕ) (at l : ℕ) (k : CoreNo) → short_line s at ≡ One l k → read_step s at ≡ step_line_lem (one_number l k.0) (at + 4)
short_one_lem s at l k e = subst (AsShort s at) e (short_reads s at)

pub short_two_lem : (s : List ℕ) (at l : ℕ) (k : CoreNo) (u : UnitNo) → short_line s at ≡ Two l k u → read_step s at ≡ step_line_lem (two_numbers_lem l k.0 u.0) (at + 6)
short_two_lem s at l k u e = subst (AsShort s at) e (short_reads s at)
