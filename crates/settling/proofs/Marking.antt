-- Marks by place in line. The core at a place has there the mark that all pairs up to now give it: a core that comes last in line is compared with those
-- before it, which adds to the mark of each whether it loses to the new one, and gives the new one whether it loses to any of them.
use Prim.Native.Nat.{ℕ, zero, suc, ◌+◌, ◌≤◌, ◌<◌}
use mathlib.Core.Bool.{Bool, true, false, cond, ◌&&◌, ◌||◌, not}
use mathlib.Core.List.{List}
use mathlib.Core.Logic.{◌⊎◌, inl, inr, ◌≢◌}
use mathlib.Core.Path.{◌≡◌, refl, sym, ◌∙◌, ap, ap₂}
use native.Mathlib.Nat.{not-suc-le-zero}
use native.Mathlib.Omega.{arith}
use lib.Dec.{eqb, ltb}
use lib.ListN.{get_or, set, length, length-set, length-replicate}
use lib.Seq.{get_or-set_same, get_or-set_other}
use borrow.Author.Tests.{eqb-true, eqb-false, eq-eqb, ne_eqb, ltb-true, ltb-false, lt-ltb, le-ltb}
use Rattle.ticket.specs.Kinds.{ticket}
use Rattle.ticket.specs.Order.{compare}
use Rattle.ticket.specs.Claims.{turned}
use Rattle.ticket.specs.declared.order.Comparison.{Comparison}
use Rattle.ticket.specs.declared.order.Comparison.TheVariants.{Older, Younger, Same, Opposite}
use Rattle.ticket.proofs.Laws.{swapped}
use Rattle.parts.specs.Fold.{up_to, some, count}
use Rattle.parts.specs.Parts.{cores, core_no, register_in}
use Rattle.parts.specs.declared.kinds.LockUnit.{LockUnit}
use Rattle.parts.proofs.Along.{same_or_not, up_to_cong}
use Rattle.parts.proofs.Bools.{clash}
use Rattle.parts.proofs.Folds.{more, none_some}
use Rattle.settling.specs.Line.{is_older, older, chosen}
use Rattle.settling.specs.Pairs.{column, is_younger, unmarked, lost, judged, all_judged, stays, unbeaten, Line, lined, overtaken, overtakes, met, kept}
use Rattle.settling.specs.Best.{Best, Nobody, Won}
use Rattle.settling.proofs.Beaten.{marks, hit, beaten, column_marks, all_lost, all_whole, column_out}
use Rattle.settling.proofs.Lining.{by_place, count_less, stood, shown, lined_is}

or_none : (b : Bool) → (b || false) ≡ b
or_none true = refl
or_none false = refl

-- of a test that holds at a alone, some is whether a is among them
some_one : (p : ℕ → Bool) (a n : ℕ) → some (λ (k : ℕ). eqb a k && p k) n ≡ (ltb a n && p a)
unfolding up_to
some_one p a zero = ap (λ (b : Bool). b && p a) (sym (le-ltb a 0 (omega arith)))
some_one p a (suc n) = go (eqb a n) refl (some_one p a n)
  where
    go :
        (b : Bool) → eqb a n ≡ b →
        some (λ (k : ℕ). eqb a k && p k) n ≡ (ltb a n && p a) →
        (some (λ (k : ℕ). eqb a k && p k) n || (b && p n)) ≡ (ltb a (suc n) && p a)
    go true e ih =
        let q = eqb-true a n e in
        ap (λ (b : Bool). b || p n) (ih ∙ ap (λ (b : Bool). b && p a) (le-ltb a n (omega arith))) ∙
        ap p (sym q) ∙
        ap (λ (b : Bool). b && p a) (sym (lt-ltb a (suc n) (omega arith)))
    go false e ih =
        or_none (some (λ (k : ℕ). eqb a k && p k) n) ∙ ih ∙ ap (λ (b : Bool). b && p a) (sym (later (ltb a n) refl))
      where
        later : (b : Bool) → ltb a n ≡ b → ltb a (suc n) ≡ ltb a n
        later true l = let h = ltb-true a n l in lt-ltb a (suc n) (omega arith) ∙ sym l
        later false l = let h = ltb-false a n l in let d = eqb-false a n e in le-ltb a (suc n) (omega arith) ∙ sym l

-- each place is written once
placed_marks :
    (g : ℕ → Bool) (c a : ℕ) (m : List Bool) →
    c ≤ length m →
    let z = up_to (λ (k : ℕ) (l : List Bool). set l k (get_or l k false || g k)) c m in
    (length z ≡ length m) × (get_or z a false ≡ (get_or m a false || (ltb a c && g a)))
placed_marks g c a m few =
    let s =
    marks (λ (l : List Bool). get_or l a false) (λ (l : List Bool). length l ≡ length m) (λ (k : ℕ) (l : List Bool). set l k (get_or l k false || g k))
    (λ (k : ℕ). eqb a k && g k) c
    (λ k h b w. (length-set b k (get_or b k false || g k) ∙ w, turn k b (omega (arith, w)) (same_or_not a k))) m refl
    in
    (s.0, s.1 ∙ ap (λ (b : Bool). get_or m a false || b) (some_one g a c))
  where
    turn : (k : ℕ) (b : List Bool) → k < length b → (a ≡ k) ⊎ (a ≢ k) → get_or (set b k (get_or b k false || g k)) a false ≡ (get_or b a false || (eqb a k && g k))
    turn k b h (inl e) =
        ap (λ (i : ℕ). get_or (set b k (get_or b k false || g k)) i false) e ∙
        get_or-set_same b k (get_or b k false || g k) false h ∙
        ap₂ (λ (i : ℕ) (t : Bool). get_or b i false || (t && g k)) (sym e) (sym (eq-eqb a k e))
    turn k b h (inr d) =
        get_or-set_other b k a (get_or b k false || g k) false d ∙
        sym (or_none (get_or b a false)) ∙
        ap (λ (t : Bool). get_or b a false || (t && g k)) (sym (ne_eqb a k d))

younger_turned : (a b : ℕ) → is_younger (compare a b) ≡ is_older (compare b a)
younger_turned a b = by (compare a b) ∙ ap is_older (sym (swapped a b))
  where
    by : (c : Comparison) → is_younger c ≡ is_older (turned c)
    by Older = refl
    by Younger = refl
    by Same = refl
    by Opposite = refl

module _ (x : LockUnit) where
  -- what the pairs of core j add, to core i before it and to core j itself
  module _ (j : ℕ) (h : j < cores) (line : stood x j ≡ true) where
    beaten_before : (i : ℕ) → i < j → stood x i ≡ true → beaten cores x (omega arith) i j ≡ not (older x i j)
    beaten_before i before e =
        up_to_cong (λ (k : ℕ) (b : Bool). b || hit x i k j) (λ (k : ℕ) (b : Bool). b || (eqb i k && (stood x k && not (older x k j)))) j false
        (λ k l b. ap (λ (t : Bool). b || t) (same k)) ∙
        some_one (λ (k : ℕ). stood x k && not (older x k j)) i j ∙
        ap₂ (λ (p q : Bool). p && (q && not (older x i j))) (lt-ltb i j before) e
      where
        bools : (s e o : Bool) (q : Bool) → ((s && true) && ((e && o) || (false && q))) ≡ (e && (s && o))
        bools true true true q = refl
        bools true true false q = refl
        bools true false o q = refl
        bools false true o q = refl
        bools false false o q = refl

        same : (k : ℕ) → hit x i k j ≡ (eqb i k && (stood x k && not (older x k j)))
        same k =
            ap₂ (λ (t d : Bool). (stood x k && t) && ((eqb i k && not (older x k j)) || (d && not (older x j k)))) line (ne_eqb i j (λ d. omega arith)) ∙
            bools (stood x k) (eqb i k) (not (older x k j)) (not (older x j k))

    beaten_last : beaten cores x (omega arith) j j ≡ some (λ (i : ℕ). stood x i && not (older x j i)) j
    beaten_last =
        up_to_cong (λ (k : ℕ) (b : Bool). b || hit x j k j) (λ (k : ℕ) (b : Bool). b || (stood x k && not (older x j k))) j false
        (λ k l b. ap (λ (t : Bool). b || t) (same k l))
      where
        bools : (s o q : Bool) → ((s && true) && ((false && q) || (true && o))) ≡ (s && o)
        bools true o q = refl
        bools false o q = refl

        same : (k : ℕ) → k < j → hit x j k j ≡ (stood x k && not (older x j k))
        same k l =
            ap (λ (t : Bool). (stood x k && t) && ((eqb j k && not (older x k j)) || (eqb j j && not (older x j k)))) line ∙
            ap₂ (λ (e d : Bool). (stood x k && true) && ((e && not (older x k j)) || (d && not (older x j k)))) (ne_eqb j k (λ d. omega arith)) (eq-eqb j j refl) ∙
            bools (stood x k) (not (older x j k)) (not (older x k j))

    -- core j has no mark before its own pairs
    unbeaten_yet : lost (all_judged j x) j ≡ false
    unbeaten_yet =
        all_lost j x (omega arith) j h ∙
        none_some (beaten j x (omega arith) j) j (λ m l. none_some (λ (i : ℕ). hit x j i m) m (λ i g. out i m g l))
      where
        never : (a : Bool) → (a && (false || false)) ≡ false
        never true = refl
        never false = refl

        out : (i m : ℕ) → i < m → m < j → hit x j i m ≡ false
        out i m g l =
            ap₂ (λ (e d : Bool). (stood x i && stood x m) && ((e && not (older x i m)) || (d && not (older x m i))))
            (ne_eqb j i (λ d. omega arith)) (ne_eqb j m (λ d. omega arith)) ∙
            never (stood x i && stood x m)

  -- the marks by place of the first j
  pub record Marked (j : ℕ) (m : List Bool) : Type 0 where
    pub whole : length m ≡ cores
    pub marks_so : (i : ℕ) → i < j → stood x i ≡ true → get_or m (count (stood x) i) false ≡ lost (all_judged j x) i

  pub marked_none : Marked 0 unmarked
  marked_none = record { whole = length-replicate cores false; marks_so = λ i l e. absurd (not-suc-le-zero l) }

  module _ (j c : ℕ) (who tickets : List ℕ) (m : List Bool) (h : j < cores) (lines : record { count = c; who = who; tickets = tickets } ≡ lined j x) (so : Marked j m) where
    number : c ≡ count (stood x) j
    number = ap (λ (w : Line). w.count) lines ∙ (lined_is x j (omega arith)).number

    ticket_at : (i : ℕ) → i < j → stood x i ≡ true → get_or tickets (count (stood x) i) 0 ≡ shown x i
    ticket_at i l e = ap (λ (w : Line). get_or w.tickets (count (stood x) i) 0) lines ∙ ((lined_is x j (omega arith)).place i l e).1

    more_lost : (k : ℕ) → lost (all_judged (j + 1) x) k ≡ (lost (all_judged j x) k || beaten cores x (omega arith) k j)
    more_lost k =
        ap (λ (l : List Bool). lost l k)
        (sym (more (column (judged x)) j unmarked (all_judged j x) (column (judged x) j (all_judged j x)) refl refl)) ∙
        (column_marks cores x (omega arith) k j h (all_judged j x) (all_whole j x (omega arith))).1

    -- a core that stands in line
    module _ (line : stood x j ≡ true) where
      own : some (overtakes tickets (shown x j)) c ≡ some (λ (i : ℕ). stood x i && not (older x j i)) j
      own =
          ap (some (overtakes tickets (shown x j))) number ∙
          by_place (λ (i : ℕ) (b : Bool). b || (stood x i && not (older x j i))) (λ (a : ℕ) (b : Bool). b || overtakes tickets (shown x j) a) (stood x) j false
          (λ i l e b.
          ap (λ (t : ℕ). b || not (is_younger (compare t (shown x j)))) (ticket_at i l e) ∙
          ap (λ (t : Bool). b || not t) (younger_turned (shown x i) (shown x j)) ∙
          ap (λ (t : Bool). b || (t && not (older x j i))) (sym e))
          (λ i l e b. ap (λ (t : Bool). b || (t && not (older x j i))) e ∙ or_none b)

      pub marked_on :
          (last : Bool) (m1 m2 : List Bool) →
          last ≡ some (overtakes tickets (shown x j)) c →
          m1 ≡ up_to (met tickets (shown x j)) c m →
          m2 ≡ set m1 c last →
          c < cores →
          Marked (j + 1) m2
      marked_on last m1 m2 el e1 e2 room =
          record {
            whole = ap length e2 ∙ length-set m1 c last ∙ long;
            marks_so = λ i l e. at i l e (same_or_not i j);
          }
        where
          long : length m1 ≡ cores
          long = ap length e1 ∙ (placed_marks (overtaken tickets (shown x j)) c 0 m (omega (arith, so.whole))).0 ∙ so.whole

          at : (i : ℕ) → i < j + 1 → stood x i ≡ true → (i ≡ j) ⊎ (i ≢ j) → get_or m2 (count (stood x) i) false ≡ lost (all_judged (j + 1) x) i
          at i l e (inl q) =
              ap (λ (k : ℕ). get_or m2 (count (stood x) k) false) q ∙
              ap₂ (λ (z : List Bool) (a : ℕ). get_or z a false) e2 (sym number) ∙
              get_or-set_same m1 c last false (omega (arith, long)) ∙
              el ∙
              own ∙
              sym (beaten_last j h line) ∙
              ap (λ (b : Bool). b || beaten cores x (omega arith) j j) (sym (unbeaten_yet j h line)) ∙
              sym (more_lost j) ∙
              ap (lost (all_judged (j + 1) x)) (sym q)
          at i l e (inr d) =
              let less : i < j = omega arith in
              let a = count (stood x) i in
              let low = count_less (stood x) i j less e in
              ap (λ (z : List Bool). get_or z a false) e2 ∙
              get_or-set_other m1 c a last false (λ z. omega (arith, number)) ∙
              ap (λ (z : List Bool). get_or z a false) e1 ∙
              (placed_marks (overtaken tickets (shown x j)) c a m (omega (arith, so.whole))).1 ∙
              ap (λ (b : Bool). get_or m a false || (b && overtaken tickets (shown x j) a)) (lt-ltb a c (omega (arith, number))) ∙
              ap₂ (λ (b : Bool) (t : ℕ). b || not (is_older (compare t (shown x j)))) (so.marks_so i less e) (ticket_at i less e) ∙
              ap (λ (b : Bool). lost (all_judged j x) i || b) (sym (beaten_before j h line i less e)) ∙
              sym (more_lost i)

    pub marked_by : (m2 : List Bool) → stood x j ≡ false → m2 ≡ m → Marked (j + 1) m2
    marked_by m2 out e2 =
        record {
          whole = ap length e2 ∙ so.whole;
          marks_so = λ i l e. at i l e (same_or_not i j);
        }
      where
        at : (i : ℕ) → i < j + 1 → stood x i ≡ true → (i ≡ j) ⊎ (i ≢ j) → get_or m2 (count (stood x) i) false ≡ lost (all_judged (j + 1) x) i
        at i l e (inl q) = absurd (clash (ap (stood x) (sym q) ∙ e) out)
        at i l e (inr d) =
            ap (λ (z : List Bool). get_or z (count (stood x) i) false) e2 ∙
            so.marks_so i (omega arith) e ∙
            ap (λ (z : List Bool). lost z i)
            (sym (column_out x j (all_judged j x) out) ∙ more (column (judged x)) j unmarked (all_judged j x) (column (judged x) j (all_judged j x)) refl refl)

  -- the one in line that did not lose
  pub picked :
      (n c : ℕ) (who tickets : List ℕ) (m : List Bool) →
      n ≤ cores →
      record { count = c; who = who; tickets = tickets } ≡ lined n x →
      Marked n m →
      up_to (kept who tickets m) c Nobody ≡ unbeaten n x (all_judged n x)
  picked n c who tickets m few lines so =
      ap (λ (k : ℕ). up_to (kept who tickets m) k Nobody) (ap (λ (w : Line). w.count) lines ∙ (lined_is x n few).number) ∙
      by_place (chosen x (stays x (all_judged n x))) (kept who tickets m) (stood x) n Nobody same
      (λ i l e b. ap (λ (z : Bool). cond (z && not (lost (all_judged n x) i)) (Won (core_no i) (register_in x i).ticket) b) e)
    where
      turned_cond : (b : Bool) (best won : Best) → cond b best won ≡ cond (not b) won best
      turned_cond true best won = refl
      turned_cond false best won = refl

      same : (i : ℕ) → i < n → stood x i ≡ true → (b : Best) → kept who tickets m (count (stood x) i) b ≡ chosen x (stays x (all_judged n x)) i b
      same i l e b =
          let a = count (stood x) i in
          let p = (lined_is x n few).place i l e in
          ap (λ (t : Bool). cond t b (Won (core_no (get_or who a 0)) (ticket (get_or tickets a 0)))) (so.marks_so i l e) ∙
          ap₂ (λ (k t : ℕ). cond (lost (all_judged n x) i) b (Won (core_no k) (ticket t))) (ap (λ (w : Line). get_or w.who a 0) lines ∙ p.0)
          (ap (λ (w : Line). get_or w.tickets a 0) lines ∙ p.1) ∙
          turned_cond (lost (all_judged n x) i) b (Won (core_no i) (register_in x i).ticket) ∙
          ap (λ (z : Bool). cond (z && not (lost (all_judged n x) i)) (Won (core_no i) (register_in x i).ticket) b) (sym e)
