-- Who loses. A pair marks whichever of the two is not older, so that after all pairs a core in line is unmarked if it is older than every other
-- in line: the two ways of saying who is next agree, on every unit.
use Prim.Native.Nat.{ℕ, zero, suc, ◌≤◌, ◌<◌}
use mathlib.Core.Bool.{Bool, true, false, cond, ◌&&◌, ◌||◌, not}
use mathlib.Core.List.{List}
use mathlib.Core.Logic.{◌⊎◌, inl, inr, ◌≢◌}
use mathlib.Core.Path.{◌≡◌, refl, sym, ◌∙◌, ap, ap₂}
use native.Mathlib.Omega.{arith}
use lib.Dec.{eqb, ltb}
use lib.ListN.{get_or, set, length, length-set, length-replicate, get_or-replicate}
use lib.Seq.{get_or-set_same, get_or-set_other}
use borrow.Author.Tests.{eqb-false, eq-eqb, ne_eqb, ltb-true, ltb-false}
use Rattle.ticket.specs.Order.{compare}
use Rattle.ticket.specs.Claims.{turned}
use Rattle.ticket.specs.declared.order.Comparison.{Comparison}
use Rattle.ticket.specs.declared.order.Comparison.TheVariants.{Older, Younger, Same, Opposite}
use Rattle.ticket.proofs.Laws.{swapped}
use Rattle.parts.specs.Fold.{up_to, every, some}
use Rattle.parts.specs.Parts.{cores, core_no, register_in}
use Rattle.parts.specs.declared.kinds.LockUnit.{LockUnit}
use Rattle.parts.proofs.Along.{same_or_not, along, up_to_cong}
use Rattle.parts.proofs.Bools.{and_both, or_left, or_right, not_true_false, clash}
use Rattle.parts.proofs.Folds.{every_at, at_every, some_at, at_some, none_some, some_none}
use Rattle.settling.specs.Line.{in_line, is_older, older, oldest, chosen, next}
use Rattle.settling.specs.Pairs.{column, marked, unmarked, lost, loses, judged, all_judged, stays, unbeaten}
use Rattle.settling.specs.Claims.{ByPairs}
use Rattle.settling.specs.Best.{Nobody, Won}
use Rattle.settling.proofs.Pairing.{over_pairs_lem}

-- Marks

abbrev Whole : List Bool → Type 0
Whole l = length l ≡ cores

module _ (l : List Bool) (whole : Whole l) where
  marked_whole : (i : ℕ) → Whole (marked l i)
  marked_whole i = length-set l i true ∙ whole

  marked_lost : (i k : ℕ) → i < cores → lost (marked l i) k ≡ (lost l k || eqb k i)
  marked_lost i k h = go (same_or_not k i)
    where
      or_true : (b : Bool) → true ≡ (b || true)
      or_true true = refl
      or_true false = refl

      or_false : (b : Bool) → b ≡ (b || false)
      or_false true = refl
      or_false false = refl

      go : (k ≡ i) ⊎ (k ≢ i) → lost (marked l i) k ≡ (lost l k || eqb k i)
      go (inl e) =
          ap (λ (m : ℕ). get_or (set l i true) m false) e ∙
          get_or-set_same l i true false (rw whole h) ∙
          or_true (lost l k) ∙
          ap (λ (b : Bool). lost l k || b) (sym (eq-eqb k i e))
      go (inr d) =
          get_or-set_other l i k true false d ∙ or_false (lost l k) ∙ ap (λ (b : Bool). lost l k || b) (sym (ne_eqb k i d))

-- whether core k loses in the pair i, j
abbrev pub hit : LockUnit → ℕ → ℕ → ℕ → Bool
hit x k i j =
    (in_line (register_in x i) && in_line (register_in x j)) && ((eqb k i && not (older x i j)) || (eqb k j && not (older x j i)))

module _ (x : LockUnit) (k i j : ℕ) (hi : i < cores) (hj : j < cores) (l : List Bool) (whole : Whole l) where
  abbrev says : Comparison
  says = compare (register_in x i).ticket.0 (register_in x j).ticket.0

  loses_whole : (c : Comparison) → Whole (loses c i j l)
  loses_whole Older = marked_whole l whole j
  loses_whole Younger = marked_whole l whole i
  loses_whole Same = marked_whole (marked l i) (marked_whole l whole i) j
  loses_whole Opposite = marked_whole (marked l i) (marked_whole l whole i) j

  both_lost : lost (marked (marked l i) j) k ≡ ((lost l k || eqb k i) || eqb k j)
  both_lost = marked_lost (marked l i) (marked_whole l whole i) j k hj ∙ ap (λ (b : Bool). b || eqb k j) (marked_lost l whole i k hi)

  loses_lost :
      (c : Comparison) → lost (loses c i j l) k ≡ (lost l k || ((eqb k i && not (is_older c)) || (eqb k j && not (is_older (turned c)))))
  loses_lost Older = marked_lost l whole j k hj ∙ bools (lost l k) (eqb k i) (eqb k j)
    where
      bools : (a b d : Bool) → (a || d) ≡ (a || ((b && false) || (d && true)))
      bools true b d = refl
      bools false true true = refl
      bools false true false = refl
      bools false false true = refl
      bools false false false = refl
  loses_lost Younger = marked_lost l whole i k hi ∙ bools (lost l k) (eqb k i) (eqb k j)
    where
      bools : (a b d : Bool) → (a || b) ≡ (a || ((b && true) || (d && false)))
      bools true b d = refl
      bools false true d = refl
      bools false false true = refl
      bools false false false = refl
  loses_lost Same = both_lost ∙ bools (lost l k) (eqb k i) (eqb k j)
    where
      bools : (a b d : Bool) → ((a || b) || d) ≡ (a || ((b && true) || (d && true)))
      bools true b d = refl
      bools false true d = refl
      bools false false true = refl
      bools false false false = refl
  loses_lost Opposite = both_lost ∙ bools (lost l k) (eqb k i) (eqb k j)
    where
      bools : (a b d : Bool) → ((a || b) || d) ≡ (a || ((b && true) || (d && true)))
      bools true b d = refl
      bools false true d = refl
      bools false false true = refl
      bools false false false = refl

  judged_whole : Whole (judged x i j l)
  judged_whole = go (in_line (register_in x i) && in_line (register_in x j))
    where
      go : (b : Bool) → Whole (cond b (loses says i j l) l)
      go true = loses_whole says
      go false = whole

  judged_lost : lost (judged x i j l) k ≡ (lost l k || hit x k i j)
  judged_lost = go (in_line (register_in x i) && in_line (register_in x j))
    where
      or_none : (b : Bool) → b ≡ (b || false)
      or_none true = refl
      or_none false = refl

      go :
          (b : Bool) →
          lost (cond b (loses says i j l) l) k ≡ (lost l k || (b && ((eqb k i && not (older x i j)) || (eqb k j && not (older x j i)))))
      go true =
          loses_lost says ∙
          ap (λ (c : Comparison). lost l k || ((eqb k i && not (older x i j)) || (eqb k j && not (is_older c))))
          (sym (swapped (register_in x i).ticket.0 (register_in x j).ticket.0))
      go false = or_none (lost l k)

-- Folds that mark: v is a mark, p k what turn k adds to it

module _ {A : Type 0} (v : A → Bool) (W : A → Type 0) where
  pub marks :
      (f : ℕ → A → A) (p : ℕ → Bool) (n : ℕ) →
      ((k : ℕ) → k < n → (b : A) → W b → W (f k b) × (v (f k b) ≡ (v b || p k))) →
      (a : A) → W a →
      W (up_to f n a) × (v (up_to f n a) ≡ (v a || some p n))
  unfolding up_to
  marks f p zero turn a w = (w, none (v a))
    where
      none : (b : Bool) → b ≡ (b || false)
      none true = refl
      none false = refl
  marks f p (suc n) turn a w = step (marks f p n (λ k h. turn k (omega arith)) a w)
    where
      assoc : (a b c : Bool) → ((a || b) || c) ≡ (a || (b || c))
      assoc true b c = refl
      assoc false b c = refl

      step :
          W (up_to f n a) × (v (up_to f n a) ≡ (v a || some p n)) →
          W (f n (up_to f n a)) × (v (f n (up_to f n a)) ≡ (v a || (some p n || p n)))
      step s =
          let t = turn n (omega arith) (up_to f n a) s.0 in
          (t.0, t.1 ∙ ap (λ (b : Bool). b || p n) s.1 ∙ assoc (v a) (some p n) (p n))

-- Core k after all pairs

module _ (n : ℕ) (x : LockUnit) (few : n ≤ cores) (k : ℕ) where
  -- whether core k loses in a pair with j the later one
  abbrev pub beaten : ℕ → Bool
  beaten j = some (λ (i : ℕ). hit x k i j) j

  pub column_marks : (j : ℕ) → j < n → (l : List Bool) → Whole l → Whole (column (judged x) j l) × (lost (column (judged x) j l) k ≡ (lost l k || beaten j))
  column_marks j h l w =
      marks (λ (m : List Bool). lost m k) Whole (λ (i : ℕ). judged x i j) (λ (i : ℕ). hit x k i j) j
      (λ i g m u. (judged_whole x k i j (omega arith) (omega arith) m u, judged_lost x k i j (omega arith) (omega arith) m u))
      l w

  pub all_lost : k < cores → lost (all_judged n x) k ≡ some beaten n
  all_lost small =
      (marks (λ (l : List Bool). lost l k) Whole (column (judged x)) beaten n column_marks unmarked (length-replicate cores false)).1 ∙
      ap (λ (b : Bool). b || some beaten n) clear
    where
      clear : lost unmarked k ≡ false
      clear = get_or-replicate cores k false false (omega arith)

  -- what k must be to every other one in line
  abbrev over : ℕ → Bool
  over j = eqb j k || not (in_line (register_in x j)) || older x k j

  module _ (small : k < n) (line : in_line (register_in x k) ≡ true) where
    -- older than all: no pair marks it
    unmarked_all : every over n ≡ true → (i j : ℕ) → i < j → j < n → hit x k i j ≡ false
    unmarked_all all i j before hj = by (in_line (register_in x i)) refl (in_line (register_in x j)) refl
      where
        beats : (m : ℕ) → m < n → m ≢ k → in_line (register_in x m) ≡ true → older x k m ≡ true
        beats m h d q = simp (ne_eqb m k d, q) at (every_at over n all m h)

        first : in_line (register_in x j) ≡ true → (eqb k i && not (older x i j)) ≡ false
        first q = pick (same_or_not k i)
          where
            pick : (k ≡ i) ⊎ (k ≢ i) → (eqb k i && not (older x i j)) ≡ false
            pick (inl f) =
                let o = beats j hj (λ g. omega arith) q in
                simp (eq-eqb k i f) (ap not (ap (λ (m : ℕ). older x m j) (sym f) ∙ o))
            pick (inr d) = simp (ne_eqb k i d)

        second : in_line (register_in x i) ≡ true → (eqb k j && not (older x j i)) ≡ false
        second q = pick (same_or_not k j)
          where
            pick : (k ≡ j) ⊎ (k ≢ j) → (eqb k j && not (older x j i)) ≡ false
            pick (inl f) =
                let o = beats i (omega arith) (λ g. omega arith) q in
                simp (eq-eqb k j f) (ap not (ap (λ (m : ℕ). older x m i) (sym f) ∙ o))
            pick (inr d) = simp (ne_eqb k j d)

        by :
            (a : Bool) → in_line (register_in x i) ≡ a →
            (b : Bool) → in_line (register_in x j) ≡ b →
            ((a && b) && ((eqb k i && not (older x i j)) || (eqb k j && not (older x j i)))) ≡ false
        by true p true q = ap₂ ◌||◌ (first q) (second p)
        by true p false q = refl
        by false p b q = refl

    -- not older than one of them: their pair marks it
    marked_by : (j : ℕ) → j < n → over j ≡ false → some beaten n ≡ true
    marked_by j h e = go (ltb k j) refl (ltb j k) refl
      where
        or_left_false : (a b : Bool) → (a || b) ≡ false → a ≡ false
        or_left_false true b q = q
        or_left_false false b q = refl

        or_right_false : (a b : Bool) → (a || b) ≡ false → b ≡ false
        or_right_false true b q = absurd (clash refl q)
        or_right_false false b q = q

        rest : (eqb j k || not (in_line (register_in x j))) ≡ false
        rest = or_left_false (eqb j k || not (in_line (register_in x j))) (older x k j) e

        other : j ≢ k
        other = eqb-false j k (or_left_false (eqb j k) _ rest)

        there : in_line (register_in x j) ≡ true
        there = double (in_line (register_in x j)) (or_right_false (eqb j k) (not (in_line (register_in x j))) rest)
          where
            double : (b : Bool) → not b ≡ false → b ≡ true
            double true q = refl
            double false q = sym q

        loser : older x k j ≡ false
        loser = or_right_false (eqb j k || not (in_line (register_in x j))) (older x k j) e

        go : (b : Bool) → ltb k j ≡ b → (d : Bool) → ltb j k ≡ d → some beaten n ≡ true
        go true l d m =
            at_some beaten n j h
            (at_some (λ (i : ℕ). hit x k i j) j k (ltb-true k j l)
            (and_both (and_both line there) (or_left (eqb k j && not (older x j k)) (and_both (eq-eqb k k refl) (ap not loser)))))
        go false l true m =
            at_some beaten n k small
            (at_some (λ (i : ℕ). hit x k i k) k j (ltb-true j k m)
            (and_both (and_both there line) (or_right (eqb k j && not (older x j k)) (and_both (eq-eqb k k refl) (ap not loser)))))
        go false l false m = absurd (let a = ltb-false k j l in let b = ltb-false j k m in other (omega arith))

    agree : not (lost (all_judged n x) k) ≡ every over n
    agree = ap not (all_lost (omega arith)) ∙ go (some (λ (j : ℕ). not (over j)) n) refl
      where
        undo : (b : Bool) → not b ≡ true → b ≡ false
        undo = not_true_false

        redo : (b : Bool) → not b ≡ false → b ≡ true
        redo true q = refl
        redo false q = sym q

        go : (b : Bool) → some (λ (j : ℕ). not (over j)) n ≡ b → not (some beaten n) ≡ every over n
        go true e =
            let w = some_at (λ (j : ℕ). not (over j)) n e in
            let f = undo (over w.0) w.2 in
            ap not (marked_by w.0 w.1 f) ∙ sym (fails (every over n) (λ t. clash (every_at over n t w.0 w.1) f))
          where
            fails : (b : Bool) → (b ≡ true → ⊥) → b ≡ false
            fails true q = absurd (q refl)
            fails false q = refl
        go false e =
            let all : every over n ≡ true = at_every over n (λ j h. redo (over j) (some_none (λ (m : ℕ). not (over m)) n e j h)) in
            ap not
            (none_some beaten n (λ j hj. none_some (λ (i : ℕ). hit x k i j) j (λ i hi. unmarked_all all i j hi hj))) ∙
            sym all

  pub stays_oldest : k < n → stays x (all_judged n x) k ≡ oldest n x k
  stays_oldest small = go (in_line (register_in x k)) refl
    where
      go : (b : Bool) → in_line (register_in x k) ≡ b → (b && not (lost (all_judged n x) k)) ≡ (b && every over n)
      go true e = agree small e
      go false e = refl

-- the marks are as many as before
pub all_whole : (n : ℕ) (x : LockUnit) → n ≤ cores → Whole (all_judged n x)
all_whole n x few = along (λ (m : ℕ). Whole) (column (judged x)) unmarked (length-replicate cores false) n (λ j h l w. (column_marks n x few 0 j h l w).0)

-- a core that is not in line has no pairs
pub column_out : (x : LockUnit) (j : ℕ) (l : List Bool) → in_line (register_in x j) ≡ false → column (judged x) j l ≡ l
column_out x j l out = along (λ (m : ℕ) (a : List Bool). a ≡ l) (λ (i : ℕ). judged x i j) l refl j (λ i h a so. still i a (in_line (register_in x i)) ∙ so)
  where
    still :
        (i : ℕ) (a : List Bool) (b : Bool) →
        cond (b && in_line (register_in x j)) (loses (compare (register_in x i).ticket.0 (register_in x j).ticket.0) i j a) a ≡ a
    still i a true = ap (λ (p : Bool). cond p (loses (compare (register_in x i).ticket.0 (register_in x j).ticket.0) i j a) a) out
    still i a false = refl

pub picks : (n : ℕ) (x : LockUnit) → n ≤ cores → unbeaten n x (all_judged n x) ≡ next n x
picks n x few =
    up_to_cong (chosen x (stays x (all_judged n x))) (chosen x (oldest n x)) n Nobody
    (λ k h b. ap (λ (t : Bool). cond t (Won (core_no k) (register_in x k).ticket) b) (stays_oldest n x few k h))

pub by_pairs : ByPairs
by_pairs n x few = ap (unbeaten n x) (sym (over_pairs_lem (judged x) n unmarked)) ∙ picks n x few
