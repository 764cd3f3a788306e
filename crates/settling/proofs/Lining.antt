-- Those who stand in line. Core i, if it is one of them, has the place of how many stand before it; so a loop over the places does what a loop over all
-- cores does that passes by who is not in line.
use Prim.Native.Nat.{ℕ, zero, suc, ◌+◌, ◌≤◌, ◌<◌}
use mathlib.Core.Bool.{Bool, true, false, cond}
use mathlib.Core.List.{List}
use mathlib.Core.Logic.{◌⊎◌, inl, inr, ◌≢◌}
use mathlib.Core.Path.{◌≡◌, refl, sym, ◌∙◌, ap}
use native.Mathlib.Nat.{add-zero, not-suc-le-zero}
use native.Mathlib.Omega.{arith}
use lib.ListN.{get_or, set, length, length-set, length-replicate}
use lib.Seq.{get_or-set_same, get_or-set_other}
use Rattle.parts.specs.Fold.{up_to, one, count}
use Rattle.parts.specs.Parts.{cores, register_in}
use Rattle.parts.specs.declared.kinds.LockUnit.{LockUnit}
use Rattle.parts.proofs.Along.{same_or_not, along}
use Rattle.parts.proofs.Bools.{clash}
use Rattle.parts.proofs.Folds.{more}
use Rattle.settling.specs.Line.{in_line}
use Rattle.settling.specs.Pairs.{Line, nobody_lined, joined, lined}

module _ (p : ℕ → Bool) where
  pub count_most : (n : ℕ) → count p n ≤ n
  unfolding up_to
  count_most zero = omega arith
  count_most (suc n) = go (p n) (count_most n)
    where
      go : (b : Bool) → count p n ≤ n → count p n + one b ≤ suc n
      go true h = omega arith
      go false h = omega arith

  -- who comes first has the lower place
  pub count_less : (i n : ℕ) → i < n → p i ≡ true → count p i < count p n
  unfolding up_to
  count_less i zero h e = absurd (not-suc-le-zero h)
  count_less i (suc n) h e = go (same_or_not i n) (count_less i n)
    where
      go : (i ≡ n) ⊎ (i ≢ n) → (i < n → p i ≡ true → count p i < count p n) → count p i < count p n + one (p n)
      go (inl q) before =
          let a : count p i ≡ count p n = ap (count p) q in
          let b : one (p n) ≡ 1 = ap one (ap p (sym q) ∙ e) in
          omega arith
      go (inr d) before = let l = before (omega arith) e in omega arith

-- f is what is done for a core in line, and g the same by its place; out of line f does nothing
pub by_place :
    {A : Type 0} (f g : ℕ → A → A) (p : ℕ → Bool) (m : ℕ) (a : A) →
    ((i : ℕ) → i < m → p i ≡ true → (b : A) → g (count p i) b ≡ f i b) →
    ((i : ℕ) → i < m → p i ≡ false → (b : A) → f i b ≡ b) →
    up_to g (count p m) a ≡ up_to f m a
unfolding up_to
by_place f g p zero a same out = refl
by_place f g p (suc m) a same out = go (p m) refl (by_place f g p m a (λ i h. same i (omega arith)) (λ i h. out i (omega arith)))
  where
    go :
        (b : Bool) → p m ≡ b →
        up_to g (count p m) a ≡ up_to f m a →
        up_to g (count p m + one b) a ≡ f m (up_to f m a)
    go true e ih =
        sym
        (more g (count p m) a (up_to g (count p m) a) (f m (up_to f m a)) refl
        (ap (f m) (sym ih) ∙ sym (same m (omega arith) e (up_to g (count p m) a))))
    go false e ih = ap (λ (k : ℕ). up_to g k a) (add-zero (count p m)) ∙ ih ∙ sym (out m (omega arith) e (up_to f m a))

module _ (x : LockUnit) where
  abbrev pub stood : ℕ → Bool
  stood k = in_line (register_in x k)

  abbrev pub shown : ℕ → ℕ
  shown k = (register_in x k).ticket.0

  abbrev turn : ℕ → Line → Line
  turn k w = cond (stood k) (joined w k (shown k)) w

  -- those of the first m
  pub record Lined (m : ℕ) (w : Line) : Type 0 where
    pub number : w.count ≡ count stood m
    pub long : length w.who ≡ cores
    pub wide : length w.tickets ≡ cores
    pub place : (i : ℕ) → i < m → stood i ≡ true → (get_or w.who (count stood i) 0 ≡ i) × (get_or w.tickets (count stood i) 0 ≡ shown i)

  pub lined_is : (n : ℕ) → n ≤ cores → Lined n (lined n x)
  unfolding up_to
  lined_is n few = along Lined turn nobody_lined start n (λ k h w s. go k (omega arith) w s (stood k) refl)
    where
      start : Lined 0 nobody_lined
      start =
          record {
            number = refl;
            long = length-replicate {A = ℕ} cores 0;
            wide = length-replicate {A = ℕ} cores 0;
            place = λ i h e. absurd (not-suc-le-zero h);
          }

      go : (k : ℕ) → k < cores → (w : Line) → Lined k w → (b : Bool) → stood k ≡ b → Lined (suc k) (cond b (joined w k (shown k)) w)
      go k h w s true e =
          record {
            number = (let o : one (stood k) ≡ 1 = ap one e in let q = s.number in omega arith);
            long = length-set w.who w.count k ∙ s.long;
            wide = length-set w.tickets w.count (shown k) ∙ s.wide;
            place = λ i l q. placed i l q (same_or_not i k);
          }
        where
          room : w.count < cores
          room = (let a = s.number in let c = count_most stood k in omega arith)

          here : w.count < length w.who
          here = rw s.long room

          -- what stands in a list at the place of core i, if that of core k is written
          at :
              (l : List ℕ) (v i u : ℕ) →
              w.count < length l →
              i < suc k →
              stood i ≡ true →
              (i ≡ k → u ≡ v) →
              (i < k → get_or l (count stood i) 0 ≡ u) →
              (i ≡ k) ⊎ (i ≢ k) →
              get_or (set l w.count v) (count stood i) 0 ≡ u
          at l v i u fits near q new old (inl f) =
              ap (λ (a : ℕ). get_or (set l w.count v) a 0) (ap (count stood) f ∙ sym s.number) ∙ get_or-set_same l w.count v 0 fits ∙ sym (new f)
          at l v i u fits near q new old (inr d) =
              let less = count_less stood i k (omega arith) q in
              let a = s.number in
              get_or-set_other l w.count (count stood i) v 0 (λ z. omega arith) ∙ old (omega arith)

          placed :
              (i : ℕ) → i < suc k → stood i ≡ true → (i ≡ k) ⊎ (i ≢ k) →
              (get_or (set w.who w.count k) (count stood i) 0 ≡ i) × (get_or (set w.tickets w.count (shown k)) (count stood i) 0 ≡ shown i)
          placed i l q f = (
            at w.who k i i here l q (λ g. g) (λ g. (s.place i g q).0) f,
            at w.tickets (shown k) i (shown i) (rw s.wide room) l q (λ g. ap shown g) (λ g. (s.place i g q).1) f,
          )
      go k h w s false e =
          record {
            number = (let o : one (stood k) ≡ 0 = ap one e in let q = s.number in omega arith);
            long = s.long;
            wide = s.wide;
            place = λ i l q. before i l q (same_or_not i k);
          }
        where
          before :
              (i : ℕ) → i < suc k → stood i ≡ true → (i ≡ k) ⊎ (i ≢ k) →
              (get_or w.who (count stood i) 0 ≡ i) × (get_or w.tickets (count stood i) 0 ≡ shown i)
          before i l q (inl f) = absurd (clash (ap stood (sym f) ∙ q) e)
          before i l q (inr d) = s.place i (omega arith) q

  -- there are no more places than cores
  pub few_lined : (n c : ℕ) → n ≤ cores → c ≡ (lined n x).count → c ≤ n
  few_lined n c few e = let m = count_most stood n in let q = (lined_is n few).number in omega arith

  -- one more core
  pub lined_more : (n : ℕ) (w now : Line) → w ≡ lined n x → now ≡ turn n w → now ≡ lined (n + 1) x
  lined_more n w now so is = more turn n nobody_lined w now so is
