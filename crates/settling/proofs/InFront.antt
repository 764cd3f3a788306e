-- Those away in front, found at once. Whoever is next after dropping is not away, and stands first among those who are not away, all of whom
-- stay; and it is that one alone (`next_after`). Each that was dropped was older than all in line then, so than that one; whoever is older
-- than that one cannot have stayed. So the dropped are those who are away and older (`in_front`).
use Prim.Native.Nat.{ℕ, suc, ◌+◌, ◌≤◌, ◌<◌}
use mathlib.Core.Bool.{Bool, true, false, cond, ◌&&◌, not}
use mathlib.Core.List.{List, [], ◌∷◌}
use mathlib.Core.Logic.{◌⊎◌, inl, inr, ⊎_elim, ◌≢◌}
use mathlib.Core.Path.{◌≡◌, refl, sym, ◌∙◌, ap, ap₂, subst}
use native.Mathlib.Nat.{not-suc-le-zero}
use native.Mathlib.Omega.{arith}
use lib.Dec.{eqb}
use lib.ListN.{get_or, set, length, length-set}
use lib.Seq.{get_or-set_other, set-get_or}
use Rattle.ticket.specs.Order.{compare, Window}
use Rattle.ticket.specs.Claims.{turned}
use Rattle.ticket.specs.declared.kinds.Ticket.{Ticket}
use Rattle.ticket.specs.declared.order.Comparison.TheVariants.{Older}
use Rattle.ticket.proofs.Laws.{swapped}
use Rattle.parts.specs.State.{is_away}
use Rattle.parts.specs.Parts.{blank, idle, dropped, register_in, showing}
use Rattle.parts.specs.declared.kinds.Core.{Core}
use Rattle.parts.specs.declared.kinds.LockUnit.{LockUnit}
use Rattle.parts.specs.declared.kinds.Register.{Register}
use Rattle.parts.proofs.Along.{same_or_not, along}
use Rattle.parts.proofs.Folds.{none as fold-none, more as fold_more}
use Rattle.parts.proofs.Bools.{and_left, and_right, and_both, clash}
use Rattle.settling.specs.Line.{in_line, is_older, next}
use Rattle.settling.specs.Shown.{shown_as, shows_next_lem}
use Rattle.settling.specs.Dropping.{dropping, away_as, drop_one, drop_away, showing_next}
use Rattle.settling.specs.InFront.{InOrder, changed_to, with_registers, away_at, unless_away, present, before, goes, goes_at, dropped_before}
use Rattle.settling.specs.Best.{Best, Nobody, Won}
use Rattle.settling.specs.declared.dropping.Dropping.{Dropping}
use Rattle.settling.proofs.Picking.{is_older_lem, next_won, next_oldest, next_over, next_nobody, nobody_next}
use Rattle.settling.proofs.NextInLine.{held_flags}
use Rattle.settling.proofs.DroppedAway.{core_in, lined, default_stays, away_there, gone_register, gone_core, Goes, drops_keep, none_left, drop_registers_long, drop_cores_long, Stays, Dropped, drop_core, here_stays, drop_flags}

-- lists that are as long, and read the same
same_lists : {A : Type 0} (d : A) (l m : List A) → length l ≡ length m → ((j : ℕ) → get_or l j d ≡ get_or m j d) → l ≡ m
same_lists d [] [] e p = refl
same_lists d [] (b ∷ m) e p = absurd (omega (arith, e))
same_lists d (a ∷ l) [] e p = absurd (omega (arith, e))
same_lists d (a ∷ l) (b ∷ m) e p = ap₂ ◌∷◌ (p 0) (same_lists d l m (omega (arith, e)) (λ j. p (suc j)))

-- A list that is changed where p holds

module _ {A : Type 0} (d : A) (p : ℕ → Bool) (f : ℕ → A) (l : List A) where
  -- what stands at j: f's, or what stood there
  abbrev At : ℕ → ℕ → List A → Type 0
  At j m q = ((j < m) × (p j ≡ true) × (get_or q j d ≡ f j)) ⊎ ((j < m → p j ≡ false) × (get_or q j d ≡ get_or l j d))

  pub changed_at :
      ((q : List A) (k : ℕ) → p k ≡ true → get_or q k d ≡ get_or l k d → get_or (set q k (f k)) k d ≡ f k) →
      (m j : ℕ) → At j m (changed_to p f m l)
  changed_at lands m j =
      along (At j) (λ (k : ℕ) (q : List A). cond (p k) (set q k (f k)) q) l (inr (λ h. absurd (not-suc-le-zero h), refl)) m
      (λ k h q s. turn k q (same_or_not j k) s (p k) refl)
    where
      turn : (k : ℕ) (q : List A) → (j ≡ k) ⊎ (j ≢ k) → At j k q → (b : Bool) → p k ≡ b → At j (suc k) (cond b (set q k (f k)) q)
      turn k q (inl e) (inl s) b w = absurd (omega (arith, s.0, e))
      turn k q (inl e) (inr s) true w =
          inl (
            omega (arith, e),
            ap p e ∙ w,
            ap (λ (i : ℕ). get_or (set q k (f k)) i d) e ∙
                lands q k w (ap (λ (i : ℕ). get_or q i d) (sym e) ∙ s.1 ∙ ap (λ (i : ℕ). get_or l i d) e) ∙
                ap f (sym e),
          )
      turn k q (inl e) (inr s) false w = inr (λ h. ap p e ∙ w, s.1)
      turn k q (inr o) (inl s) true w = inl (omega (arith, s.0), s.1, get_or-set_other q k j (f k) d o ∙ s.2)
      turn k q (inr o) (inl s) false w = inl (omega (arith, s.0), s.1, s.2)
      turn k q (inr o) (inr s) true w = inr (λ h. s.0 (omega arith), get_or-set_other q k j (f k) d o ∙ s.1)
      turn k q (inr o) (inr s) false w = inr (λ h. s.0 (omega arith), s.1)

  pub changed_long : (m : ℕ) → length (changed_to p f m l) ≡ length l
  changed_long m =
      along (λ (k : ℕ) (q : List A). length q ≡ length l) (λ (k : ℕ) (q : List A). cond (p k) (set q k (f k)) q) l refl m (λ k h q e. turn k q e (p k))
    where
      turn : (k : ℕ) (q : List A) → length q ≡ length l → (b : Bool) → length (cond b (set q k (f k)) q) ≡ length l
      turn k q e true = length-set q k (f k) ∙ e
      turn k q e false = e

-- of two tickets not each is older
asymmetric : (a b : ℕ) → compare a b ≡ Older → compare b a ≡ Older → ⊥
asymmetric a b e f = clash (ap is_older f) (ap is_older (swapped a b ∙ ap turned e))

not_lined_blank : (r : Register) → r ≡ blank → in_line r ≡ true → ⊥
not_lined_blank r e l = clash l (ap in_line e)

module _ (n : ℕ) (x : LockUnit) (cs : List Core) (order : InOrder n x) where
  abbrev d : Dropping
  d = dropping x cs

  abbrev e : Dropping
  e = drop_away n x cs

  abbrev y : LockUnit
  y = present n x cs

  -- Who is first of those who are not away

  here : (j : ℕ) → j < n → ((away_at cs j ≡ true) × (register_in y j ≡ blank)) ⊎ ((away_at cs j ≡ false) × (register_in y j ≡ register_in x j))
  here j h =
      ⊎_elim (λ s. inl (s.1, s.2)) (λ s. inr (s.0 h, s.1))
      (changed_at blank (away_at cs) (λ (k : ℕ). blank) x.registers (λ q k w g. default_stays q k blank) n j)

  lined_here : (j : ℕ) → j < n → in_line (register_in y j) ≡ true → (away_at cs j ≡ false) × (register_in y j ≡ register_in x j)
  lined_here j h l = ⊎_elim (λ s. absurd (not_lined_blank (register_in y j) s.1 l)) (λ s. s) (here j h)

  -- who is in line after dropping stood there, and stayed
  lined_after : (j : ℕ) → lined e j ≡ true → Stays n n d j e
  lined_after j l = ⊎_elim (λ s. s) (λ g. absurd (not_lined_blank (register_in e.unit j) g.register l)) (drop_core n n d j)

  -- so after dropping nobody is next only where nobody is in line
  nobody_after : next n e.unit ≡ Nobody → (k : ℕ) → k < n → lined e k ≡ false
  nobody_after =
      nobody_next n e.unit order.counter
      (λ j h l. let q = (lined_after j l).register in subst (λ (r : Register). Window order.counter r.ticket.0) (sym q) (order.recent j h (sym (ap in_line q) ∙ l)))
      (λ i j h h' o l l' s.
      let q = (lined_after i l).register in
      let q' = (lined_after j l').register in
      order.apart i j h h' o (sym (ap in_line q) ∙ l) (sym (ap in_line q') ∙ l') (sym (ap₂ (λ (r r' : Register). compare r.ticket.0 r'.ticket.0) q q') ∙ s))

  -- whoever is not away stays in line
  stays_lined : (j : ℕ) → j < n → in_line (register_in y j) ≡ true → (register_in e.unit j ≡ register_in y j) × (lined e j ≡ true)
  stays_lined j h l =
      let s = lined_here j h l in
      let q = (here_stays n n d j s.0).register ∙ sym s.1 in
      (q, ap in_line q ∙ l)

  pub next_after : next n e.unit ≡ next n y
  next_after = go (next n e.unit) refl
    where
      none : next n e.unit ≡ Nobody → (j : ℕ) → j < n → (b : Bool) → in_line (register_in y j) ≡ b → b ≡ false
      none q j h true l = absurd (clash (stays_lined j h l).1 (nobody_after q j h))
      none q j h false l = refl

      go : (b : Best) → next n e.unit ≡ b → b ≡ next n y
      go Nobody q = sym (next_nobody n y (λ j h. none q j h (in_line (register_in y j)) refl))
      go (Won k t) q =
          let w = next_won n e.unit k t q in
          let s = lined_after k.0 w.0 in
          let present_there : away_at cs k.0 ≡ false = sym (ap (λ (c : Core). is_away c.state) s.core) ∙ sym (ap (away_as e.cores) q) ∙ none_left n x cs in
          let same : register_in y k.0 ≡ register_in e.unit k.0 =
          ⊎_elim (λ a. absurd (clash a.0 present_there)) (λ a. a.1 ∙ sym s.register) (here k.0 w.2)
          in
          sym
          (next_over n y k t w.2 (ap in_line same ∙ w.0) (ap (λ (r : Register). r.ticket) same ∙ w.1)
          (λ j h o l.
          let a = stays_lined j h l in
          ap (λ (r : Register). compare t.0 r.ticket.0) (sym a.0) ∙ next_oldest n e.unit k t q j h o a.1))

  -- Who is dropped

  -- w stays, and whoever is dropped is older
  module _ (w j : ℕ) (small : w < n) (stood : in_line (register_in x w) ≡ true) (there : away_at cs w ≡ false) where
    abbrev Older_then : Type 0
    Older_then = compare (register_in x j).ticket.0 (register_in x w).ticket.0 ≡ Older

    abbrev Keeps : Dropping → Type 0
    Keeps g = Stays n n d w g × (Stays n n d j g ⊎ Older_then)

    dropped_older : Stays n n d j e ⊎ Older_then
    dropped_older = all.1
      where
        on : (g : Dropping) (k : ℕ) → Keeps g → Goes n g k → Keeps (drop_one g k)
        on g k (s, q) goes-now = (record { register = gone_register g k w off ∙ s.register; core = gone_core g k w off ∙ s.core }, next_one q (same_or_not j k))
          where
            off : w ≢ k
            off o = clash (ap (λ (i : ℕ). is_away (core_in g i).state) o ∙ goes-now.away) (ap (λ (c : Core). is_away c.state) s.core ∙ there)

            next_one : Stays n n d j g ⊎ Older_then → (j ≡ k) ⊎ (j ≢ k) → Stays n n d j (drop_one g k) ⊎ Older_then
            next_one (inr o) r = inr o
            next_one (inl a) (inr o) = inl (record { register = gone_register g k j o ∙ a.register; core = gone_core g k j o ∙ a.core })
            next_one (inl a) (inl o) =
                inr
                (ap₂ (λ (r r' : Register). compare r.ticket.0 r'.ticket.0) (sym a.register ∙ ap (register_in g.unit) o) (sym s.register) ∙
                goes-now.over w small off (ap in_line s.register ∙ stood))

        all : Keeps e
        all = drops_keep n Keeps on n d (record { register = refl; core = refl }, inl (record { register = refl; core = refl }))

  abbrev first : Best
  first = next n y

  dropped_goes : (j : ℕ) → Dropped n n d j e → goes_at first x cs j ≡ true
  dropped_goes j g = and_both (and_both g.line g.away) (by first refl)
    where
      by : (b : Best) → next n y ≡ b → before b (register_in x j).ticket ≡ true
      by Nobody q = refl
      by (Won k t) q =
          let w = next_won n y k t q in
          let s = lined_here k.0 w.2 w.0 in
          ⊎_elim
          (λ a. absurd (not_lined_blank (register_in x j) (sym a.register ∙ g.register) g.line))
          (λ o. ap is_older (ap (λ (r : Ticket). compare (register_in x j).ticket.0 r.0) (sym w.1 ∙ ap (λ (r : Register). r.ticket) s.1) ∙ o))
          (dropped_older k.0 j w.2 (sym (ap in_line s.1) ∙ w.0) s.0)

  stays_not : (j : ℕ) → j < n → Stays n n d j e → goes_at first x cs j ≡ false
  stays_not j h s = go (goes_at first x cs j) refl
    where
      older_stays : in_line (register_in x j) ≡ true → away_at cs j ≡ true → (b : Best) → next n y ≡ b → before b (register_in x j).ticket ≡ true → ⊥
      older_stays l a Nobody q o = clash (ap in_line s.register ∙ l) (nobody_after (next_after ∙ q) j h)
      older_stays l a (Won k t) q o =
          let w = next_won n y k t q in
          let off : j ≢ k.0 = λ i. clash (sym (ap (away_at cs) i) ∙ a) (lined_here k.0 w.2 w.0).0 in
          asymmetric t.0 (register_in x j).ticket.0
          (ap (λ (r : Register). compare t.0 r.ticket.0) (sym s.register) ∙ next_oldest n e.unit k t (next_after ∙ q) j h off (ap in_line s.register ∙ l))
          (is_older_lem (compare (register_in x j).ticket.0 t.0) o)

      go : (b : Bool) → goes_at first x cs j ≡ b → b ≡ false
      go true g =
          let la = and_left (in_line (register_in x j) && away_at cs j) _ g in
          absurd (older_stays (and_left (in_line (register_in x j)) _ la) (and_right (in_line (register_in x j)) _ la) first refl (and_right (in_line (register_in x j) && away_at cs j) _ g))
      go false g = refl

  -- a list of which each that goes became what f says, and the others stayed
  alike :
      {A : Type 0} (z : A) (f : ℕ → A) (l q : List A) →
      ((m : List A) (k : ℕ) → goes_at first x cs k ≡ true → get_or m k z ≡ get_or l k z → get_or (set m k (f k)) k z ≡ f k) →
      length q ≡ length l →
      ((j : ℕ) → Stays n n d j e → get_or q j z ≡ get_or l j z) →
      ((j : ℕ) → Dropped n n d j e → get_or q j z ≡ f j) →
      q ≡ changed_to (goes_at first x cs) f n l
  alike z f l q lands long stay go =
      same_lists z q (changed_to (goes_at first x cs) f n l) (long ∙ sym (changed_long z (goes_at first x cs) f l n))
      (λ j. by j (drop_core n n d j) (changed_at z (goes_at first x cs) f l lands n j))
    where
      by :
          (j : ℕ) → Stays n n d j e ⊎ Dropped n n d j e → At z (goes_at first x cs) f l j n (changed_to (goes_at first x cs) f n l) →
          get_or q j z ≡ get_or (changed_to (goes_at first x cs) f n l) j z
      by j (inl s) (inl a) = absurd (clash a.1 (stays_not j a.0 s))
      by j (inl s) (inr a) = stay j s ∙ sym a.1
      by j (inr g) (inl a) = go j g ∙ sym a.2
      by j (inr g) (inr a) = absurd (clash (dropped_goes j g) (a.0 g.small))

  pub in_front :
      shows_next_lem n x ≡ true →
      dropped_before n first (showing x (shown_as first x.next.held)) cs ≡ showing_next n e
  in_front shows =
      let registers =
      alike blank (λ (k : ℕ). blank) x.registers e.unit.registers (λ m k w g. default_stays m k blank) (drop_registers_long n n d) (λ j s. s.register) (λ j g. g.register)
      in
      let all =
      alike idle (λ (k : ℕ). dropped (get_or cs k idle)) cs e.cores
      (λ m k w g.
      away_there m k (dropped (get_or cs k idle))
      (ap (λ (c : Core). is_away c.state) g ∙ and_right (in_line (register_in x k)) _ (and_left (in_line (register_in x k) && away_at cs k) _ w)))
      (drop_cores_long n n d) (λ j s. s.core) (λ j g. g.core)
      in
      let held = held_flags n x shows ∙ ap (λ (m : ℕ). not (eqb m 0)) (sym (drop_flags n n d n)) in
      λ i. dropping (record { registers = sym registers i; next = shown_as (sym next_after i) (held i) }) (sym all i)

-- The code's loops

module _ {A : Type 0} (d : A) (p : ℕ → Bool) (f : ℕ → A) (l : List A) where
  -- what is still to come is as it was
  untouched : (m : ℕ) → get_or (changed_to p f m l) m d ≡ get_or l m d
  untouched m =
      along (λ (k : ℕ) (q : List A). (j : ℕ) → k ≤ j → get_or q j d ≡ get_or l j d) (λ (k : ℕ) (q : List A). cond (p k) (set q k (f k)) q) l (λ j h. refl) m
      (λ k h q s j g. turn k q s j g (p k)) m (omega arith)
    where
      turn : (k : ℕ) (q : List A) → ((j : ℕ) → k ≤ j → get_or q j d ≡ get_or l j d) → (j : ℕ) → suc k ≤ j → (b : Bool) → get_or (cond b (set q k (f k)) q) j d ≡ get_or l j d
      turn k q s j g true = get_or-set_other q k j (f k) d (λ i. omega (arith, i)) ∙ s j (omega arith)
      turn k q s j g false = s j (omega arith)

module _ (cs : List Core) (x₀ : LockUnit) where
  pub present_first : x₀ ≡ present 0 x₀ cs
  present_first = ap (with_registers x₀) (fold-none (λ (k : ℕ) (m : List Register). cond (away_at cs k) (set m k blank) m) x₀.registers)

  pub present_on :
      (k : ℕ) (x : LockUnit) (q : Register) → x ≡ present k x₀ cs → q ≡ unless_away (get_or cs k idle) (register_in x k) →
      with_registers x (set x.registers k q) ≡ present (k + 1) x₀ cs
  present_on k x q so is =
      let registers : x.registers ≡ changed_to (away_at cs) (λ (k : ℕ). blank) k x₀.registers = ap (λ (z : LockUnit). z.registers) so in
      let on =
      fold_more (λ (k : ℕ) (m : List Register). cond (away_at cs k) (set m k blank) m) k x₀.registers x.registers (set x.registers k q) registers
      (ap (set x.registers k) is ∙ by (away_at cs k))
      in
      λ i. record { registers = on i; next = (so i).next }
    where
      by : (a : Bool) → set x.registers k (cond a blank (get_or x.registers k blank)) ≡ cond a (set x.registers k blank) x.registers
      by true = refl
      by false = set-get_or x.registers k blank

  pub present_last : (n k : ℕ) (x : LockUnit) → x ≡ present k x₀ cs → k ≤ n → n ≤ k → x ≡ present n x₀ cs
  present_last n k x so low high = so ∙ ap (λ (i : ℕ). present i x₀ cs) (let z : k ≡ n = omega arith in z)

module _ (b : Best) (x₀ : LockUnit) (cs₀ : List Core) where
  abbrev gone_registers : ℕ → List Register → List Register
  gone_registers k m = cond (goes_at b x₀ cs₀ k) (set m k blank) m

  abbrev gone_cores : ℕ → List Core → List Core
  gone_cores k m = cond (goes_at b x₀ cs₀ k) (set m k (dropped (get_or cs₀ k idle))) m

  pub before_first : dropping x₀ cs₀ ≡ dropped_before 0 b x₀ cs₀
  before_first = ap₂ (λ (l : List Register). dropping (with_registers x₀ l)) (fold-none gone_registers x₀.registers) (fold-none gone_cores cs₀)

  pub before_last : (n k : ℕ) (x : LockUnit) (cs : List Core) → dropping x cs ≡ dropped_before k b x₀ cs₀ → k ≤ n → n ≤ k → dropping x cs ≡ dropped_before n b x₀ cs₀
  before_last n k x cs so low high = so ∙ ap (λ (i : ℕ). dropped_before i b x₀ cs₀) (let z : k ≡ n = omega arith in z)

  module _ (k : ℕ) (x : LockUnit) (cs : List Core) (so : dropping x cs ≡ dropped_before k b x₀ cs₀) (g : Bool) (is : g ≡ goes b (get_or cs k idle) (register_in x k)) where
    registers_so : x.registers ≡ changed_to (goes_at b x₀ cs₀) (λ (k : ℕ). blank) k x₀.registers
    registers_so = ap (λ (e : Dropping). e.unit.registers) so

    cores_so : cs ≡ changed_to (goes_at b x₀ cs₀) (λ (k : ℕ). dropped (get_or cs₀ k idle)) k cs₀
    cores_so = ap (λ (e : Dropping). e.cores) so

    core_still : get_or cs k idle ≡ get_or cs₀ k idle
    core_still = ap (λ (l : List Core). get_or l k idle) cores_so ∙ untouched idle (goes_at b x₀ cs₀) (λ (k : ℕ). dropped (get_or cs₀ k idle)) cs₀ k

    register_still : register_in x k ≡ register_in x₀ k
    register_still =
        ap (λ (l : List Register). get_or l k blank) registers_so ∙ untouched blank (goes_at b x₀ cs₀) (λ (k : ℕ). blank) x₀.registers k

    asked : goes_at b x₀ cs₀ k ≡ g
    asked = sym (is ∙ ap₂ (goes b) core_still register_still)

    -- both lists after one turn more
    turned_on :
        (l : List Register) (m : List Core) → l ≡ gone_registers k x.registers → m ≡ gone_cores k cs →
        dropping (with_registers x l) m ≡ dropped_before (k + 1) b x₀ cs₀
    turned_on l m el em =
        let r = fold_more gone_registers k x₀.registers x.registers l registers_so el in
        let c = fold_more gone_cores k cs₀ cs m cores_so em in
        λ i. dropping (record { registers = r i; next = (so i).unit.next }) (c i)

    pub before_goes :
        g ≡ true → (q : Register) (c : Core) → q ≡ blank → c ≡ dropped (get_or cs k idle) →
        dropping (with_registers x (set x.registers k q)) (set cs k c) ≡ dropped_before (k + 1) b x₀ cs₀
    before_goes yes' q c eq ec =
        turned_on (set x.registers k q) (set cs k c)
        (ap (set x.registers k) eq ∙ ap (λ (a : Bool). cond a (set x.registers k blank) x.registers) (sym (asked ∙ yes')))
        (ap (set cs k) (ec ∙ ap dropped core_still) ∙ ap (λ (a : Bool). cond a (set cs k (dropped (get_or cs₀ k idle))) cs) (sym (asked ∙ yes')))

    pub before_stays : g ≡ false → dropping x cs ≡ dropped_before (k + 1) b x₀ cs₀
    before_stays no' =
        turned_on x.registers cs
        (ap (λ (a : Bool). cond a (set x.registers k blank) x.registers) (sym (asked ∙ no')))
        (ap (λ (a : Bool). cond a (set cs k (dropped (get_or cs₀ k idle))) cs) (sym (asked ∙ no')))
