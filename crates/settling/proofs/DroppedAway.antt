-- Who is dropped. Each that is dropped was next in line, so in line, and away; so no flag is touched, nor whoever is not away. Since a register goes with each,
-- as many looks as there are cores leave nobody away in front.
use Prim.Native.Nat.{ℕ, zero, suc, ◌+◌, ◌≤◌, ◌<◌}
use mathlib.Core.Bool.{Bool, true, false, cond}
use mathlib.Core.List.{List, [], ◌∷◌}
use mathlib.Core.Logic.{◌⊎◌, inl, inr, ⊎_elim, ◌≢◌}
use mathlib.Core.Path.{◌≡◌, refl, sym, ◌∙◌, ap, ap₂, subst}
use native.Mathlib.Omega.{arith}
use lib.ListN.{get_or, set, length, length-set}
use lib.Seq.{get_or-set_other, set_comm}
use Rattle.ticket.specs.Order.{compare}
use Rattle.ticket.specs.declared.kinds.Ticket.{Ticket}
use Rattle.ticket.specs.declared.order.Comparison.TheVariants.{Older}
use Rattle.parts.specs.Fold.{up_to, one, count}
use Rattle.parts.specs.State.{is_away}
use Rattle.parts.specs.Parts.{blank, idle, dropped, register_in, registered}
use Rattle.parts.specs.declared.kinds.Core.{Core}
use Rattle.parts.specs.declared.kinds.Register.{Register}
use Rattle.parts.specs.declared.kinds.LockUnit.{LockUnit}
use Rattle.parts.proofs.Along.{same_or_not, along}
use Rattle.parts.proofs.Bools.{and_right, clash, not_true_false}
use Rattle.parts.proofs.Folds.{count_cong, count_change, count_none}
use Rattle.parts.proofs.Loops.{count_most}
use Rattle.settling.specs.Line.{flags, in_line, next}
use Rattle.settling.specs.Dropping.{dropping, away_as, away_next, drop_one, drop_best, drop_next, drop_away}
use Rattle.settling.specs.Best.{Best, Nobody, Won}
use Rattle.settling.specs.declared.dropping.Dropping.{Dropping}
use Rattle.settling.proofs.Picking.{next_won, next_oldest, next_nobody, next_counted}
use Rattle.settling.proofs.NextInLine.{next_aside, changed_there}

abbrev pub core_in : Dropping → ℕ → Core
core_in d k = get_or d.cores k idle

abbrev pub lined : Dropping → ℕ → Bool
lined d k = in_line (register_in d.unit k)

-- Writing what reads so anyhow

pub default_stays : {A : Type 0} (l : List A) (k : ℕ) (d : A) → get_or (set l k d) k d ≡ d
default_stays [] k d = refl
default_stays (a ∷ l) zero d = refl
default_stays (a ∷ l) (suc k) d = default_stays l k d

-- who is away is one of the list
pub away_there : (cs : List Core) (k : ℕ) (c : Core) → is_away (get_or cs k idle).state ≡ true → get_or (set cs k c) k idle ≡ c
away_there [] k c e = absurd (clash e refl)
away_there (a ∷ cs) zero c e = refl
away_there (a ∷ cs) (suc k) c e = away_there cs k c e

-- One core

module _ (d : Dropping) (k : ℕ) where
  pub gone_blank : register_in (drop_one d k).unit k ≡ blank
  gone_blank = default_stays d.unit.registers k blank

  pub gone_register : (j : ℕ) → j ≢ k → register_in (drop_one d k).unit j ≡ register_in d.unit j
  gone_register j e = changed_there d.unit k blank j e

  pub gone_dropped : is_away (core_in d k).state ≡ true → core_in (drop_one d k) k ≡ dropped (core_in d k)
  gone_dropped e = away_there d.cores k (dropped (core_in d k)) e

  pub gone_core : (j : ℕ) → j ≢ k → core_in (drop_one d k) j ≡ core_in d j
  gone_core j e = get_or-set_other d.cores k j (dropped (core_in d k)) idle e

-- Each look

module _ (n : ℕ) where
  -- core k is next in line and away
  pub record Goes (d : Dropping) (k : ℕ) : Type 0 where
    pub small : k < n
    pub line : lined d k ≡ true
    pub away : is_away (core_in d k).state ≡ true
    pub over :
        (j : ℕ) → j < n → j ≢ k → lined d j ≡ true →
        compare (register_in d.unit k).ticket.0 (register_in d.unit j).ticket.0 ≡ Older

  -- a look drops nobody, since whoever is next is not away; or it drops such a one
  pub look : (d : Dropping) → ((drop_next n d ≡ d) × (away_next n d ≡ false)) ⊎ ((k : ℕ) × Goes d k × (drop_next n d ≡ drop_one d k) × (away_next n d ≡ true))
  look d = go (next n d.unit) refl
    where
      go :
          (b : Best) → next n d.unit ≡ b →
          ((drop_best d b ≡ d) × (away_as d.cores b ≡ false)) ⊎
          ((k : ℕ) × Goes d k × (drop_best d b ≡ drop_one d k) × (away_as d.cores b ≡ true))
      go Nobody e = inl (refl, refl)
      go (Won k t) e = by (is_away (core_in d k.0).state) refl
        where
          by :
              (a : Bool) → is_away (core_in d k.0).state ≡ a →
              ((cond a (drop_one d k.0) d ≡ d) × (a ≡ false)) ⊎
              ((j : ℕ) × Goes d j × (cond a (drop_one d k.0) d ≡ drop_one d j) × (a ≡ true))
          by true f =
              let w = next_won n d.unit k t e in
              inr (
                k.0,
                record {
                  small = w.2;
                  line = w.0;
                  away = f;
                  over = λ j h o l. ap (λ (s : Ticket). compare s.0 (register_in d.unit j).ticket.0) w.1 ∙ next_oldest n d.unit k t e j h o l;
                },
                refl,
                refl,
              )
          by false f = inl (refl, refl)

  pub not_away : (d : Dropping) → away_next n d ≡ false → drop_next n d ≡ d
  not_away d e = ⊎_elim (λ q. q.0) (λ w. absurd (clash w.3 e)) (look d)

  -- what each drop keeps
  pub drops_keep :
      (P : Dropping → Type 0) → ((d : Dropping) (k : ℕ) → P d → Goes d k → P (drop_one d k)) →
      (m : ℕ) (d : Dropping) → P d → P (up_to (λ (i : ℕ). drop_next n) m d)
  drops_keep P keeps m d start =
      along (λ (i : ℕ). P) (λ (i : ℕ). drop_next n) d start m
      (λ i h e p. ⊎_elim (λ q. subst P (sym q.0) p) (λ w. subst P (sym w.2) (keeps e w.0 p w.1)) (look e))

  -- Nobody away in front

  stays_so : (m : ℕ) (d : Dropping) → away_next n d ≡ false → up_to (λ (i : ℕ). drop_next n) m d ≡ d
  stays_so m d e = along (λ (i : ℕ) (b : Dropping). b ≡ d) (λ (i : ℕ). drop_next n) d refl m (λ i h b q. ap (drop_next n) q ∙ not_away d e)

  pub nobody_dropped : (x : LockUnit) (cs : List Core) → away_next n (dropping x cs) ≡ false → drop_away n x cs ≡ dropping x cs
  nobody_dropped x cs = stays_so _ (dropping x cs)

  -- how many stand in line
  abbrev number : Dropping → ℕ
  number d = count (lined d) n

  one_fewer : (d : Dropping) (k : ℕ) → Goes d k → number (drop_one d k) + 1 ≡ number d
  one_fewer d k g =
      let e = count_change (lined (drop_one d k)) (lined d) n k g.small (λ j h. ap in_line (gone_register d k j h)) in
      let a : one (lined d k) ≡ 1 = ap one g.line in
      let b : one (lined (drop_one d k) k) ≡ 0 = ap (λ (r : Register). one (in_line r)) (gone_blank d k) in
      omega arith

  -- nobody away is in front, or those in line are fewer by one for each look
  abbrev Left : ℕ → Dropping → Type 0
  Left i d = (away_next n d ≡ false) ⊎ (number d + i ≤ n)

  pub none_left : (x : LockUnit) (cs : List Core) → away_next n (drop_away n x cs) ≡ false
  none_left x cs =
      last
      (along Left (λ (i : ℕ). drop_next n) (dropping x cs) (inr (let a = count_most (lined (dropping x cs)) n in omega arith)) n
      (λ i h d l. turn i d l))
    where
      turn : (i : ℕ) (d : Dropping) → Left i d → Left (suc i) (drop_next n d)
      turn i d (inl e) = inl (ap (away_next n) (not_away d e) ∙ e)
      turn i d (inr l) =
          ⊎_elim (λ q. inl (ap (away_next n) q.0 ∙ q.1))
          (λ w. inr (let a = one_fewer d w.0 w.1 in let b = ap number w.2 in omega arith))
          (look d)

      last : Left n (drop_away n x cs) → away_next n (drop_away n x cs) ≡ false
      last (inl e) = e
      last (inr l) =
          let z : number (drop_away n x cs) ≡ 0 = omega arith in
          ap (away_as (drop_away n x cs).cores) (next_nobody n (drop_away n x cs).unit (count_none (lined (drop_away n x cs)) n z))

  -- more looks than cores drop nobody more
  looks_enough : (x : LockUnit) (cs : List Core) (m : ℕ) → n ≤ m → up_to (λ (i : ℕ). drop_next n) m (dropping x cs) ≡ drop_away n x cs
  unfolding up_to
  looks_enough x cs zero h = ap (λ (i : ℕ). up_to (λ (j : ℕ). drop_next n) i (dropping x cs)) (let z : 0 ≡ n = omega arith in z)
  looks_enough x cs (suc m) h = go (same_or_not (suc m) n) (looks_enough x cs m)
    where
      go :
          (suc m ≡ n) ⊎ (suc m ≢ n) →
          (n ≤ m → up_to (λ (i : ℕ). drop_next n) m (dropping x cs) ≡ drop_away n x cs) →
          up_to (λ (i : ℕ). drop_next n) (suc m) (dropping x cs) ≡ drop_away n x cs
      go (inl e) before = ap (λ (i : ℕ). up_to (λ (j : ℕ). drop_next n) i (dropping x cs)) e
      go (inr d) before = ap (drop_next n) (before (omega arith)) ∙ not_away (drop_away n x cs) (none_left x cs)

-- What dropping keeps, of n cores and by m looks

module _ (n m : ℕ) (d : Dropping) where
  abbrev pub after : Dropping
  after = up_to (λ (i : ℕ). drop_next n) m d

  -- what the unit shows, and how long the lists are
  pub drop_next_lem : after.unit.next ≡ d.unit.next
  drop_next_lem = drops_keep n (λ (e : Dropping). e.unit.next ≡ d.unit.next) (λ e k q g. q) m d refl

  pub drop_registers_long : length after.unit.registers ≡ length d.unit.registers
  drop_registers_long =
      drops_keep n (λ (e : Dropping). length e.unit.registers ≡ length d.unit.registers)
      (λ e k q g. length-set e.unit.registers k blank ∙ q) m d refl

  pub drop_cores_long : length after.cores ≡ length d.cores
  drop_cores_long =
      drops_keep n (λ (e : Dropping). length e.cores ≡ length d.cores) (λ e k q g. length-set e.cores k (dropped (core_in e k)) ∙ q) m d refl

  -- core j and its register are as they were
  pub record Stays (j : ℕ) (e : Dropping) : Type 0 where
    pub register : register_in e.unit j ≡ register_in d.unit j
    pub core : core_in e j ≡ core_in d j

  -- or it stood in line and was away, and was dropped
  pub record Dropped (j : ℕ) (e : Dropping) : Type 0 where
    pub small : j < n
    pub line : lined d j ≡ true
    pub away : is_away (core_in d j).state ≡ true
    pub register : register_in e.unit j ≡ blank
    pub core : core_in e j ≡ dropped (core_in d j)

  pub drop_core : (j : ℕ) → Stays j after ⊎ Dropped j after
  drop_core j = drops_keep n (λ (e : Dropping). Stays j e ⊎ Dropped j e) (λ e k q g. turn e k g q (same_or_not j k)) m d (inl (record { register = refl; core = refl }))
    where
      turn : (e : Dropping) (k : ℕ) → Goes n e k → Stays j e ⊎ Dropped j e → (j ≡ k) ⊎ (j ≢ k) → Stays j (drop_one e k) ⊎ Dropped j (drop_one e k)
      turn e k g (inl q) (inl s) =
          inr
          (record {
            small = subst (λ (i : ℕ). i < n) (sym s) g.small;
            line = ap in_line (sym q.register) ∙ ap (lined e) s ∙ g.line;
            away = ap (λ (c : Core). is_away c.state) (sym q.core) ∙ ap (λ (i : ℕ). is_away (core_in e i).state) s ∙ g.away;
            register = ap (register_in (drop_one e k).unit) s ∙ gone_blank e k;
            core = ap (core_in (drop_one e k)) s ∙ gone_dropped e k g.away ∙ ap (λ (i : ℕ). dropped (core_in e i)) (sym s) ∙ ap dropped q.core;
          })
      turn e k g (inr q) (inl s) = absurd (clash g.line (ap (lined e) (sym s) ∙ ap in_line q.register))
      turn e k g (inl q) (inr o) = inl (record { register = gone_register e k j o ∙ q.register; core = gone_core e k j o ∙ q.core })
      turn e k g (inr q) (inr o) =
          inr
          (record {
            small = q.small;
            line = q.line;
            away = q.away;
            register = gone_register e k j o ∙ q.register;
            core = gone_core e k j o ∙ q.core;
          })

  -- who does not stand in line, as whoever has a flag, stays
  pub out_stays : (j : ℕ) → lined d j ≡ false → Stays j after
  out_stays j out = ⊎_elim (λ s. s) (λ g. absurd (clash g.line out)) (drop_core j)

  -- and whoever is not away
  pub here_stays : (j : ℕ) → is_away (core_in d j).state ≡ false → Stays j after
  here_stays j out = ⊎_elim (λ s. s) (λ g. absurd (clash g.away out)) (drop_core j)

  -- no flag changes
  pub drop_flag : (j : ℕ) → (register_in after.unit j).flag ≡ (register_in d.unit j).flag
  drop_flag j =
      ⊎_elim (λ s. ap (λ (r : Register). r.flag) s.register)
      (λ g.
      ap (λ (r : Register). r.flag) g.register ∙
      sym (not_true_false (register_in d.unit j).flag (and_right (register_in d.unit j).valid _ g.line)))
      (drop_core j)

  pub drop_flags : (k : ℕ) → flags k after.unit ≡ flags k d.unit
  drop_flags k = count_cong (λ (j : ℕ). (register_in after.unit j).flag) (λ (j : ℕ). (register_in d.unit j).flag) k (λ j h. drop_flag j)

  -- nobody new stands in line
  pub out_still : (j : ℕ) → lined d j ≡ false → lined after j ≡ false
  out_still j out = ap in_line (out_stays j out).register ∙ out

-- Registers past n that are not in line do not matter

pub drop_counted :
    (n m : ℕ) (x : LockUnit) (cs : List Core) →
    n ≤ m → ((j : ℕ) → n ≤ j → j < m → in_line (register_in x j) ≡ false) →
    drop_away m x cs ≡ drop_away n x cs
unfolding up_to
drop_counted n m x cs few past = looks m ∙ looks_enough n x cs m few
  where
    looks : (i : ℕ) → up_to (λ (j : ℕ). drop_next m) i (dropping x cs) ≡ up_to (λ (j : ℕ). drop_next n) i (dropping x cs)
    looks zero = refl
    looks (suc i) =
        let e = up_to (λ (j : ℕ). drop_next n) i (dropping x cs) in
        ap (drop_next m) (looks i) ∙
        ap (drop_best e) (next_counted n m e.unit few (λ j l h. out_still n i (dropping x cs) j (past j l h)))

-- A core that does not stand in line, before and afterwards, changes: dropping does not notice

module _ (n k : ℕ) (r : Register) (c : Core) where
  -- with its register r, and itself c
  abbrev pub beside : Dropping → Dropping
  beside d = dropping (registered d.unit k r) (set d.cores k c)

  module _ (out' : in_line r ≡ false) where
    written_out : (l : List Register) (i : ℕ) → in_line (get_or l i blank) ≡ false → in_line (get_or (set l i r) i blank) ≡ false
    written_out [] i e = e
    written_out (a ∷ l) zero e = out'
    written_out (a ∷ l) (suc i) e = written_out l i e

    beside_look : (d : Dropping) → lined d k ≡ false → drop_next n (beside d) ≡ beside (drop_next n d)
    beside_look d out =
        ap (drop_best (beside d))
        (next_aside n d.unit (registered d.unit k r) k (changed_there d.unit k r) out (written_out d.unit.registers k out)) ∙
        go (next n d.unit) refl
      where
        go : (b : Best) → next n d.unit ≡ b → drop_best (beside d) b ≡ beside (drop_best d b)
        go Nobody e = refl
        go (Won j t) e =
            ap (λ (q : Core). cond (is_away q.state) (dropping (registered (registered d.unit k r) j.0 blank) (set (set d.cores k c) j.0 (dropped q))) (beside d)) core_there ∙
            by (is_away (core_in d j.0).state)
          where
            other : j.0 ≢ k
            other f = clash (next_won n d.unit j t e).0 (ap (lined d) f ∙ out)

            core_there : core_in (beside d) j.0 ≡ core_in d j.0
            core_there = get_or-set_other d.cores k j.0 c idle other

            by :
                (a : Bool) →
                cond a (dropping (registered (registered d.unit k r) j.0 blank) (set (set d.cores k c) j.0 (dropped (core_in d j.0)))) (beside d) ≡
                beside (cond a (drop_one d j.0) d)
            by true =
                ap₂ (λ (l : List Register) (cs : List Core). dropping (record { registers = l; next = d.unit.next }) cs)
                (set_comm d.unit.registers k j.0 r blank (λ f. other (sym f)))
                (set_comm d.cores k j.0 c (dropped (core_in d j.0)) (λ f. other (sym f)))
            by false = refl

    pub beside_drops : (m : ℕ) (d : Dropping) → lined d k ≡ false → up_to (λ (i : ℕ). drop_next n) m (beside d) ≡ beside (up_to (λ (i : ℕ). drop_next n) m d)
    unfolding up_to
    beside_drops zero d out = refl
    beside_drops (suc m) d out =
        ap (drop_next n) (beside_drops m d out) ∙ beside_look (up_to (λ (i : ℕ). drop_next n) m d) (out_still n m d k out)
