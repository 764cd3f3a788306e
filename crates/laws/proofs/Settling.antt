-- Settling a table that is almost sound, where nobody next is away: then it grants alone, and drops nobody. One unit that grants either stays as it is
-- or, having no flag, has the flag of one core in line set; so the unit ends with one flag if a register is valid, and nothing else of what makes the
-- table sound changes.
use mathlib.Core.List.{List, []}
use Prim.Native.Nat.{ℕ, suc, ◌+◌, ◌≤◌, ◌<◌}
use mathlib.Core.Bool.{Bool, true, false, cond, ◌&&◌, ◌||◌, not}
use mathlib.Core.Logic.{◌⊎◌, inl, inr, ⊎_elim, ◌≢◌}
use mathlib.Core.Path.{◌≡◌, refl, sym, ◌∙◌, ap, ap₂, subst}
use native.Mathlib.Nat.{le_antisymm, not-suc-le-zero}
use native.Mathlib.Omega.{arith}
use lib.Dec.{eqb}
use borrow.Author.Tests.{eqb-true, eq-eqb}
use Rattle.ticket.specs.declared.kinds.Ticket.{Ticket}
use Rattle.parts.specs.Fold.{some, count, one}
use Rattle.parts.specs.State.{is_away, is_marked, stands, two_stage_lem, holds_first, holds_both}
use Rattle.parts.specs.Parts.{cores, units, flagged, register_in}
use Rattle.block.specs.Table.{core_of, unit_of, register_of, with_register, Shaped}
use Rattle.block.specs.Settle.{winner, give, Settling, with_dropping, drop_at, grant_next, settle_next, settle}
use Rattle.settling.specs.Line.{flags, in_line, next}
use Rattle.settling.specs.Dropping.{dropping, away_as, away_next, drop_away}
use Rattle.settling.specs.Shown.{shows_next_lem}
use Rattle.settling.specs.Best.{Best, Nobody, Won}
use Rattle.block.specs.Sound as S
use Rattle.block.specs.Parts.{Sound}
use Rattle.parts.specs.declared.kinds.Register.{Register}
use Rattle.parts.specs.declared.kinds.LockUnit.{LockUnit}
use Rattle.parts.specs.declared.kinds.Core.{Core}
use Rattle.block.specs.declared.table.Table.{Table}
use Rattle.parts.proofs.Bools.{and_left, and_right, and_both, or_left, flipped, clash}
use Rattle.parts.proofs.Folds.{some_at, at_some, none_some, some_none, count_change, count_some, none_count}
use Rattle.block.proofs.Access.{unit_other, register_same, register_core, register_unit, shaped_register}
use Rattle.parts.proofs.Along.{same_or_not, to_last, along}
use Rattle.block.proofs.Almost.{Almost}
use Rattle.block.proofs.Agreeing.{flag_at, in_line_lem, in_line_at}
use Rattle.block.proofs.Oldest.{oldest_nobody}
use Rattle.block.proofs.Showing.{show_register, show_one_flag, show_shaped, show_almost, show_shows}
use Rattle.block.proofs.Standing.{blank_is}
use Rattle.settling.proofs.Picking.{next_won}
use Rattle.block.proofs.Touched.{Calm, Present, AllPresent, settle_at}
use Rattle.block.proofs.Touching.{by_settling, settle_at_unit, settle_grants}

-- A register that gets its flag

-- to agree with a core is to show a ticket, at its first unit or at its second, or to be blank
agreement :
    (c : Core) (u : ℕ) (M : (Register → Bool) → Type 0) →
    ((n : Ticket) (held : Bool) → M (λ (r : Register). S.flagless c.state r && S.shows r n held)) →
    ((n : Ticket) (held : Bool) → M (λ (r : Register). S.shows r n held)) →
    M S.is_blank →
    M (S.agrees c u)
agreement c u M first second blank = go (stands c.state && eqb u c.first.0) (two_stage_lem c.state && eqb u c.second.0)
  where
    go :
        (a b : Bool) →
        M (λ (r : Register).
        cond a (S.flagless c.state r && S.shows r c.own (holds_first c.state))
        (cond b (S.shows r c.carried (holds_both c.state)) (S.is_blank r)))
    go true b = first c.own (holds_first c.state)
    go false true = second c.carried (holds_both c.state)
    go false false = blank

module _ (c : Core) (u : ℕ) (r : Register) where
  -- whoever is in line and not away may have its flag
  flagged_agrees : in_line r ≡ true → is_away c.state ≡ false → S.agrees c u r ≡ true → S.agrees c u (flagged r) ≡ true
  flagged_agrees line here agrees =
      agreement c u (λ (p : Register → Bool). p r ≡ true → p (flagged r) ≡ true)
      (λ n held e. and_both (or_left _ (ap not unmarked)) (shows n held (and_right (S.flagless c.state r) _ e)))
      shows
      (λ e. absurd (clash (in_line_lem r line).0 (ap (λ (z : Register). z.valid) (blank_is r e))))
      agrees
    where
      unmarked : is_marked c.state ≡ false
      unmarked =
          ⊎_elim
          (λ a. ⊎_elim (λ e. ap is_marked e) (λ e. absurd (clash (ap is_away e) here)) a.0)
          (λ a. ap is_marked a.0)
          (in_line_at c u r agrees line)

      shows : (n : Ticket) (held : Bool) → S.shows r n held ≡ true → S.shows (flagged r) n held ≡ true
      shows n held e = and_both (and_left (r.valid && eqb r.ticket.0 n.0) (r.flag || not held) e) refl

  flag_valid : r.flag ≡ true → S.agrees c u r ≡ true → r.valid ≡ true
  flag_valid f agrees = ⊎_elim (λ a. a.shows.valid) (λ a. a.shows.valid) (flag_at c u r agrees f)

-- One unit

one_flag_lem : (x : LockUnit) (b : Bool) → S.any_valid x ≡ b → flags cores x ≡ one b → S.one_flag x ≡ true
one_flag_lem x b v f = eq-eqb (flags cores x) (one (S.any_valid x)) (f ∙ ap one (sym v))

-- what a register keeps
pub record Kept (r z : Register) : Type 0 where
  pub ticket : z.ticket ≡ r.ticket
  pub valid : z.valid ≡ r.valid
  pub flag : r.flag ≡ true → z.flag ≡ true

kept : (r : Register) → Kept r r
kept r = record { ticket = refl; valid = refl; flag = λ e. e }

-- the flag of core k in line at unit u is set, where none was
module _ (t : Table) (u k : ℕ) (s : Shaped t) (h : u < units) (l : k < cores) (e : in_line (register_of t u k) ≡ true) (none : flags cores (unit_of t u) ≡ 0) where
  abbrev r : Register
  r = register_of t u k

  abbrev given : Table
  given = with_register t u k (flagged r)

  -- reading any register: the flagged one, or what stood there
  reading : (P : ℕ → ℕ → Register → Type 0) → P u k (flagged r) → ((v j : ℕ) → P v j (register_of t v j)) → (v j : ℕ) → P v j (register_of given v j)
  reading P new old v j = go (same_or_not v u) (same_or_not j k)
    where
      at_u : (j ≡ k) ⊎ (j ≢ k) → P u j (register_of given u j)
      at_u (inl q) = subst (λ (i : ℕ). P u i (register_of given u i)) (sym q) (subst (P u k) (sym (register_same t u k (flagged r) s h l)) new)
      at_u (inr d) = subst (P u j) (sym (register_core t u k (flagged r) j s h d)) (old u j)

      go : (v ≡ u) ⊎ (v ≢ u) → (j ≡ k) ⊎ (j ≢ k) → P v j (register_of given v j)
      go (inl q) c = subst (λ (w : ℕ). P w j (register_of given w j)) (sym q) (at_u c)
      go (inr d) c = subst (P v j) (sym (register_unit t u k (flagged r) v j d)) (old v j)

  given_keeps : (v j : ℕ) → Kept (register_of t v j) (register_of given v j)
  given_keeps = reading (λ v j z. Kept (register_of t v j) z) (record { ticket = refl; valid = refl; flag = λ f. refl }) (λ v j. kept (register_of t v j))

  given_flags : flags cores (unit_of given u) ≡ 1
  given_flags =
      let p : ℕ → Bool = λ (j : ℕ). (register_of t u j).flag in
      let q : ℕ → Bool = λ (j : ℕ). (register_of given u j).flag in
      let c : count p cores + one (q k) ≡ count q cores + one (p k) =
      count_change p q cores k l (λ j d. ap (λ (z : Register). z.flag) (sym (register_core t u k (flagged r) j s h d))) in
      let a : one (p k) ≡ 0 = ap one (in_line_lem r e).1 in
      let b : one (q k) ≡ 1 = ap (λ (z : Register). one z.flag) (register_same t u k (flagged r) s h l) in
      omega arith

  given_one : S.one_flag (unit_of given u) ≡ true
  given_one =
      one_flag_lem (unit_of given u) true
      (at_some (λ (j : ℕ). (register_of given u j).valid) cores k l ((given_keeps u k).valid ∙ (in_line_lem r e).0))
      given_flags

  given_almost : is_away (core_of t k).state ≡ false → Almost t → Almost given
  given_almost here a =
      record {
        counts = a.counts;
        core = λ j m.
            let c = a.core j m in
            record {
              within = c.within;
              suited = c.suited;
              idle_blank = c.idle_blank;
              dropped_blank = c.dropped_blank;
              named = c.named;
              recent = c.recent;
              differ = c.differ;
              carries = c.carries;
            };
        agrees = λ v m j i.
            reading (λ v j z. v < units → j < cores → S.agrees (core_of t j) v z ≡ true)
            (λ m i. flagged_agrees (core_of t k) u r e here (a.agrees u m k i))
            (λ v j m i. a.agrees v m j i) v j m i;
        few = λ v m. few v m (same_or_not v u);
      }
    where
      few : (v : ℕ) → v < units → (v ≡ u) ⊎ (v ≢ u) → flags cores (unit_of given v) ≤ 1
      few v m (inl q) = subst (λ (w : ℕ). flags cores (unit_of given w) ≤ 1) (sym q) (omega (arith, given_flags))
      few v m (inr d) = subst (λ (x : LockUnit). flags cores x ≤ 1) (sym (unit_other t u v _ d)) (a.few v m)

-- a valid register with its flag clear is in line
not_in_line : (r : Register) → r.flag ≡ false → in_line r ≡ false → r.valid ≡ false
not_in_line r clear e = go r.valid e
  where
    go : (v : Bool) → (v && not r.flag) ≡ false → v ≡ false
    go true q = sym (flipped clear) ∙ q
    go false q = refl

-- a calm unit has its one flag already, or no valid register
calm_one : (t : Table) (u : ℕ) → Almost t → u < units → Calm (unit_of t u) → S.one_flag (unit_of t u) ≡ true
calm_one t u a h calm = go (some flag cores) refl
  where
    x : LockUnit
    x = unit_of t u

    flag : ℕ → Bool
    flag k = (register_in x k).flag

    valid : ℕ → Bool
    valid k = (register_in x k).valid

    go : (b : Bool) → some flag cores ≡ b → S.one_flag x ≡ true
    go true e =
        let w = some_at flag cores e in
        let k = w.0 in
        let v = flag_valid (core_of t k) u (register_in x k) w.2 (a.agrees u h k w.1) in
        one_flag_lem x true (at_some valid cores k w.1 v) (le_antisymm (a.few u h) (count_some flag cores k w.1 w.2))
    go false e =
        let clear = some_none flag cores e in
        let none = none_count flag cores clear in
        one_flag_lem x false
        (none_some valid cores (λ k l. not_in_line (register_in x k) (clear k l) ((oldest_nobody t a u h).0 (calm none) k l)))
        none

module _ (t : Table) (u : ℕ) where
  abbrev after : Table
  after = (settle_at t u).table

  pub settle_at_same : (after.cores ≡ t.cores) × (after.counts ≡ t.counts) × (after.counter ≡ t.counter)
  settle_at_same =
      by_settling t u (λ z. (z.cores ≡ t.cores) × (z.counts ≡ t.counts) × (z.counter ≡ t.counter))
      (λ z e. e)
      (λ calm. (refl, refl, refl))
      (λ k l e none. (refl, refl, refl))

  pub settle_at_register : (v j : ℕ) → v ≢ u → register_of after v j ≡ register_of t v j
  settle_at_register v j d = ap (λ (x : LockUnit). register_in x j) (settle_at_unit t u v d)

  module _ (s : Shaped t) (h : u < units) where
    pub settle_at_shaped : Shaped after
    settle_at_shaped = by_settling t u Shaped (λ z m. show_shaped z u m) (λ calm. s) (λ k l e none. shaped_register t u k _ s h)

    -- at every unit, u too
    pub settle_at_keeps : (v j : ℕ) → Kept (register_of t v j) (register_of after v j)
    settle_at_keeps v j =
        by_settling t u (λ z. Kept (register_of t v j) (register_of z v j)) (λ z m. rw (show_register z u v j) m) (λ calm. kept (register_of t v j))
        (λ k l e none. given_keeps t u k s h l e none v j)

    pub settle_at_almost : Present t u → Almost t → Almost after
    settle_at_almost present a =
        show_almost (give t u (winner (unit_of t u))) u (go (eqb (flags cores (unit_of t u)) 0) refl (next cores (unit_of t u)) refl)
      where
        go :
            (b : Bool) → eqb (flags cores (unit_of t u)) 0 ≡ b →
            (w : Best) → next cores (unit_of t u) ≡ w →
            Almost (give t u (cond b w Nobody))
        go true e Nobody q = a
        go true e (Won k n) q =
            let w = next_won cores (unit_of t u) k n q in
            let none = eqb-true (flags cores (unit_of t u)) 0 e in
            given_almost t u k.0 s h w.2 w.0 none (ap (away_as t.cores) (sym q) ∙ present none) a
        go false e w q = a

    pub settle_at_one : Almost t → S.one_flag (unit_of after u) ≡ true
    settle_at_one a =
        by_settling t u (λ z. S.one_flag (unit_of z u) ≡ true) (λ z m. show_one_flag z u u ∙ m) (calm_one t u a h)
        (λ k l e none. given_one t u k s h l e none)

    -- the unit shows who is next
    pub settle_at_shows : shows_next_lem cores (unit_of after u) ≡ true
    settle_at_shows =
        let gave = give t u (winner (unit_of t u)) in
        show_shows gave u (given_shaped (winner (unit_of t u))) h
      where
        given_shaped : (w : Best) → Shaped (give t u w)
        given_shaped Nobody = s
        given_shaped (Won k n) = shaped_register t u k.0 _ s h

-- Every unit

-- neither the counts nor the counter change, whether units drop or not
pub settle_rest : (t : Table) → ((settle t).table.counts ≡ t.counts) × ((settle t).table.counter ≡ t.counter)
settle_rest t =
    along (λ n z. (z.table.counts ≡ t.counts) × (z.table.counter ≡ t.counter)) settle_next (record { table = t; grants = [] }) (refl, refl) units
    (λ n h z m.
    let d = drop_rest z.table n in
    let q = settle_at_same (drop_at z.table n) n in
    (q.1 ∙ d.0 ∙ m.0, q.2 ∙ d.1 ∙ m.1))
  where
    drop_rest : (z : Table) (u : ℕ) → ((drop_at z u).counts ≡ z.counts) × ((drop_at z u).counter ≡ z.counter)
    drop_rest z u = go (eqb (flags cores (unit_of z u)) 0)
      where
        dropped : Bool → Table
        dropped b = cond b (with_dropping z u (drop_away cores (unit_of z u) z.cores)) z

        go : (b : Bool) → ((dropped b).counts ≡ z.counts) × ((dropped b).counter ≡ z.counter)
        go true = (refl, refl)
        go false = (refl, refl)

-- after the units below n: those from n on are as they were, and so are the cores
pub record Ahead (t : Table) (n : ℕ) (z : Table) : Type 0 where
  pub unit : (v : ℕ) → n ≤ v → unit_of z v ≡ unit_of t v
  pub same : z.cores ≡ t.cores

-- the units below n have settled
record Mended (n : ℕ) (t : Table) : Type 0 where
  shaped : Shaped t
  almost : Almost t
  ones : (u : ℕ) → u < n → S.one_flag (unit_of t u) ≡ true
  shows : (u : ℕ) → u < n → shows_next_lem cores (unit_of t u) ≡ true

module _ (t : Table) (present : AllPresent t) where
  abbrev start : Settling
  start = record { table = t; grants = [] }

  abbrev settled : Table
  settled = (settle t).table

  ahead_turn : (n : ℕ) (z : Settling) → Ahead t n z.table → Ahead t (suc n) (grant_next n z).table
  ahead_turn n z a =
      record {
        unit = λ v l. settle_at_unit z.table n v (λ e. omega arith) ∙ a.unit v (omega arith);
        same = (settle_at_same z.table n).0 ∙ a.same;
      }

  -- so whoever is next at unit n is not away
  ahead_present : (n : ℕ) → n < units → (z : Table) → Ahead t n z → Present z n
  ahead_present n h z a none =
      let here = a.unit n (omega arith) in
      ap₂ (λ (x : LockUnit) (cs : List Core). away_next cores (dropping x cs)) here a.same ∙ present n h (ap (flags cores) (sym here) ∙ none)

  -- what each unit keeps when it grants, all keep when they settle
  pub settle_along :
      (P : ℕ → Settling → Type 0) →
      P 0 start →
      ((n : ℕ) → n < units → (z : Settling) → Ahead t n z.table → Present z.table n → P n z → P (suc n) (grant_next n z)) →
      P units (settle t)
  settle_along P first turn =
      subst (P units) (sym (settle_grants t present))
      (along (λ n z. Ahead t n z.table × P n z) grant_next start (record { unit = λ v h. refl; same = refl }, first) units
      (λ n h z p. (ahead_turn n z p.0, turn n h z p.0 (ahead_present n h z.table p.0) p.1))).1

  mended : Shaped t → Almost t → Mended units settled
  mended s a =
      settle_along (λ n z. Mended n z.table)
      (record { shaped = s; almost = a; ones = λ u h. absurd (not-suc-le-zero h); shows = λ u h. absurd (not-suc-le-zero h) })
      (λ n h z ahead here m. record {
        shaped = settle_at_shaped z.table n m.shaped h;
        almost = settle_at_almost z.table n m.shaped h here m.almost;
        ones =
            to_last (λ u. S.one_flag (unit_of (settle_at z.table n).table u) ≡ true) n
            (λ u l. ap S.one_flag (settle_at_unit z.table n u (λ e. omega arith)) ∙ m.ones u l)
            (settle_at_one z.table n m.shaped h m.almost);
        shows =
            to_last (λ u. shows_next_lem cores (unit_of (settle_at z.table n).table u) ≡ true) n
            (λ u l. ap (shows_next_lem cores) (settle_at_unit z.table n u (λ e. omega arith)) ∙ m.shows u l)
            (settle_at_shows z.table n m.shaped h);
      })

  pub settle_shaped : Shaped t → Shaped settled
  settle_shaped s = settle_along (λ n z. Shaped z.table) s (λ n h z ahead here m. settle_at_shaped z.table n m h)

  pub settle_sound : Shaped t → Almost t → Sound settled
  settle_sound s a =
      let m = mended s a in
      record {
        counts = m.almost.counts;
        core = m.almost.core;
        unit = λ u h. record { agrees = m.almost.agrees u h; one_flag = m.ones u h; next = m.shows u h };
      }

  pub settle_cores : settled.cores ≡ t.cores
  settle_cores =
      settle_along (λ n z. z.table.cores ≡ t.cores) refl (λ n h z ahead here m. (settle_at_same z.table n).0 ∙ m)

  pub settle_same : (settled.cores ≡ t.cores) × (settled.counts ≡ t.counts) × (settled.counter ≡ t.counter)
  settle_same = (settle_cores, (settle_rest t).0, (settle_rest t).1)
