-- Dropping keeps a table sound. Whoever is in line and away is marked so: it stands at its first unit alone, without a flag. Dropped, it stands nowhere and has
-- no ticket; the unit keeps its flag, and shows who is next then.
use Prim.Native.Nat.{ℕ, ◌<◌}
use mathlib.Core.Bool.{Bool, true, false}
use mathlib.Core.List.{List}
use mathlib.Core.Logic.{◌⊎◌, inl, inr, ⊎_elim, ◌≢◌}
use mathlib.Core.Path.{◌≡◌, refl, sym, ◌∙◌, ap, subst}
use native.Mathlib.Omega.{arith}
use lib.ListN.{get_or, set}
use lib.Seq.{get_or-set_same, set-get_or, set-set}
use borrow.Author.Tests.{eq-eqb}
use Rattle.parts.specs.Fold.{one}
use Rattle.parts.specs.State.{is_idle_lem, is_away, stands, two_stage_lem}
use Rattle.parts.specs.Parts.{cores, units, core_no, blank, absent_unit, dropped, register_in, registered}
use Rattle.parts.specs.declared.kinds.LockUnit.{LockUnit}
use Rattle.parts.specs.declared.kinds.Profile.TheVariants.{D}
use Rattle.parts.specs.declared.kinds.State.TheVariants.{Marked}
use Rattle.settling.specs.Line.{flags, in_line}
use Rattle.settling.specs.Shown.{shown, shows_next_lem}
use Rattle.settling.specs.Dropping.{dropping, drop_one, drop_away, showing_next}
use Rattle.settling.specs.declared.dropping.Dropping.{Dropping}
use Rattle.effects.specs.Effect.{counts_dropped}
use Rattle.block.specs.Table.{core_of, unit_of, register_of, with_unit, with_register, with_core, with_counter_lem, Shaped}
use Rattle.block.specs.Settle.{show, with_dropping}
use Rattle.block.specs.Parts.{Sound}
use Rattle.block.specs.Sound as S
use Rattle.block.specs.Steps.{affected}
use Rattle.block.specs.declared.table.Table.{Table}
use Rattle.parts.proofs.Along.{same_or_not}
use Rattle.parts.proofs.Bools.{clash}
use Rattle.parts.proofs.Folds.{some_none, none_count}
use Rattle.settling.proofs.NextInLine.{shows_is}
use Rattle.settling.proofs.DroppedAway.{Goes, drops_keep}
use Rattle.block.proofs.Parts.{whole}
use Rattle.block.proofs.Access.{unit_same, unit_other, shaped_register, shaped_core}
use Rattle.block.proofs.Almost.{Almost}
use Rattle.block.proofs.Showing.{show_shaped, show_almost, show_shows, show_one_flag}
use Rattle.block.proofs.Suited.{marked_in_D}
use Rattle.block.proofs.Agreeing.{AtFirst, in_line_lem, line_marked, flag_at}
use Rattle.block.proofs.Stepping.{clears_one, flags_kept}
use Rattle.block.proofs.Kept.{live_within, almost_dropped}
use Rattle.block.proofs.Presence.{one_there}

-- core j is dropped at unit u, which shows who is next then
abbrev gone : Table → ℕ → ℕ → Table
gone t u j = with_core (with_register t u j blank) j (dropped (core_of t j))

abbrev pub drop_once : Table → ℕ → ℕ → Table
drop_once t u j = show (gone t u j) u

module _
    (t : Table) (shaped : Shaped t) (s : Sound t) (u j : ℕ) (h : u < units) (l : j < cores)
    (line : in_line (register_of t u j) ≡ true) (away : is_away (core_of t j).state ≡ true)
  where
    stood : ((core_of t j).state ≡ Marked) × AtFirst (core_of t j) u (register_of t u j)
    stood = line_marked (core_of t j) u (register_of t u j) ((s.unit u h).agrees j l) line away

    dequeueing : t.counts.profile ≡ D
    dequeueing = marked_in_D t.counts.profile (core_of t j).state stood.0 (s.core j l).suited

    -- it gives up what it has, at its one unit
    gives_up : affected t j (counts_dropped t.counter (core_of t j)) ≡ gone t u j
    gives_up =
        ap (λ (z : Table). with_counter_lem (with_core z j (dropped (core_of t j))) t.counter)
        (clears_one t j l (whole t s) (ap stands stood.0) (ap two_stage_lem stood.0) ∙ ap (λ (v : ℕ). with_register t v j blank) (sym stood.1.unit))

    gone_almost : Almost (gone t u j)
    gone_almost =
        subst Almost gives_up
        (almost_dropped t shaped s (core_no j) dequeueing (live_within t s j l (ap is_idle_lem stood.0)) (ap is_idle_lem stood.0))

    gone_shaped : Shaped (gone t u j)
    gone_shaped = shaped_core (with_register t u j blank) j (dropped (core_of t j)) (shaped_register t u j blank shaped h)

    there : unit_of (gone t u j) u ≡ registered (unit_of t u) j blank
    there = unit_same t u (registered (unit_of t u) j blank) shaped h

    -- the flag of the unit is another's
    flag_stays : flags cores (unit_of (gone t u j) u) ≡ 1
    flag_stays =
        ap (flags cores) there ∙
        flags_kept (unit_of t u) j blank (in_line_lem (register_of t u j) line).1 ∙
        one_there t s u j h l (in_line_lem (register_of t u j) line).0

    still_valid : S.any_valid (unit_of (gone t u j) u) ≡ true
    still_valid = go (S.any_valid (unit_of (gone t u j) u)) refl
      where
        x : LockUnit
        x = unit_of (gone t u j) u

        flagless : S.any_valid x ≡ false → (i : ℕ) → i < cores → (b : Bool) → (register_in x i).flag ≡ b → b ≡ false
        flagless e i m false q = refl
        flagless e i m true q =
            absurd
            (clash
            (⊎_elim (λ a. a.shows.valid) (λ a. a.shows.valid) (flag_at (core_of (gone t u j) i) u (register_in x i) (gone_almost.agrees u h i m) q))
            (some_none (λ (n : ℕ). (register_in x n).valid) cores e i m))

        go : (b : Bool) → S.any_valid x ≡ b → S.any_valid x ≡ true
        go true e = e
        go false e =
            absurd
            (let z = none_count (λ (i : ℕ). (register_in x i).flag) cores (λ i m. flagless e i m (register_in x i).flag refl) in
            omega (arith, z, flag_stays))

    pub once_shaped : Shaped (drop_once t u j)
    once_shaped = show_shaped (gone t u j) u gone_shaped

    pub once_sound : Sound (drop_once t u j)
    once_sound =
        let a = show_almost (gone t u j) u gone_almost in
        record {
          counts = a.counts;
          core = a.core;
          unit = λ v m.
              record {
                agrees = a.agrees v m;
                one_flag = one_flag_lem v m (same_or_not v u);
                next = shows v m (same_or_not v u);
              };
        }
      where
        elsewhere : (v : ℕ) → v ≢ u → unit_of (drop_once t u j) v ≡ unit_of t v
        elsewhere v d = unit_other (gone t u j) u v _ d ∙ unit_other t u v _ d

        one_flag_lem : (v : ℕ) → v < units → (v ≡ u) ⊎ (v ≢ u) → S.one_flag (unit_of (drop_once t u j) v) ≡ true
        one_flag_lem v m (inl e) =
            ap (λ (w : ℕ). S.one_flag (unit_of (drop_once t u j) w)) e ∙
            show_one_flag (gone t u j) u u ∙
            eq-eqb (flags cores (unit_of (gone t u j) u)) (one (S.any_valid (unit_of (gone t u j) u))) (flag_stays ∙ sym (ap one still_valid))
        one_flag_lem v m (inr d) = ap S.one_flag (elsewhere v d) ∙ (s.unit v m).one_flag

        shows : (v : ℕ) → v < units → (v ≡ u) ⊎ (v ≢ u) → shows_next_lem cores (unit_of (drop_once t u j) v) ≡ true
        shows v m (inl e) = ap (λ (w : ℕ). shows_next_lem cores (unit_of (drop_once t u j) w)) e ∙ show_shows (gone t u j) u gone_shaped h
        shows v m (inr d) = ap (shows_next_lem cores) (elsewhere v d) ∙ (s.unit v m).next

-- One after another

-- unit u, which shows its next, and the cores after some were dropped there
abbrev pub shown_drops : Table → ℕ → Dropping → Table
shown_drops t u d = with_dropping t u (showing_next cores d)

module _ (t : Table) (shaped : Shaped t) (s : Sound t) (u : ℕ) (h : u < units) where
  first_with : shown_drops t u (dropping (unit_of t u) t.cores) ≡ t
  first_with =
      ap (λ (x : LockUnit). with_unit t u x) (shows_is cores (unit_of t u) (s.unit u h).next) ∙
      ap (λ (l : List LockUnit). record { units = l; cores = t.cores; counts = t.counts; counter = t.counter }) (set-get_or t.units u absent_unit)

  put : (x : LockUnit) → get_or (set t.units u x) u absent_unit ≡ x
  put x = get_or-set_same t.units u x absent_unit (rw shaped.units_long h)

  next_with : (d : Dropping) (j : ℕ) → drop_once (shown_drops t u d) u j ≡ shown_drops t u (drop_one d j)
  next_with d j =
      let us = t.units in
      let y = shown cores d.unit in
      let b = registered y j blank in
      ap (λ (l : List LockUnit). record { units = l; cores = (drop_one d j).cores; counts = t.counts; counter = t.counter })
      (ap (λ (x : LockUnit). let z = set (set us u y) u (registered x j blank) in set z u (shown cores (get_or z u absent_unit))) (put y) ∙
      ap (λ (z : List LockUnit). set z u (shown cores (get_or z u absent_unit))) (set-set us u y b) ∙
      ap (λ (x : LockUnit). set (set us u b) u (shown cores x)) (put b) ∙
      set-set us u b (shown cores b))

  abbrev Keeps : Dropping → Type 0
  Keeps d = Shaped (shown_drops t u d) × Sound (shown_drops t u d)

  pub drops_sound : Keeps (drop_away cores (unit_of t u) t.cores)
  drops_sound = drops_keep cores Keeps turn cores (dropping (unit_of t u) t.cores) (subst (λ (z : Table). Shaped z × Sound z) (sym first_with) (shaped, s))
    where
      turn : (d : Dropping) (j : ℕ) → Keeps d → Goes cores d j → Keeps (drop_one d j)
      turn d j k g =
          let line : in_line (register_of (shown_drops t u d) u j) ≡ true = ap (λ (x : LockUnit). in_line (register_in x j)) (put (shown cores d.unit)) ∙ g.line in
          subst (λ (z : Table). Shaped z × Sound z) (next_with d j)
          (once_shaped (shown_drops t u d) k.0 k.1 u j h g.small line g.away, once_sound (shown_drops t u d) k.0 k.1 u j h g.small line g.away)
