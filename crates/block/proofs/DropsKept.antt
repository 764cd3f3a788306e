-- What a table keeps of which those away in front are dropped: its counts, its counter, every core but those marked away that are dropped, and every register but
-- theirs, which had no flag. The core of the step is none of them.
use Prim.Native.Nat.{ℕ, ◌<◌}
use mathlib.Core.Bool.{Bool, true, false, cond}
use mathlib.Core.Logic.{◌⊎◌, inl, inr, ⊎_elim, ◌≢◌}
use mathlib.Core.Path.{◌≡◌, refl, sym, ◌∙◌, ap, subst}
use native.Mathlib.Omega.{arith}
use lib.Seq.{get_or-set_same, get_or-set_other}
use Rattle.parts.specs.Answer.{whose}
use Rattle.parts.specs.Parts.{cores, units, blank, absent_unit, register_in, dropped as gone}
use Rattle.parts.specs.State.{is_away}
use Rattle.parts.specs.declared.answer.Step.{Step}
use Rattle.parts.specs.declared.kinds.LockUnit.{LockUnit}
use Rattle.parts.specs.declared.kinds.State.TheVariants.{Marked}
use Rattle.settling.specs.Shown.{shown}
use Rattle.settling.specs.Dropping.{dropping, drop_away}
use Rattle.settling.specs.declared.dropping.Dropping.{Dropping}
use Rattle.block.specs.Table.{core_of, unit_of, register_of, Shaped}
use Rattle.block.specs.Sound.{sound}
use Rattle.block.specs.Skipping.{first_of, skips, dropped, skipped}
use Rattle.block.specs.declared.table.Table.{Table}
use Rattle.parts.proofs.Along.{same_or_not}
use Rattle.parts.proofs.Bools.{clash}
use Rattle.parts.proofs.Ranging.{cores_few}
use Rattle.settling.proofs.DroppedAway.{drop_core}
use Rattle.block.proofs.Parts.{parts}
use Rattle.block.proofs.Agreeing.{in_line_lem, line_marked}
use Rattle.block.proofs.DroppedFirst.{Skips, skips_so, busy, place}

module _ (t : Table) (s : Step) where
  -- of a step that does not skip it is the same table
  pub skipped_calm : skips t s ≡ false → skipped t s ≡ t
  skipped_calm e = ap (λ (b : Bool). cond b (dropped t (first_of t s)) t) e

  pub skipped_same : ((skipped t s).counts ≡ t.counts) × ((skipped t s).counter ≡ t.counter)
  skipped_same = go (skips t s)
    where
      go : (b : Bool) → let x = cond b (dropped t (first_of t s)) t in (x.counts ≡ t.counts) × (x.counter ≡ t.counter)
      go true = (refl, refl)
      go false = (refl, refl)

  pub by_skipping : (Q : Table → Type 0) → (skips t s ≡ false → Q t) → (Skips t s → Q (dropped t (first_of t s))) → Q (skipped t s)
  by_skipping Q stays drops = go (skips t s) refl
    where
      go : (b : Bool) → skips t s ≡ b → Q (cond b (dropped t (first_of t s)) t)
      go true e = drops (skips_so t s e)
      go false e = stays e

  module _ (shaped : Shaped t) (ok : sound t ≡ true) where
    module _ (is : Skips t s) where
      abbrev u : ℕ
      u = first_of t s

      abbrev before : Dropping
      before = dropping (unit_of t u) t.cores

      abbrev n : ℕ
      n = t.counts.cores

      h : u < units
      h = place t s shaped ok is

      pub dropped_unit : unit_of (dropped t u) u ≡ shown n (drop_away n (unit_of t u) t.cores).unit
      dropped_unit = get_or-set_same t.units u _ absent_unit (rw shaped.units_long h)

      drop_marked :
          (j : ℕ) →
          (core_of (dropped t u) j ≡ core_of t j) ⊎ (((core_of t j).state ≡ Marked) × (core_of (dropped t u) j ≡ gone (core_of t j)))
      drop_marked j =
          ⊎_elim (λ x. inl x.core)
          (λ o.
          let small : j < cores = omega (arith, o.small, cores_few t.counts (parts t ok).counts) in
          inr ((line_marked (core_of t j) u (register_of t u j) (((parts t ok).unit u h).agrees j small) o.line o.away).0, o.core))
          (drop_core n n before j)

      drop_clear :
          (v j : ℕ) →
          (v ≡ u) ⊎ (v ≢ u) →
          (register_of (dropped t u) v j ≡ register_of t v j) ⊎ (((register_of t v j).flag ≡ false) × (register_of (dropped t u) v j ≡ blank))
      drop_clear v j (inl e) =
          let there = ap (λ (x : LockUnit). register_in x j) dropped_unit in
          subst
          (λ (w : ℕ). (register_of (dropped t u) w j ≡ register_of t w j) ⊎ (((register_of t w j).flag ≡ false) × (register_of (dropped t u) w j ≡ blank)))
          (sym e)
          (⊎_elim (λ x. inl (there ∙ x.register)) (λ o. inr ((in_line_lem (register_of t u j) o.line).1, there ∙ o.register)) (drop_core n n before j))
      drop_clear v j (inr o) = inl (ap (λ (x : LockUnit). register_in x j) (get_or-set_other t.units u v _ absent_unit o))

      -- the core of the step, and its registers
      core_here : core_of (dropped t u) (whose s).0 ≡ core_of t (whose s).0
      core_here =
          ⊎_elim (λ e. e)
          (λ e. absurd (clash (ap is_away e.0) (busy s (core_of t (whose s).0).state is.gives).1))
          (drop_marked (whose s).0)

      register_here : (v : ℕ) → register_of (dropped t u) v (whose s).0 ≡ register_of t v (whose s).0
      register_here v = go (same_or_not v u)
        where
          go : (v ≡ u) ⊎ (v ≢ u) → register_of (dropped t u) v (whose s).0 ≡ register_of t v (whose s).0
          go (inl e) =
              ⊎_elim (λ q. q)
              (λ q. absurd (clash (ap (λ (w : ℕ). (register_of t w (whose s).0).flag) e ∙ is.flag) q.0))
              (drop_clear v (whose s).0 (inl e))
          go (inr d) = ap (λ (x : LockUnit). register_in x (whose s).0) (get_or-set_other t.units u v _ absent_unit d)

    pub skipped_core : (j : ℕ) → (core_of (skipped t s) j ≡ core_of t j) ⊎ (((core_of t j).state ≡ Marked) × (core_of (skipped t s) j ≡ gone (core_of t j)))
    skipped_core j =
        by_skipping (λ (x : Table). (core_of x j ≡ core_of t j) ⊎ (((core_of t j).state ≡ Marked) × (core_of x j ≡ gone (core_of t j)))) (λ e. inl refl)
        (λ is. drop_marked is j)

    pub skipped_register :
        (v j : ℕ) → (register_of (skipped t s) v j ≡ register_of t v j) ⊎ (((register_of t v j).flag ≡ false) × (register_of (skipped t s) v j ≡ blank))
    skipped_register v j =
        by_skipping (λ (x : Table). (register_of x v j ≡ register_of t v j) ⊎ (((register_of t v j).flag ≡ false) × (register_of x v j ≡ blank))) (λ e. inl refl)
        (λ is. drop_clear is v j (same_or_not v (first_of t s)))

    pub step_core : core_of (skipped t s) (whose s).0 ≡ core_of t (whose s).0
    step_core = by_skipping (λ (x : Table). core_of x (whose s).0 ≡ core_of t (whose s).0) (λ e. refl) core_here

    pub step_register : (v : ℕ) → register_of (skipped t s) v (whose s).0 ≡ register_of t v (whose s).0
    step_register v = by_skipping (λ (x : Table). register_of x v (whose s).0 ≡ register_of t v (whose s).0) (λ e. refl) (λ is. register_here is v)
