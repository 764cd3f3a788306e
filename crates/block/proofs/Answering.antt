-- What an allowed step of a sound table names: a core and a unit of the table.
use Prim.Native.Nat.{ℕ, ◌<◌, ◌≤◌}
use mathlib.Core.Bool.{true}
use mathlib.Core.Logic.{⊎_elim}
use mathlib.Core.Path.{◌≡◌, ap}
use native.Mathlib.Omega.{arith}
use lib.Dec.{ltb}
use borrow.Author.Tests.{ltb-true}
use Rattle.parts.specs.declared.answer.Step.TheVariants.{R, N, P, I, C, L}
use Rattle.ticket.specs.declared.kinds.CoreNo.{CoreNo}
use Rattle.ticket.specs.declared.kinds.UnitNo.{UnitNo}
use Rattle.parts.specs.State.{is_idle_lem, stands, two_stage_lem, waits}
use Rattle.parts.specs.Parts.{cores, units}
use Rattle.parts.specs.declared.kinds.State.TheVariants.{Idle}
use Rattle.parts.proofs.Bools.{or_cases}
use Rattle.block.specs.Table.{core_of, unit_of}
use Rattle.block.specs.Parts.{Sound}
use Rattle.block.specs.Sound.{sound}
use Rattle.block.specs.Steps.{verdict}
use Rattle.block.specs.declared.table.Table.{Table}
use Rattle.refusals.specs.Verdict.{Allowed}
use Rattle.block.proofs.Parts.{parts}
use Rattle.block.proofs.Entering.{Past}
use Rattle.block.proofs.Allows.{is_idle_lem_lem, may_request, may_nest, may_poll, may_interrupt, may_come_back, may_release}
use Rattle.parts.proofs.Ranging.{cores_few}
use Rattle.block.proofs.Standing.{units_few, no_and, bare, first_in}

-- past the count a unit is blank
pub past_blank : (t : Table) → Sound t → (u : ℕ) → u < units → Past t.counts.cores (unit_of t u)
past_blank t s u h j l m =
    let z = idle_past in
    bare t s j m u h (no_and (stands (core_of t j).state) _ (ap stands z)) (no_and (two_stage_lem (core_of t j).state) _ (ap two_stage_lem z))
  where
    idle_past : (core_of t j).state ≡ Idle
    idle_past =
        is_idle_lem_lem (core_of t j).state
        (⊎_elim (λ e. absurd (let z = ltb-true j t.counts.cores e in omega arith)) (λ e. e)
        (or_cases (ltb j t.counts.cores) (is_idle_lem (core_of t j).state) (s.core j m).within))

-- what an allowed step names, in a sound table
module _ (t : Table) (k : CoreNo) (s : sound t ≡ true) where
  pub cores_in : t.counts.cores ≤ cores
  cores_in = cores_few t.counts (parts t s).counts

  core_in : k.0 < t.counts.cores → k.0 < cores
  core_in h = omega (arith, cores_in)

  pub request_in : (u : UnitNo) → verdict t (R k u) ≡ Allowed → (k.0 < cores) × (u.0 < units)
  request_in u e =
      let r = may_request t k u e in
      (core_in r.within, omega (arith, r.unit, units_few t.counts (parts t s).counts))

  pub nest_in : (u : UnitNo) → verdict t (N k u) ≡ Allowed → (k.0 < cores) × (u.0 < units)
  nest_in u e =
      let r = may_nest t k u e in
      (core_in r.within, omega (arith, r.unit, units_few t.counts (parts t s).counts))

  pub poll_in : verdict t (P k) ≡ Allowed → (k.0 < cores) × (waits (core_of t k.0).state ≡ true)
  poll_in e =
      let r = may_poll t k e in
      (core_in r.0, ⊎_elim (λ z. ap waits z) (λ z. ap waits z) r.1)

  pub interrupt_in : verdict t (I k) ≡ Allowed → (k.0 < cores) × (stands (core_of t k.0).state ≡ true)
  interrupt_in e =
      let r = may_interrupt t k e in
      (core_in r.0, ⊎_elim (λ z. ap stands z) (λ z. ap stands z) r.1)

  pub come_back_in : verdict t (C k) ≡ Allowed → (k.0 < cores) × ((core_of t k.0).first.0 < units)
  come_back_in e =
      let r = may_come_back t k e in
      (core_in r.within, first_in t (parts t s) k.0 (core_in r.within) (⊎_elim (λ z. ap is_idle_lem z) (λ y. ⊎_elim (λ z. ap is_idle_lem z) (λ z. ap is_idle_lem z) y) r.state))

  pub release_in : verdict t (L k) ≡ Allowed → (k.0 < cores) × (stands (core_of t k.0).state ≡ true)
  release_in e =
      let r = may_release t k e in
      (core_in r.0, ⊎_elim (λ z. ap stands z) (λ z. ap stands z) r.1)
