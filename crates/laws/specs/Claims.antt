-- Demands 1 and 2, of a step: what holds of every step of every table that a program holds; and what its comparisons meet.
use Rattle.std.specs.Prelude.{ℕ, ◌≤◌, ◌<◌, true, false, ◌⊎◌, ◌≢◌, ◌≡◌}
use mathlib.Core.List.{Memᴰ}
use Rattle.ticket.specs.declared.kinds.Grant.{Grant}
use Rattle.ticket.specs.Order.{circle, compare}
use Rattle.ticket.specs.declared.kinds.Ticket.{Ticket}
use Rattle.ticket.specs.declared.order.Comparison.TheVariants.{Older, Younger}
use Rattle.parts.specs.State.{waits, two_stage_lem}
use Rattle.parts.specs.Parts.{cores, units}
use Rattle.parts.specs.Answer.{number_of}
use Rattle.parts.specs.declared.kinds.Counts.{Counts}
use Rattle.parts.specs.declared.answer.Step.{Step}
use Rattle.parts.specs.declared.answer.Grants.TheVariants.{Two}
use Rattle.refusals.specs.Verdict.{Allowed}
use Rattle.block.specs.Table.{core_of, register_of, unit_count, Shaped}
use Rattle.block.specs.Sound.{sound}
use Rattle.block.specs.Settle.{settle}
use Rattle.block.specs.Steps.{verdict, awaited, moves, refusal, step}
use Rattle.block.specs.declared.table.Table.{Table}
use Rattle.building.specs.Build.{build}
use Rattle.laws.specs.Granting.{listed, Rising}

-- a table that was built is sound, and has its arrays' lengths
abbrev pub BuiltSound : Type 0
BuiltSound = (c : Counts) (n : Ticket) → (sound (build c n).table ≡ true) × Shaped (build c n).table

-- "every step keeps a table sound"
abbrev pub KeepsSound : Type 0
KeepsSound = (t : Table) (s : Step) → Shaped t → sound t ≡ true → (sound (step t s).table ≡ true) × Shaped (step t s).table

-- "a refused step hands back the same table", and reports ticket 0 and no grants
abbrev pub RefusedSame : Type 0
RefusedSame = (t : Table) (s : Step) → 10 ≤ number_of (step t s).answer → step t s ≡ refusal t (step t s).answer

-- the grants of a step of a sound table
pub record GrantsOf (t : Table) (s : Step) : Type 0 where
  -- "There are at most two grants": of those that settling gives none is lost
  pub whole : verdict t s ≡ Allowed → listed (step t s).grants ≡ (settle (moves t s)).grants
  -- "by rising unit"
  pub rise : Rising (listed (step t s).grants)
  -- "two are one first-class and one second-class unit"
  pub classes :
      (g h : Grant) →
      (step t s).grants ≡ Two g h → (g.unit.0 < t.counts.first) × (t.counts.first ≤ h.unit.0) × (h.unit.0 < unit_count t)
  -- "each grant goes to a core that stands there waiting"
  pub awaited :
      (g : Grant) → Memᴰ g (listed (step t s).grants) →
      let c = core_of (step t s).table g.core.0 in (waits c.state ≡ true) × (awaited c ≡ g.unit.0)

abbrev pub StepGrants : Type 0
StepGrants = (t : Table) (s : Step) → Shaped t → sound t ≡ true → GrantsOf t s

-- "picking is shown never to meet opposite in a sound table", nor same: of two cores with valid registers at a unit of either class, one shows
-- the older ticket. At a second-class unit registers show carried tickets: each is the own ticket of a core that lends it to one core only, the holder of
-- the unit it waits for or is away from, and does not itself stand where the ticket is borrowed. Tickets fit sixteen bits, as the types have it.
abbrev pub PickingOrdered : Type 0
PickingOrdered =
    (t : Table) (u i k : ℕ) → sound t ≡ true → ((j : ℕ) → j < cores → (core_of t j).own.0 < circle) → u < units → i < cores → k < cores → i ≢ k →
    let a = register_of t u i in
    let b = register_of t u k in
    a.valid ≡ true → b.valid ≡ true → (compare a.ticket.0 b.ticket.0 ≡ Older) ⊎ (compare a.ticket.0 b.ticket.0 ≡ Younger)

-- inheriting meets neither opposite nor same: what a register in line at the first unit of a core with a second one shows, and the core's own
-- ticket
abbrev pub InheritingOrdered : Type 0
InheritingOrdered =
    (t : Table) (i k : ℕ) → sound t ≡ true → ((j : ℕ) → j < cores → (core_of t j).own.0 < circle) → i < cores → k < cores →
    let c = core_of t k in
    let a = register_of t c.first.0 i in
    two_stage_lem c.state ≡ true → a.valid ≡ true → a.flag ≡ false →
    (compare a.ticket.0 c.own.0 ≡ Older) ⊎ (compare a.ticket.0 c.own.0 ≡ Younger)
