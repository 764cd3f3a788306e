-- A run: a good header's fresh table and any list of steps, accepted or refused. "Its `earlier` is the order of requests in the run,
-- never the comparison": the n-th ticket of the run, from 0, has issue number n, which never wraps. In D "a dropped one takes a new ticket":
-- its coming back counts with the requests.
use Rattle.std.specs.Prelude.{ℕ, ◌+◌, ◌<◌, Bool, true, false, cond, ◌&&◌, List, ◌≡◌, eqb}
use Rattle.ticket.specs.Order.{circle}
use Rattle.ticket.specs.declared.kinds.Ticket.{Ticket}
use Rattle.parts.specs.Fold.{one}
use Rattle.parts.specs.Answer.{whose, number_of}
use Rattle.parts.specs.Range.{in_range}
use Rattle.parts.specs.State.{is_dropped}
use Rattle.building.specs.Build.{fresh}
use Rattle.block.specs.Table.{core_of}
use Rattle.block.specs.Steps.{step}
use Rattle.block.specs.Over.{last_place}
use Rattle.parts.specs.declared.kinds.Counts.{Counts}
use Rattle.block.specs.declared.table.Table.{Table}
use Rattle.parts.specs.declared.answer.Step.{Step}
use Rattle.parts.specs.declared.answer.Step.TheVariants.{R, N, P, I, C, L}

-- answered 0
abbrev pub done : Table → Step → Bool
done t s = eqb (number_of (step t s).answer) 0

-- the step gives core j a ticket: an accepted request, or an accepted coming back of a core that was dropped
abbrev pub takes_ticket : Table → Step → ℕ → Bool
takes_ticket t s j =
    elim s [ R k u ↦ eqb k.0 j && done t (R k u) | N k u ↦ false | P k ↦ false | I k ↦ false | C k ↦ eqb k.0 j && is_dropped (core_of t k.0).state && done t (C k) | L k ↦ false ]

-- the step is an accepted interrupt of core j
abbrev pub interrupts : Table → Step → ℕ → Bool
interrupts t s j = elim s [ R k u ↦ false | N k u ↦ false | P k ↦ false | I k ↦ eqb k.0 j && done t (I k) | C k ↦ false | L k ↦ false ]

-- where a run stands: the table, how many tickets were taken, and for each core the issue number of the last that it took, which is that of its
-- ticket while it is live
pub record Place : Type 0 where
  pub table : Table
  pub issued : ℕ
  pub issue : ℕ → ℕ

-- one step on: a core that takes a ticket gets the next issue number
abbrev pub onward : Place → Step → Place
onward p s =
    record {
      table = (step p.table s).table;
      issued = p.issued + one (takes_ticket p.table s (whose s).0);
      issue = λ (j : ℕ). cond (takes_ticket p.table s j) p.issued (p.issue j);
    }

-- the place after a list of steps, accepted or refused
abbrev pub after_all : Place → List Step → Place
after_all p steps = last_place onward p steps

abbrev pub start : Counts → Ticket → Place
start c n = record { table = fresh c n; issued = 0; issue = λ (j : ℕ). 0 }

-- "Demand 3 is proved once for any number of cores up to the limit." "The counter starts anywhere from 0 to 65,535."
pub record Reached (p : Place) : Type 0 where
  pub counts : Counts
  pub counter : Ticket
  pub steps : List Step
  pub good : in_range counts ≡ true
  pub counter_fits : counter.0 < circle
  pub run : after_all (start counts counter) steps ≡ p
