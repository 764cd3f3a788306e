-- Detail: in D, before a core gives up its flag, those at the front of the unit's line who are away are dropped. Then the step is worked as in T. That
-- this is the step, since the unit would drop them when it settles, is the law `skip_first`.
use Rattle.std.specs.Prelude.{ℕ, Bool, false, cond, ◌&&◌, ltb}
use Rattle.parts.specs.State.{is_away, waits, holds}
use Rattle.parts.specs.Profile.{dequeues}
use Rattle.parts.specs.Answer.{whose}
use Rattle.parts.specs.declared.kinds.Core.{Core}
use Rattle.parts.specs.declared.kinds.Counts.{Counts}
use Rattle.parts.specs.declared.kinds.Register.{Register}
use Rattle.parts.specs.declared.kinds.State.{State}
use Rattle.parts.specs.declared.answer.Step.{Step}
use Rattle.parts.specs.declared.answer.Step.TheVariants.{R, N, P, I, C, L}
use Rattle.settling.specs.Line.{stored}
use Rattle.settling.specs.Dropping.{away_as, drop_away, showing_next}
use Rattle.block.specs.Table.{core_of, unit_of, register_of}
use Rattle.block.specs.Settle.{with_dropping}
use Rattle.block.specs.declared.table.Table.{Table}

-- in this state a core that the step allows gives up all that it has: L, or I
abbrev pub gives_up : Step → State → Bool
gives_up s z = elim s [ R k u ↦ false | N k u ↦ false | P k ↦ false | I k ↦ waits z | C k ↦ false | L k ↦ holds z ]

-- the unit that the core of the step first asked for
abbrev pub first_of : Table → Step → ℕ
first_of t s = (core_of t (whose s).0).first.0

-- in D, the step gives up a flag there
abbrev pub gives_up_flag : Table → Step → Bool
gives_up_flag t s =
    let k = (whose s).0 in
    dequeues t.counts.profile && ltb k t.counts.cores && gives_up s (core_of t k).state && (register_of t (first_of t s) k).flag

-- and whoever the unit shows as its next in line is away
abbrev pub skips : Table → Step → Bool
skips t s = gives_up_flag t s && away_as t.cores (stored (unit_of t (first_of t s)).next)

-- those away in front are dropped at unit u, which shows who is next then
abbrev pub dropped : Table → ℕ → Table
dropped t u = let n = t.counts.cores in with_dropping t u (showing_next n (drop_away n (unit_of t u) t.cores))

-- the table on which the step is worked
abbrev pub skipped : Table → Step → Table
skipped t s = cond (skips t s) (dropped t (first_of t s)) t

-- the same by what a run reads: c is the core of the step, r its register at its first unit, f whoever is in front of the line there
abbrev pub gives_way : Step → Counts → Core → Register → Core → Bool
gives_way s n c r f = dequeues n.profile && ltb (whose s).0 n.cores && gives_up s c.state && r.flag && is_away f.state
