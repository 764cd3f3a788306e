-- "The steps": a step is judged; an allowed one has its effect on the table, and then every unit settles.
use Rattle.std.specs.Prelude.{ℕ, Bool, cond}
use Rattle.ticket.specs.Kinds.{ticket}
use Rattle.ticket.specs.declared.kinds.Ticket.{Ticket}
use Rattle.parts.specs.Fold.{up_to}
use Rattle.parts.specs.State.{two_stage_lem}
use Rattle.parts.specs.Parts.{cores, units, blank, standing}
use Rattle.parts.specs.Answer.{whose, packed}
use Rattle.parts.specs.declared.kinds.Core.{Core}
use Rattle.parts.specs.declared.answer.Answer.{Answer}
use Rattle.parts.specs.declared.answer.Answer.TheVariants.{Unsound}
use Rattle.parts.specs.declared.answer.Grants.TheVariants.{None}
use Rattle.parts.specs.declared.answer.Step.{Step}
use Rattle.refusals.specs.Judge.{stretched, judge}
use Rattle.refusals.specs.Verdict.{Verdict, Allowed, Refused}
use Rattle.settling.specs.Line.{next}
use Rattle.effects.specs.Effect.{step_effect}
use Rattle.effects.specs.declared.kinds.Move.{Move}
use Rattle.effects.specs.declared.kinds.Move.TheVariants.{Stay, Enter, Carry, GiveUp}
use Rattle.effects.specs.declared.kinds.Effect.{Effect}
use Rattle.block.specs.Table.{core_of, unit_of, register_of, with_register, with_core, with_counter_lem}
use Rattle.block.specs.Settle.{settle}
use Rattle.block.specs.Sound.{sound}
use Rattle.block.specs.declared.table.Table.{Table}
use Rattle.block.specs.declared.stepped.Stepped.{Stepped}

-- 15: "some live ticket lies 32,768 or more behind the counter"
abbrev pub late : Table → Bool
late t = stretched t.counter t.cores t.counts.cores

-- whether the step is allowed
abbrev pub verdict : Table → Step → Verdict
verdict t s = judge s t.counts (late t) (core_of t (whose s).0)

-- the unit that a core waits for
abbrev pub awaited : Core → ℕ
awaited c = cond (two_stage_lem c.state) c.second.0 c.first.0

-- what the step does
abbrev pub effect_on : Table → Step → Effect
effect_on t s =
    let k = (whose s).0 in
    let c = core_of t k in
    step_effect t.counts.profile s t.counter c (register_of t (awaited c) k).flag (next cores (unit_of t c.first.0))

-- "gives up every register"
abbrev pub clear : ℕ → ℕ → Table → Table
clear k u t = with_register t u k blank

abbrev pub give_up : Table → ℕ → Table
give_up t k = up_to (clear k) units t

-- what core k, which is c, does with its registers
abbrev pub moved : Table → ℕ → Core → Move → Table
moved t k c Stay = t
moved t k c (Enter u n) = with_register t u.0 k (standing n)
moved t k c (Carry n) = with_register t c.second.0 k (standing n)
moved t k c GiveUp = give_up t k

-- the effect of a step of core k, before settling
abbrev pub affected : Table → ℕ → Effect → Table
affected t k e = with_counter_lem (with_core (moved t k (core_of t k) e.does) k e.core) e.counter

abbrev pub moves : Table → Step → Table
moves t s = affected t (whose s).0 (effect_on t s)

-- "Settling. At the end of each accepted step, every unit .. These are the step's grants."
abbrev pub settled : Table → Answer → Ticket → Stepped
settled t a n = record { table = (settle t).table; answer = a; ticket = n; grants = packed (settle t).grants }

abbrev pub performed : Table → Step → Stepped
performed t s = settled (moves t s) (effect_on t s).answer (effect_on t s).ticket

-- "Refused steps report ticket 0 and no grants."
abbrev pub refusal : Table → Answer → Stepped
refusal t a = record { table = t; answer = a; ticket = ticket 0; grants = None }

-- an allowed step does its work, a refused one hands back the table
abbrev pub answered : Table → Verdict → Stepped → Stepped
answered t v done = elim v [ Allowed ↦ done | Refused a ↦ refusal t a ]

-- the step on a table known to be sound
unfoldable pub on_sound : Table → Step → Stepped
on_sound t s = answered t (verdict t s) (performed t s)

-- the step: 16 before all others
unfoldable pub step : Table → Step → Stepped
step t s = cond (sound t) (on_sound t s) (refusal t Unsound)
