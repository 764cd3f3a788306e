-- "The steps", and "The dequeueing profile": the effect of each step when it is allowed. p is the table's profile, m the counter and c the core
-- that the step names; for P also whether the flag that it waits for is set, and who is next in line at its first unit; for I in D the flag too.
use Rattle.std.specs.Prelude.{Bool, true, false, cond}
use Rattle.ticket.specs.Kinds.{ticket}
use Rattle.ticket.specs.Order.{compare, after}
use Rattle.ticket.specs.declared.kinds.Ticket.{Ticket}
use Rattle.ticket.specs.declared.kinds.UnitNo.{UnitNo}
use Rattle.ticket.specs.declared.order.Comparison.{Comparison}
use Rattle.ticket.specs.declared.order.Comparison.TheVariants.{Older, Younger, Same, Opposite}
use Rattle.parts.specs.State.{two_stage_lem, is_marked, is_dropped}
use Rattle.parts.specs.Parts.{unit_no, idle, core, dropped}
use Rattle.parts.specs.declared.kinds.Core.{Core}
use Rattle.parts.specs.declared.kinds.Profile.{Profile}
use Rattle.parts.specs.declared.kinds.Profile.TheVariants.{T, D}
use Rattle.parts.specs.declared.kinds.State.{State}
use Rattle.parts.specs.declared.kinds.State.TheVariants.{Idle, Waiting, Holding, WaitingSecond, HoldingBoth, Away, Marked, Dropped}
use Rattle.parts.specs.declared.answer.Answer.{Answer}
use Rattle.parts.specs.declared.answer.Answer.TheVariants.{Done, Granted, NotYet}
use Rattle.parts.specs.declared.answer.Step.{Step}
use Rattle.parts.specs.declared.answer.Step.TheVariants.{R, N, P, I, C, L}
use Rattle.settling.specs.Best.{Best, Nobody, Won}
use Rattle.effects.specs.declared.kinds.Move.{Move}
use Rattle.effects.specs.declared.kinds.Move.TheVariants.{Stay, Enter, Carry, GiveUp}
use Rattle.effects.specs.declared.kinds.Effect.{Effect}

-- the core becomes c and does d; the tester sees the answer a and the ticket n; the counter is m from now on
abbrev pub makes : Core → Move → Answer → Ticket → Ticket → Effect
makes c d a n m = record { core = c; counter = m; ticket = n; does = d; answer = a }

-- R: "takes the counter as ticket, enters the unit (either class), waits"
abbrev pub request : UnitNo → Ticket → Effect
request u m = makes (core m m u (unit_no 0) Waiting) (Enter u m) Done m (ticket (after m.0))

-- N: "enters a second-class unit with its own ticket, waits"
abbrev pub nest : UnitNo → Ticket → Core → Effect
nest u m c = makes (core c.own c.own c.first u WaitingSecond) (Enter u c.own) Done c.own m

-- I in T: "gives up every register, carried ticket becomes the own one, away"
abbrev pub call_off : Ticket → Core → Effect
call_off m c = makes (core c.own c.own c.first (unit_no 0) Away) GiveUp Done c.own m

-- I in D: "a core interrupted with its flag set gives the unit up and counts as dropped"; "I and L report the core's ticket even where it just
-- ended"
abbrev pub counts_dropped : Ticket → Core → Effect
counts_dropped m c = makes (dropped c) GiveUp Done c.own m

-- "an interrupted waiter without a flag stays registered, marked away"
abbrev pub marked_away : Ticket → Core → Effect
marked_away m c = makes (core c.own c.own c.first (unit_no 0) Marked) Stay Done c.own m

abbrev pub dequeue : Ticket → Core → Bool → Effect
dequeue m c flag = cond flag (counts_dropped m c) (marked_away m c)

-- I, by the profile
abbrev pub interrupt : Profile → Ticket → Core → Bool → Effect
interrupt p m c flag = elim p [ T ↦ call_off m c | D ↦ dequeue m c flag ]

-- C: "enters its first unit again with its own ticket, waits"
abbrev pub enter_again : Ticket → Core → Effect
enter_again m c = makes (core c.own c.own c.first (unit_no 0) Waiting) (Enter c.first c.own) Done c.own m

-- "on C a core still registered goes on waiting"
abbrev pub go_on : Ticket → Core → Effect
go_on m c = makes (core c.own c.own c.first (unit_no 0) Waiting) Stay Done c.own m

-- "a dropped one takes a new ticket and joins again"
abbrev pub come_back : Ticket → Core → Effect
come_back m c = cond (is_dropped c.state) (request c.first m) (cond (is_marked c.state) (go_on m c) (enter_again m c))

-- L: "gives up every register, ticket ends, idle"; it reports "the own ticket just ended"
abbrev pub release : Ticket → Core → Effect
release m c = makes idle GiveUp Done c.own m

-- P: "flag set: now holds it, answer 1"
abbrev pub served : State → State
served z =
    elim z [ Idle ↦ Idle | Waiting ↦ Holding | Holding ↦ Holding | WaitingSecond ↦ HoldingBoth | HoldingBoth ↦ HoldingBoth | Away ↦ Away | Marked ↦ Marked | Dropped ↦ Dropped ]

abbrev pub hold : Ticket → Core → Effect
hold m c = makes (core c.own c.carried c.first c.second (served c.state)) Stay Granted c.carried m

-- "Each poll answered 2 at the second stage sets the carried ticket to the oldest of the own ticket and the waiters then at the first unit"
-- (document 02, wish 2), and it goes into the second unit's register. What was carried before does not count.
-- Whether the best ticket in line, which compares so with the own one, is carried: Older is, Younger is not; Same and Opposite are not met in
-- a sound table, where own tickets differ and lie in one half of the circle.
abbrev pub heritable : Comparison → Bool
heritable x = elim x [ Older ↦ true | Younger ↦ false | Same ↦ false | Opposite ↦ true ]

-- the older of the own ticket n and the one next in line
abbrev pub heir : Ticket → Best → Ticket
heir n best = elim best [ Nobody ↦ n | Won j t ↦ cond (heritable (compare t.0 n.0)) t n ]

abbrev pub inherit : Ticket → Core → Ticket → Effect
inherit m c n = makes (core c.own n c.first c.second c.state) (Carry n) NotYet n m

abbrev pub wait : Ticket → Core → Effect
wait m c = makes c Stay NotYet c.carried m

-- "Flag clear: answer 2, and at the second stage it inherits"
abbrev pub poll : Ticket → Core → Bool → Best → Effect
poll m c flag next = cond flag (hold m c) (cond (two_stage_lem c.state) (inherit m c (heir c.own next)) (wait m c))

abbrev pub step_effect : Profile → Step → Ticket → Core → Bool → Best → Effect
step_effect p (R k u) m c flag next = request u m
step_effect p (N k u) m c flag next = nest u m c
step_effect p (P k) m c flag next = poll m c flag next
step_effect p (I k) m c flag next = interrupt p m c flag
step_effect p (C k) m c flag next = come_back m c
step_effect p (L k) m c flag next = release m c
