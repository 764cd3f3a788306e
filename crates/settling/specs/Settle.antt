-- Detail: what becomes of one unit when a core enters or leaves it or shows another ticket there, by that core's register and by what the unit
-- shows. That this is settling as document 01 has it, on a unit of a sound table, are the laws `enter_settles`, `leave_settles` and
-- `carry_settles`.
use Rattle.std.specs.Prelude.{ℕ, Bool, true, false, cond, ◌&&◌, eqb}
use Rattle.ticket.specs.Order.{compare}
use Rattle.ticket.specs.declared.kinds.CoreNo.{CoreNo}
use Rattle.ticket.specs.declared.kinds.Ticket.{Ticket}
use Rattle.parts.specs.Parts.{blank, standing, flagged, register_in, registered, showing}
use Rattle.parts.specs.declared.kinds.Register.{Register}
use Rattle.parts.specs.declared.kinds.Next.{Next}
use Rattle.parts.specs.declared.kinds.LockUnit.{LockUnit}
use Rattle.settling.specs.Line.{is_older, next, stored}
use Rattle.settling.specs.Pairs.{is_younger}
use Rattle.settling.specs.Shown.{shown_as}
use Rattle.settling.specs.Best.{Best, Nobody, Won}
use Rattle.settling.specs.declared.settle.Change.{Change}

-- the core's register becomes r, the unit shows v, and w gets its flag; if p, the pairs are gone through for who is next
abbrev pub becomes : Register → Next → Best → Bool → Change
becomes r v w p = record { register = r; next = v; winner = w; repick = p }

-- nothing changes
abbrev pub stay : Register → Next → Change
stay r v = becomes r v Nobody false

-- core k, in line with the ticket t, and the one that is next: the older is next
abbrev pub compared : Best → CoreNo → Ticket → Best
compared Nobody k t = Won k t
compared (Won j s) k t = cond (is_older (compare t.0 s.0)) (Won k t) (Won j s)

-- core k is the one that a unit shows
abbrev pub is_next : Next → CoreNo → Bool
is_next v k = v.valid && eqb v.core.0 k.0

-- core k enters with the ticket t: a free unit is its own, and in one that has a flag set it stands and is compared with the next in line
abbrev pub enter : Next → CoreNo → Ticket → Change
enter v k t =
    cond v.held
    (becomes (standing t) (shown_as (compared (stored v) k t) true) Nobody false)
    (becomes (flagged (standing t)) (shown_as Nobody true) (Won k t) false)

-- a flag is given up: the next in line gets it, and another is next
abbrev pub passed : Best → Change
passed Nobody = becomes blank (shown_as Nobody false) Nobody false
passed (Won k t) = becomes blank (shown_as Nobody true) (Won k t) true

-- core k, whose register is r, gives it up: its flag, if it was set, goes to the next in line; if it was next, another is
abbrev pub leave : Register → Next → CoreNo → Change
leave r v k = cond r.flag (passed (stored v)) (becomes blank v Nobody (is_next v k))

-- core k, which stands in line, shows the ticket t: if it was next and is younger now, another may be next
abbrev pub carry : Next → CoreNo → Ticket → Change
carry v k t =
    cond (is_next v k)
    (cond (is_younger (compare t.0 v.ticket.0))
    (becomes (standing t) v Nobody true)
    (becomes (standing t) (shown_as (Won k t) true) Nobody false))
    (becomes (standing t) (shown_as (compared (stored v) k t) true) Nobody false)

-- the core whose flag is set, k's own where nobody's is; and its register
abbrev pub passed_to_lem : Best → CoreNo → CoreNo
passed_to_lem Nobody k = k
passed_to_lem (Won j t) k = j

abbrev pub with_flag : Register → Best → Register
with_flag r Nobody = r
with_flag r (Won k t) = flagged r

-- the flag of the core that won is set
abbrev pub given : LockUnit → Best → LockUnit
given x Nobody = x
given x (Won k t) = registered x k.0 (flagged (register_in x k.0))

-- what a unit that has a flag set shows, found by the pairs
abbrev pub repicked : ℕ → LockUnit → Next
repicked n x = shown_as (next n x) true

-- the unit, of n cores, in which core k changed so
abbrev pub resettled : ℕ → Change → LockUnit → LockUnit
resettled n c x = cond c.repick (let y = given x c.winner in showing y (repicked n y)) x

abbrev pub changed : ℕ → CoreNo → Change → LockUnit → LockUnit
changed n k c x = resettled n c (showing (registered x k.0 c.register) c.next)
