-- "Sound. A table is sound when: .." The clauses that speak of one unit, in the paragraph's order and words.
use Rattle.std.specs.Prelude.{ℕ, Bool, cond, ◌&&◌, ◌||◌, not, List, eqb, get_or}
use Rattle.ticket.specs.declared.kinds.Ticket.{Ticket}
use Rattle.parts.specs.Fold.{every, some, one, count}
use Rattle.parts.specs.State.{stands, is_marked, holds_first, holds_both, two_stage_lem}
use Rattle.parts.specs.Parts.{cores, idle, register_in}
use Rattle.parts.specs.declared.kinds.Register.{Register}
use Rattle.parts.specs.declared.kinds.LockUnit.{LockUnit}
use Rattle.parts.specs.declared.kinds.Core.{Core}
use Rattle.parts.specs.declared.kinds.State.{State}
use Rattle.settling.specs.Shown.{shows_next_lem}

-- "an invalid register has ticket 0 and no flag"
abbrev pub is_blank : Register → Bool
is_blank r = eqb r.ticket.0 0 && not r.valid && not r.flag

-- a valid register with this ticket, its flag set if the unit is held
abbrev pub shows : Register → Ticket → Bool → Bool
shows r n held = r.valid && eqb r.ticket.0 n.0 && (r.flag || not held)

-- "an away core .. registered at its unit without a flag"
abbrev pub flagless : State → Register → Bool
flagless z r = not (is_marked z) || not r.flag

-- "registers and flags agree with every core's state (idle and away stand nowhere; holding means flag set)"; "first-unit registers
-- show own tickets, second-unit registers carried ones". In D a core that is marked away stands where it stood.
abbrev pub agrees : Core → ℕ → Register → Bool
agrees c u r =
    cond (stands c.state && eqb u c.first.0) (flagless c.state r && shows r c.own (holds_first c.state))
    (cond (two_stage_lem c.state && eqb u c.second.0) (shows r c.carried (holds_both c.state)) (is_blank r))

-- some register of the unit is valid
abbrev pub any_valid : LockUnit → Bool
any_valid x = some (λ (k : ℕ). (register_in x k).valid) cores

-- "a unit has one flag if any register is valid and none otherwise"
abbrev pub one_flag : LockUnit → Bool
one_flag x = eqb (count (λ (k : ℕ). (register_in x k).flag) cores) (one (any_valid x))

-- the clauses of unit u, which is x; its next in line is that of its registers (document 02, wish 7)
unfoldable pub unit_sound_lem : List Core → ℕ → LockUnit → Bool
unit_sound_lem all u x = every (λ (k : ℕ). agrees (get_or all k idle) u (register_in x k)) cores && one_flag x && shows_next_lem cores x
