-- "An expected line may reach 29 bytes", and the room for a script, told before it is translated.
use Rattle.std.specs.Prelude.{ℕ, ◌+◌, ◌*◌, ◌≤◌, ◌<◌, true, List, ◌≢◌, ◌≡◌, length, drop}
use Rattle.ticket.specs.Order.{circle}
use Rattle.ticket.specs.declared.kinds.Ticket.{Ticket}
use Rattle.parts.specs.declared.answer.Step.{Step}
use Rattle.parts.specs.declared.kinds.Counts.{Counts}
use Rattle.block.specs.Sound.{sound}
use Rattle.block.specs.Steps.{step}
use Rattle.block.specs.Table.{core_of, Shaped}
use Rattle.block.specs.declared.table.Table.{Table}
use Rattle.headers.specs.Header.{read_header}
use Rattle.headers.specs.HeaderLine.{Header}
use Rattle.expected.specs.Expected.{expected_most, expected_bytes}
use Rattle.stops.specs.Run.{steps_most, beginning}
use Rattle.stops.specs.declared.run.Run.{Run}
use Rattle.stops.specs.declared.run.Stop.TheVariants.{NoRoom}
use Rattle.calls.specs.Call.{call}
use Rattle.room.specs.Room.{room_for, step_lines}

-- a table that a program holds: its arrays have their lengths, and its tickets sixteen bits
pub record Held (t : Table) : Type 0 where
  pub shaped : Shaped t
  pub counter : t.counter.0 < circle
  pub own : (k : ℕ) → (core_of t k).own.0 < circle
  pub carried : (k : ℕ) → (core_of t k).carried.0 < circle

-- "an expected line may reach 29 bytes": the line of any step of any sound table, with any number that a step can have
abbrev pub LineMost : Type 0
LineMost =
    (t : Table) (x : Step) (i : ℕ) →
    Held t →
    sound t ≡ true →
    i ≤ steps_most →
    let y = step t x in length (expected_bytes i y.answer y.ticket y.grants) ≤ expected_most

-- a call from the beginning of a script with a good header: what it writes, and that so much room is enough
abbrev pub RoomWhole : Type 0
RoomWhole =
    (s out : List ℕ) (c : Counts) (n : Ticket) (next : ℕ) →
    read_header s 0 ≡ Header c n next →
    let e = call beginning s out in
    let most = room_for (step_lines (drop next s)) in
    (e.desk.first.wrote ≤ most) × (most ≤ length out → e.why ≢ NoRoom)

-- a call that goes on: so much for each step line still to come
abbrev pub RoomOnward : Type 0
RoomOnward =
    (r : Run) (s out : List ℕ) →
    r.headed ≡ true →
    Held r.table →
    let e = call r s out in
    let most = r.wrote + expected_most * step_lines (drop r.place s) in
    (e.desk.first.wrote ≤ most) × (most ≤ length out → e.why ≢ NoRoom)

-- the steps that a call worked, if it did not stop for want of room, tell as much as the script's step lines
abbrev pub RoomBySteps : Type 0
RoomBySteps =
    (s out : List ℕ) (c : Counts) (n : Ticket) (next : ℕ) →
    read_header s 0 ≡ Header c n next →
    let e = call beginning s out in e.why ≢ NoRoom → room_for e.desk.state.steps ≡ room_for (step_lines (drop next s))
