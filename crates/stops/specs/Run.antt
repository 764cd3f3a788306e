-- A run so far: the table, how many steps are done, whether the header is read, and the places of the next line in the script and in
-- the output.
use Rattle.std.specs.Prelude.{ℕ, false}
use Rattle.ticket.specs.Kinds.{ticket}
use Rattle.building.specs.Build.{least, build}
use Rattle.stops.specs.declared.run.Run.{Run}
use Rattle.stops.specs.declared.run.Stop.{Stop}
use Rattle.stops.specs.declared.run.Stop.TheVariants.{Finished, Unsound, BadHeader, Malformed, Unfinished, NoRoom, TooMany}

-- "24: a line after 1,000,000 steps or more"
abbrev pub steps_most : ℕ
steps_most = 1000000

-- before the header; the table that stands here is not looked at
abbrev pub beginning : Run
beginning =
    let t = (build least (ticket 0)).table in
    record { place = 0; wrote = 0; table = t; steps = 0; headed = false }

abbrev pub stop_number : Stop → ℕ
stop_number w =
    elim w [ Finished ↦ 0 | Unsound ↦ 16 | BadHeader ↦ 20 | Malformed ↦ 21 | Unfinished ↦ 22 | NoRoom ↦ 23 | TooMany ↦ 24 ]
