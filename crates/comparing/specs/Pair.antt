-- Detail: what the program comparing reads: a line of two numbers and nothing after it, and how these compare as tickets.
use Rattle.std.specs.Prelude.{ℕ, ◌-◌, cond, List, eqb, length, take, get_or}
use Rattle.ticket.specs.Order.{compare}
use Rattle.numbers.specs.Bytes.{end}
use Rattle.numbers.specs.Number.{field}
use Rattle.numbers.specs.Field.{Bad, Last, Then}
use Rattle.comparing.specs.Told.{Told, Malformed, Says}

-- the field of the line l that starts at i and ends it, against a
abbrev pub second_field : List ℕ → ℕ → ℕ → Told
second_field l i a = elim (field l i) [ Bad ↦ Malformed | Last b ↦ Says (compare a b) | Then b j ↦ Malformed ]

-- a line without its end
abbrev pub first_field : List ℕ → Told
first_field l = elim (field l 0) [ Bad ↦ Malformed | Last a ↦ Malformed | Then a i ↦ second_field l i a ]

-- a line with its end
abbrev pub compared : List ℕ → Told
compared s =
    cond (eqb (length s) 0) Malformed
    (cond (eqb (get_or s (length s - 1) 0) end) (first_field (take (length s - 1) s)) Malformed)
