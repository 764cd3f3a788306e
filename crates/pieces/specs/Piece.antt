-- A program's piece of its script, and its run between turns.
use Rattle.std.specs.Prelude.{ℕ, List, take, drop}
use Rattle.stops.specs.declared.run.Run.{Run}

-- what is left of a piece's first bytes, from a place on
abbrev pub left : List ℕ → ℕ → ℕ → List ℕ
left piece place have = drop place (take have piece)

-- a run with its output taken away, and at the front of its piece
abbrev pub emptied : Run → Run
emptied r = record { place = r.place; wrote = 0; table = r.table; steps = r.steps; headed = r.headed }

abbrev pub fronted : Run → Run
fronted r = record { place = 0; wrote = r.wrote; table = r.table; steps = r.steps; headed = r.headed }
