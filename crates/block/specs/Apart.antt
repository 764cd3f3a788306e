-- Detail: a table's units kept apart from it: a list of registers for each unit, and what each unit shows.
use Rattle.std.specs.Prelude.{List, [], ◌∷◌, map}
use Rattle.parts.specs.declared.kinds.Register.{Register}
use Rattle.parts.specs.declared.kinds.Next.{Next}
use Rattle.parts.specs.declared.kinds.LockUnit.{LockUnit}
use Rattle.block.specs.declared.table.Table.{Table}

abbrev pub unit_with : List Register → Next → LockUnit
unit_with l v = record { registers = l; next = v }

abbrev pub registers_in : LockUnit → List Register
registers_in x = x.registers

abbrev pub next_in : LockUnit → Next
next_in x = x.next

abbrev pub rows_of : Table → List (List Register)
rows_of t = map registers_in t.units

abbrev pub nexts_of : Table → List Next
nexts_of t = map next_in t.units

-- and put together again
unfoldable pub together : List (List Register) → List Next → List LockUnit
together [] vs = []
together (l ∷ ls) [] = []
together (l ∷ ls) (v ∷ vs) = unit_with l v ∷ together ls vs

abbrev pub gathered : Table → List (List Register) → List Next → Table
gathered t rows nexts = record { units = together rows nexts; cores = t.cores; counts = t.counts; counter = t.counter }
