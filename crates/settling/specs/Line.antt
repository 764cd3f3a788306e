-- "The core with the oldest register." In a unit without a flag every valid register has its flag clear, and inheriting asks for the
-- oldest of those with their flag clear: one definition serves both, the next in line.
use Rattle.std.specs.Prelude.{ℕ, ◌<◌, Bool, true, false, cond, ◌&&◌, ◌||◌, not, List, [], ◌∷◌, eqb, ltb}
use Rattle.ticket.specs.Kinds.{grant}
use Rattle.ticket.specs.Order.{compare}
use Rattle.ticket.specs.declared.kinds.Grant.{Grant}
use Rattle.ticket.specs.declared.order.Comparison.{Comparison}
use Rattle.ticket.specs.declared.order.Comparison.TheVariants.{Older, Younger, Same, Opposite}
use Rattle.parts.specs.Fold.{up_to, every, count}
use Rattle.parts.specs.Parts.{cores, core_no, unit_no, register_in}
use Rattle.parts.specs.declared.kinds.Register.{Register}
use Rattle.parts.specs.declared.kinds.Next.{Next}
use Rattle.parts.specs.declared.kinds.LockUnit.{LockUnit}
use Rattle.settling.specs.Best.{Best, Nobody, Won}

-- how many flags the first n cores have set at a unit
abbrev pub flags : ℕ → LockUnit → ℕ
flags n x = count (λ (k : ℕ). (register_in x k).flag) n

-- a valid register with its flag clear
abbrev pub in_line : Register → Bool
in_line r = r.valid && not r.flag

-- of the four answers one is older; of Same and Opposite neither is
abbrev pub is_older : Comparison → Bool
is_older c = elim c [ Older ↦ true | Younger ↦ false | Same ↦ false | Opposite ↦ false ]

abbrev pub older : LockUnit → ℕ → ℕ → Bool
older x k j = is_older (compare (register_in x k).ticket.0 (register_in x j).ticket.0)

-- core k is in line, and older than every other of the first n that is
abbrev pub oldest : ℕ → LockUnit → ℕ → Bool
oldest n x k = in_line (register_in x k) && every (λ (j : ℕ). eqb j k || not (in_line (register_in x j)) || older x k j) n

-- core k, with its ticket, if p holds of it
abbrev pub chosen : LockUnit → (ℕ → Bool) → ℕ → Best → Best
chosen x p k best = cond (p k) (Won (core_no k) (register_in x k).ticket) best

-- that core, and its ticket: it is one alone (`one_oldest`)
abbrev pub next : ℕ → LockUnit → Best
next n x = up_to (chosen x (oldest n x)) n Nobody

-- who a unit shows as its next in line; a core that no table has is nobody
abbrev pub stored : Next → Best
stored v = cond (v.valid && ltb v.core.0 cores) (Won v.core v.ticket) Nobody

-- a core that may win is one of the table's
abbrev pub Within : Best → Type 0
Within Nobody = Unit {0}
Within (Won k n) = k.0 < cores

-- the grants of unit u, which that core won
abbrev pub won : ℕ → Best → List Grant
won u best = elim best [ Nobody ↦ [] | Won k n ↦ grant (unit_no u) k ∷ [] ]
