-- Detail: the cores' tickets kept apart from them: which are live, and the own ticket of each core. 15 can be asked of these too.
use Rattle.std.specs.Prelude.{◌≡◌, ℕ, ◌<◌, Bool, true, false, ◌&&◌, List, map, get_or}
use Rattle.ticket.specs.Order.{compare, Window}
use Rattle.ticket.specs.declared.kinds.Ticket.{Ticket}
use Rattle.parts.specs.Fold.{some}
use Rattle.parts.specs.Parts.{idle}
use Rattle.parts.specs.State.{is_dropped}
use Rattle.parts.specs.declared.kinds.Core.{Core}
use Rattle.parts.specs.declared.answer.Step.{Step}
use Rattle.parts.specs.declared.answer.Step.TheVariants.{R, N, P, I, C, L}
use Rattle.refusals.specs.Judge.{far, live}

-- the own ticket
abbrev pub own_in : Core → ℕ
own_in c = c.own.0

abbrev pub lives_of : List Core → List Bool
lives_of cs = map live cs

abbrev pub owns_of : List Core → List ℕ
owns_of cs = map own_in cs

abbrev pub old_at : Ticket → List Bool → List ℕ → ℕ → Bool
old_at m ls os k = get_or ls k false && far (compare (get_or os k 0) m.0)

abbrev pub stretched_by : Ticket → List Bool → List ℕ → ℕ → Bool
stretched_by m ls os n = some (old_at m ls os) n

-- as in a sound table, where a live ticket lies 1 to 32,768 behind the counter
abbrev pub Recent : Ticket → List Core → ℕ → Type 0
Recent m cs n = (k : ℕ) → k < n → live (get_or cs k idle) ≡ true → Window m.0 (get_or cs k idle).own.0

-- the step takes a ticket, so that its verdict asks whether a live one is stretched: R, and C of a dropped core; c is the core that it names
abbrev pub asks : Step → Core → Bool
asks s c = elim s [ R k u ↦ true | N k u ↦ false | P k ↦ false | I k ↦ false | C k ↦ is_dropped c.state | L k ↦ false ]

-- what a step's verdict asks
abbrev pub asked : Step → Core → Bool → Bool
asked s c late = asks s c && late
