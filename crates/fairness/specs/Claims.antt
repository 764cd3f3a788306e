-- Demand 3, claim by claim, of both profiles; they part only where the bound does. The step s, from the place p, enters core k at unit u; onward p s
-- is the place after its entry.
use Rattle.std.specs.Prelude.{ℕ, ◌+◌, ◌≤◌, ◌<◌, true, false, cond, List, ◌⊎◌, ◌≡◌, ltb}
use Rattle.ticket.specs.Order.{compare}
use Rattle.ticket.specs.declared.order.Comparison.{Comparison}
use Rattle.ticket.specs.declared.order.Comparison.TheVariants.{Older, Younger, Same}
use Rattle.parts.specs.State.{stands, holds}
use Rattle.parts.specs.Parts.{core_no}
use Rattle.block.specs.Table.{core_of}
use Rattle.parts.specs.Answer.{number_of}
use Rattle.block.specs.Steps.{step}
use Rattle.parts.specs.declared.kinds.Profile.TheVariants.{T, D}
use Rattle.parts.specs.declared.answer.Step.{Step}
use Rattle.parts.specs.declared.answer.Step.TheVariants.{P}
use Rattle.fairness.specs.Run.{Place, Reached, onward, after_all}
use Rattle.fairness.specs.Stretch.{grants, gives, enters, leaves, stretch, live, earlier, passed, interruptions}

-- how the tickets with the issue numbers i and h compare
abbrev pub by_number : ℕ → ℕ → Comparison
by_number i h = cond (ltb i h) Older (cond (ltb h i) Younger Same)

-- "its `earlier` is the order of requests in the run, never the comparison": of live tickets the comparison says what that order says
abbrev pub OrderIsIssueOrder : Type 0
OrderIsIssueOrder =
    (p : Place) (j k : ℕ) →
    Reached p →
    live p j ≡ true →
    live p k ≡ true →
    compare (core_of p.table j).own.0 (core_of p.table k).own.0 ≡ by_number (p.issue j) (p.issue k)

-- "that unit goes only to tickets issued earlier": z is any later step of the stretch, and j whom it grants the unit
abbrev pub NoOvertaking : Type 0
NoOvertaking =
    (p : Place) (s : Step) (k u : ℕ) (more : List Step) (z : Step) (j : ℕ) →
    Reached p →
    enters p s k u ≡ true →
    stretch k u (onward p s) more ≡ true →
    leaves k u (after_all (onward p s) more) z ≡ false →
    gives u j (grants (after_all (onward p s) more) z) ≡ true →
    (onward (after_all (onward p s) more) z).issue j < (onward p s).issue k

-- T: "at most as often as earlier tickets were live at its entry plus the interrupts accepted meanwhile from the cores that own them"
abbrev pub Bound : Type 0
Bound =
    (p : Place) (s : Step) (k u : ℕ) (more : List Step) →
    p.table.counts.profile ≡ T →
    Reached p →
    enters p s k u ≡ true →
    stretch k u (onward p s) more ≡ true →
    passed u (onward p s) more ≤ earlier (onward p s) k + interruptions (onward p s) k (onward p s) more

-- D: "Demand 3's bound here is the number of earlier live tickets alone"
abbrev pub BoundD : Type 0
BoundD =
    (p : Place) (s : Step) (k u : ℕ) (more : List Step) →
    p.table.counts.profile ≡ D →
    Reached p →
    enters p s k u ≡ true →
    stretch k u (onward p s) more ≡ true →
    passed u (onward p s) more ≤ earlier (onward p s) k

-- and D stays below it: whoever has the flag at the entry is earlier, and its ticket is not granted again
abbrev pub NeverReached : Type 0
NeverReached =
    (p : Place) (s : Step) (k u : ℕ) (more : List Step) →
    p.table.counts.profile ≡ D →
    Reached p →
    enters p s k u ≡ true →
    stretch k u (onward p s) more ≡ true →
    passed u (onward p s) more < earlier (onward p s) k

-- "In every state reached where a core stands at a unit, some core holds all it asked for or would be granted at its next poll."
abbrev pub NeverStuck : Type 0
NeverStuck =
    (p : Place) (k : ℕ) →
    Reached p →
    stands (core_of p.table k).state ≡ true →
    (j : ℕ) × ((holds (core_of p.table j).state ≡ true) ⊎ (number_of (step p.table (P (core_no j))).answer ≡ 1))
