-- "The comparison shall answer one of four: older, younger, same, or opposite (exactly 32,768 apart), each under its exact arithmetic
-- condition."
use Rattle.std.specs.Prelude.{◌≡◌, ℕ, ◌+◌, ◌<◌, ◌≤◌}
use Rattle.ticket.specs.Order.{half, behind, compare}
use Rattle.ticket.specs.Issue.{nth}
use Rattle.ticket.specs.declared.order.Comparison.{Comparison}
use Rattle.ticket.specs.declared.order.Comparison.TheVariants.{Older, Younger, Same, Opposite}

-- the condition of each, of the difference d
abbrev pub Condition : Comparison → ℕ → Type 0
Condition Older d = half < d
Condition Younger d = (1 ≤ d) × (d < half)
Condition Same d = d ≡ 0
Condition Opposite d = d ≡ half

-- exactly one of the four: the answer's condition holds, and no other does
abbrev pub ExactlyOne : Type 0
ExactlyOne = (a b : ℕ) → Condition (compare a b) (behind a b) × ((x : Comparison) → Condition x (behind a b) → compare a b ≡ x)

-- the operands swapped
abbrev pub turned : Comparison → Comparison
turned x = elim x [ Older ↦ Younger | Younger ↦ Older | Same ↦ Same | Opposite ↦ Opposite ]

abbrev pub Swapped : Type 0
Swapped = (a b : ℕ) → compare b a ≡ turned (compare a b)

-- tickets issued i-th and j-th, less than half a circle apart, wherever the counter started and however often it wrapped
abbrev pub ByIssue : Type 0
ByIssue = (c i j : ℕ) → i < j → j < i + half → (compare (nth c i) (nth c j) ≡ Older) × (compare (nth c j) (nth c i) ≡ Younger)
