-- "Picking the oldest written that way, each pair judged once and the winner being the core that loses to nobody."
use Rattle.std.specs.Prelude.{ℕ, ◌*◌, ◌-◌, ◌/◌, ◌≤◌, ◌&&◌, ◌≡◌, ltb, length}
use Rattle.parts.specs.Fold.{one}
use Rattle.parts.specs.Parts.{cores}
use Rattle.parts.specs.declared.kinds.LockUnit.{LockUnit}
use Rattle.settling.specs.Line.{next}
use Rattle.settling.specs.Pairs.{pairs, through, times, unmarked, judged, unbeaten}

-- of n registers there are n·(n − 1)/2 pairs: "six for four cores, twenty-eight for eight"
abbrev pub PairsCounted : Type 0
PairsCounted = ((n : ℕ) → length (pairs n) ≡ n * (n - 1) / 2) × (length (pairs 4) ≡ 6) × (length (pairs 8) ≡ 28)

-- "each pair judged once": i, j stands in the list once if i < j < n, and otherwise not
abbrev pub EachPairOnce : Type 0
EachPairOnce = (n i j : ℕ) → times i j (pairs n) ≡ one (ltb i j && ltb j n)

-- the core that no pair of the list makes a loser is the one older than every other in line
abbrev pub ByPairs : Type 0
ByPairs = (n : ℕ) (x : LockUnit) → n ≤ cores → unbeaten n x (through (judged x) (pairs n) unmarked) ≡ next n x
