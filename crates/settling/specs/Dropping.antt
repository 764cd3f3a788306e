-- "When its unit settles and the oldest is away, that core is dropped, its ticket ends, and the next is looked at." Where nobody in line is away,
-- as in T, this drops nobody.
use Rattle.std.specs.Prelude.{ℕ, Bool, false, cond, List, get_or, set}
use Rattle.parts.specs.Fold.{up_to}
use Rattle.parts.specs.State.{is_away}
use Rattle.parts.specs.Parts.{blank, idle, dropped, registered}
use Rattle.parts.specs.declared.kinds.Core.{Core}
use Rattle.parts.specs.declared.kinds.LockUnit.{LockUnit}
use Rattle.settling.specs.Line.{next}
use Rattle.settling.specs.Shown.{shown}
use Rattle.settling.specs.Best.{Best, Nobody, Won}
use Rattle.settling.specs.declared.dropping.Dropping.{Dropping}

-- a unit and the cores
abbrev pub dropping : LockUnit → List Core → Dropping
dropping x cs = record { unit = x; cores = cs }

-- whoever is next in line is away
abbrev pub away_as : List Core → Best → Bool
away_as cs b = elim b [ Nobody ↦ false | Won k t ↦ is_away (get_or cs k.0 idle).state ]

abbrev pub away_next : ℕ → Dropping → Bool
away_next n d = away_as d.cores (next n d.unit)

-- core k is dropped: it stands there no more, and its ticket ends
abbrev pub drop_one : Dropping → ℕ → Dropping
drop_one d k = dropping (registered d.unit k blank) (set d.cores k (dropped (get_or d.cores k idle)))

-- whoever is next is dropped if away
abbrev pub drop_best : Dropping → Best → Dropping
drop_best d b = elim b [ Nobody ↦ d | Won k t ↦ cond (is_away (get_or d.cores k.0 idle).state) (drop_one d k.0) d ]

abbrev pub drop_next : ℕ → Dropping → Dropping
drop_next n d = drop_best d (next n d.unit)

-- and the next is looked at: n cores drop n times at most (`none_left`)
abbrev pub drop_away : ℕ → LockUnit → List Core → Dropping
drop_away n x cs = up_to (λ (k : ℕ). drop_next n) n (dropping x cs)

-- with the unit showing who is next then
abbrev pub showing_next : ℕ → Dropping → Dropping
showing_next n d = dropping (shown n d.unit) d.cores
