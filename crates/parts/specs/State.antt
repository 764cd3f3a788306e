-- "A core is idle; waiting at one unit; holding one unit; waiting at a second while holding a first; holding both; or away in a
-- handler." In D a core in a handler is marked away, still registered, or dropped. Six tests tell the states apart as far as the steps
-- and soundness ask; the others follow from them.
use Rattle.std.specs.Prelude.{Bool, true, false, ◌&&◌, ◌||◌, not}
use Rattle.parts.specs.declared.kinds.State.{State}
use Rattle.parts.specs.declared.kinds.State.TheVariants.{Idle, Waiting, Holding, WaitingSecond, HoldingBoth, Away, Marked, Dropped}

-- no ticket
abbrev pub is_idle_lem : State → Bool
is_idle_lem z = elim z [ Idle ↦ true | Waiting ↦ false | Holding ↦ false | WaitingSecond ↦ false | HoldingBoth ↦ false | Away ↦ false | Marked ↦ false | Dropped ↦ false ]

-- waiting, at either stage
abbrev pub waits : State → Bool
waits z = elim z [ Idle ↦ false | Waiting ↦ true | Holding ↦ false | WaitingSecond ↦ true | HoldingBoth ↦ false | Away ↦ false | Marked ↦ false | Dropped ↦ false ]

-- a second unit is awaited or held
abbrev pub two_stage_lem : State → Bool
two_stage_lem z = elim z [ Idle ↦ false | Waiting ↦ false | Holding ↦ false | WaitingSecond ↦ true | HoldingBoth ↦ true | Away ↦ false | Marked ↦ false | Dropped ↦ false ]

-- in a handler
abbrev pub is_away : State → Bool
is_away z = elim z [ Idle ↦ false | Waiting ↦ false | Holding ↦ false | WaitingSecond ↦ false | HoldingBoth ↦ false | Away ↦ true | Marked ↦ true | Dropped ↦ true ]

-- in a handler, and still registered without a flag
abbrev pub is_marked : State → Bool
is_marked z = elim z [ Idle ↦ false | Waiting ↦ false | Holding ↦ false | WaitingSecond ↦ false | HoldingBoth ↦ false | Away ↦ false | Marked ↦ true | Dropped ↦ false ]

-- in a handler, and its ticket ended
abbrev pub is_dropped : State → Bool
is_dropped z = elim z [ Idle ↦ false | Waiting ↦ false | Holding ↦ false | WaitingSecond ↦ false | HoldingBoth ↦ false | Away ↦ false | Marked ↦ false | Dropped ↦ true ]

-- its ticket is live
abbrev pub is_live_lem : State → Bool
is_live_lem z = not (is_idle_lem z) && not (is_dropped z)

-- registered at the first unit: waiting, holding, or marked away
abbrev pub stands : State → Bool
stands z = not (is_idle_lem z) && (not (is_away z) || is_marked z)

-- holding one or both, and not waiting
abbrev pub holds : State → Bool
holds z = not (is_idle_lem z) && not (is_away z) && not (waits z)

-- holding one unit and not waiting
abbrev pub holds_one : State → Bool
holds_one z = holds z && not (two_stage_lem z)

-- holding both
abbrev pub holds_both : State → Bool
holds_both z = holds z && two_stage_lem z

-- holding the first unit, whatever of the second
abbrev pub holds_first : State → Bool
holds_first z = two_stage_lem z || holds z

-- waiting for the first unit, or away from it
abbrev pub unserved : State → Bool
unserved z = is_away z || (waits z && not (two_stage_lem z))
