-- "The dequeueing profile": the states that each profile has. In T nobody is dropped; no second unit is named in D.
use Rattle.std.specs.Prelude.{Bool, true, false, ◌&&◌, ◌||◌, not}
use Rattle.parts.specs.State.{two_stage_lem, is_away, is_marked, is_dropped}
use Rattle.parts.specs.declared.kinds.Profile.{Profile}
use Rattle.parts.specs.declared.kinds.Profile.TheVariants.{T, D}
use Rattle.parts.specs.declared.kinds.State.{State}

-- the profile is D
abbrev pub dequeues : Profile → Bool
dequeues p = elim p [ T ↦ false | D ↦ true ]

-- the profile has the state
abbrev pub suits : Profile → State → Bool
suits p z = elim p [ T ↦ not (is_marked z) && not (is_dropped z) | D ↦ not (two_stage_lem z) && (not (is_away z) || is_marked z || is_dropped z) ]
