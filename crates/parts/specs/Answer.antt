-- The core that a step names; "Numbers the answers carry"; the grants of a step.
use Rattle.std.specs.Prelude.{ℕ, List, [], ◌∷◌}
use Rattle.ticket.specs.declared.kinds.CoreNo.{CoreNo}
use Rattle.ticket.specs.declared.kinds.Grant.{Grant}
use Rattle.parts.specs.declared.answer.Answer.{Answer}
use Rattle.parts.specs.declared.answer.Answer.TheVariants.{Done, Granted, NotYet, NoCore, NoUnit, WrongState, WrongClass, Masked, Stretched, Unsound, OutOfRange}
use Rattle.parts.specs.declared.answer.Step.{Step}
use Rattle.parts.specs.declared.answer.Step.TheVariants.{R, N, P, I, C, L}
use Rattle.parts.specs.declared.answer.Grants.{Grants}
use Rattle.parts.specs.declared.answer.Grants.TheVariants.{None, One, Two}

-- the core that a step names
abbrev pub whose : Step → CoreNo
whose s = elim s [ R k u ↦ k | N k u ↦ k | P k ↦ k | I k ↦ k | C k ↦ k | L k ↦ k ]

abbrev pub number_of : Answer → ℕ
number_of Done = 0
number_of Granted = 1
number_of NotYet = 2
number_of NoCore = 10
number_of NoUnit = 11
number_of WrongState = 12
number_of WrongClass = 13
number_of Masked = 14
number_of Stretched = 15
number_of Unsound = 16
number_of OutOfRange = 20

-- a step has at most two grants; they are kept in the order of the list
abbrev pub packed : List Grant → Grants
packed [] = None
packed (g ∷ []) = One g
packed (g ∷ h ∷ more) = Two g h
