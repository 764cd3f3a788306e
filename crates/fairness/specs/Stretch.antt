-- "While a core that entered a first-class unit is neither granted there nor interrupted": the stretch that begins with the accepted R
-- or C, and what is counted in it. In D too "I ends a wait and C opens one", where the core stayed registered as well.
use Rattle.std.specs.Prelude.{ℕ, ◌+◌, Bool, true, false, ◌&&◌, ◌||◌, not, List, [], ◌∷◌, eqb, ltb}
use Rattle.ticket.specs.declared.kinds.Grant.{Grant}
use Rattle.parts.specs.Fold.{some, one, count}
use Rattle.parts.specs.Answer.{whose}
use Rattle.parts.specs.State.{is_live_lem}
use Rattle.parts.specs.Parts.{cores}
use Rattle.block.specs.Table.{core_of}
use Rattle.block.specs.Steps.{step}
use Rattle.block.specs.Over.{over}
use Rattle.block.specs.declared.table.Table.{Table}
use Rattle.parts.specs.declared.answer.Step.{Step}
use Rattle.parts.specs.declared.answer.Step.TheVariants.{R, N, P, I, C, L}
use Rattle.laws.specs.Granting.{listed}
use Rattle.fairness.specs.Run.{Place, done, interrupts, onward}

-- the grants of a step from here; whether one is of unit u to core k; how many are of unit u
abbrev pub grants : Place → Step → List Grant
grants p s = listed (step p.table s).grants

unfoldable pub gives : ℕ → ℕ → List Grant → Bool
gives u k [] = false
gives u k (g ∷ more) = (eqb g.unit.0 u && eqb g.core.0 k) || gives u k more

unfoldable pub grants_of : ℕ → List Grant → ℕ
grants_of u [] = 0
grants_of u (g ∷ more) = one (eqb g.unit.0 u) + grants_of u more

-- R enters the unit that it names, C the core's first unit
abbrev pub enters_at : Table → Step → ℕ → Bool
enters_at t s u =
    elim s [ R k v ↦ eqb v.0 u | N k v ↦ false | P k ↦ false | I k ↦ false | C k ↦ eqb (core_of t k.0).first.0 u | L k ↦ false ]

-- core k enters unit u, which is first-class, and is not granted it at once
abbrev pub enters : Place → Step → ℕ → ℕ → Bool
enters p s k u =
    done p.table s && eqb (whose s).0 k && enters_at p.table s u && ltb u p.table.counts.first && not (gives u k (grants p s))

-- core k is granted u, or interrupted
abbrev pub leaves : ℕ → ℕ → Place → Step → Bool
leaves k u p s = gives u k (grants p s) || interrupts p.table s k

-- none of the steps ends the stretch
abbrev pub stretch : ℕ → ℕ → Place → List Step → Bool
stretch k u p steps = over onward (λ q. true) (λ q s later. not (leaves k u q s) && later) p steps

-- "A ticket is live from its request to its release, also while its core is away"; in D until its core is dropped
abbrev pub live : Place → ℕ → Bool
live p j = is_live_lem (core_of p.table j).state

-- "earlier tickets .. live at its entry": e is the place after the entry, where core k's ticket has its number. Core j's ticket is one of
-- them; how many they are; the number i is that of one of them
abbrev pub is_earlier : Place → ℕ → ℕ → Bool
is_earlier e k j = live e j && ltb (e.issue j) (e.issue k)

abbrev pub earlier : Place → ℕ → ℕ
earlier e k = count (is_earlier e k) cores

abbrev pub among : Place → ℕ → ℕ → Bool
among e k i = some (λ (j : ℕ). is_earlier e k j && eqb (e.issue j) i) cores

-- how often unit u was granted in the steps
abbrev pub passed : ℕ → Place → List Step → ℕ
passed u p steps = over onward (λ q. 0) (λ q s later. grants_of u (grants q s) + later) p steps

-- "the interrupts accepted meanwhile from the cores that own them": each by the number that the core's ticket has then
abbrev pub interruptions : Place → ℕ → Place → List Step → ℕ
interruptions e k p steps =
    over onward (λ q. 0) (λ q s later. one (interrupts q.table s (whose s).0 && among e k (q.issue (whose s).0)) + later) p steps
