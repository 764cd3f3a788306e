-- What a sound table is, in the documents' words: a clause that the code and its definition lose together is missed here.
use Rattle.std.specs.Prelude.{ℕ, ◌<◌, true, false, List, ◌⊎◌, ◌≡◌, get_or}
use Rattle.ticket.specs.Kinds.{ticket}
use Rattle.ticket.specs.declared.kinds.Ticket.{Ticket}
use Rattle.parts.specs.State.{two_stage_lem, is_away, is_marked, is_dropped}
use Rattle.parts.specs.Parts.{cores, unit_no, idle, blank, standing, register_in, showing}
use Rattle.parts.specs.declared.kinds.Core.{Core}
use Rattle.parts.specs.declared.kinds.Counts.{Counts}
use Rattle.parts.specs.declared.kinds.Profile.TheVariants.{T, D}
use Rattle.parts.specs.declared.kinds.State.TheVariants.{Marked, Dropped}
use Rattle.parts.specs.declared.kinds.LockUnit.{LockUnit}
use Rattle.parts.specs.declared.kinds.Next.{Next}
use Rattle.settling.specs.Shown.{next_of}
use Rattle.soundness.specs.Agreement.{unit_sound_lem}
use Rattle.soundness.specs.Sound.{core_sound}

-- "Soundness (refusal 16) gains the rule": a unit of a sound table shows as its next in line just what its registers ask for; so a table that is sound
-- is not so with another next in line.
abbrev pub NextAsked : Type 0
NextAsked = (all : List Core) (u : ℕ) (x : LockUnit) (v : Next) → unit_sound_lem all u (showing x v) ≡ true → v ≡ next_of cores x

-- "Soundness here wants an away core either registered at its unit without a flag, with its own ticket, or dropped: registered nowhere, no ticket,
-- its 0 blank" (document 02, wish 10). Core k of a table of profile D that is away:
abbrev pub AwayInD : Type 0
AwayInD =
    (n : Counts) (m : Ticket) (all : List Core) (k : ℕ) →
    n.profile ≡ D →
    core_sound n m all k ≡ true →
    let c = get_or all k idle in
    is_away c.state ≡ true →
    (c.state ≡ Marked) ⊎ ((c.state ≡ Dropped) × (c.own ≡ ticket 0) × (c.carried ≡ ticket 0))

-- at its unit, which is x, it is registered with its own ticket and without a flag
abbrev pub MarkedStands : Type 0
MarkedStands =
    (all : List Core) (k : ℕ) (x : LockUnit) →
    k < cores →
    let c = get_or all k idle in
    c.state ≡ Marked →
    unit_sound_lem all c.first.0 x ≡ true →
    register_in x k ≡ standing c.own

-- or at no unit u, which is x, at all
abbrev pub DroppedNowhere : Type 0
DroppedNowhere =
    (all : List Core) (k u : ℕ) (x : LockUnit) →
    k < cores →
    (get_or all k idle).state ≡ Dropped →
    unit_sound_lem all u x ≡ true →
    register_in x k ≡ blank

-- "it has no second-class units": no core of D names a second unit, or carries another ticket than its own
abbrev pub NoSecondInD : Type 0
NoSecondInD =
    (n : Counts) (m : Ticket) (all : List Core) (k : ℕ) →
    n.profile ≡ D →
    core_sound n m all k ≡ true →
    let c = get_or all k idle in (two_stage_lem c.state ≡ false) × (c.carried ≡ c.own) × (c.second ≡ unit_no 0)

-- in T an away core stands nowhere and keeps its ticket: nobody is marked away, and nobody is dropped
abbrev pub NoneDroppedInT : Type 0
NoneDroppedInT =
    (n : Counts) (m : Ticket) (all : List Core) (k : ℕ) →
    n.profile ≡ T →
    core_sound n m all k ≡ true →
    let c = get_or all k idle in (is_marked c.state ≡ false) × (is_dropped c.state ≡ false)
