-- What a sound core of each profile is, and where it stands: the clauses that the profiles bring, each used.
use Prim.Native.Nat.{ℕ, ◌<◌}
use mathlib.Core.Bool.{Bool, true, false, ◌&&◌, ◌||◌, not}
use mathlib.Core.List.{List}
use mathlib.Core.Logic.{◌⊎◌, inl, inr, ⊎_elim}
use mathlib.Core.Path.{◌≡◌, refl, sym, ◌∙◌, ap}
use lib.Dec.{eqb}
use lib.ListN.{get_or}
use borrow.Author.Tests.{eqb-true, eq-eqb}
use Rattle.ticket.specs.Kinds.{ticket}
use Rattle.ticket.specs.declared.kinds.Ticket.{Ticket}
use Rattle.parts.specs.Fold.{every}
use Rattle.parts.specs.State.{two_stage_lem, is_away, is_marked, is_dropped}
use Rattle.parts.specs.Profile.{suits}
use Rattle.parts.specs.Parts.{cores, unit_no, idle, blank, standing, register_in}
use Rattle.parts.specs.declared.kinds.Core.{Core}
use Rattle.parts.specs.declared.kinds.Counts.{Counts}
use Rattle.parts.specs.declared.kinds.LockUnit.{LockUnit}
use Rattle.parts.specs.declared.kinds.Profile.{Profile}
use Rattle.parts.specs.declared.kinds.Profile.TheVariants.{T, D}
use Rattle.parts.specs.declared.kinds.Register.{Register}
use Rattle.parts.specs.declared.kinds.State.{State}
use Rattle.parts.specs.declared.kinds.State.TheVariants.{Idle, Waiting, Holding, WaitingSecond, HoldingBoth, Away, Marked, Dropped}
use Rattle.parts.proofs.Bools.{and_left, and_right, not_true_false, clash}
use Rattle.parts.proofs.Folds.{every_at}
use Rattle.settling.specs.Shown.{shows_next_lem}
use Rattle.soundness.specs.Sound.{within, suited, idle_blank, dropped_blank, named, recent, differ, carries, core_sound}
use Rattle.soundness.specs.Agreement.{is_blank, shows, agrees, one_flag, unit_sound_lem}
use Rattle.soundness.specs.Claims.{AwayInD, MarkedStands, DroppedNowhere, NoSecondInD, NoneDroppedInT}

-- a register by its fields
entered : (r : Register) (t : Ticket) → r.ticket.0 ≡ t.0 → r.valid ≡ true → r.flag ≡ false → r ≡ standing t
entered r t n v f = λ i. record { ticket = ticket (n i); valid = v i; flag = f i }

empty : (r : Register) → is_blank r ≡ true → r ≡ blank
empty r e =
    let a = eqb r.ticket.0 0 in
    let b = not r.valid in
    let n = eqb-true r.ticket.0 0 (and_left a b (and_left (a && b) (not r.flag) e)) in
    let v = not_true_false r.valid (and_right a b (and_left (a && b) (not r.flag) e)) in
    let f = not_true_false r.flag (and_right (a && b) (not r.flag) e) in
    λ i.
    record {
      ticket = ticket (n i);
      valid = v i;
      flag = f i;
    }

-- the clauses of core k
module _ (n : Counts) (m : Ticket) (all : List Core) (k : ℕ) (e : core_sound n m all k ≡ true) where
  abbrev c : Core
  c = get_or all k idle

  abbrev two : Bool
  two = within n k c && suited n c

  abbrev four : Bool
  four = two && idle_blank c && dropped_blank c

  abbrev six : Bool
  six = four && named n c && recent m c

  abbrev apart : Bool
  apart = every (λ (j : ℕ). differ k c j (get_or all j idle)) cores

  four_true : four ≡ true
  unfolding core_sound
  four_true = and_left four (named n c) (and_left (four && named n c) (recent m c) (and_left six apart (and_left (six && apart) (carries all c) e)))

  is_suited : suits n.profile c.state ≡ true
  is_suited = and_right (within n k c) (suited n c) (and_left two (idle_blank c) (and_left (two && idle_blank c) (dropped_blank c) four_true))

  is_dropped_blank : dropped_blank c ≡ true
  is_dropped_blank = and_right (two && idle_blank c) (dropped_blank c) four_true

  does_carry : carries all c ≡ true
  unfolding core_sound
  does_carry = and_right (six && apart) (carries all c) e

  -- by the profile
  in_profile : (p : Profile) → n.profile ≡ p → suits p c.state ≡ true
  in_profile p q = sym (ap (λ (z : Profile). suits z c.state) q) ∙ is_suited

-- D's states
away_states : (z : State) → suits D z ≡ true → is_away z ≡ true → (z ≡ Marked) ⊎ (z ≡ Dropped)
away_states Idle e a = absurd (clash a refl)
away_states Waiting e a = absurd (clash a refl)
away_states Holding e a = absurd (clash a refl)
away_states WaitingSecond e a = absurd (clash a refl)
away_states HoldingBoth e a = absurd (clash a refl)
away_states Away e a = absurd (clash e refl)
away_states Marked e a = inl refl
away_states Dropped e a = inr refl

-- a core with one unit carries its own ticket, and names no second
carries_own : (all : List Core) (c : Core) → two_stage_lem c.state ≡ false → carries all c ≡ true → (c.carried ≡ c.own) × (c.second ≡ unit_no 0)
carries_own all c one e =
    let a = eqb c.carried.0 c.own.0 in
    let b = eqb c.second.0 0 in
    let f : (a && b) ≡ true = rw one at e in (
      ap ticket (eqb-true c.carried.0 c.own.0 (and_left a b f)),
      ap unit_no (eqb-true c.second.0 0 (and_right a b f)),
    )

pub no_second_in_D : NoSecondInD
no_second_in_D n m all k d e =
    let c = get_or all k idle in
    let one = not_true_false (two_stage_lem c.state) (and_left (not (two_stage_lem c.state)) _ (in_profile n m all k e D d)) in
    let w = carries_own all c one (does_carry n m all k e) in (one, w.0, w.1)

pub away_in_D : AwayInD
away_in_D n m all k d e away = ⊎_elim (λ q. inl q) (λ q. inr (ended q)) (away_states c'.state (in_profile n m all k e D d) away)
  where
    c' : Core
    c' = get_or all k idle

    ended : c'.state ≡ Dropped → (c'.state ≡ Dropped) × (c'.own ≡ ticket 0) × (c'.carried ≡ ticket 0)
    ended q =
        let blank : eqb c'.own.0 0 ≡ true = rw q at (is_dropped_blank n m all k e) in
        let own = ap ticket (eqb-true c'.own.0 0 blank) in
        (q, own, (no_second_in_D n m all k d e).1 ∙ own)

pub none_dropped_in_T : NoneDroppedInT
none_dropped_in_T n m all k t e =
    let z = (get_or all k idle).state in
    let b = in_profile n m all k e T t in (
      not_true_false (is_marked z) (and_left (not (is_marked z)) (not (is_dropped z)) b),
      not_true_false (is_dropped z) (and_right (not (is_marked z)) (not (is_dropped z)) b),
    )

-- the register of core k at unit u, which is x
agrees_at : (all : List Core) (k u : ℕ) (x : LockUnit) → k < cores → unit_sound_lem all u x ≡ true → agrees (get_or all k idle) u (register_in x k) ≡ true
unfolding unit_sound_lem
agrees_at all k u x h e =
    let a = every (λ (j : ℕ). agrees (get_or all j idle) u (register_in x j)) cores in
    every_at _ cores (and_left a (one_flag x) (and_left (a && one_flag x) (shows_next_lem cores x) e)) k h

pub marked_stands : MarkedStands
marked_stands all k x h is e =
    let c = get_or all k idle in
    let r = register_in x k in
    let here = eq-eqb c.first.0 c.first.0 refl in
    let f : (not r.flag && shows r c.own false) ≡ true = rw (is, here) at (agrees_at all k c.first.0 x h e) in
    let s = and_right (not r.flag) (shows r c.own false) f in
    let v = r.valid && eqb r.ticket.0 c.own.0 in
    let s2 = and_left v (r.flag || true) s in
    entered r c.own (eqb-true r.ticket.0 c.own.0 (and_right r.valid _ s2)) (and_left r.valid _ s2)
    (not_true_false r.flag (and_left (not r.flag) _ f))

pub dropped_nowhere : DroppedNowhere
dropped_nowhere all k u x h is e = empty (register_in x k) (rw is at (agrees_at all k u x h e))
