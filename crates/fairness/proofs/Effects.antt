-- What an accepted step does before settling: it changes its core and that core's registers and nothing else. Where it skips nobody (Skipping),
-- settling changes no core. A ticket begins only by a request or a coming back of a dropped core, and ends only by release and, in D, by an interrupt;
-- a flag at a first-class unit goes out only by release or interrupt. A refused step does nothing.
use Prim.Native.Nat.{ℕ, ◌<◌}
use mathlib.Core.Bool.{Bool, true, false, cond, ◌&&◌, not}
use mathlib.Core.List.{List, []}
use mathlib.Core.Logic.{◌⊎◌, inl, inr, ⊎_elim, ◌≢◌}
use mathlib.Core.Path.{◌≡◌, refl, sym, ◌∙◌, ap, subst}
use native.Mathlib.Omega.{arith}
use lib.Dec.{eqb}
use lib.ListN.{get_or}
use borrow.Author.Tests.{eq-eqb}
use Rattle.ticket.specs.declared.kinds.CoreNo.{CoreNo}
use Rattle.ticket.specs.declared.kinds.UnitNo.{UnitNo}
use Rattle.parts.specs.State.{is_idle_lem, is_live_lem, is_marked, is_dropped, waits, holds, holds_one, is_away, stands, two_stage_lem}
use Rattle.parts.specs.Parts.{cores, units, idle}
use Rattle.parts.specs.Answer.{whose, number_of}
use Rattle.parts.specs.declared.kinds.Core.{Core}
use Rattle.parts.specs.declared.kinds.Counts.{Counts}
use Rattle.parts.specs.declared.kinds.Profile.{Profile}
use Rattle.parts.specs.declared.kinds.Profile.TheVariants.{T, D}
use Rattle.parts.specs.declared.kinds.Register.{Register}
use Rattle.parts.specs.declared.answer.Answer.{Answer}
use Rattle.parts.specs.declared.answer.Answer.TheVariants.{Done, NoCore, NoUnit, WrongState, WrongClass, Masked, Stretched}
use Rattle.parts.specs.declared.answer.Step.{Step}
use Rattle.parts.specs.declared.answer.Step.TheVariants.{R, N, P, I, C, L}
use Rattle.refusals.specs.Judge.{unless, no_core, no_unit, wrong_class, known, in_state, judge}
use Rattle.refusals.specs.Verdict.{Verdict, Allowed, Refused}
use Rattle.effects.specs.Effect.{request, call_off, counts_dropped, marked_away, interrupt, enter_again, go_on}
use Rattle.effects.specs.declared.kinds.Effect.{Effect}
use Rattle.block.specs.Table.{core_of, register_of, Shaped}
use Rattle.block.specs.Settle.{settle}
use Rattle.block.specs.Sound.{sound}
use Rattle.block.specs.Skipping.{skips}
use Rattle.block.specs.Steps.{late, verdict, awaited, effect_on, affected, moves, performed, on_sound, step, refusal}
use Rattle.block.specs.declared.table.Table.{Table}
use Rattle.block.specs.declared.stepped.Stepped.{Stepped}
use Rattle.parts.proofs.Along.{same_or_not}
use Rattle.parts.proofs.Bools.{clash}
use Rattle.block.proofs.Access.{register_unit}
use Rattle.block.proofs.Allows.{may_request, may_nest, may_poll, may_interrupt, may_come_back}
use Rattle.block.proofs.Agreeing.{flag_at}
use Rattle.block.proofs.Parts.{whole}
use Rattle.block.proofs.Standing.{units_few, bare}
use Rattle.block.proofs.Stepping.{poll_cases, poll_moves, come_cases}
use Rattle.block.proofs.Suited.{live_busy, single_in_D}
use Rattle.block.proofs.Touched.{AllPresent}
use Rattle.block.proofs.Presence.{moves_present}
use Rattle.laws.specs.Granting.{listed}
use Rattle.block.proofs.Almost.{Almost}
use Rattle.laws.proofs.Granting.{accepted as allowed, refused, grants_listed}
use Rattle.laws.proofs.Keeping.{Good}
use Rattle.block.proofs.Kept.{names_two, moves_almost, moves_core, moves_shaped, moves_moved}
use Rattle.block.proofs.Moving.{Moved}
use Rattle.laws.proofs.Settling.{settle_same}
use Rattle.fairness.specs.Run.{done, interrupts}

-- Refusals: none of them is answered 0

abbrev Turned : Verdict → Type 0
Turned v = (a : Answer) → v ≡ Refused a → eqb (number_of a) 0 ≡ false

turned_allowed : Turned Allowed
turned_allowed a e = absurd (let z : ◌≡◌ {A = ℕ} 0 1 = cc in omega arith)

turned_unless : (b : Bool) (a : Answer) (v : Verdict) → eqb (number_of a) 0 ≡ false → Turned v → Turned (unless b a v)
turned_unless true a v n f a' e =
    let same : a ≡ a' = cc in
    subst (λ (x : Answer). eqb (number_of x) 0 ≡ false) same n
turned_unless false a v n f a' e = f a' e

-- two conditions to judge by, the second of which is the last
turned_two :
    (b d : Bool) (a a' : Answer) → eqb (number_of a) 0 ≡ false → eqb (number_of a') 0 ≡ false → Turned (unless b a (unless d a' Allowed))
turned_two b d a a' n m = turned_unless b a (unless d a' Allowed) n (turned_unless d a' Allowed m turned_allowed)

turned_known : (n : Counts) (k : CoreNo) (u : UnitNo) (v : Verdict) → Turned v → Turned (known n k u v)
turned_known n k u v f = turned_unless (no_core n k) NoCore (unless (no_unit n u) NoUnit v) refl (turned_unless (no_unit n u) NoUnit v refl f)

turned_state : (n : Counts) (k : CoreNo) (right : Bool) → Turned (in_state n k right)
turned_state n k right = turned_two (no_core n k) (not right) NoCore WrongState refl refl

turned : (z : Step) (n : Counts) (late : Bool) (c : Core) → Turned (judge z n late c)
turned (R k u) n late c = turned_known n k u _ (turned_two (not (is_idle_lem c.state)) late WrongState Stretched refl refl)
turned (N k u) n late c = turned_known n k u _ (turned_two (not (holds_one c.state)) (wrong_class n c.first u) WrongState WrongClass refl refl)
turned (P k) n late c = turned_state n k (waits c.state)
turned (I k) n late c =
    turned_unless (no_core n k) NoCore _ refl (turned_two (holds c.state) (not (waits c.state)) Masked WrongState refl refl)
turned (C k) n late c =
    turned_unless (no_core n k) NoCore _ refl (turned_two (not (is_away c.state)) (is_dropped c.state && late) WrongState Stretched refl refl)
turned (L k) n late c = turned_state n k (holds c.state)

-- A step, by how it was judged

pub record Refusal (t : Table) (z : Step) : Type 0 where
  pub table : (step t z).table ≡ t
  pub none : listed (step t z).grants ≡ []
  pub undone : done t z ≡ false

pub record Accepted (t : Table) (z : Step) : Type 0 where
  pub may : verdict t z ≡ Allowed
  pub works : step t z ≡ performed t z
  pub grants : listed (step t z).grants ≡ (settle (moves t z)).grants
  pub almost : Almost (moves t z)
  pub shaped : Shaped (moves t z)
  pub small : (whose z).0 < cores
  pub moved : Moved t (moves t z) (whose z).0 (effect_on t z).core
  pub present : AllPresent (moves t z)

module _ (t : Table) (z : Step) (a : Accepted t z) where
  pub stepped : (step t z).table ≡ (settle (moves t z)).table
  stepped = ap (λ (x : Stepped). x.table) a.works

  pub stepped_core : (j : ℕ) → core_of (step t z).table j ≡ core_of (moves t z) j
  stepped_core j = ap (λ (x : Table). core_of x j) stepped ∙ ap (λ (l : List Core). get_or l j idle) (settle_same (moves t z) a.present).0

  pub stepped_counter : (step t z).table.counter ≡ (effect_on t z).counter
  stepped_counter = ap (λ (x : Table). x.counter) stepped ∙ (settle_same (moves t z) a.present).2

  pub stepped_counts : (step t z).table.counts ≡ t.counts
  stepped_counts = ap (λ (x : Table). x.counts) stepped ∙ (settle_same (moves t z) a.present).1 ∙ a.moved.counts

  -- answered 0
  pub answers_done : (effect_on t z).answer ≡ Done → done t z ≡ true
  answers_done e = ap (λ (x : Stepped). eqb (number_of x.answer) 0) a.works ∙ ap (λ (x : Answer). eqb (number_of x) 0) e

module _ (t : Table) (g : Good t) where
  fit : sound t ≡ true
  fit = whole t g.sound

  pub on_good : (z : Step) → step t z ≡ on_sound t z
  unfolding step
  on_good z = simp fit

  module _ (z : Step) (calm : skips t z ≡ false) where
    pub accepted : verdict t z ≡ Allowed → Accepted t z
    accepted may =
        record {
          may = may;
          works = on_good z ∙ allowed t z may;
          grants = ap (λ (x : Stepped). listed x.grants) (on_good z) ∙ grants_listed t g.shaped fit z may;
          almost = moves_almost t g.shaped g.sound z may;
          shaped = moves_shaped t g.shaped g.sound z may;
          small = moves_core t g.shaped g.sound z may;
          moved = moves_moved t g.shaped g.sound z may;
          present = moves_present t z g.shaped fit may calm;
        }

    pub judged : Accepted t z ⊎ Refusal t z
    judged = go (verdict t z) refl
      where
        go : (v : Verdict) → verdict t z ≡ v → Accepted t z ⊎ Refusal t z
        go Allowed e = inl (accepted e)
        go (Refused a) e =
            let same : step t z ≡ refusal t a = on_good z ∙ refused t z a e in
            inr
            (record {
              table = ap (λ (x : Stepped). x.table) same;
              none = ap (λ (x : Stepped). listed x.grants) same;
              undone = ap (λ (x : Stepped). eqb (number_of x.answer) 0) same ∙ turned z t.counts (late t) (core_of t (whose z).0) a e;
            })

    pub done_accepted : done t z ≡ true → Accepted t z
    done_accepted e = ⊎_elim (λ a. a) (λ r. absurd (clash e r.undone)) judged

-- Tickets

-- core j has one
abbrev pub Live : Table → ℕ → Type 0
Live t j = is_live_lem (core_of t j).state ≡ true

pub record Keeps (t m : Table) : Type 0 where
  pub counter : m.counter ≡ t.counter
  pub live : (j : ℕ) → Live m j → Live t j
  pub own : (j : ℕ) → Live m j → (core_of m j).own.0 ≡ (core_of t j).own.0

-- the counter stands, and the core, where it is live still, was so and has its own ticket
pub record Same (t : Table) (k : ℕ) (e : Effect) : Type 0 where
  pub counter : e.counter ≡ t.counter
  pub own : is_live_lem e.core.state ≡ true → Live t k × (e.core.own.0 ≡ (core_of t k).own.0)

-- such a step keeps the tickets that are live after it
pub keeps : (t : Table) (z : Step) → Accepted t z → Same t (whose z).0 (effect_on t z) → Keeps t (step t z).table
keeps t z a same =
    record {
      counter = stepped_counter t z a ∙ same.counter;
      live = λ j e. live j (rw (stepped_core t z a j) at e) (same_or_not j (whose z).0);
      own = λ j e. ap (λ (c : Core). c.own.0) (stepped_core t z a j) ∙ own j (rw (stepped_core t z a j) at e) (same_or_not j (whose z).0);
    }
  where
    m : Table
    m = moves t z

    live : (j : ℕ) → Live m j → (j ≡ (whose z).0) ⊎ (j ≢ (whose z).0) → Live t j
    live j e (inl q) = rw q (same.own (rw (q, a.moved.becomes) at e)).0
    live j e (inr d) = rw (a.moved.others j d) at e

    own : (j : ℕ) → Live m j → (j ≡ (whose z).0) ⊎ (j ≢ (whose z).0) → (core_of m j).own.0 ≡ (core_of t j).own.0
    own j e (inl q) = rw (q, a.moved.becomes) (same.own (rw (q, a.moved.becomes) at e)).1
    own j e (inr d) = ap (λ (x : Core). x.own.0) (a.moved.others j d)

poll_live : (t : Table) (k : CoreNo) → verdict t (P k) ≡ Allowed → Live t k.0
poll_live t k may = ⊎_elim (λ e. ap is_live_lem e) (λ e. ap is_live_lem e) (may_poll t k may).1

-- a poll is one, whatever it finds
pub poll_same : (t : Table) (k : CoreNo) → verdict t (P k) ≡ Allowed → Same t k.0 (effect_on t (P k))
poll_same t k may =
    let l = poll_live t k may in
    poll_cases t k (Same t k.0)
    (λ f. record { counter = refl; own = λ e. (l, refl) })
    (λ f two. record { counter = refl; own = λ e. (l, refl) })
    (λ f one. record { counter = refl; own = λ e. (l, refl) })

-- the effect of an interrupt, by the profile and then by the flag
pub interrupt_cases :
    (t : Table) (k : CoreNo) (Q : Effect → Type 0) →
    let c = core_of t k.0 in
    let flag = (register_of t (awaited c) k.0).flag in
    (t.counts.profile ≡ T → Q (call_off t.counter c)) →
    (t.counts.profile ≡ D → flag ≡ true → Q (counts_dropped t.counter c)) →
    (t.counts.profile ≡ D → flag ≡ false → Q (marked_away t.counter c)) →
    Q (effect_on t (I k))
interrupt_cases t k Q off gone marked = go t.counts.profile refl (register_of t (awaited c) k.0).flag refl
  where
    c : Core
    c = core_of t k.0

    go :
        (p : Profile) →
        t.counts.profile ≡ p →
        (flag : Bool) →
        (register_of t (awaited c) k.0).flag ≡ flag →
        Q (interrupt p t.counter c flag)
    go T e flag f = off e
    go D e true f = gone e f
    go D e false f = marked e f

-- and so is an interrupt
pub interrupt_same : (t : Table) (k : CoreNo) → verdict t (I k) ≡ Allowed → Same t k.0 (effect_on t (I k))
interrupt_same t k may =
    let l : Live t k.0 = ⊎_elim (λ e. ap is_live_lem e) (λ e. ap is_live_lem e) (may_interrupt t k may).1 in
    interrupt_cases t k (Same t k.0)
    (λ p. record { counter = refl; own = λ e. (l, refl) })
    (λ p f. record { counter = refl; own = λ e. absurd (clash e refl) })
    (λ p f. record { counter = refl; own = λ e. (l, refl) })

-- an interrupt and a coming back are answered 0
pub come_done : (t : Table) (k : CoreNo) → (effect_on t (C k)).answer ≡ Done
come_done t k = go (is_dropped (core_of t k.0).state) (is_marked (core_of t k.0).state)
  where
    c : Core
    c = core_of t k.0

    go : (a b : Bool) → (cond a (request c.first t.counter) (cond b (go_on t.counter c) (enter_again t.counter c))).answer ≡ Done
    go true b = refl
    go false true = refl
    go false false = refl

pub interrupt_done : (t : Table) (k : CoreNo) → (effect_on t (I k)).answer ≡ Done
interrupt_done t k = interrupt_cases t k (λ (e : Effect). e.answer ≡ Done) (λ p. refl) (λ p f. refl) (λ p f. refl)

module _ (t : Table) (g : Good t) where
  -- Flags at a first-class unit

  module _ (u : ℕ) (class : u < t.counts.first) where
    abbrev place : u < units
    place = omega (arith, units_few t.counts g.sound.counts)

    -- a core that stands nowhere has none
    none_standing :
        (k : ℕ) → k < cores → stands (core_of t k).state ≡ false → two_stage_lem (core_of t k).state ≡ false → (register_of t u k).flag ≡ false
    none_standing k h a b =
        ap (λ (r : Register). r.flag)
        (bare t g.sound k h u place (and_off _ _ a) (and_off _ _ b))
      where
        and_off : (x y : Bool) → x ≡ false → (x && y) ≡ false
        and_off true y e = absurd (clash refl e)
        and_off false y e = refl

    -- whoever is live after the step keeps its flag, but by an interrupt in T
    pub flag_kept :
        (z : Step) (j : ℕ) →
        Accepted t z →
        Live (moves t z) j →
        (register_of t u j).flag ≡ true →
        ((register_of (moves t z) u j).flag ≡ true) ⊎ ((interrupts t z j ≡ true) × (t.counts.profile ≡ T))
    flag_kept z j a live f = go (same_or_not j (whose z).0)
      where
        Kept : Table → Step → Type 0
        Kept m z = ((register_of m u j).flag ≡ true) ⊎ ((interrupts t z j ≡ true) × (t.counts.profile ≡ T))

        -- the core did not stand
        unstood : (k : ℕ) → k < cores → j ≡ k → stands (core_of t k).state ≡ false → two_stage_lem (core_of t k).state ≡ false → ⊥
        unstood k h e s two = clash (rw e at f) (none_standing k h s two)

        own : (z : Step) → j ≡ (whose z).0 → Accepted t z → Live (moves t z) j → Kept (moves t z) z
        own (R k v) e a live =
            let s = (may_request t k v a.may).state in
            absurd (unstood k.0 a.small e (ap stands s) (ap two_stage_lem s))
        own (N k v) e a live =
            let n = may_nest t k v a.may in
            inl (ap (λ (r : Register). r.flag) (register_unit t v.0 k.0 _ u j (omega arith)) ∙ f)
        own (P k) e a live =
            poll_moves t k (λ m. Kept m (P k))
            (λ q. inl f)
            (λ q two.
            let named = (g.sound.core k.0 a.small).named in
            let busy = live_busy (core_of t k.0).state (poll_live t k a.may) in
            let w = names_two t (core_of t k.0) (simp (busy, two) at named) in
            inl (ap (λ (r : Register). r.flag) (register_unit t (core_of t k.0).second.0 k.0 _ u j (omega arith)) ∙ f))
            (inl f)
        own (I k) e a live =
            interrupt_cases t k (λ (x : Effect). (is_live_lem x.core.state ≡ true) → Kept (moves t (I k)) (I k))
            (λ p l. inr (simp (eq-eqb k.0 j (sym e), answers_done t (I k) a (interrupt_done t k)), p))
            (λ p q l. absurd (clash l refl))
            (λ p q l. absurd (clash (rw e at f) (awaits p q)))
            (rw (e, a.moved.becomes) at live)
          where
            -- in D the core waits for its first unit, where its one flag is
            awaits : t.counts.profile ≡ D → (register_of t (awaited (core_of t k.0)) k.0).flag ≡ false → (register_of t u k.0).flag ≡ false
            awaits p q =
                let one = single_in_D t.counts.profile (core_of t k.0).state p (g.sound.core k.0 a.small).suited in
                let at = flag_at (core_of t k.0) u (register_of t u k.0) ((g.sound.unit u place).agrees k.0 a.small) (rw e at f) in
                ⊎_elim (λ x. rw x.unit (simp one at q)) (λ x. absurd (clash x.two one)) at
        own (C k) e a live =
            come_cases t.counter (core_of t k.0) (λ (x : Effect). Kept (affected t k.0 x) (C k))
            (λ s. absurd (unstood k.0 a.small e (ap stands s) (ap two_stage_lem s)))
            (λ s. inl f)
            (λ s. absurd (unstood k.0 a.small e (ap stands s) (ap two_stage_lem s)))
            (may_come_back t k a.may).state
        own (L k) e a live = absurd (clash (rw (e, a.moved.becomes) at live) refl)

        go : (j ≡ (whose z).0) ⊎ (j ≢ (whose z).0) → Kept (moves t z) z
        go (inl e) = own z e a live
        go (inr d) = inl (ap (λ (r : Register). r.flag) (a.moved.registers u place j d) ∙ f)
