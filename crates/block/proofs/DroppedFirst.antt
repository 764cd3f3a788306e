-- Dropping first. A core that gives up its flag does not stand in line, so that whoever is dropped is the same before and after it leaves; and of what the unit shows in
-- between nothing is left when it has settled. So the step on a table of which those in front are dropped is the step.
use Prim.Native.Nat.{ℕ, ◌<◌, ◌≤◌}
use mathlib.Core.Bool.{Bool, true, false, cond, ◌&&◌, not}
use mathlib.Core.List.{List, [], ◌++◌}
use mathlib.Core.Logic.{◌≢◌}
use mathlib.Core.Path.{◌≡◌, refl, sym, ◌∙◌, ap, ap₂, subst}
use native.Mathlib.Omega.{arith}
use lib.Dec.{eqb, ltb}
use lib.ListN.{get_or, set}
use lib.Seq.{get_or-set_same, get_or-set_other, set-set}
use borrow.Author.Tests.{eq-eqb, ltb-true, lt-leb}
use Rattle.ticket.specs.declared.kinds.CoreNo.{CoreNo}
use Rattle.ticket.specs.declared.kinds.Ticket.{Ticket}
use Rattle.parts.specs.Answer.{whose, packed}
use Rattle.parts.specs.Fold.{one}
use Rattle.parts.specs.Profile.{dequeues}
use Rattle.parts.specs.State.{is_idle_lem, is_away, stands, two_stage_lem, waits, holds}
use Rattle.parts.specs.Parts.{cores, units, blank, idle, absent_unit, register_in, registered, showing}
use Rattle.parts.specs.Parts.{dropped as gone}
use Rattle.parts.specs.declared.answer.Answer.TheVariants.{Done}
use Rattle.parts.specs.declared.answer.Step.{Step}
use Rattle.parts.specs.declared.answer.Step.TheVariants.{R, N, P, I, C, L}
use Rattle.parts.specs.declared.kinds.Core.{Core}
use Rattle.parts.specs.declared.kinds.Counts.{Counts}
use Rattle.parts.specs.declared.kinds.LockUnit.{LockUnit}
use Rattle.parts.specs.declared.kinds.Next.{Next}
use Rattle.parts.specs.declared.kinds.Profile.{Profile}
use Rattle.parts.specs.declared.kinds.Profile.TheVariants.{T, D}
use Rattle.parts.specs.declared.kinds.Register.{Register}
use Rattle.parts.specs.declared.kinds.State.{State}
use Rattle.parts.specs.declared.kinds.State.TheVariants.{Idle, Waiting, Holding, WaitingSecond, HoldingBoth, Away, Marked, Dropped}
use Rattle.settling.specs.Line.{flags, in_line, next, stored, won}
use Rattle.settling.specs.Settle.{given}
use Rattle.settling.specs.Shown.{shown_as, next_of, shown, same, shows_next_lem}
use Rattle.settling.specs.Dropping.{dropping, away_as, drop_away}
use Rattle.settling.specs.InFront.{InOrder}
use Rattle.settling.specs.Best.{Best, Nobody, Won}
use Rattle.settling.specs.declared.dropping.Dropping.{Dropping}
use Rattle.refusals.specs.Judge.{judge}
use Rattle.refusals.specs.Verdict.{Verdict, Allowed}
use Rattle.effects.specs.Effect.{makes, interrupt, step_effect}
use Rattle.effects.specs.declared.kinds.Move.TheVariants.{GiveUp}
use Rattle.effects.specs.declared.kinds.Effect.{Effect}
use Rattle.block.specs.Table.{core_of, unit_of, register_of, with_unit, with_register, with_core, with_counter_lem, Shaped}
use Rattle.block.specs.Settle.{winner, Settling, with_dropping, drop_at, grant_next, settle}
use Rattle.block.specs.Parts.{Sound}
use Rattle.block.specs.Sound.{sound}
use Rattle.block.specs.Steps.{verdict, awaited, effect_on, affected, moves, performed, answered, on_sound}
use Rattle.block.specs.Skipping.{gives_up, first_of, gives_up_flag, skips, dropped, skipped}
use Rattle.block.specs.declared.table.Table.{Table}
use Rattle.block.specs.declared.stepped.Stepped.{Stepped}
use Rattle.parts.proofs.Bools.{and_left, and_right, clash}
use Rattle.parts.proofs.Ranging.{cores_few}
use Rattle.parts.proofs.Folds.{count_change}
use Rattle.settling.proofs.NextInLine.{stored_next, shown_shows, changed_here, changed_there}
use Rattle.settling.proofs.DroppedAway.{none_left, out_stays, here_stays, drop_counted, beside_drops}
use Rattle.block.proofs.Parts.{parts, whole}
use Rattle.block.proofs.Columns.{sound_almost}
use Rattle.block.proofs.Oldest.{in_order}
use Rattle.block.proofs.Suited.{single_in_D}
use Rattle.block.proofs.Entering.{Past, next_here, flags_counted}
use Rattle.block.proofs.Answering.{past_blank}
use Rattle.block.proofs.Standing.{first_in, sound_quiet}
use Rattle.block.proofs.Touched.{Quiet, AllPresent, SettledAt, Settled, settled_unit}
use Rattle.block.proofs.Touching.{settle_only, settle_one}
use Rattle.block.proofs.Settling.{put_settled}
use Rattle.block.proofs.Agreeing.{at_first}
use Rattle.block.proofs.Stepping.{one_cleared, clears_one}
use Rattle.block.proofs.Presence.{one_there, moves_present}
use Rattle.block.proofs.DroppedSound.{shown_drops, drops_sound}

-- the states in which L and I are allowed
pub busy : (s : Step) (z : State) → gives_up s z ≡ true → (is_idle_lem z ≡ false) × (is_away z ≡ false) × (stands z ≡ true)
busy (R k u) z e = absurd (clash e refl)
busy (N k u) z e = absurd (clash e refl)
busy (P k) z e = absurd (clash e refl)
busy (I k) z e = go z e
  where
    go : (z : State) → waits z ≡ true → (is_idle_lem z ≡ false) × (is_away z ≡ false) × (stands z ≡ true)
    go Idle e = absurd (clash e refl)
    go Waiting e = (refl, refl, refl)
    go Holding e = absurd (clash e refl)
    go WaitingSecond e = (refl, refl, refl)
    go HoldingBoth e = absurd (clash e refl)
    go Away e = absurd (clash e refl)
    go Marked e = absurd (clash e refl)
    go Dropped e = absurd (clash e refl)
busy (C k) z e = absurd (clash e refl)
busy (L k) z e = go z e
  where
    go : (z : State) → holds z ≡ true → (is_idle_lem z ≡ false) × (is_away z ≡ false) × (stands z ≡ true)
    go Idle e = absurd (clash e refl)
    go Waiting e = absurd (clash e refl)
    go Holding e = (refl, refl, refl)
    go WaitingSecond e = absurd (clash e refl)
    go HoldingBoth e = (refl, refl, refl)
    go Away e = absurd (clash e refl)
    go Marked e = absurd (clash e refl)
    go Dropped e = absurd (clash e refl)

waits_unmasked : (z : State) → waits z ≡ true → holds z ≡ false
waits_unmasked Idle e = refl
waits_unmasked Waiting e = refl
waits_unmasked Holding e = absurd (clash e refl)
waits_unmasked WaitingSecond e = refl
waits_unmasked HoldingBoth e = absurd (clash e refl)
waits_unmasked Away e = refl
waits_unmasked Marked e = refl
waits_unmasked Dropped e = refl

-- and they are allowed there
gives_allowed :
    (s : Step) (n : Counts) (late : Bool) (c : Core) → (whose s).0 < n.cores → gives_up s c.state ≡ true → judge s n late c ≡ Allowed
gives_allowed (R k u) n late c h e = absurd (clash e refl)
gives_allowed (N k u) n late c h e = absurd (clash e refl)
gives_allowed (P k) n late c h e = absurd (clash e refl)
gives_allowed (I k) n late c h e = rw (lt-leb n.cores k.0 h, waits_unmasked c.state e, e)
gives_allowed (C k) n late c h e = absurd (clash e refl)
gives_allowed (L k) n late c h e = rw (lt-leb n.cores k.0 h, e)

-- what such a step does depends on its core and on the flag alone, and it gives up what the core has
same_effect :
    (s : Step) (p : Profile) (m : Ticket) (c : Core) (f : Bool) (b b' : Best) → gives_up s c.state ≡ true → step_effect p s m c f b ≡ step_effect p s m c f b'
same_effect (R k u) p m c f b b' e = refl
same_effect (N k u) p m c f b b' e = refl
same_effect (P k) p m c f b b' e = absurd (clash e refl)
same_effect (I k) p m c f b b' e = refl
same_effect (C k) p m c f b b' e = refl
same_effect (L k) p m c f b b' e = refl

giving :
    (s : Step) (p : Profile) (m : Ticket) (c : Core) (f : Bool) (b : Best) →
    gives_up s c.state ≡ true → p ≡ D → f ≡ true →
    (d : Core) × (step_effect p s m c f b ≡ makes d GiveUp Done c.own m)
giving (R k u) p m c f b e q r = absurd (clash e refl)
giving (N k u) p m c f b e q r = absurd (clash e refl)
giving (P k) p m c f b e q r = absurd (clash e refl)
giving (I k) p m c f b e q r = (gone c, ap₂ (λ (o : Profile) (g : Bool). interrupt o m c g) q r)
giving (C k) p m c f b e q r = absurd (clash e refl)
giving (L k) p m c f b e q r = (idle, refl)

-- what a step that skips says of its core
pub record Skips (t : Table) (s : Step) : Type 0 where
  pub profile : t.counts.profile ≡ D
  pub within : (whose s).0 < t.counts.cores
  pub gives : gives_up s (core_of t (whose s).0).state ≡ true
  pub flag : (register_of t (first_of t s) (whose s).0).flag ≡ true
  pub away : away_as t.cores (stored (unit_of t (first_of t s)).next) ≡ true
  pub told : skips t s ≡ true

is_D : (p : Profile) → dequeues p ≡ true → p ≡ D
is_D T e = absurd (clash e refl)
is_D D e = refl

pub skips_so : (t : Table) (s : Step) → skips t s ≡ true → Skips t s
skips_so t s e =
    let k = (whose s).0 in
    let a = dequeues t.counts.profile in
    let b = ltb k t.counts.cores in
    let c = gives_up s (core_of t k).state in
    let d = (register_of t (first_of t s) k).flag in
    let e1 = and_left (a && b && c && d) _ e in
    let e2 = and_left (a && b && c) d e1 in
    let e3 = and_left (a && b) c e2 in
    record {
      profile = is_D t.counts.profile (and_left a b e3);
      within = ltb-true k t.counts.cores (and_right a b e3);
      gives = and_right (a && b) c e2;
      flag = and_right (a && b && c) d e1;
      away = and_right (a && b && c && d) _ e;
      told = e;
    }

-- registers past n are blank: the first n tell what a unit shows
module _ (n : ℕ) (y : LockUnit) (few : n ≤ cores) (past : Past n y) where
  next_counted : next_of n y ≡ next_of cores y
  next_counted = ap₂ (λ (b : Best) (f : ℕ). shown_as b (not (eqb f 0))) (sym (next_here n y few past)) (sym (flags_counted n y few past))

  shows_counted : shows_next_lem cores y ≡ true → shows_next_lem n y ≡ true
  shows_counted e = ap (same y.next) next_counted ∙ e

module _ (t : Table) (s : Step) (shaped : Shaped t) (ok : sound t ≡ true) (is : Skips t s) where
  abbrev k : ℕ
  k = (whose s).0

  abbrev c : Core
  c = core_of t k

  abbrev u : ℕ
  u = c.first.0

  abbrev x : LockUnit
  x = unit_of t u

  -- those in front who are away are dropped
  abbrev d : Dropping
  d = drop_away cores x t.cores

  was : Sound t
  was = parts t ok

  few : t.counts.cores ≤ cores
  few = cores_few t.counts was.counts

  pub small : k < cores
  small = omega (arith, few, is.within)

  pub place : u < units
  place = first_in t was k small (busy s c.state is.gives).0

  single : two_stage_lem c.state ≡ false
  single = single_in_D t.counts.profile c.state is.profile (was.core k small).suited

  -- by the count, as the code does it
  pub counted : dropped t u ≡ shown_drops t u d
  counted =
      let n = t.counts.cores in
      let past = past_blank t was u place in
      let e = drop_away n x t.cores in
      let by_all = sym (drop_counted n cores x t.cores few (λ j l m. ap in_line (past j l m))) in
      let rest : Past n e.unit = λ j l m. (out_stays n n (dropping x t.cores) j (ap in_line (past j l m))).register ∙ past j l m in
      ap₂ (λ (y : LockUnit) (cs : List Core). with_dropping t u (dropping y cs))
      (ap (showing e.unit) (next_counted n e.unit few rest) ∙
      ap (λ (f : Dropping). shown cores f.unit) by_all)
      (ap (λ (f : Dropping). f.cores) by_all)

  -- the table on which the step is worked, which is sound
  abbrev z : Table
  z = shown_drops t u d

  pub shaped_z : Shaped z
  shaped_z = (drops_sound t shaped was u place).0

  sound_z : Sound z
  sound_z = (drops_sound t shaped was u place).1

  pub ok_z : sound z ≡ true
  ok_z = whole z sound_z

  -- the step's core and its register stay
  core_stays : core_of z k ≡ c
  core_stays = (here_stays cores cores (dropping x t.cores) k (busy s c.state is.gives).1).core

  out : in_line (register_in x k) ≡ false
  out = ap (λ (b : Bool). (register_in x k).valid && not b) is.flag ∙ go (register_in x k).valid
    where
      go : (b : Bool) → (b && false) ≡ false
      go true = refl
      go false = refl

  register_stays : register_in d.unit k ≡ register_in x k
  register_stays = (out_stays cores cores (dropping x t.cores) k out).register

  put : (y : LockUnit) → get_or (set t.units u y) u absent_unit ≡ y
  put y = get_or-set_same t.units u y absent_unit (rw shaped.units_long place)

  unit_there : unit_of z u ≡ shown cores d.unit
  unit_there = put (shown cores d.unit)

  -- nobody away is in front any more
  pub skips_no_more : skips z s ≡ false
  skips_no_more =
      and_no (gives_up_flag z s) _
      (ap (λ (e : Core). away_as d.cores (stored (unit_of z e.first.0).next)) core_stays ∙
      ap (λ (y : LockUnit). away_as d.cores (stored y.next)) unit_there ∙
      ap (away_as d.cores) (stored_next cores (shown cores d.unit) (shown_shows cores d.unit) (omega arith)) ∙
      none_left cores x t.cores)
    where
      and_no : (a b : Bool) → b ≡ false → (a && b) ≡ false
      and_no true b e = e
      and_no false b e = refl

  -- the step is allowed on both, and has the same effect
  gives_z : gives_up s (core_of z k).state ≡ true
  gives_z = ap (λ (e : Core). gives_up s e.state) core_stays ∙ is.gives

  allowed_t : verdict t s ≡ Allowed
  allowed_t = gives_allowed s t.counts _ c is.within is.gives

  allowed_z : verdict z s ≡ Allowed
  allowed_z = gives_allowed s t.counts _ (core_of z k) is.within gives_z

  awaits_first : awaited c ≡ u
  awaits_first = ap (λ (b : Bool). cond b c.second.0 c.first.0) single

  flag_t : (register_of t (awaited c) k).flag ≡ true
  flag_t = ap (λ (v : ℕ). (register_of t v k).flag) awaits_first ∙ is.flag

  flag_z : (register_of z (awaited c) k).flag ≡ true
  flag_z =
      ap (λ (v : ℕ). (register_of z v k).flag) awaits_first ∙
      ap (λ (y : LockUnit). (register_in y k).flag) unit_there ∙
      ap (λ (r : Register). r.flag) register_stays ∙
      is.flag

  -- the core becomes b, and gives up what it has
  does : (b : Core) × (effect_on t s ≡ makes b GiveUp Done c.own t.counter)
  does = giving s t.counts.profile t.counter c (register_of t (awaited c) k).flag (next cores x) is.gives is.profile flag_t

  abbrev b : Core
  b = does.0

  abbrev e : Effect
  e = makes b GiveUp Done c.own t.counter

  effect_z : effect_on z s ≡ e
  effect_z =
      ap (λ (g : Core). step_effect t.counts.profile s t.counter g (register_of z (awaited g) k).flag (next cores (unit_of z g.first.0))) core_stays ∙
      ap (λ (f : Bool). step_effect t.counts.profile s t.counter c f (next cores (unit_of z u))) (flag_z ∙ sym flag_t) ∙
      same_effect s t.counts.profile t.counter c (register_of t (awaited c) k).flag _ _ is.gives ∙
      does.1

  -- both tables after the core has left, but for what the unit shows
  abbrev left : Table
  left = with_core (one_cleared t k) k b

  moves_t : moves t s ≡ left
  moves_t =
      ap (affected t k) does.1 ∙
      ap (λ (y : Table). with_counter_lem (with_core y k b) t.counter) (clears_one t k small ok (busy s c.state is.gives).2 single)

  -- with the cores after dropping, and a unit y at u
  abbrev holding : LockUnit → Table
  holding y = record { units = set t.units u y; cores = set d.cores k b; counts = t.counts; counter = t.counter }

  moves_z : moves z s ≡ holding (registered (shown cores d.unit) k blank)
  moves_z =
      ap (affected z k) effect_z ∙
      ap (λ (y : Table). with_counter_lem (with_core y k b) t.counter)
      (clears_one z k small ok_z (ap (λ (g : Core). stands g.state) core_stays ∙ (busy s c.state is.gives).2)
      (ap (λ (g : Core). two_stage_lem g.state) core_stays ∙ single)) ∙
      ap (λ (g : Core). with_core (with_register z g.first.0 k blank) k b) core_stays ∙
      ap (λ (y : LockUnit). with_core (with_unit z u (registered y k blank)) k b) unit_there ∙
      ap (λ (l : List LockUnit). record { units = l; cores = set d.cores k b; counts = t.counts; counter = t.counter })
      (set-set t.units u (shown cores d.unit) (registered (shown cores d.unit) k blank))

  -- the unit has no flag then
  abbrev y : LockUnit
  y = registered x k blank

  unit_left : unit_of left u ≡ y
  unit_left = put y

  none : flags cores y ≡ 0
  none =
      let there =
      one_there t was u k place small
      (at_first c (register_in x k) (busy s c.state is.gives).2 ((was.unit u place).agrees k small)).shows.valid in
      let change =
      count_change (λ (i : ℕ). (register_in y i).flag) (λ (i : ℕ). (register_in x i).flag) cores k small
      (λ i n. ap (λ (r : Register). r.flag) (changed_there x k blank i n)) in
      let a : one (register_in x k).flag ≡ 1 = ap one is.flag in
      let f : one (register_in y k).flag ≡ 0 = ap (λ (r : Register). one r.flag) (changed_here x k blank (shaped.registers_long u place) small) in
      omega arith

  -- without a flag, it drops those whom it would have dropped before
  drops_same : drop_at left u ≡ holding (registered d.unit k blank)
  drops_same =
      ap (λ (g : LockUnit). cond (eqb (flags cores g) 0) (with_dropping left u (drop_away cores g left.cores)) left) unit_left ∙
      ap (λ (q : Bool). cond q (with_dropping left u (drop_away cores y left.cores)) left) (eq-eqb (flags cores y) 0 none) ∙
      ap (with_dropping left u) (beside_drops cores k blank b refl cores (dropping x t.cores) out) ∙
      ap (λ (l : List LockUnit). record { units = l; cores = set d.cores k b; counts = t.counts; counter = t.counter })
      (set-set t.units u y (registered d.unit k blank))

  quiet_there : (w : LockUnit) (v : ℕ) → v < units → v ≢ u → Quiet (get_or (set t.units u w) v absent_unit)
  quiet_there w v l n = subst Quiet (sym (get_or-set_other t.units u v w absent_unit n)) (sound_quiet t was v l)

  -- it settles the same, whatever it shows before
  abbrev from : Table → Settling
  from w = record { table = w; grants = [] }

  by_unit : Settled → Settling
  by_unit g = record { table = holding g.unit; grants = [] ++ won u g.winner }

  grants_by : (w : LockUnit) → grant_next u (from (holding w)) ≡ by_unit (settled_unit w)
  unfolding by_unit
  grants_by w =
      ap (λ (g : SettledAt). record { table = g.table; grants = [] ++ won u g.winner })
      (put_settled (record { units = t.units; cores = set d.cores k b; counts = t.counts; counter = t.counter }) u w (put w))

  settles_alike : (w : LockUnit) (v : Next) → settled_unit (showing w v) ≡ settled_unit w
  settles_alike w v = go (winner w)
    where
      go : (g : Best) → ◌≡◌ {A = Settled} (record { unit = shown cores (given (showing w v) g); winner = g }) (record { unit = shown cores (given w g); winner = g })
      go Nobody = refl
      go (Won i n) = refl

  settle_t : settle (moves t s) ≡ grant_next u (from (holding (registered d.unit k blank)))
  settle_t =
      ap settle moves_t ∙
      settle_only left u place (quiet_there y) ∙
      ap (λ (w : Table). grant_next u (from w)) drops_same

  settle_z : settle (moves z s) ≡ grant_next u (from (holding (registered (shown cores d.unit) k blank)))
  settle_z =
      let w = registered (shown cores d.unit) k blank in
      ap settle moves_z ∙
      settle_one (holding w) u place (subst AllPresent moves_z (moves_present z s shaped_z ok_z allowed_z skips_no_more) u place) (quiet_there w)

  settle_same : settle (moves t s) ≡ settle (moves z s)
  settle_same =
      settle_t ∙
      grants_by (registered d.unit k blank) ∙
      ap by_unit (sym (settles_alike (registered d.unit k blank) (next_of cores d.unit))) ∙
      sym (grants_by (registered (shown cores d.unit) k blank)) ∙
      sym settle_z

  finish : Settling → Effect → Stepped
  finish g f = record { table = g.table; answer = f.answer; ticket = f.ticket; grants = packed g.grants }

  pub first_same : on_sound t s ≡ on_sound z s
  unfolding on_sound finish
  first_same =
      ap (λ (v : Verdict). answered t v (performed t s)) allowed_t ∙
      ap₂ finish settle_same (does.1 ∙ sym effect_z) ∙
      sym (ap (λ (v : Verdict). answered z v (performed z s)) allowed_z)

-- What the code reads lies in the arrays

pub core_small : (t : Table) → sound t ≡ true → (k : ℕ) → k < t.counts.cores → k < cores
core_small t ok k h = omega (arith, cores_few t.counts (parts t ok).counts)

pub first_small :
    (t : Table) (s : Step) → sound t ≡ true → (k : ℕ) → k < t.counts.cores → gives_up s (core_of t k).state ≡ true → (core_of t k).first.0 < units
first_small t s ok k h gives = first_in t (parts t ok) k (core_small t ok k h) (busy s (core_of t k).state gives).0

module _ (t : Table) (s : Step) (ok : sound t ≡ true) (e : skips t s ≡ true) (k : CoreNo) (ek : k ≡ whose s) where
  pub skips_unit :
      let u = (core_of t k.0).first.0 in
      (t.counts.cores ≤ cores) × (u < units) × (shows_next_lem t.counts.cores (unit_of t u) ≡ true) × InOrder t.counts.cores (unit_of t u)
  skips_unit =
      let few = cores_few t.counts (parts t ok).counts in
      let is = skips_so t s e in
      let h = first_small t s ok (whose s).0 is.within is.gives in
      subst
      (λ (j : CoreNo).
      let u = (core_of t j.0).first.0 in
      (t.counts.cores ≤ cores) × (u < units) × (shows_next_lem t.counts.cores (unit_of t u) ≡ true) × InOrder t.counts.cores (unit_of t u))
      (sym ek) (
        few,
        h,
        shows_counted t.counts.cores (unit_of t (first_of t s)) few (past_blank t (parts t ok) (first_of t s) h) ((parts t ok).unit (first_of t s) h).next,
        in_order t (sound_almost t (parts t ok)) (first_of t s) h t.counts.cores few,
      )

-- Whether the step skips or not

module _ (t : Table) (s : Step) (shaped : Shaped t) (ok : sound t ≡ true) where
  -- a claim of the table on which the step is worked
  by_skipping :
      (Q : Table → Type 0) → (skips t s ≡ false → Q t) →
      ((is : Skips t s) → Q (shown_drops t (first_of t s) (drop_away cores (unit_of t (first_of t s)) t.cores))) →
      Q (skipped t s)
  by_skipping Q stays drops = go (skips t s) refl
    where
      go : (b : Bool) → skips t s ≡ b → Q (cond b (dropped t (first_of t s)) t)
      go true e = let is = skips_so t s e in subst Q (sym (counted t s shaped ok is)) (drops is)
      go false e = stays e

  pub skip_first : on_sound t s ≡ on_sound (skipped t s) s
  skip_first = by_skipping (λ (w : Table). on_sound t s ≡ on_sound w s) (λ e. refl) (λ is. first_same t s shaped ok is)

  pub skipped_shaped : Shaped (skipped t s)
  skipped_shaped = by_skipping Shaped (λ e. shaped) (λ is. shaped_z t s shaped ok is)

  pub skipped_sound : sound (skipped t s) ≡ true
  skipped_sound = by_skipping (λ (w : Table). sound w ≡ true) (λ e. ok) (λ is. ok_z t s shaped ok is)

  -- and then the step skips nobody: settling drops nobody
  pub skipped_once : skips (skipped t s) s ≡ false
  skipped_once = by_skipping (λ (w : Table). skips w s ≡ false) (λ e. e) (λ is. skips_no_more t s shaped ok is)

  pub skipped_present : verdict (skipped t s) s ≡ Allowed → AllPresent (moves (skipped t s) s)
  skipped_present may = moves_present (skipped t s) s skipped_shaped skipped_sound may skipped_once
