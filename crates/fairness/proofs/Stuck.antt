-- Never stuck. The unit where a core stands, marked away or not, has a flag. Its core holds all it asked for, or would be granted at its next poll, or
-- waits at a second-class unit without its flag; that unit has a flag too, and its core can wait nowhere else.
use Prim.Native.Nat.{ℕ, ◌≤◌, ◌<◌}
use mathlib.Core.Bool.{Bool, true, false}
use mathlib.Core.Logic.{◌⊎◌, inl, inr, ⊎_elim}
use mathlib.Core.Path.{◌≡◌, refl, ◌∙◌, ap}
use native.Mathlib.Omega.{arith}
use borrow.Author.Tests.{eqb-true, eq-eqb, ne_eqb, lt-leb}
use Rattle.parts.specs.Fold.{some, one}
use Rattle.parts.specs.State.{is_idle_lem, is_live_lem, waits, holds, stands, two_stage_lem}
use Rattle.parts.specs.Parts.{cores, units, core_no}
use Rattle.block.specs.Table.{core_of, unit_of, register_of}
use Rattle.parts.specs.Answer.{number_of}
use Rattle.settling.specs.Line.{flags}
use Rattle.block.specs.Sound as S
use Rattle.block.specs.Parts.{Sound}
use Rattle.block.specs.Steps.{awaited, verdict, step}
use Rattle.parts.specs.declared.kinds.State.{State}
use Rattle.parts.specs.declared.kinds.State.TheVariants.{Idle, Waiting, Holding, WaitingSecond, HoldingBoth, Away, Marked, Dropped}
use Rattle.effects.specs.declared.kinds.Effect.{Effect}
use Rattle.block.specs.declared.table.Table.{Table}
use Rattle.parts.specs.declared.answer.Step.TheVariants.{P}
use Rattle.block.specs.declared.stepped.Stepped.{Stepped}
use Rattle.refusals.specs.Verdict.{Allowed}
use Rattle.parts.proofs.Bools.{not_true_false, clash}
use Rattle.parts.proofs.Folds.{some_at, at_some, some_none, none_count}
use Rattle.block.proofs.Standing.{first_in, second_after}
use Rattle.block.proofs.Stepping.{poll_cases}
use Rattle.block.proofs.Agreeing.{AtFirst, AtSecond, shows, flag_at, at_first}
use Rattle.block.proofs.Suited.{live_busy, stands_live}
use Rattle.laws.proofs.Keeping.{Good}
use Rattle.block.proofs.Kept.{names_two, live_within}
use Rattle.fairness.specs.Claims.{NeverStuck}
use Rattle.fairness.proofs.Effects.{Live, accepted}
use Rattle.fairness.proofs.Skipping.{calm_at}
use Rattle.fairness.proofs.Invariant.{live_small, numbered}

-- core j holds all it asked for, or would be granted
abbrev Goes : Table → ℕ → Type 0
Goes t j = (holds (core_of t j).state ≡ true) ⊎ (number_of (step t (P (core_no j))).answer ≡ 1)

-- a valid register's unit has a flag
pub flag_there :
    (t : Table) →
    Sound t →
    (u k : ℕ) →
    u < units →
    k < cores →
    (register_of t u k).valid ≡ true →
    (j : ℕ) × (j < cores) × ((register_of t u j).flag ≡ true)
flag_there t s u k h l v = go (some flag cores) refl
  where
    flag : ℕ → Bool
    flag j = (register_of t u j).flag

    go : (b : Bool) → some flag cores ≡ b → (j : ℕ) × (j < cores) × ((register_of t u j).flag ≡ true)
    go true e = some_at flag cores e
    go false e =
        let none : flags cores (unit_of t u) ≡ 0 = none_count flag cores (some_none flag cores e) in
        let any : one (S.any_valid (unit_of t u)) ≡ 1 = ap one (at_some (λ (j : ℕ). (register_of t u j).valid) cores k l v) in
        let same = eqb-true (flags cores (unit_of t u)) (one (S.any_valid (unit_of t u))) (s.unit u h).one_flag in
        absurd (omega arith)

module _ (t : Table) (g : Good t) where
  -- a core that waits with its flag set is answered 1
  granted_next :
      (j : ℕ) →
      waits (core_of t j).state ≡ true →
      Live t j →
      (register_of t (awaited (core_of t j)) j).flag ≡ true →
      number_of (step t (P (core_no j))).answer ≡ 1
  granted_next j w live f =
      let within = live_within t g.sound j (live_small t g.shaped j live) (live_busy (core_of t j).state live) in
      let may : verdict t (P (core_no j)) ≡ Allowed = simp (lt-leb t.counts.cores j within, w) in
      ap (λ (x : Stepped). number_of x.answer) (accepted t g (P (core_no j)) (calm_at t (P (core_no j)) refl) may).works ∙
      poll_cases t (core_no j) (λ (e : Effect). number_of e.answer ≡ 1) (λ set. refl) (λ clear two. absurd (clash f clear)) (λ clear one. absurd (clash f clear))

  -- the core of a flag goes, or waits at its second unit
  flag_goes :
      (u j : ℕ) →
      u < units →
      j < cores →
      (register_of t u j).flag ≡ true →
      Goes t j ⊎ (((core_of t j).state ≡ WaitingSecond) × ((register_of t (core_of t j).second.0 j).flag ≡ false))
  flag_goes u j h l f = go (core_of t j).state refl (flag_at (core_of t j) u (register_of t u j) ((g.sound.unit u h).agrees j l) f)
    where
      go :
          (z : State) →
          (core_of t j).state ≡ z →
          AtFirst (core_of t j) u (register_of t u j) ⊎ AtSecond (core_of t j) u (register_of t u j) →
          Goes t j ⊎ (((core_of t j).state ≡ WaitingSecond) × ((register_of t (core_of t j).second.0 j).flag ≡ false))
      go Idle e (inl a) = absurd (clash a.stands (ap stands e))
      go Idle e (inr a) = absurd (clash a.two (ap two_stage_lem e))
      go Waiting e (inl a) = inl (inr (granted_next j (ap waits e) (ap is_live_lem e) (simp e (rw a.unit at f))))
      go Waiting e (inr a) = absurd (clash a.two (ap two_stage_lem e))
      go Holding e a = inl (inl (ap holds e))
      go WaitingSecond e a = second (register_of t (core_of t j).second.0 j).flag refl
        where
          second :
              (b : Bool) →
              (register_of t (core_of t j).second.0 j).flag ≡ b →
              Goes t j ⊎ (((core_of t j).state ≡ WaitingSecond) × ((register_of t (core_of t j).second.0 j).flag ≡ false))
          second true q = inl (inr (granted_next j (ap waits e) (ap is_live_lem e) (simp e q)))
          second false q = inr (e, q)
      go HoldingBoth e a = inl (inl (ap holds e))
      go Away e (inl a) = absurd (clash a.stands (ap stands e))
      go Away e (inr a) = absurd (clash a.two (ap two_stage_lem e))
      go Marked e (inl a) = absurd (clash f (not_true_false (register_of t u j).flag (simp e at a.flagless)))
      go Marked e (inr a) = absurd (clash a.two (ap two_stage_lem e))
      go Dropped e (inl a) = absurd (clash a.stands (ap stands e))
      go Dropped e (inr a) = absurd (clash a.two (ap two_stage_lem e))

  -- whoever has the flag of the second unit that a core waits at goes
  second_goes : (j : ℕ) → j < cores → (core_of t j).state ≡ WaitingSecond → (i : ℕ) × Goes t i
  second_goes j l e =
      let c = core_of t j in
      let names = names_two t c (simp e at (g.sound.core j l).named) in
      let h = (second_after t g.sound j l (ap is_idle_lem e) (ap two_stage_lem e)).1 in
      let apart = ne_eqb c.second.0 c.first.0 (λ q. omega arith) in
      let agrees = (g.sound.unit c.second.0 h).agrees j l in
      let v = (shows (register_of t c.second.0 j) c.carried false
      (simp (e, apart, eq-eqb c.second.0 c.second.0 refl) at agrees)).valid in
      let w = flag_there t g.sound c.second.0 j h l v in
      let i = w.0 in
      (i, other i w.1 c.second.0 h names.low w.2 (flag_goes c.second.0 i h w.1 w.2))
    where
      -- a core with a second unit holds a first-class one, so a second-class unit whose flag it has is its second
      nowhere :
          (i : ℕ) →
          i < cores →
          (u : ℕ) →
          u < units →
          t.counts.first ≤ u →
          (register_of t u i).flag ≡ true →
          (core_of t i).state ≡ WaitingSecond →
          (register_of t (core_of t i).second.0 i).flag ≡ false →
          ⊥
      nowhere i m u h low f e clear =
          ⊎_elim
          (λ a.
          let names = names_two t (core_of t i) (simp e at (g.sound.core i m).named) in
          let q = a.unit in
          omega arith)
          (λ a. clash (rw a.unit at f) clear)
          (flag_at (core_of t i) u (register_of t u i) ((g.sound.unit u h).agrees i m) f)

      other :
          (i : ℕ) →
          i < cores →
          (u : ℕ) →
          u < units →
          t.counts.first ≤ u →
          (register_of t u i).flag ≡ true →
          Goes t i ⊎ (((core_of t i).state ≡ WaitingSecond) × ((register_of t (core_of t i).second.0 i).flag ≡ false)) →
          Goes t i
      other i m u h low f (inl x) = x
      other i m u h low f (inr x) = absurd (nowhere i m u h low f x.0 x.1)

  somebody_goes : (k : ℕ) → stands (core_of t k).state ≡ true → (j : ℕ) × Goes t j
  somebody_goes k = registered
    where
      found :
          (i : ℕ) →
          i < cores →
          Goes t i ⊎ (((core_of t i).state ≡ WaitingSecond) × ((register_of t (core_of t i).second.0 i).flag ≡ false)) →
          (j : ℕ) × Goes t j
      found i l (inl x) = (i, x)
      found i l (inr x) = second_goes i l x.0

      -- at its first unit
      registered : stands (core_of t k).state ≡ true → (j : ℕ) × Goes t j
      registered s =
          let c = core_of t k in
          let live = stands_live c.state s in
          let l = live_small t g.shaped k live in
          let h = first_in t g.sound k l (live_busy c.state live) in
          let v = (at_first c (register_of t c.first.0 k) s ((g.sound.unit c.first.0 h).agrees k l)).shows.valid in
          let w = flag_there t g.sound c.first.0 k h l v in
          found w.0 w.1 (flag_goes c.first.0 w.0 h w.1 w.2)

pub never_stuck : NeverStuck
never_stuck p k r s = let n = numbered p r in somebody_goes p.table n.1.good k s
