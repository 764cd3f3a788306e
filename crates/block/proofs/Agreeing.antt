-- Where a register that agrees with its core stands: at the core's first unit, at its second, or nowhere, and then it is blank.
use Prim.Native.Nat.{ℕ}
use mathlib.Core.Bool.{Bool, true, false, cond, ◌&&◌, not}
use mathlib.Core.Logic.{◌⊎◌, inl, inr, ⊎_elim}
use mathlib.Core.Path.{◌≡◌, refl, sym, ◌∙◌, ap}
use lib.Dec.{eqb}
use borrow.Author.Tests.{eqb-true, eq-eqb}
use Rattle.ticket.specs.declared.kinds.Ticket.{Ticket}
use Rattle.parts.specs.State.{waits, stands, holds_first, holds_both, two_stage_lem, is_away}
use Rattle.parts.specs.Parts.{blank}
use Rattle.parts.specs.declared.kinds.Core.{Core}
use Rattle.parts.specs.declared.kinds.Register.{Register}
use Rattle.parts.specs.declared.kinds.State.{State}
use Rattle.parts.specs.declared.kinds.State.TheVariants.{Idle, Waiting, Holding, WaitingSecond, HoldingBoth, Away, Marked, Dropped}
use Rattle.settling.specs.Line.{in_line}
use Rattle.block.specs.Sound as S
use Rattle.block.specs.Steps.{awaited}
use Rattle.parts.proofs.Bools.{and_left, and_right, and_both, or_cases, not_true_false, clash}
use Rattle.block.proofs.Standing.{blank_is}

pub record Shows (r : Register) (n : Ticket) (held : Bool) : Type 0 where
  pub valid : r.valid ≡ true
  pub ticket : r.ticket.0 ≡ n.0
  pub flag : held ≡ true → r.flag ≡ true

pub shows : (r : Register) (n : Ticket) (held : Bool) → S.shows r n held ≡ true → Shows r n held
shows r n held h =
    let a = r.valid in
    let b = eqb r.ticket.0 n.0 in
    let l = and_left (a && b) _ h in
    record {
      valid = and_left a b l;
      ticket = eqb-true r.ticket.0 n.0 (and_right a b l);
      flag = λ e. ⊎_elim (λ f. f) (λ q. absurd (clash e (not_true_false held q))) (or_cases r.flag (not held) (and_right (a && b) _ h));
    }

module _ (c : Core) (u : ℕ) (r : Register) where
  pub record AtFirst : Type 0 where
    pub stands : stands c.state ≡ true
    pub unit : u ≡ c.first.0
    pub flagless : S.flagless c.state r ≡ true
    pub shows : Shows r c.own (holds_first c.state)

  pub record AtSecond : Type 0 where
    pub two : two_stage_lem c.state ≡ true
    pub unit : u ≡ c.second.0
    pub shows : Shows r c.carried (holds_both c.state)

  pub agreeing : {Q : Type 0} → S.agrees c u r ≡ true → (AtFirst → Q) → (AtSecond → Q) → (r ≡ blank → Q) → Q
  agreeing {Q} agrees first second nowhere =
      go (stands c.state && eqb u c.first.0) refl (two_stage_lem c.state && eqb u c.second.0) refl agrees
    where
      go :
          (p : Bool) →
          (stands c.state && eqb u c.first.0) ≡ p →
          (q : Bool) →
          (two_stage_lem c.state && eqb u c.second.0) ≡ q →
          cond p (S.flagless c.state r && S.shows r c.own (holds_first c.state)) (cond q (S.shows r c.carried (holds_both c.state)) (S.is_blank r)) ≡ true →
          Q
      go true d q e h =
          first
          (record {
            stands = and_left (stands c.state) _ d;
            unit = eqb-true u c.first.0 (and_right (stands c.state) _ d);
            flagless = and_left (S.flagless c.state r) _ h;
            shows = shows r c.own (holds_first c.state) (and_right (S.flagless c.state r) _ h);
          })
      go false d true e h =
          second
          (record {
            two = and_left (two_stage_lem c.state) _ e;
            unit = eqb-true u c.second.0 (and_right (two_stage_lem c.state) _ e);
            shows = shows r c.carried (holds_both c.state) h;
          })
      go false d false e h = nowhere (blank_is r h)

  -- a valid register, and so one with its flag set, is not blank
  pub valid_at : S.agrees c u r ≡ true → r.valid ≡ true → AtFirst ⊎ AtSecond
  valid_at agrees v = agreeing agrees inl inr (λ b. absurd (clash v (ap (λ (z : Register). z.valid) b)))

  pub flag_at : S.agrees c u r ≡ true → r.flag ≡ true → AtFirst ⊎ AtSecond
  flag_at agrees f = agreeing agrees inl inr (λ b. absurd (clash f (ap (λ (z : Register). z.flag) b)))

-- a core that stands does so at its first unit
pub at_first : (c : Core) (r : Register) → stands c.state ≡ true → S.agrees c c.first.0 r ≡ true → AtFirst c c.first.0 r
at_first c r s h =
    let both = first_of (stands c.state && eqb c.first.0 c.first.0) _ _ (and_both s (eq-eqb c.first.0 c.first.0 refl)) h in
    record {
      stands = s;
      unit = refl;
      flagless = and_left (S.flagless c.state r) _ both;
      shows = shows r c.own (holds_first c.state) (and_right (S.flagless c.state r) _ both);
    }
  where
    first_of : (a p e : Bool) → a ≡ true → cond a p e ≡ true → p ≡ true
    first_of true p e x y = y
    first_of false p e x y = absurd (clash x refl)

-- In line

pub in_line_lem : (r : Register) → in_line r ≡ true → (r.valid ≡ true) × (r.flag ≡ false)
in_line_lem r e = (and_left r.valid (not r.flag) e, not_true_false r.flag (and_right r.valid (not r.flag) e))

-- a core whose flag is clear at its first unit waits for it, or is marked away from it
unheld_first : (z : State) → stands z ≡ true → (holds_first z ≡ true → ⊥) → (z ≡ Waiting) ⊎ (z ≡ Marked)
unheld_first Idle s h = absurd (clash s refl)
unheld_first Waiting s h = inl refl
unheld_first Holding s h = absurd (h refl)
unheld_first WaitingSecond s h = absurd (h refl)
unheld_first HoldingBoth s h = absurd (h refl)
unheld_first Away s h = absurd (clash s refl)
unheld_first Marked s h = inr refl
unheld_first Dropped s h = absurd (clash s refl)

unheld_second : (z : State) → two_stage_lem z ≡ true → (holds_both z ≡ true → ⊥) → z ≡ WaitingSecond
unheld_second Idle s h = absurd (clash s refl)
unheld_second Waiting s h = absurd (clash s refl)
unheld_second Holding s h = absurd (clash s refl)
unheld_second WaitingSecond s h = refl
unheld_second HoldingBoth s h = absurd (h refl)
unheld_second Away s h = absurd (clash s refl)
unheld_second Marked s h = absurd (clash s refl)
unheld_second Dropped s h = absurd (clash s refl)

module _ (c : Core) (u : ℕ) (r : Register) (agrees : S.agrees c u r ≡ true) (line : in_line r ≡ true) where
  -- whoever is in line waits for its first unit or is marked away from it, or waits for its second
  pub in_line_at : (((c.state ≡ Waiting) ⊎ (c.state ≡ Marked)) × AtFirst c u r) ⊎ ((c.state ≡ WaitingSecond) × AtSecond c u r)
  in_line_at =
      let l = in_line_lem r line in
      ⊎_elim
      (λ a. inl (unheld_first c.state a.stands (λ h. clash (a.shows.flag h) l.1), a))
      (λ a. inr (unheld_second c.state a.two (λ h. clash (a.shows.flag h) l.1), a))
      (valid_at c u r agrees l.0)

  -- whoever is not away waits for the unit
  pub line_waits : is_away c.state ≡ false → (waits c.state ≡ true) × (awaited c ≡ u)
  line_waits here =
      ⊎_elim
      (λ a.
      ⊎_elim
      (λ e. (ap waits e, ap (λ (z : State). cond (two_stage_lem z) c.second.0 c.first.0) e ∙ sym a.1.unit))
      (λ e. absurd (clash (ap is_away e) here))
      a.0)
      (λ a. let e = a.0 in (ap waits e, simp e (sym a.1.unit)))
      in_line_at

  -- whoever is away is marked so, and stands at its first unit
  pub line_marked : is_away c.state ≡ true → (c.state ≡ Marked) × AtFirst c u r
  line_marked away =
      ⊎_elim
      (λ a. ⊎_elim (λ e. absurd (clash away (ap is_away e))) (λ e. (e, a.1)) a.0)
      (λ a. absurd (clash away (ap is_away a.0)))
      in_line_at
