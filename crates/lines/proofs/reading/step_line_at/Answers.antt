-- A short line reads as any line does, and any other goes to `any_line`.
use Prim.Native.Nat.{ℕ, ◌+◌}
use mathlib.Core.List.{List}
use mathlib.Core.Path.{◌≡◌, sym, ◌∙◌, ap}
use Rattle.ticket.specs.declared.kinds.CoreNo.{CoreNo}
use Rattle.ticket.specs.declared.kinds.UnitNo.{UnitNo}
use Rattle.lines.specs.Reading.{one_number, two_numbers_lem, step_line_lem, read_step, step_line_number, step_number}
use Rattle.lines.specs.ShortLine.{short_line}
use Rattle.lines.specs.Parsed.{Parsed}
use Rattle.lines.specs.Short.{Short}
use Rattle.std.specs.Prelude.{Option, None, Some}
use Rattle.lines.specs.StepLine.{StepLine}
use Rattle.lines.proofs.Shortly.{short_one_lem, short_two_lem}
use Rattle.lines.proofs.Numbers.{step_number_lem}
use Rattle.lines.proofs.reading.step_line_at.Goals as goal

module _ (s : List ℕ) (at : ℕ) where
  -- the answer, and with it its number
  numbered : (r : StepLine) → r ≡ read_step s at → (r ≡ read_step s at) × (step_line_number r ≡ step_number s at)
  numbered r is = (is, ap step_line_number is ∙ step_number_lem s at)

  module _ (w : Short) (says : w ≡ short_line s at) (p : Parsed) (r : StepLine) (l : ℕ) (k : CoreNo) (more : Option UnitNo) (is : w ≡ Some (l, k, more)) where
    one : more ≡ None → p ≡ one_number l k.0 → r ≡ step_line_lem p (at + 4) → r ≡ read_step s at
    one e of so = so ∙ ap (λ (q : Parsed). step_line_lem q (at + 4)) of ∙ sym (short_one_lem s at l k (sym says ∙ is ∙ rw e))

    two : (u : UnitNo) → more ≡ Some u → p ≡ two_numbers_lem l k.0 u.0 → r ≡ step_line_lem p (at + 6) → r ≡ read_step s at
    two u e of so = so ∙ ap (λ (q : Parsed). step_line_lem q (at + 6)) of ∙ sym (short_two_lem s at l k u (sym says ∙ is ∙ rw e))

pub returns-in-Some-default-default-None : goal.returns-in-Some-default-default-None
returns-in-Some-default-default-None c = numbered c.args.s.now c.args.at _ (search one)

pub returns-in-Some-default-default-Some : goal.returns-in-Some-default-default-Some
returns-in-Some-default-default-Some c = numbered c.args.s.now c.args.at _ (search two)
