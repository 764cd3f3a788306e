-- `Table::step` meets its contract: 16 where the table is not sound, and else the step on a sound table.
use mathlib.Core.Path.{sym, ◌∙◌, ap}
use mathlib.Core.Bool.{Bool, cond}
use Rattle.block.specs.Steps.{on_sound, step, refusal}
use Rattle.parts.specs.declared.answer.Answer.TheVariants.{Unsound}
use Rattle.block.proofs.table.Table.step.Goals as goal

pub step_sound-requires : goal.step_sound-requires
step_sound-requires c =
    sym c.sound.ensures ∙ c.if-sound.true

pub returns-then-sound : goal.returns-then-sound
unfolding step
returns-then-sound c =
    let a = c.args in
    c.step_sound.ensures ∙ ap (λ (b : Bool). cond b (on_sound a.self a.s) (refusal a.self Unsound)) (sym c.if-sound.true ∙ c.sound.ensures)

pub returns-else-sound : goal.returns-else-sound
unfolding step
returns-else-sound c =
    let a = c.args in
    c.refused.ensures ∙ ap (λ (b : Bool). cond b (on_sound a.self a.s) (refusal a.self Unsound)) (sym c.if-sound.false ∙ c.sound.ensures)
