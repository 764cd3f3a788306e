-- The case of the header's line that was read, and of the opening line that was written; the table that was built is sound.
use Rattle.std.specs.Prelude.{Err}
use mathlib.Core.Path.{refl, sym, ◌∙◌, ap}
use Rattle.block.specs.Sound.{sound}
use Rattle.stops.specs.declared.run.Run.{Run}
use Rattle.laws.proofs.Keeping.{built_sound}
use Rattle.translate.proofs.Turning.{unheaded, opened_by, out_of_range, no_room_opening}
use Rattle.translate.proofs.call.from_header.Goals as goal

pub step_lines-requires : goal.step_lines-requires
step_lines-requires c =
    let q = c.fresh_run-opened.ensures in
    (ap (λ (r : Run). r.headed) q, sym (ap (λ (r : Run). sound r.table) q ∙ (built_sound c.in-Ok.counts c.in-Ok.counter).0))

pub returns-in-Ok-write_opening : goal.returns-in-Ok-write_opening
returns-in-Ok-write_opening c =
    let a = c.args in
    let h = c.in-Ok in
    let w = c.in-Ok-write_opening in
    opened_by a.run a.script.now a.out.now c.requires _ h.ensures.0 h.counts h.counter h.next refl _ _
    (w.ensures.0, w.ensures.1) w.w c.fresh_run-opened.result _ _ refl c.fresh_run-opened.ensures c.step_lines.ensures

pub returns-in-Err-OutOfRange : goal.returns-in-Err-OutOfRange
returns-in-Err-OutOfRange c =
    let a = c.args in
    let h = c.in-Ok in
    let w = c.in-Err-OutOfRange in
    absurd (out_of_range a.run a.script.now a.out.now c.requires _ h.ensures.0 h.counts h.counter h.next refl _ _ (w.ensures.0, w.ensures.1) (ap Err w.field-0-is))

pub returns-in-Err-NoRoom : goal.returns-in-Err-NoRoom
returns-in-Err-NoRoom c =
    let a = c.args in
    let h = c.in-Ok in
    let w = c.in-Err-NoRoom in
    no_room_opening a.run a.script.now a.out.now c.requires _ h.ensures.0 h.counts h.counter h.next refl _ _ (w.ensures.0, w.ensures.1) (ap Err w.field-0-is)

-- 20 and 22
pub returns-in-Err : goal.returns-in-Err
returns-in-Err c = rw c.from.ensures (unheaded c.args.run c.args.script.now c.args.out.now c.requires _ c.in-Err.ensures.0 c.in-Err.bad refl)
