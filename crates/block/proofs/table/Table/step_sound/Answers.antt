use mathlib.Core.Path.{◌∙◌, ap}
use Rattle.block.proofs.Held.{held}
use Rattle.block.proofs.Planning.{shown_by, planned_shows, planned_again, lands_so}
use Rattle.block.proofs.table.Table.step_sound.Goals as goal

pub planned-q-requires : goal.planned-q-requires
planned-q-requires c = (c.requires, held c.args.self _ c.well_formed.0)

pub put_back-requires : goal.put_back-requires
put_back-requires c = (c.requires, held c.args.self _ c.well_formed.0, planned_again c.args.self c.args.s c.planned-q.result c.planned-q.ensures)

pub returns : goal.returns
returns c =
    ap (shown_by c.planned-q.result) (lands_so c.args.self c.args.s c.planned-q.result c.planned-q.ensures _ c.put_back.ensures) ∙
    planned_shows c.args.self c.args.s (held c.args.self _ c.well_formed.0) c.requires c.planned-q.result c.planned-q.ensures
