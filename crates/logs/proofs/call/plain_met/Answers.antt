-- Where the numbers stand, by what is due.
use mathlib.Core.Path.{sym, ◌∙◌}
use Rattle.logs.proofs.Turning.{ranged}
use Rattle.logs.proofs.call.plain_met.Goals as goal

pub line_met-requires : goal.line_met-requires
line_met-requires c =
    let w = c.in_ok-rest in
    ranged c.args.log.now c.args.place w.field-0-0 w.rest (sym c.plain_due.ensures ∙ w.was)
