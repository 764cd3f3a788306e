-- Whether the table is sound; a table that a program holds is `Held`.
use mathlib.Core.Path.{sym, ◌∙◌}
use Rattle.room.proofs.Holding.{holding}
use Rattle.logs.proofs.call.check.Goals as goal

pub log_lines-requires : goal.log_lines-requires
log_lines-requires c = (c.if-run.true, sym c.sound.ensures ∙ c.if-sound.true, holding c.args.run.table _ c.well_formed.0.1.1.1.1.0)
