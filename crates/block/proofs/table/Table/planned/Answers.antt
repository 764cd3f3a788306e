use Rattle.block.proofs.InPlace.{counted}
use Rattle.block.proofs.Planning.{planned_at}
use Rattle.block.proofs.table.Table.planned.Goals as goal

pub late-late-requires : goal.late-late-requires
late-late-requires c = (counted c.args.self.now c.requires.0, c.requires.0)

pub returns : goal.returns
returns c =
    planned_at c.args.self.now c.args.s c.requires.1 c.requires.0 _ _ _ _ _ _ _ _ c.core_place-core.ensures c.unit_place-first.ensures
    c.other_place-second.ensures c.front-front.ensures c.read-x.ensures c.read-y.ensures c.late-late.ensures c.plan_step.ensures
