use Rattle.block.proofs.InPlace.{counted}
use Rattle.block.proofs.table.Table.front.Goals as goal

pub front-requires : goal.front-requires
front-requires c = counted c.args.self.now c.requires.0
