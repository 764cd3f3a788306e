-- As many bytes as are left, and those, stand at the front.
use Rattle.pieces.proofs.Moving.{moved}
use Rattle.pieces.proofs.keep.Goals as goal

pub returns : goal.returns
returns c =
    let a = c.args in
    moved a.piece.now a.place a.have _ _ c.min-end.ensures c.min-start.ensures _ c.copy_within.ensures.after
