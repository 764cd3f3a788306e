use Rattle.block.proofs.InPlace.{counted}
use Rattle.block.proofs.Planning.{placed, dropped_few, put_so}
use Rattle.block.proofs.table.Table.put_back.Goals as goal

pub drop_front-requires : goal.drop_front-requires
drop_front-requires c =
    let a = c.args in
    ((placed a.self.now a.q.now.step c.requires.1 c.requires.0 a.q.now c.requires.2).1, counted a.self.now c.requires.0)

pub put_units-requires : goal.put_units-requires
put_units-requires c =
    let a = c.args in
    let p = placed a.self.now a.q.now.step c.requires.1 c.requires.0 a.q.now c.requires.2 in
    (dropped_few a.self.now a.q.now.step c.requires.1 c.requires.0 a.q.now c.requires.2 _ c.drop_front.ensures, p.0, p.1, p.2, p.3, p.4)

pub bounds-self-q : goal.bounds-self-q
bounds-self-q c = let a = c.args in (placed a.self.now a.q.now.step c.requires.1 c.requires.0 a.q.now c.requires.2).0

pub returns : goal.returns
returns c =
    let a = c.args in
    put_so a.self.now a.q.now.step c.requires.1 c.requires.0 a.q.now c.requires.2 _ c.drop_front.ensures _ c.put_units.ensures
