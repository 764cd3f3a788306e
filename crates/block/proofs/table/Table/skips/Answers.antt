-- The places lie in the arrays, and the step gives way by what stands there.
use mathlib.Core.Path.{◌∙◌, ap}
use Rattle.ticket.specs.declared.kinds.CoreNo.{CoreNo}
use Rattle.settling.specs.Settle.{passed_to_lem}
use Rattle.settling.specs.Best.{Best}
use Rattle.block.specs.Skipping.{gives_way}
use Rattle.block.specs.Table.{core_of, register_of}
use Rattle.block.proofs.GivingWay.{gives_way_lem}
use Rattle.block.proofs.table.Table.skips.Goals as goal

pub returns : goal.returns
returns c =
    let a = c.args in
    let t = a.self.now in
    let k = c.core_place-k in
    let i = c.unit_place-i in
    c.gives_way.ensures ∙
    ap (λ (x : CoreNo). gives_way a.s t.counts (core_of t k.result.0) (register_of t i.result.0 k.result.0) (core_of t x.0))
    (c.passed_to-w.ensures ∙ ap (λ (z : Best). passed_to_lem z k.result) c.stored.ensures) ∙
    rw (i.ensures, k.ensures) (gives_way_lem t a.s c.requires.1 c.requires.0)
