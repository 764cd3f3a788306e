-- The case of the header's line that was read; the table that was built is sound, and its counter has sixteen bits.
use mathlib.Core.Path.{refl, sym, ◌∙◌, ap, subst}
use native.Mathlib.Omega.{arith}
use Rattle.block.specs.Sound.{sound}
use Rattle.laws.proofs.Keeping.{built_sound}
use Rattle.writing.proofs.AsWritten.{header_read_is_written}
use Rattle.stops.specs.declared.run.Run.{Run}
use Rattle.stops.specs.declared.run.Stop.{Stop}
use Rattle.logs.specs.declared.call.LogStop.TheVariants.{Plain}
use Rattle.room.specs.Claims.{Held}
use Rattle.room.proofs.Lines.{held_built}
use Rattle.logs.proofs.Going.{unheaded, opened_by}
use Rattle.logs.proofs.call.from_header.Goals as goal

pub log_lines-requires : goal.log_lines-requires
log_lines-requires c =
    let q = c.fresh_run-opened.ensures in
    let h = c.in-Ok in
    let most = (header_read_is_written c.args.log.now c.args.run.place h.counts h.counter h.next (sym h.ensures.0)).2 in (
      ap (λ (r : Run). r.headed) q,
      ap (λ (r : Run). sound r.table) q ∙ (built_sound h.counts h.counter).0,
      subst (λ (r : Run). Held r.table) (sym q) (held_built h.counts h.counter (omega (arith, most))),
    )

pub returns-in-Ok : goal.returns-in-Ok
returns-in-Ok c =
    let h = c.in-Ok in
    opened_by c.args.run c.args.log.now c.requires _ h.ensures.0 h.counts h.counter h.next refl c.fresh_run-opened.result _
    c.fresh_run-opened.ensures c.log_lines.ensures

-- 20 and 22
pub returns-in-Err : goal.returns-in-Err
returns-in-Err c =
    ap (λ (w : Stop). record { run = c.args.run; why = Plain w }) c.from.ensures ∙
    unheaded c.args.run c.args.log.now c.requires _ c.in-Err.ensures.0 c.in-Err.bad refl
