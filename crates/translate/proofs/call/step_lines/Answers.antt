use mathlib.Core.Bool.{Bool, true}
use mathlib.Core.List.{List}
use mathlib.Core.Path.{◌≡◌, refl, sym, ◌∙◌, ap, subst}
use Prim.Native.Nat.{ℕ, ◌+◌}
use Rattle.block.specs.Sound.{sound}
use Rattle.block.specs.Steps.{on_sound}
use Rattle.block.specs.Table.{Shaped}
use Rattle.block.specs.declared.stepped.Stepped.{Stepped}
use Rattle.block.proofs.Held.{held}
use Rattle.block.proofs.Planning.{shown_by, planned_shows, planned_again, lands_so}
use Rattle.expected.specs.Expected.{expected_bytes}
use Rattle.digits.specs.Written.{NoRoom}
use Rattle.digits.proofs.Pasting.{kept, refused}
use Rattle.calls.specs.Call.{call}
use Rattle.calls.specs.Placed.{run_at, stopped_at}
use Rattle.stops.specs.declared.run.Run.{Run}
use Rattle.stops.specs.declared.run.Stop.{Stop}
use Rattle.stops.specs.declared.run.Stop.TheVariants.{NoRoom as Full}
use Rattle.stops.specs.declared.run.Stopped.{Stopped}
use Rattle.translate.proofs.Turning.{Working, working, stops, answers_on, no_room, begins, stays_sound, stays_shaped}
use Rattle.translate.proofs.call.step_lines.Goals as goal
use Rattle.translate.proofs.call.step_lines.Goals.{At-loop-why, After-planned-q as Planned}

-- a run whose header is read, stopped where it stands
stands : (r : Run) (why : Stop) → r.headed ≡ true → ◌≡◌ {A = Stopped} (record { run = r; why = why }) (stopped_at r.place r.wrote r.table r.steps why)
stands r why e = ap (λ (b : Bool). record { run = record { place = r.place; wrote = r.wrote; table = r.table; steps = r.steps; headed = b }; why = why }) e

-- what still is to be answered is what was at the start
so_far :
    (c : At-loop-why) →
    let l = c.loop-why in
    call c.args.run c.args.script.now c.args.out.now ≡ call (run_at l.at.place l.at.wrote l.at.table l.at.steps) c.args.script.now l.out
so_far c = let l = c.loop-why in l.invariant.0 ∙ begins l.at c.args.script.now l.out l.invariant.1

-- of a planned step: the line was read, in time; the table is fit; and what the plan shows is what the step shows
line : (p : Planned) → Working p.args.script.now p.loop-why.at.place p.loop-why.at.steps p.args.fit p.in-Ok.s p.in-Ok.next
line p = working p.args.script.now p.loop-why.at.place p.loop-why.at.steps p.args.fit p.in-Ok.s p.in-Ok.next _ p.in-Ok.ensures refl

fit : (p : Planned) → sound p.loop-why.at.table ≡ true
fit p = sym p.loop-why.invariant.2 ∙ (line p).sound

abbrev stepped : Planned → Stepped
stepped p = shown_by p.planned-q.result (on_sound p.loop-why.at.table p.in-Ok.s).table

does : (p : Planned) → stepped p ≡ on_sound p.loop-why.at.table p.in-Ok.s
does p = planned_shows p.loop-why.at.table p.in-Ok.s p.loop-why.invariant.3 (fit p) p.planned-q.result p.planned-q.ensures

abbrev bytes : Planned → List ℕ
bytes p = let x = p.planned-q.result.plan in expected_bytes (p.loop-why.at.steps + 1) x.answer x.ticket x.grants

-- The answers

pub loop-why-init : goal.loop-why-init
loop-why-init c = (refl, c.requires.0, c.requires.1, held c.args.run.table _ c.well_formed.0.1.1.1.1.0, refl)

pub returns-in-Err : goal.returns-in-Err
returns-in-Err c =
    let a = c.args in
    let l = c.loop-why in
    stops a.script.now l.at.place l.at.wrote l.at.steps l.at.table a.fit l.out _ l.invariant.2 (so_far (goal.at.returns-in-Err c).At-loop-why) _ c.in-Err.ensures
    c.in-Err.why _ refl (stands l.at c.in-Err.why l.invariant.1)

-- 23
pub returns-then-not-line_fits : goal.returns-then-not-line_fits
returns-then-not-line_fits c =
    let g = goal.at.returns-then-not-line_fits c in
    let p = g.After-planned-q in
    let a = c.args in
    let l = c.loop-why in
    let none = refused l.out l.at.wrote (bytes p) c.line_fits.result c.line_fits.ensures c.if-not-line_fits.true in
    no_room a.script.now l.at.place l.at.wrote l.at.steps l.at.table a.fit l.out _ l.invariant.2 (so_far g.At-loop-why) _ c.in-Ok.ensures
    c.in-Ok.s c.in-Ok.next refl (stepped p) (does p) NoRoom l.out none _ refl (stands l.at Full l.invariant.1)

pub put_back-requires : goal.put_back-requires
put_back-requires c =
    let p = (goal.at.put_back-requires c).After-planned-q in
    (fit p, c.loop-why.invariant.3, planned_again c.loop-why.at.table c.in-Ok.s c.planned-q.result c.planned-q.ensures)

pub loop-why-preserved : goal.loop-why-preserved
loop-why-preserved c =
    let g = goal.at.loop-why-preserved c in
    let p = g.After-planned-q in
    let a = c.args in
    let l = c.loop-why in
    let so = lands_so l.at.table c.in-Ok.s c.planned-q.result c.planned-q.ensures _ c.put_back.ensures in (
      answers_on a.script.now l.at.place l.at.wrote l.at.steps l.at.table a.fit l.out _ _ l.invariant.2 (so_far g.At-loop-why) _ c.in-Ok.ensures
          c.in-Ok.s c.in-Ok.next refl (stepped p) (does p) c.put_line.result c.put_line.ensures _ so ∙
          sym (begins _ a.script.now _ l.invariant.1),
      l.invariant.1,
      (line p).sound ∙ sym (ap sound so ∙ stays_sound l.at.table c.in-Ok.s (stepped p) (does p) l.invariant.3 (fit p)),
      subst Shaped (sym so) (stays_shaped l.at.table c.in-Ok.s (stepped p) (does p) l.invariant.3 (fit p)),
      kept c.put_line.ensures ∙ l.invariant.4,
    )
