-- A line that agrees leaves what is still to be answered, and one that does not is what is answered.
use Prim.Native.Nat.{◌+◌}
use mathlib.Core.Bool.{true}
use mathlib.Core.Path.{◌≡◌, refl, sym, ◌∙◌, ap, subst}
use native.Mathlib.Omega.{arith}
use Rattle.block.specs.Sound.{sound}
use Rattle.block.specs.Steps.{on_sound, step}
use Rattle.block.specs.declared.stepped.Stepped.{Stepped}
use Rattle.block.specs.declared.table.Table.{Table}
use Rattle.block.proofs.Planning.{shown_by, planned_shows, planned_again, lands_so}
use Rattle.laws.proofs.Claims.{on_sound_lem, keeps_sound}
use Rattle.writing.specs.Claims.{Small}
use Rattle.calls.specs.Placed.{run_at}
use Rattle.room.specs.Claims.{Held}
use Rattle.room.proofs.Lines.{held_step}
use Rattle.logs.specs.Due.{Timely}
use Rattle.logs.specs.Checking.{check_call}
use Rattle.logs.specs.declared.call.LogStop.TheVariants.{Plain}
use Rattle.logs.proofs.Accepted.{given_small}
use Rattle.logs.proofs.Turning.{due_halts, ends}
use Rattle.logs.proofs.Going.{timely, halts, given_same, line_ends, line_moved, line_goes, begins, stands}
use Rattle.logs.proofs.call.log_lines.Goals as goal
use Rattle.logs.proofs.call.log_lines.Goals.{At-loop-why, After-planned-q as Planned}

-- what still is to be answered is what was at the start
so_far :
    (c : At-loop-why) →
    let l = c.loop-why in
    check_call c.args.run c.args.log.now ≡ check_call (run_at l.at.place l.at.wrote l.at.table l.at.steps) c.args.log.now
so_far c = let l = c.loop-why in l.invariant.0 ∙ begins l.at c.args.log.now l.invariant.1

-- of a planned step: the line was read, in time; the table is fit; and what the plan shows is what the step shows
line : (p : Planned) → Timely p.args.log.now p.loop-why.at.place p.loop-why.at.steps p.in-Ok.s p.in-Ok.behind
line p = timely p.args.log.now p.loop-why.at.place p.loop-why.at.steps _ p.in-Ok.s p.in-Ok.behind p.in-Ok.ensures refl

abbrev stepped : Planned → Stepped
stepped p = shown_by p.planned-q.result (on_sound p.loop-why.at.table p.in-Ok.s).table

does : (p : Planned) → stepped p ≡ on_sound p.loop-why.at.table p.in-Ok.s
does p =
    let l = p.loop-why in
    planned_shows l.at.table p.in-Ok.s l.invariant.4.shaped l.invariant.3 p.planned-q.result p.planned-q.ensures

steps_so : (p : Planned) → step p.loop-why.at.table p.in-Ok.s ≡ stepped p
steps_so p = on_sound_lem p.loop-why.at.table p.in-Ok.s p.loop-why.invariant.3 ∙ sym (does p)

-- The answers

pub loop-why-init : goal.loop-why-init
loop-why-init c = (refl, c.requires.0, refl, c.requires.1, c.requires.2)

pub planned-q-requires : goal.planned-q-requires
planned-q-requires c = (c.loop-why.invariant.3, c.loop-why.invariant.4.shaped)

pub returns-in-Err : goal.returns-in-Err
returns-in-Err c =
    let s = c.args.log.now in
    let l = c.loop-why in
    ends s l.at.place l.at.wrote l.at.table l.at.steps c.args.run _ _ l.invariant.2 (so_far (goal.at.returns-in-Err c).At-loop-why)
    (due_halts s l.at.place l.at.wrote l.at.table l.at.steps c.in-Err.why
    (halts s l.at.place l.at.steps _ c.in-Err.why c.in-Err.ensures refl))
    (stands l.at (Plain c.in-Err.why) l.invariant.1)

pub line_meets-requires : goal.line_meets-requires
line_meets-requires c =
    let p = (goal.at.line_meets-requires c).After-planned-q in
    let l = c.loop-why in
    let t = l.at.table in
    let s = c.in-Ok.s in
    let rules = given_same t s l.invariant.3 (stepped p) (does p) c.given_by.result c.given_by.ensures in
    ((s, (line p).reads), subst Small (sym rules) (given_small t s l.invariant.4 l.invariant.3))

-- 40, and 21
pub returns-in-Err-line_meets : goal.returns-in-Err-line_meets
returns-in-Err-line_meets c =
    let g = goal.at.returns-in-Err-line_meets c in
    let p = g.After-planned-q in
    let l = c.loop-why in
    let why = c.in-Err-line_meets.why in
    line_ends c.args.log.now l.at.place l.at.wrote l.at.table l.at.steps c.in-Ok.s c.in-Ok.behind (line p) l.invariant.3 (stepped p) (does p)
    c.given_by.result c.given_by.ensures _ c.in-Err-line_meets.ensures c.args.run _ why l.invariant.2 (so_far g.At-loop-why) refl
    (stands l.at why l.invariant.1)

pub put_back-requires : goal.put_back-requires
put_back-requires c =
    let l = c.loop-why in
    (l.invariant.3, l.invariant.4.shaped, planned_again l.at.table c.in-Ok.s c.planned-q.result c.planned-q.ensures)

pub loop-why-smaller : goal.loop-why-smaller
loop-why-smaller c =
    let p = (goal.at.loop-why-smaller c).After-planned-q in
    let l = c.loop-why in
    let m =
    line_moved c.args.log.now l.at.place l.at.wrote l.at.table l.at.steps c.in-Ok.s c.in-Ok.behind (line p) l.invariant.3 (stepped p) (does p)
    c.given_by.result c.given_by.ensures _ c.in-Ok-line_meets.ensures c.in-Ok-line_meets.next refl
    in
    omega (arith, m.0, m.1)

pub loop-why-preserved : goal.loop-why-preserved
loop-why-preserved c =
    let p = (goal.at.loop-why-preserved c).After-planned-q in
    let l = c.loop-why in
    let t = l.at.table in
    let s = c.in-Ok.s in
    let so = lands_so t s c.planned-q.result c.planned-q.ensures _ c.put_back.ensures in (
      l.invariant.0 ∙ begins l.at c.args.log.now l.invariant.1 ∙
          line_goes c.args.log.now l.at.place l.at.wrote t l.at.steps s c.in-Ok.behind (line p) l.invariant.3 (stepped p) (does p)
          c.given_by.result c.given_by.ensures _ c.in-Ok-line_meets.ensures c.in-Ok-line_meets.next refl ∙
          ap (λ (u : Table). check_call (run_at c.in-Ok-line_meets.next l.at.wrote u (l.at.steps + 1)) c.args.log.now) (sym so) ∙
          sym (begins (record { place = c.in-Ok-line_meets.next; wrote = l.at.wrote; table = c.put_back.new.self; steps = l.at.steps + 1; headed = l.at.headed }) c.args.log.now l.invariant.1),
      l.invariant.1,
      l.invariant.2,
      ap sound so ∙ subst (λ (y : Stepped). sound y.table ≡ true) (steps_so p) (keeps_sound t s l.invariant.4.shaped l.invariant.3).0,
      subst Held (sym so) (subst (λ (y : Stepped). Held y.table) (steps_so p) (held_step t s l.invariant.4 l.invariant.3)),
    )
