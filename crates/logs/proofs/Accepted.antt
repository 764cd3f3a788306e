-- The log that the rules give is accepted. Each of its lines is read back and shows what the step gives; the step leaves the table sound
-- and its tickets in sixteen bits, so that the next line can be written as well.
use Prim.Native.Nat.{ℕ, suc, ◌+◌, ◌≤◌, ◌<◌}
use mathlib.Core.Bool.{true}
use mathlib.Core.List.{List, [], ◌∷◌, ◌++◌}
use mathlib.Core.Logic.{inl}
use mathlib.Core.Path.{◌≡◌, refl, sym, ◌∙◌, ap, subst}
use native.Mathlib.Omega.{arith}
use lib.ListN.{length, drop, length-append, length-drop}
use lib.Seq.{drop-append_seam, drop-drop}
use borrow.Author.Tests.{lt-leb}
use Rattle.parts.specs.Answer.{number_of}
use Rattle.parts.specs.declared.answer.Answer.{Answer}
use Rattle.parts.specs.declared.answer.Answer.TheVariants.{Done, Granted, NotYet, NoCore, NoUnit, WrongState, WrongClass, Masked, Stretched, Unsound, OutOfRange}
use Rattle.parts.specs.declared.answer.Grants.{Grants}
use Rattle.parts.specs.declared.answer.Grants.TheVariants.{None, One, Two}
use Rattle.parts.specs.declared.answer.Step.{Step}
use Rattle.block.specs.Over.{over}
use Rattle.block.specs.Sound.{sound}
use Rattle.block.specs.Steps.{step}
use Rattle.block.specs.declared.table.Table.{Table}
use Rattle.building.specs.Build.{build}
use Rattle.laws.proofs.Keeping.{built_sound}
use Rattle.laws.proofs.Claims.{keeps_sound}
use Rattle.numbers.specs.Number.{number_most}
use Rattle.headers.specs.Header.{read_header}
use Rattle.headers.specs.HeaderLine.{Header}
use Rattle.expected.proofs.Lengths.{Placed}
use Rattle.writing.specs.Writing.{numbers_of, script_header}
use Rattle.writing.specs.Claims.{Small}
use Rattle.writing.proofs.ReadsBack.{read_header_written}
use Rattle.stops.specs.Run.{steps_most, beginning}
use Rattle.stops.specs.declared.run.Stop.TheVariants.{Finished}
use Rattle.walks.specs.Walk.{Reply, Desk, Ended, walked}
use Rattle.walks.specs.Pieces.{lent}
use Rattle.walks.proofs.Along.{within, on, stop}
use Rattle.calls.specs.Call.{Known, working, known}
use Rattle.room.specs.Claims.{Held}
use Rattle.room.proofs.Lines.{held_step, held_built, step_placed}
use Rattle.loglines.specs.Log.{grants_given}
use Rattle.logs.specs.Checking.{given, line_judged, checking, check_call}
use Rattle.logs.specs.Claims.{log_bytes, steps_log, table_after, log_of, AllSmall, Accepts, Accepted}
use Rattle.logs.specs.declared.call.LogStop.{LogStop}
use Rattle.logs.specs.declared.call.LogStop.TheVariants.{Plain}
use Rattle.logs.proofs.Steady.{checking_steady, opened, work_asked, header_asked_lem}
use Rattle.loglines.proofs.ReadsBack.{small_append, log_written}
use Rattle.loglines.proofs.Offs.{given_most, first_same}

-- What a step gives can be written

answer_small : (a : Answer) → number_of a ≤ number_most
answer_small Done = omega arith
answer_small Granted = omega arith
answer_small NotYet = omega arith
answer_small NoCore = omega arith
answer_small NoUnit = omega arith
answer_small WrongState = omega arith
answer_small WrongClass = omega arith
answer_small Masked = omega arith
answer_small Stretched = omega arith
answer_small Unsound = omega arith
answer_small OutOfRange = omega arith

grants_small : (g : Grants) → Placed g → Small (grants_given g)
grants_small None h = (omega arith, tt)
grants_small (One g) (a, b) = (omega arith, (omega arith, (omega arith, tt)))
grants_small (Two g h) (a, b, c, d) = (omega arith, (omega arith, (omega arith, (omega arith, (omega arith, tt)))))

pub given_small : (t : Table) (x : Step) → Held t → sound t ≡ true → Small (given (step t x))
given_small t x held ok =
    let w = step_placed t x held ok in
    (answer_small (step t x).answer, (omega (arith, w.0), grants_small (step t x).grants w.1))

-- One line

abbrev desk : Known → ℕ → Desk Known
desk q place = record { state = q; place = place; first = lent []; second = lent [] }

abbrev reply : Table → Step → ℕ → ℕ → Reply Known
reply t x steps used = record { used = used; said = []; also = []; then = working (step t x).table (steps + 1) }

module _ (t : Table) (x : Step) (steps : ℕ) (held : Held t) (ok : sound t ≡ true) where
  agrees : (used : ℕ) → line_judged (working t steps) used (inl (record { step = x; shown = given (step t x) })) ≡ inl (reply t x steps used)
  agrees used = rw (ok, first_same (given (step t x)))

  line_asks :
      Small (numbers_of x) →
      steps < steps_most →
      (after : List ℕ) →
      checking.ask (working t steps) (log_bytes x (step t x) ++ after) ≡ inl (reply t x steps (length (log_bytes x (step t x))))
  line_asks small few after =
      let y = step t x in
      let r = log_written x (given y) after (small_append (numbers_of x) (given y) small (given_small t x held ok)) (given_most y.answer y.ticket y.grants) in
      let l = length-append (log_bytes x y) after in
      let p : 0 < length (log_bytes x y ++ after) = omega (arith, r.long) in
      work_asked (working t steps) (log_bytes x y ++ after) (reply t x steps (length (log_bytes x y))) (record {
        headed = refl;
        left = lt-leb (length (log_bytes x y ++ after)) 0 p;
        few = lt-leb steps_most steps few;
        e = r.e;
        ends = r.ends;
        judged =
            ap (line_judged (working t steps) (r.e + 1)) r.parse ∙
            agrees (r.e + 1) ∙
            ap (λ (n : ℕ). inl (reply t x steps n)) (sym r.long);
        used = r.long;
      })

-- All lines

lines_accepted :
    (s : List ℕ) (xs : List Step) (t : Table) (steps place : ℕ) →
    Held t →
    sound t ≡ true →
    AllSmall xs →
    steps + length xs ≤ steps_most →
    place ≤ length s →
    drop place s ≡ steps_log t xs →
    Accepts s (table_after t xs) (steps + length xs) (walked checking (desk (working t steps) place) s)
unfolding over
lines_accepted s [] t steps place held ok small few h e =
    let l = length-drop place s in
    let none = ap (λ (bs : List ℕ). length bs) e in
    let z : place ≡ length s = omega arith in
    let stays : steps ≡ steps + 0 = omega arith in
    let asks = ap (checking.ask (working t steps)) e in
    let halts = stop checking checking_steady (desk (working t steps) place) s (Plain Finished) (inl asks) in
    subst (λ (w : Ended Known LogStop). Accepts s t (steps + 0) w) (sym halts)
    (record { why = refl; place = z; state = ap (working t) stays })
lines_accepted s (x ∷ xs) t steps place held ok (first, small) few h e =
    let y = step t x in
    let line = log_bytes x y in
    let rest = steps_log y.table xs in
    let a = reply t x steps (length line) in
    let d = desk (working t steps) place in
    let asks = ap (checking.ask (working t steps)) e ∙ line_asks t x steps held ok first (omega arith) rest in
    let next = on checking checking_steady d s a (record { asks = asks; fits = refl }) in
    let m = within checking checking_steady d s a asks in
    let left : drop (place + length line) s ≡ rest =
    sym (drop-drop (length line) place s) ∙ ap (drop (length line)) e ∙ drop-append_seam line rest
    in
    let later =
    lines_accepted s xs y.table (steps + 1) (place + length line) (held_step t x held ok)
    (keeps_sound t x held.shaped ok).0 small (omega arith) m.1 left
    in
    let z : steps + 1 + length xs ≡ steps + suc (length xs) = omega arith in
    subst (λ (n : ℕ). Accepts s (table_after y.table xs) n (walked checking d s)) z
    (subst (λ (w : Ended Known LogStop). Accepts s (table_after y.table xs) (steps + 1 + length xs) w) (sym next) later)

pub accepted : Accepted
accepted c n xs good most small few =
    let line = script_header c n in
    let t = (build c n).table in
    let log = log_of c n xs in
    let q = known beginning in
    let a = opened q c n (length line) in
    let z : 0 + length line ≡ length line = omega arith in
    let read : read_header log 0 ≡ Header c n (length line) =
    read_header_written c n good most [] (steps_log t xs) ∙ ap (Header c n) z
    in
    let asks = header_asked_lem q log a (record { headed = refl; c = c; n = n; read = read; is = refl }) in
    let next = on checking checking_steady (desk q 0) log a (record { asks = asks; fits = refl }) in
    let m = within checking checking_steady (desk q 0) log a asks in
    let left : drop (0 + length line) log ≡ steps_log t xs =
    ap (λ (k : ℕ). drop k log) z ∙ drop-append_seam line (steps_log t xs)
    in
    let later =
    lines_accepted log xs t 0 (0 + length line) (held_built c n (omega arith)) (built_sound c n).0 small (omega arith) m.1 left
    in
    let y : 0 + length xs ≡ length xs = omega arith in
    subst (λ (k : ℕ). Accepts log (table_after t xs) k (check_call beginning log)) y
    (subst (λ (w : Ended Known LogStop). Accepts log (table_after t xs) (0 + length xs) w) (sym next) later)
