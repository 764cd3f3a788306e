-- One line of the log at its place, as the code goes about it, is what the walk's turn is asked: the line's end is moved on by the place, its bytes
-- are those that are left up to its end, and what its parts come to is what the line does. So a call is its next line, and the call from there.
use Prim.Native.Nat.{ℕ, ◌+◌, ◌-◌, ◌≤◌, ◌<◌}
use mathlib.Core.Bool.{Bool, true, false, cond}
use mathlib.Core.List.{List, []}
use mathlib.Core.Logic.{◌⊎◌, inl, inr}
use mathlib.Core.Path.{◌≡◌, refl, sym, ◌∙◌, ap}
use native.Mathlib.Nat.{add-zero}
use native.Mathlib.Omega.{arith}
use lib.Dec.{leb}
use lib.ListN.{length, take, drop, length-drop}
use borrow.Author.Tests.{lt-leb}
use Rattle.parts.specs.declared.answer.Step.{Step}
use Rattle.block.specs.Sound.{sound}
use Rattle.block.specs.Steps.{step}
use Rattle.block.specs.declared.table.Table.{Table}
use Rattle.lines.specs.Reading.{ending}
use Rattle.lines.specs.Ending.{Ending}
use Rattle.lines.specs.Ending.{At, Long, Short}
use Rattle.lines.proofs.Turns.{found}
use Rattle.stops.specs.Run.{steps_most}
use Rattle.stops.specs.declared.run.Run.{Run}
use Rattle.stops.specs.declared.run.Stop.{Stop}
use Rattle.stops.specs.declared.run.Stop.TheVariants.{Finished, Malformed, Unfinished, TooMany}
use Rattle.walks.specs.Walk.{Reply, Desk, halted}
use Rattle.walks.specs.Pieces.{lent}
use Rattle.walks.proofs.Along.{within, on, stop}
use Rattle.calls.specs.Call.{Known, working}
use Rattle.calls.specs.Placed.{run_at}
use Rattle.calls.proofs.Script.{ending_on, ending_on_lem}
use Rattle.calls.proofs.Placed.{past_placed}
use Rattle.loglines.specs.Log.{log_most, parse_log}
use Rattle.loglines.specs.Parts.{part_in, judged_in}
use Rattle.logs.specs.Due.{line_in, part_due, end_due, plain_due, full_due, fully, met_by, due_met, plain_met, unfit_part, unfit_stop, stopped_at}
use Rattle.logs.specs.Checking.{given, line_judged, end_judged, checking, check_call, checked}
use Rattle.logs.specs.declared.call.LogStop.{LogStop}
use Rattle.logs.specs.declared.call.LogStop.TheVariants.{Plain}
use Rattle.logs.specs.declared.call.Checked.{Checked}
use Rattle.logs.specs.declared.call.Rest.{Rest}
use Rattle.std.specs.Prelude.{Option}
use Rattle.logs.specs.Due.{Halt, PlainDue, Reading, Unread, Met, Agrees, Stops}
use Rattle.loglines.specs.Parts.{Part}
use Rattle.loglines.specs.Parts.{Begins, Not}
use Rattle.loglines.specs.Parts.{Judged}
use Rattle.loglines.specs.Parts.{Malformed as NoNumber, Disagrees as IsOff, Agrees as AllGiven}
use Rattle.logs.proofs.Judging.{judged_as, line_not, line_fit, line_unfit}
use Rattle.loglines.proofs.Rest.{part_few}
use Rattle.logs.proofs.Steady.{checking_steady}

-- two answers of which one is a step
impossible : {A : Type 0} (d : PlainDue) (x : Step) (r : Rest) (why : Stop) → d ≡ Reading x r → d ≡ Unread why → A
impossible d x r why e f = let z : ◌≡◌ {A = ℕ} 0 1 = cc in absurd (omega arith)

pub same_reading : (x y : Step) (r q : Rest) → Reading y q ≡ Reading x r → (y ≡ x) × (q ≡ r)
same_reading x y r q e =
    (ap (λ (d : PlainDue). elim d [ Reading z p ↦ z | Unread why ↦ y ]) e, ap (λ (d : PlainDue). elim d [ Reading z p ↦ p | Unread why ↦ q ]) e)

same_unread : (v why : Stop) → Unread v ≡ Unread why → v ≡ why
same_unread v why e = cc

-- The line's end, and its bytes

module _ (s : List ℕ) (place : ℕ) where
  abbrev left : List ℕ
  left = drop place s

  ends_on : ending log_most place left ≡ ending_on place (ending log_most 0 left)
  ends_on = sym (ap (λ (k : ℕ). ending log_most k left) (add-zero place)) ∙ ending_on_lem place log_most 0 left

  -- a line that ends does so within the log
  pub ends_within : (e : ℕ) → ending log_most place left ≡ At e → (place ≤ e) × (e < length s)
  ends_within e is = let w = found log_most place e left is in let l = length-drop place s in (w.0, omega (arith, w.0, w.1))

  -- as `log_end` found it
  pub found_within : (w : Ending) → w ≡ ending log_most place left → (e : ℕ) → w ≡ At e → (place ≤ e) × (e < length s)
  found_within w says e is = ends_within e (sym says ∙ is)

  line_in_lem : (e : ℕ) → line_in s place (place + e) ≡ take e left
  line_in_lem e = let z : place + e - place ≡ e = omega arith in ap (λ (n : ℕ). take n left) z

  -- the line's end from the front of what is left, and what is due by it
  due_on : (w : Ending) → ending log_most 0 left ≡ w → plain_due s place ≡ end_due s place (ending_on place w)
  due_on w e = ap (end_due s place) (ends_on ∙ ap (ending_on place) e)

  -- What is due, read in full: where the line ends, and its step part
  pub record InFull (x : Step) (r : Rest) : Type 0 where
    pub e : ℕ
    pub ends : ending log_most 0 left ≡ At e
    pub end : r.end ≡ place + e
    pub part : part_in (take e left) ≡ Begins x r.numbers r.from

  pub full : (x : Step) (r : Rest) → plain_due s place ≡ Reading x r → InFull x r
  full x r is = go (ending log_most 0 left) refl
    where
      parted : (e : ℕ) → ending log_most 0 left ≡ At e → (p : Part) → part_in (take e left) ≡ p → part_due p (place + e) ≡ Reading x r → InFull x r
      parted e ends (Begins y n from) f w =
          let z = same_reading x y r _ w in
          record {
            e = e;
            ends = ends;
            end = sym (ap (λ (c : Rest). c.end) z.1);
            part = f ∙ ap (λ (v : Step). Begins v n from) z.0 ∙ ap (λ (c : Rest). Begins x c.numbers c.from) z.1;
          }
      parted e ends Not f w = impossible (Unread Malformed) x r Malformed w refl

      go : (w : Ending) → ending log_most 0 left ≡ w → InFull x r
      go (At e) f =
          parted e f (part_in (take e left)) refl
          (sym (ap (λ (l : List ℕ). part_due (part_in l) (place + e)) (line_in_lem e)) ∙ sym (due_on (At e) f) ∙ is)
      go Long f = impossible _ x r Malformed is (due_on Long f)
      go Short f = impossible _ x r Unfinished is (due_on Short f)

  -- so a line that is read in full has a step part of one number or two, and ends within the log
  pub ranged : (x : Step) (r : Rest) → plain_due s place ≡ Reading x r → (r.numbers ≤ 2) × (place ≤ r.end) × (r.end < length s)
  ranged x r is =
      let w = full x r is in
      let h = ends_within (place + w.e) (ends_on ∙ ap (ending_on place) w.ends) in
      (part_few (take w.e left) _ x r.numbers r.from refl w.part, omega (arith, w.end, h.0), omega (arith, w.end, h.1))

  -- a line with its step part: what it comes to
  pub due_at :
      (gs : List ℕ) (x : Step) (n : ℕ) (from : Option ℕ) (e : ℕ) →
      ending log_most 0 left ≡ At e →
      part_in (take e left) ≡ Begins x n from →
      plain_met s place gs ≡ met_by (judged_in (take e left) n from gs) (place + e)
  due_at gs x n from e ends part =
      let l = line_in_lem e in
      ap (due_met s place gs)
      (due_on (At e) ends ∙ ap (λ (t : List ℕ). part_due (part_in t) (place + e)) l ∙ ap (λ (p : Part). part_due p (place + e)) part) ∙
      ap (λ (t : List ℕ). met_by (judged_in t n from gs) (place + e)) l

  -- The turn

  module _ (q : Known) where
    abbrev judged : Reply Known ⊎ LogStop
    judged = end_judged q left (ending log_most 0 left)

    -- 22, and 21 where there is no end or no step part
    pub plain_halts : (why : Stop) → plain_due s place ≡ Unread why → judged ≡ inr (Plain why)
    plain_halts why is = go (ending log_most 0 left) refl
      where
        same : (v : Stop) → Unread v ≡ Unread why → ◌≡◌ {A = Reply Known ⊎ LogStop} (inr (Plain v)) (inr (Plain why))
        same v e = ap (λ (z : Stop). inr (Plain z)) (same_unread v why e)

        parted : (e : ℕ) (p : Part) → part_in (take e left) ≡ p → part_due p (place + e) ≡ Unread why → line_judged q (e + 1) (parse_log (take e left)) ≡ inr (Plain why)
        parted e (Begins y n from) f w = impossible _ y _ why refl w
        parted e Not f w = line_not q (e + 1) (take e left) f ∙ same Malformed w

        go : (w : Ending) → ending log_most 0 left ≡ w → judged ≡ inr (Plain why)
        go (At e) f =
            ap (end_judged q left) f ∙
            parted e (part_in (take e left)) refl
            (sym (ap (λ (l : List ℕ). part_due (part_in l) (place + e)) (line_in_lem e)) ∙ sym (due_on (At e) f) ∙ is)
        go Long f = ap (end_judged q left) f ∙ same Malformed (sym (due_on Long f) ∙ is)
        go Short f = ap (end_judged q left) f ∙ same Unfinished (sym (due_on Short f) ∙ is)

    -- on a table that is not sound: 22, 21, or 16
    abbrev unfit_end : Ending → Stop
    unfit_end w = elim w [ At e ↦ unfit_part (line_in s place e) (part_in (line_in s place e)) | Long ↦ Malformed | Short ↦ Unfinished ]

    pub unfit_judged : sound q.table ≡ false → judged ≡ inr (Plain (unfit_end (ending log_most place left)))
    unfit_judged not = go (ending log_most 0 left) refl ∙ ap (λ (w : Ending). inr (Plain (unfit_end w))) (sym ends_on)
      where
        parted : (e : ℕ) (p : Part) → part_in (take e left) ≡ p → line_judged q (e + 1) (parse_log (take e left)) ≡ inr (Plain (unfit_part (take e left) p))
        parted e (Begins x n from) part = line_unfit q (e + 1) (take e left) x n from part not
        parted e Not part = line_not q (e + 1) (take e left) part

        go : (w : Ending) → ending log_most 0 left ≡ w → judged ≡ inr (Plain (unfit_end (ending_on place (ending log_most 0 left))))
        go (At e) f =
            ap (end_judged q left) f ∙
            parted e (part_in (take e left)) refl ∙
            ap (λ (l : List ℕ). inr (Plain (unfit_part l (part_in l)))) (sym (line_in_lem e)) ∙
            ap (λ (w : Ending). inr (Plain (unfit_end (ending_on place w)))) (sym f)
        go Long f = ap (end_judged q left) f ∙ ap (λ (w : Ending). inr (Plain (unfit_end (ending_on place w)))) (sym f)
        go Short f = ap (end_judged q left) f ∙ ap (λ (w : Ending). inr (Plain (unfit_end (ending_on place w)))) (sym f)

    -- what is met, as a reply
    abbrev pub met_reply : Step → Met → Reply Known ⊎ LogStop
    met_reply x (Agrees next) =
        inl (record { used = next - place; said = []; also = []; then = working (step q.table x).table (q.steps + 1) })
    met_reply x (Stops why) = inr why

    by_judged : (x : Step) (e : ℕ) (j : Judged) → judged_as q x (e + 1) j ≡ met_reply x (met_by j (place + e))
    by_judged x e NoNumber = refl
    by_judged x e (IsOff o) = refl
    by_judged x e AllGiven =
        let z : e + 1 ≡ place + e + 1 - place = omega arith in
        ap (λ (n : ℕ). inl (record { used = n; said = []; also = []; then = working (step q.table x).table (q.steps + 1) })) z

    module _ (x : Step) (ok : sound q.table ≡ true) where
      abbrev gs : List ℕ
      gs = given (step q.table x)

      plain_works : (b : Rest) → plain_due s place ≡ Reading x b → judged ≡ met_reply x (plain_met s place gs)
      plain_works b is =
          let w = full x b is in
          ap (end_judged q left) w.ends ∙
          line_fit q (w.e + 1) (take w.e left) x b.numbers b.from w.part ok ∙
          by_judged x w.e (judged_in (take w.e left) b.numbers b.from gs) ∙
          sym (ap (met_reply x) (due_at gs x b.numbers b.from w.e w.ends w.part))

      -- where the step is the one that would be read in full
      pub meets : ((y : Step) (b : Rest) → plain_due s place ≡ Reading y b → y ≡ x) → judged ≡ met_reply x (plain_met s place gs)
      meets same = go (plain_due s place) refl
        where
          go : (d : PlainDue) → plain_due s place ≡ d → judged ≡ met_reply x (plain_met s place gs)
          go (Reading y b) e = plain_works b (e ∙ ap (λ (z : Step). Reading z b) (same y b e))
          go (Unread why) e = plain_halts why e ∙ ap (λ (d : PlainDue). met_reply x (due_met s place gs d)) (sym e)

-- A call by its next line

module _ (s : List ℕ) (place wrote : ℕ) (t : Table) (steps : ℕ) where
  abbrev known : Known
  known = working t steps

  abbrev desk : Desk Known
  desk = record { state = known; place = place; first = lent []; second = lent [] }

  abbrev pub asks : Reply Known ⊎ LogStop
  asks = checking.ask known (drop place s)

  -- by its tests
  abbrev ask_by : Bool → Bool → Reply Known ⊎ LogStop
  ask_by past many = cond past (inr (Plain Finished)) (cond many (inr (Plain TooMany)) (judged s place known))

  pub by_tests : (p m : Bool) → leb (length s) place ≡ p → leb steps_most steps ≡ m → asks ≡ ask_by p m
  by_tests p m e f = ap (λ (b : Bool). ask_by b (leb steps_most steps)) (sym (past_placed s place) ∙ e) ∙ ap (ask_by p) f

  -- finished, 24, 22, and 21 where there is no end or no step part
  pub due_halts : (why : Stop) → full_due s place steps ≡ Halt why → asks ≡ inr (Plain why)
  due_halts why is = go (leb (length s) place) (leb steps_most steps) refl refl is
    where
      same : (v : Stop) → Halt v ≡ Halt why → ◌≡◌ {A = Reply Known ⊎ LogStop} (inr (Plain v)) (inr (Plain why))
      same v e = ap (λ (z : Stop). inr (Plain z)) (let w : v ≡ why = cc in w)

      unread : (d : PlainDue) → fully d ≡ Halt why → d ≡ Unread why
      unread (Reading x r) h = let z : ◌≡◌ {A = ℕ} 0 1 = cc in absurd (omega arith)
      unread (Unread v) h = cc

      go :
          (p m : Bool) →
          leb (length s) place ≡ p →
          leb steps_most steps ≡ m →
          cond p (Halt Finished) (cond m (Halt TooMany) (fully (plain_due s place))) ≡ Halt why →
          asks ≡ inr (Plain why)
      go true m e f h = by_tests true m e f ∙ same Finished h
      go false true e f h = by_tests false true e f ∙ same TooMany h
      go false false e f h = by_tests false false e f ∙ plain_halts s place known why (unread (plain_due s place) h)

  -- on a table that is not sound
  pub unfit_asks : sound t ≡ false → asks ≡ inr (Plain (unfit_stop s place steps))
  unfit_asks not = go (leb (length s) place) (leb steps_most steps) refl refl
    where
      go :
          (p m : Bool) →
          leb (length s) place ≡ p →
          leb steps_most steps ≡ m →
          asks ≡ inr (Plain (cond p Finished (cond m TooMany (unfit_end s place known (ending log_most place (drop place s))))))
      go true m e f = by_tests true m e f
      go false true e f = by_tests false true e f
      go false false e f = by_tests false false e f ∙ unfit_judged s place known not

  -- a line whose step was read, on a sound table
  pub line_asks :
      place < length s →
      steps < steps_most →
      (x : Step) →
      sound t ≡ true →
      ((y : Step) (b : Rest) → plain_due s place ≡ Reading y b → y ≡ x) →
      asks ≡ met_reply s place known x (plain_met s place (given (step t x)))
  line_asks more early x ok same = by_tests false false (lt-leb (length s) place more) (lt-leb steps_most steps early) ∙ meets s place known x ok same

  stops_here : (why : LogStop) → asks ≡ inr why → check_call (run_at place wrote t steps) s ≡ halted desk why
  stops_here why e = stop checking checking_steady desk s why (inl e)

  -- what is handed back where the next line stops the call, of which r was the run at its start
  pub ends :
      (r : Run) (y : Checked) (why : LogStop) →
      wrote ≡ r.wrote →
      check_call r s ≡ check_call (run_at place wrote t steps) s →
      asks ≡ inr why →
      y ≡ stopped_at place wrote t steps why →
      y ≡ checked r (check_call r s)
  ends r y why same so e is =
      is ∙ ap (λ (n : ℕ). stopped_at place n t steps why) same ∙ sym (ap (checked r) (so ∙ stops_here why e))

  -- and where it agrees
  module _ (x : Step) (next : ℕ) (e : asks ≡ met_reply s place known x (Agrees next)) where
    abbrev reply : Reply Known
    reply = record { used = next - place; said = []; also = []; then = working (step t x).table (steps + 1) }

    pub moved : (place < next) × (next ≤ length s)
    moved = let m = within checking checking_steady desk s reply e in (omega (arith, m.0), omega (arith, m.0, m.1))

    pub agrees : check_call (run_at place wrote t steps) s ≡ check_call (run_at next wrote (step t x).table (steps + 1)) s
    agrees =
        let z : place + (next - place) ≡ next = omega (arith, moved.0) in
        on checking checking_steady desk s reply (record { asks = e; fits = refl }) ∙
        ap (λ (n : ℕ). check_call (run_at n wrote (step t x).table (steps + 1)) s) z
