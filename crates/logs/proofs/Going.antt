-- One turn of the loop over the log's lines: what is still to be answered stays the same over a line that agrees, and is what is handed back at one
-- that stops the run. On a table that is not sound the next line stops it. A header's line is followed by the lines behind it.
use Prim.Native.Nat.{ℕ, ◌+◌, ◌≤◌, ◌<◌}
use mathlib.Core.Bool.{Bool, true, false}
use mathlib.Core.List.{List, []}
use mathlib.Core.Logic.{inl, inr}
use mathlib.Core.Path.{◌≡◌, refl, sym, ◌∙◌, ap, subst}
use native.Mathlib.Omega.{arith}
use lib.ListN.{length, drop}
use Rattle.ticket.specs.declared.kinds.Ticket.{Ticket}
use Rattle.parts.specs.declared.answer.Step.{Step}
use Rattle.parts.specs.declared.kinds.Counts.{Counts}
use Rattle.block.specs.Sound.{sound}
use Rattle.block.specs.Steps.{on_sound, step}
use Rattle.block.specs.declared.stepped.Stepped.{Stepped}
use Rattle.block.specs.declared.table.Table.{Table}
use Rattle.building.specs.Build.{build}
use Rattle.laws.proofs.Claims.{on_sound_lem}
use Rattle.headers.specs.Header.{read_header}
use Rattle.headers.specs.declared.reading.BadHeader as bad_header
use Rattle.headers.specs.declared.reading.BadHeader.TheVariants as bad_header_is
use Rattle.stops.specs.Due.{header_stop}
use Rattle.std.specs.Prelude.{Err}
use Rattle.headers.specs.HeaderLine.{HeaderLine}
use Rattle.headers.specs.HeaderLine.{Header, BadHeader as NoHeader, Unfinished as CutHeader}
use Rattle.stops.specs.declared.run.Run.{Run}
use Rattle.stops.specs.declared.run.Stop.{Stop}
use Rattle.stops.specs.declared.run.Stop.TheVariants.{BadHeader, Unfinished}
use Rattle.walks.specs.Walk.{Desk}
use Rattle.walks.specs.Pieces.{lent}
use Rattle.walks.proofs.Along.{on, stop}
use Rattle.calls.specs.Call.{Known, known}
use Rattle.calls.specs.Placed.{run_at}
use Rattle.calls.proofs.Script.{header_on}
use Rattle.calls.proofs.Placed.{header_placed}
use Rattle.loglines.specs.Log.{given_by}
use Rattle.logs.specs.Due.{full_due, Timely, DueSays, plain_met, unfit_stop, stopped_at}
use Rattle.logs.specs.Checking.{given, header_judged, checking, check_call, checked}
use Rattle.loglines.specs.declared.seen.Given.{Given}
use Rattle.logs.specs.declared.call.LogStop.{LogStop}
use Rattle.logs.specs.declared.call.LogStop.TheVariants.{Plain}
use Rattle.logs.specs.declared.call.Checked.{Checked}
use Rattle.logs.specs.declared.call.Behind.{Behind}
use Rattle.logs.specs.Due.{Due, Work, Halt, Met, Agrees, Stops}
use Rattle.logs.proofs.Steady.{checking_steady, opened}
use Rattle.logs.proofs.Turning.{unfit_asks, met_reply, asks, line_asks, ends, moved, agrees}
use Rattle.logs.proofs.Meeting.{same_step}

-- a step that was answered
pub timely : (s : List ℕ) (place steps : ℕ) (d : Due) (x : Step) (b : Behind) → DueSays s place steps d → d ≡ Work x b → Timely s place steps x b
timely s place steps d x b says is = subst (DueSays s place steps) is says

pub halts : (s : List ℕ) (place steps : ℕ) (d : Due) (why : Stop) → DueSays s place steps d → d ≡ Halt why → full_due s place steps ≡ Halt why
halts s place steps d why says is = subst (DueSays s place steps) is says

-- what the rules give for it
pub given_same :
    (t : Table) (x : Step) (ok : sound t ≡ true) (y : Stepped) (does : y ≡ on_sound t x) (g : Given) →
    g ≡ record { answer = y.answer; ticket = y.ticket; grants = y.grants } →
    given_by g.answer g.ticket g.grants ≡ given (step t x)
given_same t x ok y does g gave =
    ap (λ (v : Given). given_by v.answer v.ticket v.grants) gave ∙ ap given (does ∙ sym (on_sound_lem t x ok))

-- A line whose step was worked, on a sound table

module _
    (s : List ℕ) (place wrote : ℕ) (t : Table) (steps : ℕ) (x : Step) (b : Behind) (w : Timely s place steps x b) (ok : sound t ≡ true) (y : Stepped)
    (does : y ≡ on_sound t x) (g : Given) (gave : g ≡ record { answer = y.answer; ticket = y.ticket; grants = y.grants }) (m : Met)
    (met : m ≡ plain_met s place (given_by g.answer g.ticket g.grants)) where
  line_met : (v : Met) → m ≡ v → asks s place wrote t steps ≡ met_reply s place (known (run_at place wrote t steps)) x v
  line_met v is =
      line_asks s place wrote t steps w.more w.early x ok (same_step s place x b w.reads) ∙
      ap (λ (gs : List ℕ). met_reply s place (known (run_at place wrote t steps)) x (plain_met s place gs)) (sym (given_same t x ok y does g gave)) ∙
      ap (met_reply s place (known (run_at place wrote t steps)) x) (sym met ∙ is)

  pub line_ends :
      (r : Run) (z : Checked) (why : LogStop) →
      wrote ≡ r.wrote →
      check_call r s ≡ check_call (run_at place wrote t steps) s →
      m ≡ Stops why →
      z ≡ stopped_at place wrote t steps why →
      z ≡ checked r (check_call r s)
  line_ends r z why same so is e = ends s place wrote t steps r z why same so (line_met (Stops why) is) e

  module _ (next : ℕ) (is : m ≡ Agrees next) where
    pub line_moved : (place < next) × (next ≤ length s)
    line_moved = moved s place wrote t steps x next (line_met (Agrees next) is)

    pub line_goes : check_call (run_at place wrote t steps) s ≡ check_call (run_at next wrote y.table (steps + 1)) s
    line_goes =
        agrees s place wrote t steps x next (line_met (Agrees next) is) ∙
        ap (λ (v : Stepped). check_call (run_at next wrote v.table (steps + 1)) s) (on_sound_lem t x ok ∙ sym does)

-- The run of a call whose header is read

pub begins :
    (r : Run) (s : List ℕ) → r.headed ≡ true → check_call r s ≡ check_call (run_at r.place r.wrote r.table r.steps) s
begins r s e =
    ap (λ (b : Bool). check_call (record { place = r.place; wrote = r.wrote; table = r.table; steps = r.steps; headed = b }) s) e

-- a run whose header is read, stopped where it stands
pub stands : (r : Run) (why : LogStop) → r.headed ≡ true → ◌≡◌ {A = Checked} (record { run = r; why = why }) (stopped_at r.place r.wrote r.table r.steps why)
stands r why e = ap (λ (b : Bool). record { run = record { place = r.place; wrote = r.wrote; table = r.table; steps = r.steps; headed = b }; why = why }) e

-- on a table that is not sound
pub at_unfit :
    (r : Run) (s : List ℕ) →
    r.headed ≡ true →
    sound r.table ≡ false →
    (why : Stop) →
    why ≡ unfit_stop s r.place r.steps →
    record { run = r; why = Plain why } ≡ checked r (check_call r s)
at_unfit r s headed not why says =
    ends s r.place r.wrote r.table r.steps r _ (Plain why) refl (begins r s headed)
    (unfit_asks s r.place r.wrote r.table r.steps not ∙ ap (λ (v : Stop). inr (Plain v)) (sym says)) (stands r (Plain why) headed)

-- The header's line

module _ (r : Run) (s : List ℕ) (unread : r.headed ≡ false) (h : HeaderLine) (says : h ≡ read_header s r.place) where
  abbrev desk : Desk Known
  desk = record { state = known r; place = r.place; first = lent []; second = lent [] }

  asked : (w : HeaderLine) → read_header (drop r.place s) 0 ≡ w → checking.ask (known r) (drop r.place s) ≡ header_judged (known r) w
  asked w e = simp unread (ap (header_judged (known r)) e)

  placed : (w : HeaderLine) → read_header (drop r.place s) 0 ≡ w → h ≡ header_on r.place w
  placed w e = says ∙ header_placed s r.place ∙ ap (header_on r.place) e

  ends_there : (why : LogStop) → checking.ask (known r) (drop r.place s) ≡ inr why → record { run = r; why = why } ≡ checked r (check_call r s)
  ends_there why e = sym (ap (checked r) (stop checking checking_steady desk s why (inl e)))

  -- 20 and 22
  pub no_header : h ≡ NoHeader → record { run = r; why = Plain BadHeader } ≡ checked r (check_call r s)
  no_header is = go (read_header (drop r.place s) 0) refl
    where
      go : (w : HeaderLine) → read_header (drop r.place s) 0 ≡ w → record { run = r; why = Plain BadHeader } ≡ checked r (check_call r s)
      go (Header c n used) e = let f = sym is ∙ placed (Header c n used) e in let z : ◌≡◌ {A = ℕ} 0 1 = cc in absurd (omega arith)
      go NoHeader e = ends_there (Plain BadHeader) (asked NoHeader e)
      go CutHeader e = let f = sym is ∙ placed CutHeader e in let z : ◌≡◌ {A = ℕ} 0 1 = cc in absurd (omega arith)

  pub cut_header : h ≡ CutHeader → record { run = r; why = Plain Unfinished } ≡ checked r (check_call r s)
  cut_header is = go (read_header (drop r.place s) 0) refl
    where
      go : (w : HeaderLine) → read_header (drop r.place s) 0 ≡ w → record { run = r; why = Plain Unfinished } ≡ checked r (check_call r s)
      go (Header c n used) e = let f = sym is ∙ placed (Header c n used) e in let z : ◌≡◌ {A = ℕ} 0 1 = cc in absurd (omega arith)
      go NoHeader e = let f = sym is ∙ placed NoHeader e in let z : ◌≡◌ {A = ℕ} 0 1 = cc in absurd (omega arith)
      go CutHeader e = ends_there (Plain Unfinished) (asked CutHeader e)

  pub unheaded : (b : bad_header.BadHeader) → h ≡ Err b → record { run = r; why = Plain (header_stop b) } ≡ checked r (check_call r s)
  unheaded bad_header_is.Malformed is = no_header is
  unheaded bad_header_is.Unfinished is = cut_header is

  -- the lines behind it
  module _ (c : Counts) (n : Ticket) (next : ℕ) (is : h ≡ Header c n next) where
    abbrev after : ℕ → Run
    after place = run_at place r.wrote (build c n).table r.steps

    opens : check_call r s ≡ check_call (after next) s
    opens = go (read_header (drop r.place s) 0) refl
      where
        same : (d : Counts) (m : Ticket) (used : ℕ) → Header c n next ≡ Header d m (r.place + used) → (d ≡ c) × (m ≡ n) × (r.place + used ≡ next)
        same d m used e = (
          ap (λ (w : HeaderLine). elim w [ Header v p i ↦ v | NoHeader ↦ c | CutHeader ↦ c ]) (sym e),
          ap (λ (w : HeaderLine). elim w [ Header v p i ↦ p | NoHeader ↦ n | CutHeader ↦ n ]) (sym e),
          ap (λ (w : HeaderLine). elim w [ Header v p i ↦ i | NoHeader ↦ next | CutHeader ↦ next ]) (sym e),
        )

        go : (w : HeaderLine) → read_header (drop r.place s) 0 ≡ w → check_call r s ≡ check_call (after next) s
        go (Header d m used) e =
            let f = same d m used (sym is ∙ placed (Header d m used) e) in
            on checking checking_steady desk s (opened (known r) d m used) (record { asks = asked (Header d m used) e; fits = refl }) ∙
            ap (λ (v : Counts). check_call (run_at (r.place + used) r.wrote (build v m).table r.steps) s) f.0 ∙
            ap (λ (v : Ticket). check_call (run_at (r.place + used) r.wrote (build c v).table r.steps) s) f.1 ∙
            ap (λ (v : ℕ). check_call (after v) s) f.2
        go NoHeader e = let f = sym is ∙ placed NoHeader e in let z : ◌≡◌ {A = ℕ} 0 1 = cc in absurd (omega arith)
        go CutHeader e = let f = sym is ∙ placed CutHeader e in let z : ◌≡◌ {A = ℕ} 0 1 = cc in absurd (omega arith)

    pub opened_by :
        (q : Run) (z : Checked) →
        q ≡ run_at next r.wrote (build c n).table r.steps →
        z ≡ checked q (check_call q s) →
        z ≡ checked r (check_call r s)
    opened_by q z at goes = goes ∙ ap (λ (v : Run). checked v (check_call v s)) at ∙ sym (ap (checked r) opens)
