-- One turn of the loop over the step lines: what is still to be answered, `whole`, stays the same over a line that is answered, and
-- is what is handed back at one that stops the run.
use Prim.Native.Nat.{ℕ, ◌+◌, ◌<◌}
use mathlib.Core.Bool.{Bool, true, false, cond}
use mathlib.Core.List.{List}
use mathlib.Core.Logic.{inl, inr}
use mathlib.Core.Path.{◌≡◌, refl, sym, ◌∙◌, ap}
use native.Mathlib.Omega.{arith}
use lib.Dec.{leb}
use lib.ListN.{length}
use borrow.Author.Tests.{leb-false}
use Rattle.ticket.specs.declared.kinds.Ticket.{Ticket}
use Rattle.block.specs.Sound.{sound}
use Rattle.block.specs.Steps.{on_sound, step}
use Rattle.parts.specs.Range.{in_range}
use Rattle.building.specs.Build.{build}
use Rattle.parts.specs.declared.answer.Step.{Step}
use Rattle.block.specs.declared.stepped.Stepped.{Stepped}
use Rattle.parts.specs.declared.kinds.Counts.{Counts}
use Rattle.block.specs.declared.table.Table.{Table}
use Rattle.lines.specs.Bytes.{output_letter}
use Rattle.lines.specs.Reading.{read_step}
use Rattle.headers.specs.Header.{read_header}
use Rattle.digits.specs.Text.{Puts}
use Rattle.digits.specs.Room.{fits, wrote, left}
use Rattle.digits.proofs.Pasting.{written as put-so}
use Rattle.expected.specs.Expected.{expected_bytes}
use Rattle.writing.specs.Writing.{output_header, wrote_header, left_header}
use Rattle.headers.specs.HeaderLine.{HeaderLine}
use Rattle.headers.specs.HeaderLine.{Header, BadHeader as NoHeader, Unfinished as CutHeader}
use Rattle.lines.specs.StepLine.{StepLine}
use Rattle.lines.specs.StepLine.{Line, Finished as Nothing, Malformed as NoStep, Unfinished as Cut}
use Rattle.digits.specs.Written.{Written}
use Rattle.digits.specs.Written.{Next, OutOfRange, NoRoom as Full}
use Rattle.stops.specs.Run.{steps_most}
use Rattle.headers.specs.declared.reading.BadHeader as bad_header
use Rattle.headers.specs.declared.reading.BadHeader.TheVariants as bad_header_is
use Rattle.stops.specs.Due.{due, line_due, header_stop}
use Rattle.std.specs.Prelude.{Err}
use Rattle.walks.specs.Walk.{Ended}
use Rattle.calls.specs.Call.{Known, desk_of, call, stopped, output}
use Rattle.calls.specs.Placed.{run_at, stopped_at, answered, worked, opening, placed}
use Rattle.block.specs.Table.{Shaped}
use Rattle.stops.specs.Todo.{Todo, Work, Stop as Halt}
use Rattle.stops.specs.declared.run.Run.{Run}
use Rattle.stops.specs.declared.run.Stop.{Stop}
use Rattle.stops.specs.declared.run.Stop.TheVariants.{NoRoom, Finished, TooMany, BadHeader, Unfinished}
use Rattle.stops.specs.declared.run.Stopped.{Stopped}
use Rattle.writing.proofs.AsWritten.{header_read_is_written}
use Rattle.calls.proofs.Placed.{on, stop}
use Rattle.laws.proofs.Keeping.{step_sound, step_shaped}

-- a line that is to be worked was read, in time, for a table that is fit
pub record Working (s : List ℕ) (place steps : ℕ) (fit : Bool) (x : Step) (next : ℕ) : Type 0 where
  pub more : place < length s
  pub early : steps < steps_most
  pub sound : fit ≡ true
  pub line : read_step s place ≡ Line x next

pub working :
    (s : List ℕ) (place steps : ℕ) (fit : Bool) (x : Step) (next : ℕ) (d : Todo) →
    d ≡ due s place steps fit →
    d ≡ Work x next →
    Working s place steps fit x next
working s place steps fit x next d says is = go (leb (length s) place) (leb steps_most steps) refl refl (sym says ∙ is)
  where
    read :
        (l : StepLine) (b : Bool) →
        line_due l b ≡ Work x next →
        (b ≡ true) × (l ≡ Line x next)
    read (Line y n) true e = (refl, cc)
    read (Line y n) false e = let z : ◌≡◌ {A = ℕ} 0 1 = cc in absurd (omega arith)
    read Nothing b e = let z : ◌≡◌ {A = ℕ} 0 1 = cc in absurd (omega arith)
    read NoStep b e = let z : ◌≡◌ {A = ℕ} 0 1 = cc in absurd (omega arith)
    read Cut b e = let z : ◌≡◌ {A = ℕ} 0 1 = cc in absurd (omega arith)

    go :
        (p q : Bool) →
        leb (length s) place ≡ p →
        leb steps_most steps ≡ q →
        cond p (Halt Finished) (cond q (Halt TooMany) (line_due (read_step s place) fit)) ≡ Work x next →
        Working s place steps fit x next
    go true q f g e = let z : ◌≡◌ {A = ℕ} 0 1 = cc in absurd (omega arith)
    go false true f g e = let z : ◌≡◌ {A = ℕ} 0 1 = cc in absurd (omega arith)
    go false false f g e =
        let w = read (read_step s place) fit e in
        record {
          more = leb-false (length s) place f;
          early = leb-false steps_most steps g;
          sound = w.0;
          line = w.1;
        }

-- what a writer's answer says of the room
wrote_fits :
    (out : List ℕ) (at : ℕ) (xs : List ℕ) (w : Written) (p : ℕ) →
    w ≡ wrote out at xs →
    w ≡ Next p →
    (fits out at xs ≡ true) × (p ≡ at + length xs)
wrote_fits out at xs w p says is = go (fits out at xs) refl (sym says ∙ is)
  where
    go : (b : Bool) → fits out at xs ≡ b → cond b (Next (at + length xs)) Full ≡ Next p → (fits out at xs ≡ true) × (p ≡ at + length xs)
    go true f e = (f, cc)
    go false f e = let z : ◌≡◌ {A = ℕ} 0 1 = cc in absurd (omega arith)

wrote_full : (out : List ℕ) (at : ℕ) (xs : List ℕ) (w : Written) → w ≡ wrote out at xs → w ≡ Full → fits out at xs ≡ false
wrote_full out at xs w says is = go (fits out at xs) refl (sym says ∙ is)
  where
    go : (b : Bool) → fits out at xs ≡ b → cond b (Next (at + length xs)) Full ≡ Full → fits out at xs ≡ false
    go true f e = let z : ◌≡◌ {A = ℕ} 0 1 = cc in absurd (omega arith)
    go false f e = f

pub wrote_ranged : (out : List ℕ) (at : ℕ) (xs : List ℕ) (w : Written) → w ≡ wrote out at xs → w ≡ OutOfRange → ⊥
wrote_ranged out at xs w says is = go (fits out at xs) (sym says ∙ is)
  where
    go : (b : Bool) → cond b (Next (at + length xs)) Full ≡ OutOfRange → ⊥
    go true e = let z : ◌≡◌ {A = ℕ} 0 1 = cc in omega arith
    go false e = let z : ◌≡◌ {A = ℕ} 0 1 = cc in omega arith

-- a line written, and one for which there is no room
module _ (r : Run) (out xs : List ℕ) (next : ℕ) (t : Table) (steps : ℕ) (w : Written) (o : List ℕ) where
  pub written :
      (p : ℕ) →
      w ≡ wrote out r.wrote xs →
      o ≡ left out r.wrote xs →
      w ≡ Next p →
      answered r out xs next t steps ≡ inl (desk_of (run_at next p t steps) o)
  written p says holds is =
      let f = wrote_fits out r.wrote xs w p says is in
      rw (holds, f.1, f.0)

  pub unwritten :
      w ≡ wrote out r.wrote xs →
      o ≡ left out r.wrote xs →
      w ≡ Full →
      (answered r out xs next t steps ≡ inr NoRoom) × (o ≡ out)
  unwritten says holds is =
      let f = wrote_full out r.wrote xs w says is in
      (rw f, holds ∙ rw f)

module _
    (s : List ℕ) (place at steps : ℕ) (t : Table) (fit : Bool) (out : List ℕ) (whole : Ended Known Stop)
    (sure : fit ≡ sound t)
    (so : whole ≡ call (run_at place at t steps) s out)
    (d : Todo)
    (says : d ≡ due s place steps fit) where
  abbrev here : Run
  here = run_at place at t steps

  due_here : (e : Todo) → d ≡ e → placed here out s ≡ worked here out e
  due_here e is = ap (λ (b : Bool). worked here out (due s place steps b)) (sym sure) ∙ ap (worked here out) (sym says ∙ is)

  ends : (why : Stop) → placed here out s ≡ inr why → (stopped_at place at t steps why ≡ stopped whole) × (out ≡ output whole)
  ends why e =
      let z = so ∙ stop here out s why e in (sym (ap stopped z), sym (ap output z))

  -- finished, 24, 22, 21 and 16
  pub stops :
      (why : Stop) (r : Stopped) →
      d ≡ Halt why →
      r ≡ stopped_at place at t steps why →
      (r ≡ stopped whole) × (out ≡ output whole)
  stops why r is e = let z = ends why (due_here (Halt why) is) in (e ∙ z.0, z.1)

  module _ (x : Step) (next : ℕ) (is : d ≡ Work x next) (y : Stepped) (does : y ≡ on_sound t x) where
    pub work : Working s place steps fit x next
    work = working s place steps fit x next d says is

    pub fit_table : sound t ≡ true
    fit_table = sym sure ∙ work.sound

    stepped_here : step t x ≡ y
    unfolding step
    stepped_here = rw fit_table (sym does)

    abbrev line : List ℕ
    line = expected_bytes (steps + 1) y.answer y.ticket y.grants

    turned : placed here out s ≡ answered here out line next y.table (steps + 1)
    turned =
        due_here (Work x next) is
        ∙ ap
        (λ (z : Stepped). answered here out (expected_bytes (steps + 1) z.answer z.ticket z.grants) next z.table (steps + 1))
        stepped_here

    module _ (w : Written) (o : List ℕ) (Wrote-so : (w ≡ wrote out at line) × (o ≡ left out at line)) where
      pub answers : (p : ℕ) → w ≡ Next p → whole ≡ call (run_at next p y.table (steps + 1)) s o
      answers p put = so ∙ on here out _ s o (turned ∙ written here out line next y.table (steps + 1) w o p Wrote-so.0 Wrote-so.1 put)

      -- 23
      pub no_room :
          (r : Stopped) → w ≡ Full → r ≡ stopped_at place at t steps NoRoom → (r ≡ stopped whole) × (o ≡ output whole)
      no_room r full e =
          let u = unwritten here out line next y.table (steps + 1) w o Wrote-so.0 Wrote-so.1 full in
          let z = ends NoRoom (turned ∙ u.0) in
          (e ∙ z.0, u.1 ∙ z.1)

-- a line that is put, and the run that goes on with the table that is put together from its units
pub answers_on :
    (s : List ℕ) (place at steps : ℕ) (t : Table) (fit : Bool) (out o : List ℕ) (whole : Ended Known Stop) →
    fit ≡ sound t →
    whole ≡ call (run_at place at t steps) s out →
    (d : Todo) →
    d ≡ due s place steps fit →
    (x : Step) (next : ℕ) →
    d ≡ Work x next →
    (y : Stepped) →
    y ≡ on_sound t x →
    (p : ℕ) →
    Puts out o at p (expected_bytes (steps + 1) y.answer y.ticket y.grants) →
    (z : Table) →
    z ≡ y.table →
    whole ≡ call (run_at next p z (steps + 1)) s o
answers_on s place at steps t fit out o whole sure so d says x next is y does p put z e =
    answers s place at steps t fit out whole sure so d says x next is y does (Next p) o (put-so put) p refl ∙
    ap (λ (m : Table). call (run_at next p m (steps + 1)) s o) (sym e)

-- the run of a call whose header is read
pub begins :
    (r : Run) (s out : List ℕ) →
    r.headed ≡ true →
    call r s out ≡ call (run_at r.place r.wrote r.table r.steps) s out
begins r s out e =
    ap
    (λ (b : Bool). call (record { place = r.place; wrote = r.wrote; table = r.table; steps = r.steps; headed = b }) s out)
    e

-- The header's line

module _ (r : Run) (s out : List ℕ) (unread : r.headed ≡ false) (h : HeaderLine) (says : h ≡ read_header s r.place) where
  opens : (g : HeaderLine) → h ≡ g → placed r out s ≡ opening r out g
  opens g is =
      ap (λ (b : Bool). cond b (worked r out (due s r.place r.steps (sound r.table))) (opening r out (read_header s r.place))) unread
      ∙ ap (opening r out) (sym says ∙ is)

  ended : (why : Stop) → placed r out s ≡ inr why → (record { run = r; why = why } ≡ stopped (call r s out)) × (out ≡ output (call r s out))
  ended why e =
      let z = stop r out s why e in (sym (ap stopped z), sym (ap output z))

  -- 20 and 22
  pub no_header : h ≡ NoHeader → (record { run = r; why = BadHeader } ≡ stopped (call r s out)) × (out ≡ output (call r s out))
  no_header is = ended BadHeader (opens NoHeader is)

  pub cut_header : h ≡ CutHeader → (record { run = r; why = Unfinished } ≡ stopped (call r s out)) × (out ≡ output (call r s out))
  cut_header is = ended Unfinished (opens CutHeader is)

  -- by what stands there
  pub unheaded : (b : bad_header.BadHeader) → h ≡ Err b → (record { run = r; why = header_stop b } ≡ stopped (call r s out)) × (out ≡ output (call r s out))
  unheaded bad_header_is.Malformed is = no_header is
  unheaded bad_header_is.Unfinished is = cut_header is

  module _ (c : Counts) (n : Ticket) (next : ℕ) (is : h ≡ Header c n next) (w : Written) (o : List ℕ) where
    abbrev first : List ℕ
    first = output_header c n

    ranged : in_range c ≡ true
    ranged = (header_read_is_written s r.place c n next (sym says ∙ is)).1

    module _ (Wrote-so : (w ≡ wrote_header out r.wrote (output_letter c.profile) c n) × (o ≡ left_header out r.wrote (output_letter c.profile) c n)) where
      put : w ≡ wrote out r.wrote first
      put = Wrote-so.0 ∙ ap (λ (b : Bool). cond b (wrote out r.wrote first) OutOfRange) ranged

      holds : o ≡ left out r.wrote first
      holds = Wrote-so.1 ∙ ap (λ (b : Bool). cond b (left out r.wrote first) out) ranged

      -- after the header: the run on the table that was built
      pub opened_by :
          (p : ℕ) (q : Run) (e : Stopped) (o' : List ℕ) →
          w ≡ Next p →
          q ≡ run_at next p (build c n).table r.steps →
          (e ≡ stopped (call q s o)) × (o' ≡ output (call q s o)) →
          (e ≡ stopped (call r s out)) × (o' ≡ output (call r s out))
      opened_by p q e o' put-at desk goes =
          let z : call r s out ≡ call q s o =
          on r out (run_at next p (build c n).table r.steps) s o
          (opens (Header c n next) is ∙ written r out first next (build c n).table r.steps w o p put holds put-at)
          ∙ sym (ap (λ (m : Run). call m s o) desk)
          in
          (goes.0 ∙ sym (ap stopped z), goes.1 ∙ sym (ap output z))

      pub out_of_range : w ≡ OutOfRange → ⊥
      out_of_range e = wrote_ranged out r.wrote first w put e

      -- 23
      pub no_room_opening : w ≡ Full → (record { run = r; why = NoRoom } ≡ stopped (call r s out)) × (o ≡ output (call r s out))
      no_room_opening full =
          let u = unwritten r out first next (build c n).table r.steps w o put holds full in
          let z = ended NoRoom (opens (Header c n next) is ∙ u.0) in
          (z.0, u.1 ∙ z.1)

-- The table after a step is as sound and as long as it was

module _ (t : Table) (s : Step) (y : Stepped) (does : y ≡ on_sound t s) (shaped : Shaped t) (fit : sound t ≡ true) where
  pub stays_sound : sound y.table ≡ true
  stays_sound = ap (λ (z : Stepped). sound z.table) does ∙ step_sound t s shaped fit

  pub stays_shaped : Shaped y.table
  stays_shaped = rw does (step_shaped t s shaped fit)
