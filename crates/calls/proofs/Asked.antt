-- The turn of the translation is steady. A line that is answered was read as a step or as a header, which ends past its start and within the
-- bytes that are left, and stands there as well when more bytes follow.
use Prim.Native.Nat.{ℕ, ◌≤◌, ◌<◌}
use mathlib.Core.Bool.{Bool, true, false, cond}
use mathlib.Core.List.{List, ◌++◌}
use mathlib.Core.Logic.{◌⊎◌, inl, inr, ⊎_elim, ◌≢◌}
use mathlib.Core.Path.{◌≡◌, refl, sym, ◌∙◌, ap, subst}
use lib.Dec.{leb}
use lib.ListN.{length, length-append}
use native.Mathlib.Omega.{arith}
use borrow.Author.Tests.{leb-false, lt-leb}
use Rattle.ticket.specs.declared.kinds.Ticket.{Ticket}
use Rattle.block.specs.Sound.{sound}
use Rattle.parts.specs.declared.answer.Step.{Step}
use Rattle.parts.specs.declared.kinds.Counts.{Counts}
use Rattle.lines.specs.Reading.{read_step}
use Rattle.headers.specs.Header.{read_header}
use Rattle.lines.specs.StepLine.{StepLine, Line, Finished as Nothing, Malformed as NoStep, Unfinished as Cut}
use Rattle.headers.specs.HeaderLine.{HeaderLine, Header, BadHeader as NoHeader, Unfinished as CutHeader}
use Rattle.stops.specs.Run.{steps_most, stop_number}
use Rattle.stops.specs.Due.{line_due, due}
use Rattle.stops.specs.Todo.{Stop as Halt}
use Rattle.stops.specs.declared.run.Stop.{Stop}
use Rattle.stops.specs.declared.run.Stop.TheVariants.{Finished, Unsound, BadHeader, Malformed, Unfinished, NoRoom, TooMany}
use Rattle.walks.specs.Walk.{Reply}
use Rattle.calls.specs.Call.{Known, step_reply, header_reply, step_asked, header_asked, asked}
use Rattle.calls.specs.Claims.{SteadyTranslation}
use Rattle.calls.proofs.Within.{read_within, header_within}
use Rattle.calls.proofs.Script.{read_more, header_more}

-- by each test and each reading by itself
abbrev pub asked_by : Known → Bool → Bool → Bool → StepLine → Bool → HeaderLine → Reply Known ⊎ Stop
asked_by q headed past many line fit head =
    cond headed (step_asked q (cond past (Halt Finished) (cond many (Halt TooMany) (line_due line fit)))) (header_asked q head)

-- What is asked says of the line; a stop is none for want of room

-- a step's line
pub record Stepping (q : Known) (s : List ℕ) (a : Reply Known) : Type 0 where
  pub headed : q.headed ≡ true
  pub left : leb (length s) 0 ≡ false
  pub few : leb steps_most q.steps ≡ false
  pub sound : sound q.table ≡ true
  pub x : Step
  pub read : read_step s 0 ≡ Line x a.used
  pub is : a ≡ step_reply q x a.used

-- a header
pub record Opening (q : Known) (s : List ℕ) (a : Reply Known) : Type 0 where
  pub headed : q.headed ≡ false
  pub c : Counts
  pub n : Ticket
  pub read : read_header s 0 ≡ Header c n a.used
  pub is : a ≡ header_reply q c n a.used

abbrev Asks : Known → List ℕ → Reply Known ⊎ Stop → Type 0
Asks q s (inl a) = Stepping q s a ⊎ Opening q s a
Asks q s (inr why) = why ≢ NoRoom

other : (why : Stop) → stop_number why ≢ 23 → why ≢ NoRoom
other why h e = h (ap stop_number e)

module _ (q : Known) (s : List ℕ) where
  due_asks :
      q.headed ≡ true →
      (a b fit : Bool) (w : StepLine) →
      leb (length s) 0 ≡ a →
      leb steps_most q.steps ≡ b →
      sound q.table ≡ fit →
      read_step s 0 ≡ w →
      Asks q s (step_asked q (cond a (Halt Finished) (cond b (Halt TooMany) (line_due w fit))))
  due_asks h true b fit w p k l e = λ is. other Finished (omega arith) is
  due_asks h false true fit w p k l e = λ is. other TooMany (omega arith) is
  due_asks h false false true (Line x used) p k l e =
      inl (record { headed = h; left = p; few = k; sound = l; x = x; read = e; is = refl })
  due_asks h false false false (Line x used) p k l e = λ is. other Unsound (omega arith) is
  due_asks h false false fit Nothing p k l e = λ is. other Finished (omega arith) is
  due_asks h false false fit NoStep p k l e = λ is. other Malformed (omega arith) is
  due_asks h false false fit Cut p k l e = λ is. other Unfinished (omega arith) is

  header_asks : q.headed ≡ false → (w : HeaderLine) → read_header s 0 ≡ w → Asks q s (header_asked q w)
  header_asks h (Header c n used) e = inr (record { headed = h; c = c; n = n; read = e; is = refl })
  header_asks h NoHeader e = λ is. other BadHeader (omega arith) is
  header_asks h CutHeader e = λ is. other Unfinished (omega arith) is

  asks : Asks q s (asked q s)
  asks = go q.headed refl
    where
      go : (h : Bool) → q.headed ≡ h → Asks q s (cond h (step_asked q (due s 0 q.steps (sound q.table))) (header_asked q (read_header s 0)))
      go true h = due_asks h (leb (length s) 0) (leb steps_most q.steps) (sound q.table) (read_step s 0) refl refl refl refl
      go false h = header_asks h (read_header s 0) refl

  pub asked_says : (a : Reply Known) → asked q s ≡ inl a → Stepping q s a ⊎ Opening q s a
  asked_says a e = subst (Asks q s) e asks

  -- no line asks for room by itself
  asked_other : (why : Stop) → asked q s ≡ inr why → why ≢ NoRoom
  asked_other why e = subst (Asks q s) e asks

  asked_within : (a : Reply Known) → asked q s ≡ inl a → (0 < a.used) × (a.used ≤ length s)
  asked_within a e =
      ⊎_elim
      (λ (w : Stepping q s a). read_within s 0 w.x a.used w.read)
      (λ (w : Opening q s a). header_within s 0 w.c w.n a.used w.read)
      (asked_says a e)

  -- and back
  step_asked_lem : (a : Reply Known) → Stepping q s a → asked q s ≡ inl a
  step_asked_lem a w =
      let by : asked q s ≡ inl (step_reply q w.x a.used) =
      λ i. asked_by q (w.headed i) (w.left i) (w.few i) (w.read i) (w.sound i) (read_header s 0)
      in
      by ∙ ap inl (sym w.is)

  header_asked_lem : (a : Reply Known) → Opening q s a → asked q s ≡ inl a
  header_asked_lem a w =
      let by : asked q s ≡ inl (header_reply q w.c w.n a.used) =
      λ i. asked_by q (w.headed i) (leb (length s) 0) (leb steps_most q.steps) (read_step s 0) (sound q.table) (w.read i)
      in
      by ∙ ap inl (sym w.is)

-- More bytes after the script

asked_more : (q : Known) (s more : List ℕ) (a : Reply Known) → asked q s ≡ inl a → asked q (s ++ more) ≡ inl a
asked_more q s more a e =
    ⊎_elim
    (λ (w : Stepping q s a). step_asked_lem q (s ++ more) a (record {
      headed = w.headed;
      left =
          let h = leb-false (length s) 0 w.left in
          let l = length-append s more in
          lt-leb (length (s ++ more)) 0 (omega arith);
      few = w.few;
      sound = w.sound;
      x = w.x;
      read = read_more s more 0 w.x a.used w.read;
      is = w.is;
    }))
    (λ (w : Opening q s a). header_asked_lem q (s ++ more) a (record {
      headed = w.headed;
      c = w.c;
      n = w.n;
      read = header_more s more 0 w.c w.n a.used w.read;
      is = w.is;
    }))
    (asked_says q s a e)

pub translation_steady : SteadyTranslation
translation_steady = record { moves = asked_within; ahead = asked_more; other = asked_other }
