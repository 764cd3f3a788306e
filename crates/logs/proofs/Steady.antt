-- The turn of the check is steady. A line that is answered was read up to its end, which stands within the bytes that are left, and as well
-- when more bytes follow.
use Prim.Native.Nat.{ℕ, ◌+◌, ◌≤◌, ◌<◌}
use mathlib.Core.Bool.{Bool, true, false, cond}
use mathlib.Core.List.{List, [], ◌++◌}
use mathlib.Core.Logic.{◌⊎◌, inl, inr, ⊎_elim, ◌≢◌}
use mathlib.Core.Path.{◌≡◌, refl, sym, ◌∙◌, ap, subst}
use lib.Dec.{eqb, leb}
use lib.ListN.{length, take, length-append}
use lib.Seq.{take-append-le}
use native.Mathlib.Omega.{arith}
use borrow.Author.Tests.{leb-false, lt-leb}
use Rattle.ticket.specs.declared.kinds.Ticket.{Ticket}
use Rattle.block.specs.Sound.{sound}
use Rattle.block.specs.Steps.{step}
use Rattle.building.specs.Build.{build}
use Rattle.parts.specs.declared.kinds.Counts.{Counts}
use Rattle.lines.specs.Reading.{ending}
use Rattle.lines.specs.Ending.{Ending}
use Rattle.lines.specs.Ending.{At, Long, Short}
use Rattle.lines.proofs.Turns.{found}
use Rattle.headers.specs.Header.{read_header}
use Rattle.headers.specs.HeaderLine.{HeaderLine}
use Rattle.headers.specs.HeaderLine.{Header, BadHeader as NoHeader, Unfinished as CutHeader}
use Rattle.stops.specs.Run.{steps_most}
use Rattle.stops.specs.declared.run.Stop.TheVariants.{Finished, Unsound, BadHeader, Malformed, Unfinished, NoRoom, TooMany}
use Rattle.walks.specs.Walk.{Reply}
use Rattle.calls.specs.Call.{Known, working}
use Rattle.calls.proofs.Within.{header_within}
use Rattle.calls.proofs.Script.{ending_more, header_more}
use Rattle.loglines.specs.Log.{log_most, Shown, parse_log, first_off}
use Rattle.logs.specs.Checking.{log_number, given, agreed, line_judged, end_judged, header_judged, checking}
use Rattle.logs.specs.Claims.{SteadyChecking}
use Rattle.loglines.specs.declared.seen.Off.{Off}
use Rattle.logs.specs.declared.call.LogStop.{LogStop}
use Rattle.logs.specs.declared.call.LogStop.TheVariants.{Plain, Disagrees}

-- A stop is none for want of room

other : (why : LogStop) → log_number why ≢ 23 → why ≢ Plain NoRoom
other why h e = h (ap log_number e)

-- a line that is read: so many bytes are used, or why it stops
abbrev Uses : ℕ → Reply Known ⊎ LogStop → Type 0
Uses used (inl a) = a.used ≡ used
Uses used (inr why) = why ≢ Plain NoRoom

line_uses : (q : Known) (used : ℕ) (l : Shown ⊎ Unit {0}) → Uses used (line_judged q used l)
line_uses q used (inr none) = λ is. other (Plain Malformed) (omega arith) is
line_uses q used (inl l) = fit (sound q.table)
  where
    agrees : (a : Reply Known) (o : Off) → a.used ≡ used → (b : Bool) → Uses used (cond b (inl a) (inr (Disagrees o)))
    agrees a o e true = e
    agrees a o e false = λ is. other (Disagrees o) (omega arith) is

    fit : (b : Bool) → Uses used (cond b (agreed q l used) (inr (Plain Unsound)))
    fit true = agrees _ _ refl (eqb (first_off l.shown (given (step q.table l.step))) 0)
    fit false = λ is. other (Plain Unsound) (omega arith) is

-- What is asked says of the line

-- a step's line
pub record Working (q : Known) (s : List ℕ) (a : Reply Known) : Type 0 where
  pub headed : q.headed ≡ true
  pub left : leb (length s) 0 ≡ false
  pub few : leb steps_most q.steps ≡ false
  pub e : ℕ
  pub ends : ending log_most 0 s ≡ At e
  pub judged : line_judged q (e + 1) (parse_log (take e s)) ≡ inl a
  pub used : a.used ≡ e + 1

abbrev pub opened : Known → Counts → Ticket → ℕ → Reply Known
opened q c n used = record { used = used; said = []; also = []; then = working (build c n).table q.steps }

-- a header
pub record Opening (q : Known) (s : List ℕ) (a : Reply Known) : Type 0 where
  pub headed : q.headed ≡ false
  pub c : Counts
  pub n : Ticket
  pub read : read_header s 0 ≡ Header c n a.used
  pub is : a ≡ opened q c n a.used

abbrev Asks : Known → List ℕ → Reply Known ⊎ LogStop → Type 0
Asks q s (inl a) = Working q s a ⊎ Opening q s a
Asks q s (inr why) = why ≢ Plain NoRoom

module _ (q : Known) (s : List ℕ) where
  line_asks :
      q.headed ≡ true →
      (past many : Bool) (w : Ending) →
      leb (length s) 0 ≡ past →
      leb steps_most q.steps ≡ many →
      ending log_most 0 s ≡ w →
      Asks q s (cond past (inr (Plain Finished)) (cond many (inr (Plain TooMany)) (end_judged q s w)))
  line_asks h true many w p k l = λ is. other (Plain Finished) (omega arith) is
  line_asks h false true w p k l = λ is. other (Plain TooMany) (omega arith) is
  line_asks h false false (At e) p k l =
      go (line_judged q (e + 1) (parse_log (take e s))) refl (line_uses q (e + 1) (parse_log (take e s)))
    where
      go : (r : Reply Known ⊎ LogStop) → line_judged q (e + 1) (parse_log (take e s)) ≡ r → Uses (e + 1) r → Asks q s r
      go (inl a) j u = inl (record { headed = h; left = p; few = k; e = e; ends = l; judged = j; used = u })
      go (inr why) j u = u
  line_asks h false false Long p k l = λ is. other (Plain Malformed) (omega arith) is
  line_asks h false false Short p k l = λ is. other (Plain Unfinished) (omega arith) is

  header_asks : q.headed ≡ false → (w : HeaderLine) → read_header s 0 ≡ w → Asks q s (header_judged q w)
  header_asks h (Header c n used) e = inr (record { headed = h; c = c; n = n; read = e; is = refl })
  header_asks h NoHeader e = λ is. other (Plain BadHeader) (omega arith) is
  header_asks h CutHeader e = λ is. other (Plain Unfinished) (omega arith) is

  asks : Asks q s (checking.ask q s)
  asks = go q.headed refl
    where
      go :
          (h : Bool) →
          q.headed ≡ h →
          Asks q s
          (cond h
          (cond (leb (length s) 0) (inr (Plain Finished))
          (cond (leb steps_most q.steps) (inr (Plain TooMany)) (end_judged q s (ending log_most 0 s))))
          (header_judged q (read_header s 0)))
      go true h = line_asks h (leb (length s) 0) (leb steps_most q.steps) (ending log_most 0 s) refl refl refl
      go false h = header_asks h (read_header s 0) refl

  pub asked_says : (a : Reply Known) → checking.ask q s ≡ inl a → Working q s a ⊎ Opening q s a
  asked_says a e = subst (Asks q s) e asks

  -- no line asks for room by itself
  asked_other : (why : LogStop) → checking.ask q s ≡ inr why → why ≢ Plain NoRoom
  asked_other why e = subst (Asks q s) e asks

  asked_within : (a : Reply Known) → checking.ask q s ≡ inl a → (0 < a.used) × (a.used ≤ length s)
  asked_within a e =
      ⊎_elim
      (λ (w : Working q s a). let l = found log_most 0 w.e s w.ends in (omega (arith, w.used), omega (arith, w.used, l.1)))
      (λ (w : Opening q s a). header_within s 0 w.c w.n a.used w.read)
      (asked_says a e)

  -- and back
  pub work_asked : (a : Reply Known) → Working q s a → checking.ask q s ≡ inl a
  work_asked a w = simp (w.headed, w.left, w.few, w.ends) w.judged

  pub header_asked_lem : (a : Reply Known) → Opening q s a → checking.ask q s ≡ inl a
  header_asked_lem a w =
      let by : checking.ask q s ≡ inl (opened q w.c w.n a.used) = simp (w.headed, w.read) in
      by ∙ ap inl (sym w.is)

-- More bytes after the log

asked_more : (q : Known) (s more : List ℕ) (a : Reply Known) → checking.ask q s ≡ inl a → checking.ask q (s ++ more) ≡ inl a
asked_more q s more a e =
    ⊎_elim
    (λ (w : Working q s a). work_asked q (s ++ more) a (record {
      headed = w.headed;
      left =
          let h = leb-false (length s) 0 w.left in
          let l = length-append s more in
          lt-leb (length (s ++ more)) 0 (omega arith);
      few = w.few;
      e = w.e;
      ends = ending_more log_most 0 w.e s more w.ends;
      judged =
          let l = found log_most 0 w.e s w.ends in
          rw (take-append-le w.e s more (omega (arith, l.1))) w.judged;
      used = w.used;
    }))
    (λ (w : Opening q s a). header_asked_lem q (s ++ more) a (record {
      headed = w.headed;
      c = w.c;
      n = w.n;
      read = header_more s more 0 w.c w.n a.used w.read;
      is = w.is;
    }))
    (asked_says q s a e)

pub checking_steady : SteadyChecking
checking_steady = record { moves = asked_within; ahead = asked_more; other = asked_other }
