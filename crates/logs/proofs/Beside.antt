-- A script's lines beside what was written for them are the log that the rules give. Each line that a call answered is a step as it is written,
-- and what it wrote is the step's number, a tab and what the step gives: no digit is a tab, and nothing before a line's last byte is a line end.
use Prim.Native.Nat.{ℕ, suc, ◌+◌, ◌-◌, ◌≤◌}
use mathlib.Core.Bool.{Bool, true, false}
use mathlib.Core.List.{List, [], ◌∷◌, ◌++◌, append_assoc}
use mathlib.Core.Logic.{◌⊎◌, inl, inr, ⊎_elim}
use mathlib.Core.Path.{◌≡◌, refl, sym, ◌∙◌, ap, subst}
use native.Mathlib.Omega.{arith}
use lib.Dec.{leb}
use lib.ListN.{length, take, drop, take-append-drop}
use borrow.Author.Tests.{eq-eqb, ne_eqb, leb-false}
use Rattle.ticket.specs.declared.kinds.Ticket.{Ticket}
use Rattle.parts.proofs.Bools.{clash}
use Rattle.parts.specs.declared.answer.Step.{Step}
use Rattle.parts.specs.declared.kinds.Counts.{Counts}
use Rattle.parts.specs.declared.kinds.Profile.{Profile}
use Rattle.parts.specs.declared.kinds.Profile.TheVariants.{T, D}
use Rattle.block.specs.Over.{over}
use Rattle.block.specs.Sound.{sound}
use Rattle.block.specs.Steps.{step}
use Rattle.block.specs.declared.stepped.Stepped.{Stepped}
use Rattle.block.specs.declared.table.Table.{Table}
use Rattle.building.specs.Build.{build}
use Rattle.numbers.specs.Bytes.{tab, end}
use Rattle.numbers.specs.Number.{decimal}
use Rattle.numbers.proofs.Scanning.{AllDigits, digits_all}
use Rattle.lines.specs.Bytes.{script_letter, output_letter, letter_of}
use Rattle.lines.specs.Reading.{read_step}
use Rattle.headers.specs.Header.{read_header}
use Rattle.headers.specs.HeaderLine.{HeaderLine}
use Rattle.headers.specs.HeaderLine.{Header, BadHeader as NoHeader, Unfinished as CutHeader}
use Rattle.expected.specs.Expected.{expected_bytes}
use Rattle.writing.specs.Writing.{fields, numbers_of, step_bytes, script_header, output_header}
use Rattle.writing.specs.Claims.{Stands}
use Rattle.writing.proofs.AsWritten.{step_read_is_written, header_read_is_written}
use Rattle.writing.proofs.ReadsBack.{Plain, plain_append, plain_tabbed, letter_plain as header_plain}
use Rattle.stops.specs.Run.{steps_most, stop_number, beginning}
use Rattle.stops.specs.declared.run.Stop.{Stop}
use Rattle.stops.specs.declared.run.Stop.TheVariants.{Finished}
use Rattle.walks.specs.Walk.{Reply, Desk}
use Rattle.walks.specs.Pieces.{lent, written}
use Rattle.walks.proofs.Along.{Halts}
use Rattle.walks.proofs.Chains.{said, Wrote, Chain, stretch}
use Rattle.walks.proofs.Pasting.{take_with}
use Rattle.calls.specs.Call.{Known, working, header_asked, asked, translation, known, desk_of, call}
use Rattle.calls.proofs.Asked.{asked_by, Stepping, Opening, asked_says, translation_steady}
use Rattle.loglines.specs.Quick.{tabs, step_text}
use Rattle.loglines.proofs.ReadsBack.{fields_end, letter_plain, tabs_plain, line_bytes}
use Rattle.logs.specs.Checking.{given, check_call}
use Rattle.logs.specs.Claims.{log_bytes, steps_log, table_after, log_of, AllSmall, Accepts, until, past, beside, own_log, OwnAccepted, FinishedHeaded}
use Rattle.logs.proofs.Accepted.{accepted}
use Rattle.logs.proofs.Meeting.{shown_fields, tabs_fields}

-- Up to a byte, and past it

-- no byte is b
abbrev Lacks : ℕ → List ℕ → Type 0
Lacks b [] = Unit
Lacks b (x ∷ xs) = (x ≡ b → ⊥) × Lacks b xs

until_lacks : (b : ℕ) (xs more : List ℕ) → Lacks b xs → until b (xs ++ (b ∷ more)) ≡ xs
unfolding until
until_lacks b [] more none = rw (eq-eqb b b refl)
until_lacks b (x ∷ xs) more (other, none) = rw (ne_eqb x b other) (ap (λ (l : List ℕ). x ∷ l) (until_lacks b xs more none))

past_lacks : (b : ℕ) (xs more : List ℕ) → Lacks b xs → past b (xs ++ (b ∷ more)) ≡ more
unfolding past
past_lacks b [] more none = rw (eq-eqb b b refl)
past_lacks b (x ∷ xs) more (other, none) = rw (ne_eqb x b other) (past_lacks b xs more none)

plain_lacks : (xs : List ℕ) → Plain xs → Lacks end xs
plain_lacks [] p = tt
plain_lacks (x ∷ xs) p = (p.0, plain_lacks xs p.1)

digits_lack : (xs : List ℕ) → AllDigits xs → Lacks tab xs
digits_lack [] p = tt
digits_lack (x ∷ xs) p = ((λ e. omega (arith, p.0)), digits_lack xs p.2)

-- a line, its end with it, and other bytes behind it
module _ (line body more : List ℕ) (whole : line ≡ body ++ (end ∷ [])) (plain : Plain body) where
  follow : line ++ more ≡ body ++ (end ∷ more)
  follow = ap (λ (l : List ℕ). l ++ more) whole ∙ append_assoc body (end ∷ []) more

  until_line : until end (line ++ more) ≡ body
  until_line = ap (until end) follow ∙ until_lacks end body more (plain_lacks body plain)

  past_line : past end (line ++ more) ≡ more
  past_line = ap (past end) follow ∙ past_lacks end body more (plain_lacks body plain)

-- a letter and numbers
module _ (letter : ℕ) (ns more : List ℕ) (other : letter ≡ end → ⊥) where
  abbrev line : List ℕ
  line = letter ∷ fields ns

  abbrev body : List ℕ
  body = letter ∷ tabs ns

  whole : line ≡ body ++ (end ∷ [])
  whole = ap (λ (l : List ℕ). letter ∷ l) (fields_end ns)

  until_lettered : until end (line ++ more) ≡ body
  until_lettered = until_line line body more whole (other, tabs_plain ns)

  past_lettered : past end (line ++ more) ≡ more
  past_lettered = past_line line body more whole (other, tabs_plain ns)

  -- and the line from its parts
  line_again : body ++ (end ∷ more) ≡ line ++ more
  line_again = sym (append_assoc body (end ∷ []) more) ∙ ap (λ (l : List ℕ). l ++ more) (sym whole)

-- One step

-- the line that was written for it: its number, and what the step gives
module _ (y : Stepped) (i : ℕ) (more : List ℕ) where
  abbrev gs : List ℕ
  gs = given y

  abbrev wrote : List ℕ
  wrote = expected_bytes i y.answer y.ticket y.grants

  number_off : wrote ≡ decimal i ++ fields gs
  number_off = ap (λ (l : List ℕ). decimal i ++ l) (shown_fields y.answer y.ticket y.grants)

  past_number : past tab (wrote ++ more) ≡ drop 1 (fields gs) ++ more
  past_number =
      ap (λ (l : List ℕ). past tab (l ++ more)) number_off ∙
      ap (past tab) (append_assoc (decimal i) (fields gs) more) ∙
      past_lacks tab (decimal i) (drop 1 (fields gs) ++ more) (digits_lack (decimal i) (digits_all 10 i))

  until_wrote : until end (past tab (wrote ++ more)) ≡ drop 1 (tabs gs)
  until_wrote =
      ap (until end) past_number ∙
      until_line (drop 1 (fields gs)) (drop 1 (tabs gs)) more (ap (drop 1) (fields_end gs)) (tabs_plain gs).1

  past_wrote : past end (wrote ++ more) ≡ more
  past_wrote =
      past_line wrote (decimal i ++ tabs gs) more
      (number_off ∙ ap (λ (l : List ℕ). decimal i ++ l) (fields_end gs) ∙ sym (append_assoc (decimal i) (tabs gs) (end ∷ [])))
      (plain_append (decimal i) (tabs gs) (plain_tabbed i).1 (tabs_plain gs))

-- the log's line from its parts
log_line : (x : Step) (gs more : List ℕ) → step_text x ++ (tabs gs ++ (end ∷ more)) ≡ line_bytes x gs ++ more
log_line x gs more =
    ap (λ (l : List ℕ). step_text x ++ l) (sym (append_assoc (tabs gs) (end ∷ []) more)) ∙
    ap (λ (l : List ℕ). step_text x ++ (l ++ more)) (sym (fields_end gs)) ∙
    sym (append_assoc (step_text x) (fields gs) more) ∙
    ap (λ (l : List ℕ). letter_of x ∷ (l ++ more)) (tabs_fields (numbers_of x) gs)

one_beside :
    (n : ℕ) (x : Step) (y : Stepped) (i : ℕ) (s o : List ℕ) →
    beside (suc n) (step_bytes x ++ s) (expected_bytes i y.answer y.ticket y.grants ++ o) ≡ log_bytes x y ++ beside n s o
unfolding beside
one_beside n x y i s o =
    let letter = letter_plain x in
    simp (
      until_lettered (letter_of x) (numbers_of x) s letter,
      past_lettered (letter_of x) (numbers_of x) s letter,
      until_wrote y i o,
      past_wrote y i o,
      log_line x (given y) (beside n s o),
    )

-- a line that stands at the front comes off
line_off : (s line : List ℕ) (used : ℕ) → Stands s 0 used line → s ≡ line ++ drop used s
line_off s line used (stands, long) =
    let z : used ≡ used - 0 = omega arith in
    sym (take-append-drop used s) ∙
    ap (λ (n : ℕ). take n s ++ drop used s) z ∙
    ap (λ (l : List ℕ). l ++ drop used s) stands

-- All steps

-- what a call has done after its header: from a table with n steps done, on the bytes s, it wrote o, and knows p
record Ran (t : Table) (n : ℕ) (s o : List ℕ) (p : Known) : Type 0 where
  steps : List Step
  small : AllSmall steps
  few : n + length steps ≤ steps_most
  log : beside (length steps) s o ≡ steps_log t steps
  then : p ≡ working (table_after t steps) (n + length steps)

ran_step :
    (t : Table) (n : ℕ) (s o : List ℕ) (p : Known) (a : Reply Known) (w : Stepping (working t n) s a) →
    Ran (step t w.x).table (n + 1) (drop a.used s) o p →
    Ran t n s (a.said ++ o) p
unfolding over
ran_step t n s o p a w later =
    let x = w.x in
    let y = step t x in
    let k = step_read_is_written s 0 x a.used w.read in
    let said = ap (λ (z : Reply Known). z.said) w.is in
    let more = length later.steps in
    let z : n + 1 + more ≡ n + suc more = omega arith in
    record {
      steps = x ∷ later.steps;
      small = (k.1, later.small);
      few = omega (arith, later.few);
      log =
          ap (λ (l : List ℕ). beside (suc more) l (a.said ++ o)) (line_off s (step_bytes x) a.used k.0) ∙
          ap (λ (l : List ℕ). beside (suc more) (step_bytes x ++ drop a.used s) (l ++ o)) said ∙
          one_beside more x y (n + 1) (drop a.used s) o ∙
          ap (λ (l : List ℕ). log_bytes x y ++ l) later.log;
      then = later.then ∙ ap (working (table_after y.table later.steps)) z;
    }

ran :
    (t : Table) (n : ℕ) (s : List ℕ) (p : Known) (left : List ℕ) (vs : List (Reply Known)) →
    n ≤ steps_most →
    Chain translation (working t n) s vs p left →
    Ran t n s (said vs) p
unfolding over beside
ran t n s p left [] few (e, f) =
    let z : n ≡ n + 0 = omega arith in
    record { steps = []; small = tt; few = omega arith; log = refl; then = sym e ∙ ap (working t) z }
ran t n s p left (a ∷ vs) few (e, c) =
    ⊎_elim
    (λ (w : Stepping (working t n) s a).
    let early = leb-false steps_most n w.few in
    ran_step t n s (said vs) p a w
    (ran (step t w.x).table (n + 1) (drop a.used s) p left vs (omega arith)
    (subst (λ (q : Known). Chain translation q (drop a.used s) vs p left) (ap (λ (z : Reply Known). z.then) w.is) c)))
    (λ (w : Opening (working t n) s a). absurd (clash refl w.headed))
    (asked_says (working t n) s a e)

-- The whole

-- a letter that opens an output is no line's end
opens_plain : (p : Profile) → output_letter p ≡ end → ⊥
opens_plain T e = omega arith
opens_plain D e = omega arith

-- the header's lines of the script and of the output come off
opening_off :
    (n : ℕ) (c : Counts) (k : Ticket) (s o : List ℕ) →
    own_log n (script_header c k ++ s) (output_header c k ++ o) ≡ script_header c k ++ beside n s o
opening_off n c k s o =
    let ns : List ℕ = c.cores ∷ c.first ∷ c.second ∷ k.0 ∷ [] in
    let opens = script_letter c.profile in
    let plain = header_plain c.profile in
    simp (
      until_lettered opens ns s plain,
      past_lettered opens ns s plain,
      past_lettered (output_letter c.profile) ns o (opens_plain c.profile),
      line_again opens ns (beside n s o) plain,
    )

-- the log of what is known after the script s, for which o was written, is accepted
abbrev Takes : List ℕ → List ℕ → Known → Type 0
Takes s o q = let log = own_log q.steps s o in Accepts log q.table q.steps (check_call beginning log)

-- by the reply to the header, and those after it
opened :
    (s o : List ℕ) (p : Known) (a : Reply Known) (w : Opening (known beginning) s a) →
    Ran (build w.c w.n).table 0 (drop a.used s) o p →
    Takes s (a.said ++ o) p
opened s o p a w r =
    let c = w.c in
    let n = w.n in
    let xs = r.steps in
    let t = (build c n).table in
    let k = header_read_is_written s 0 c n a.used w.read in
    let count : length xs ≡ 0 + length xs = omega arith in
    let log : own_log (length xs) s (a.said ++ o) ≡ log_of c n xs =
    ap (λ (l : List ℕ). own_log (length xs) l (a.said ++ o)) (line_off s (script_header c n) a.used k.0) ∙
    ap (λ (z : Reply Known). own_log (length xs) (script_header c n ++ drop a.used s) (z.said ++ o)) w.is ∙
    opening_off (length xs) c n (drop a.used s) o ∙
    ap (λ (l : List ℕ). script_header c n ++ l) r.log
    in
    subst (Takes s (a.said ++ o)) (ap (working (table_after t xs)) count ∙ sym r.then)
    (subst (λ (l : List ℕ). Accepts l (table_after t xs) (length xs) (check_call beginning l)) (sym log)
    (accepted c n xs k.1 k.2 r.small (omega (arith, r.few))))

pub own_accepted : OwnAccepted
own_accepted s out h = let x = stretch translation translation_steady (desk_of beginning out) s in go x.replies x.chain x.first
  where
    d : Desk Known
    d = (call beginning s out).desk

    go :
        (vs : List (Reply Known)) →
        Chain translation (known beginning) s vs d.state (drop d.place s) →
        Wrote (lent out) d.first (said vs) →
        Takes s (written d.first) d.state
    go [] (e, f) w = absurd (clash h (sym (ap (λ (q : Known). q.headed) e)))
    go (a ∷ vs) (e, c) w =
        let all : written d.first ≡ said (a ∷ vs) =
        ap (λ (n : ℕ). take n d.first.bytes) w.wrote ∙
        ap (take (0 + length (said (a ∷ vs)))) w.bytes ∙
        take_with out 0 (said (a ∷ vs)) (omega arith)
        in
        ⊎_elim
        (λ (y : Stepping (known beginning) s a). absurd (clash y.headed refl))
        (λ (y : Opening (known beginning) s a).
        subst (λ (l : List ℕ). Takes s l d.state) (sym all)
        (opened s (said vs) d.state a y
        (ran (build y.c y.n).table 0 (drop a.used s) d.state (drop d.place s) vs (omega arith)
        (subst (λ (q : Known). Chain translation q (drop a.used s) vs d.state (drop d.place s))
        (ap (λ (z : Reply Known). z.then) y.is) c))))
        (asked_says (known beginning) s a e)

-- Before the header no call is finished

abbrev NotFinished : Reply Known ⊎ Stop → Type 0
NotFinished (inl a) = Unit
NotFinished (inr why) = why ≡ Finished → ⊥

finished_not : (q : Known) (l : HeaderLine) → NotFinished (header_asked q l)
finished_not q (Header c n used) = tt
finished_not q NoHeader = λ e. omega (arith, ap stop_number e)
finished_not q CutHeader = λ e. omega (arith, ap stop_number e)

pub finished_headed : FinishedHeaded
finished_headed s out fin = go d.state.headed refl (stretch translation translation_steady (desk_of beginning out) s).ends
  where
    d : Desk Known
    d = (call beginning s out).desk

    go : (b : Bool) → d.state.headed ≡ b → Halts translation d s (call beginning s out).why → d.state.headed ≡ true
    go true h ends = h
    go false h (inl e) =
        let rest = drop d.place s in
        let q = d.state in
        let same : asked q rest ≡ header_asked q (read_header rest 0) =
        λ i. asked_by q (h i) (leb (length rest) 0) (leb steps_most q.steps) (read_step rest 0) (sound q.table) (read_header rest 0)
        in
        absurd (subst NotFinished (sym same ∙ e) (finished_not q (read_header rest 0)) fin)
    go false h (inr (a, full, is)) = absurd (omega (arith, ap stop_number (sym fin ∙ is)))
