-- The replies of a call after its header: each is the answer to one step line, and has no more bytes than the longest expected line. So no
-- call writes more than so much for each step line, and so much room is enough.
use Prim.Native.Nat.{ℕ, zero, suc, ◌+◌, ◌*◌, ◌-◌, ◌≤◌}
use mathlib.Core.Bool.{Bool, true, false, cond}
use mathlib.Core.List.{List, [], ◌∷◌}
use mathlib.Core.Logic.{inl, inr, ⊎_elim, ◌≢◌}
use mathlib.Core.Path.{◌≡◌, refl, sym, ◌∙◌, ap, subst}
use native.Mathlib.Omega.{arith}
use lib.Dec.{ltb}
use lib.ListN.{length, drop, length-append, length-drop}
use borrow.Author.Tests.{leb-false}
use Rattle.ticket.specs.declared.kinds.Ticket.{Ticket}
use Rattle.parts.proofs.Bools.{clash}
use Rattle.parts.specs.Range.{in_range}
use Rattle.parts.specs.declared.answer.Step.{Step}
use Rattle.parts.specs.declared.kinds.Counts.{Counts}
use Rattle.building.specs.Build.{build}
use Rattle.numbers.specs.Number.{number_most}
use Rattle.lines.specs.Bytes.{line_most, output_letter}
use Rattle.lines.specs.Reading.{read_step}
use Rattle.lines.specs.StepLine.{StepLine, Line, Finished, Malformed, Unfinished}
use Rattle.headers.specs.Header.{read_header}
use Rattle.headers.specs.HeaderLine.{Header}
use Rattle.digits.specs.Text.{pasted}
use Rattle.digits.specs.Room.{fits}
use Rattle.expected.specs.Expected.{expected_most}
use Rattle.writing.specs.Writing.{output_header}
use Rattle.writing.proofs.AsWritten.{header_read_is_written}
use Rattle.writing.proofs.Lengths.{header_most}
use Rattle.stops.specs.Run.{steps_most, beginning}
use Rattle.stops.specs.declared.run.Run.{Run}
use Rattle.stops.specs.declared.run.Stop.{Stop}
use Rattle.stops.specs.declared.run.Stop.TheVariants.{NoRoom}
use Rattle.walks.specs.Walk.{Reply, Ended, halted}
use Rattle.walks.proofs.Pasting.{fits_says, pasted_length}
use Rattle.walks.proofs.Chains.{said, also, Chain, stretch, room_enough, runs_out}
use Rattle.calls.specs.Call.{Known, translation, known, desk_of, call}
use Rattle.calls.specs.Placed.{run_at, opening}
use Rattle.calls.proofs.Asked.{Stepping, Opening, asked_says, translation_steady}
use Rattle.calls.proofs.Within.{read_within}
use Rattle.calls.proofs.Placed.{on, stop}
use Rattle.room.specs.Room.{workable, step_lines_in, step_lines}
use Rattle.room.specs.Claims.{Held, RoomWhole, RoomOnward}
use Rattle.room.proofs.Lines.{line_most_lem, held_step, held_built}

-- one step line, and those after it
pub one_line :
    (f : ℕ) (s : List ℕ) (x : Step) (used : ℕ) → read_step s 0 ≡ Line x used → step_lines_in (suc f) s ≡ suc (step_lines_in f (drop used s))
unfolding step_lines_in
one_line f s x used e =
    ap
    (λ (l : StepLine). elim l [ Line y next ↦ suc (step_lines_in f (drop next s)) | Finished ↦ 0 | Malformed ↦ 0 | Unfinished ↦ 0 ])
    e

-- what is counted along a chain of replies: their bytes, the step lines, and the steps that are left to work
record Few (q : Known) (s : List ℕ) (f : ℕ) (vs : List (Reply Known)) : Type 0 where
  bytes : length (said vs) ≤ expected_most * length vs
  none : length (also vs) ≡ 0
  lines : length vs ≤ step_lines_in f s
  steps : length vs ≤ steps_most - q.steps

chain_few :
    (q : Known) (s : List ℕ) (p : Known) (t : List ℕ) (vs : List (Reply Known)) (f : ℕ) →
    q.headed ≡ true →
    Held q.table →
    length s ≤ f →
    Chain translation q s vs p t →
    Few q s f vs
chain_few q s p t [] f h held long c = record { bytes = omega arith; none = refl; lines = omega arith; steps = omega arith }
chain_few q s p t (a ∷ vs) f h held long (e, c) =
    ⊎_elim
    (λ (w : Stepping q s a). stepped f long w (λ f g k l. chain_few a.then (drop a.used s) p t vs f g k l c))
    (λ (w : Opening q s a). absurd (clash h w.headed))
    (asked_says q s a e)
  where
    stepped :
        (f : ℕ) →
        length s ≤ f →
        Stepping q s a →
        ((f : ℕ) → a.then.headed ≡ true → Held a.then.table → length (drop a.used s) ≤ f → Few a.then (drop a.used s) f vs) →
        Few q s f (a ∷ vs)
    stepped zero low w further = let k = read_within s 0 w.x a.used w.read in absurd (omega (arith, k.0, k.1))
    stepped (suc f) low w further =
        let x = w.x in
        let early = leb-false steps_most q.steps w.few in
        let k = read_within s 0 x a.used w.read in
        let l = length-drop a.used s in
        let line = line_most_lem q.table x (q.steps + 1) held w.sound (omega arith) in
        let long_said = ap (λ (z : Reply Known). length z.said) w.is in
        let then = ap (λ (z : Reply Known). z.then) w.is in
        let later =
        further f (ap (λ (z : Known). z.headed) then)
        (subst (λ (z : Known). Held z.table) (sym then) (held_step q.table x held w.sound)) (omega (arith, k.0, k.1))
        in
        let next_steps = ap (λ (z : Known). z.steps) then in
        let m = length-append a.said (said vs) in
        let n = length-append a.also (also vs) in
        let no_more = ap (λ (z : Reply Known). length z.also) w.is in
        let count = one_line f s x a.used w.read in
        record {
          bytes = omega (arith, later.bytes);
          none = omega (arith, later.none);
          lines = omega (arith, later.lines);
          steps = omega (arith, later.steps);
        }

-- A call after its header

module _ (r : Run) (s out : List ℕ) (h : r.headed ≡ true) (held : Held r.table) where
  abbrev left : List ℕ
  left = drop r.place s

  few : (p : Known) (t : List ℕ) (vs : List (Reply Known)) → Chain translation (known r) left vs p t → Few (known r) left (length left) vs
  few p t vs c = chain_few (known r) left p t vs (length left) h held (omega arith) c

  -- n is no less than the lines that the call can answer
  module _ (n : ℕ) (enough : (p : Known) (t : List ℕ) (vs : List (Reply Known)) → Chain translation (known r) left vs p t → length vs ≤ n) where
    writes_most : (call r s out).desk.first.wrote ≤ r.wrote + expected_most * n
    writes_most =
        let x = stretch translation translation_steady (desk_of r out) s in
        let k = few _ _ x.replies x.chain in
        omega (arith, x.first.wrote, k.bytes, enough _ _ x.replies x.chain)

    room_is_enough : r.wrote + expected_most * n ≤ length out → (call r s out).why ≢ NoRoom
    room_is_enough room =
        let x = runs_out translation translation_steady (suc (length left)) (known r) left (omega arith) in
        let k = few x.last x.left x.replies x.chain in
        room_enough translation translation_steady (desk_of r out) s x.last x.left x.replies x.why x.chain x.end
        (omega (arith, k.bytes, enough x.last x.left x.replies x.chain))
        (omega (arith, k.none))

pub room_onward : RoomOnward
room_onward r s out h held =
    let n = step_lines (drop r.place s) in
    let enough : (p : Known) (t : List ℕ) (vs : List (Reply Known)) → Chain translation (known r) (drop r.place s) vs p t → length vs ≤ n =
    λ p t vs c. (few r s out h held p t vs c).lines
    in
    (writes_most r s out h held n enough, room_is_enough r s out h held n enough)

-- A call from the beginning

-- no more than the lines, and no more than can be worked
fewer : (a k : ℕ) → k ≤ a → k ≤ steps_most → k ≤ workable a
fewer a k h l = go (ltb a steps_most)
  where
    go : (b : Bool) → k ≤ cond b a steps_most
    go true = h
    go false = l

module _ (s out : List ℕ) (c : Counts) (n : Ticket) (next : ℕ) (read : read_header s 0 ≡ Header c n next) where
  abbrev pub first : List ℕ
  first = output_header c n

  ranged : in_range c ≡ true
  ranged = (header_read_is_written s 0 c n next read).1

  small : n.0 ≤ number_most
  small = (header_read_is_written s 0 c n next read).2

  first_most : length first ≤ line_most
  first_most = header_most (output_letter c.profile) c n ranged small

  -- the run after the header's line, and its output
  abbrev pub opened : Run
  opened = run_at next (0 + length first) (build c n).table 0

  held : Held opened.table
  held = held_built c n (omega (arith, small))

  abbrev most : ℕ
  most = workable (step_lines (drop next s))

  enough : (p : Known) (t : List ℕ) (vs : List (Reply Known)) → Chain translation (known opened) (drop next s) vs p t → length vs ≤ most
  enough p t vs k =
      let w = few opened s (pasted out 0 first) refl held p t vs k in
      fewer (step_lines (drop next s)) (length vs) w.lines (omega (arith, w.steps))

  -- where the header's line fits, the call goes on from there; else it stops
  pub goes : fits out 0 first ≡ true → call beginning s out ≡ call opened s (pasted out 0 first)
  goes f =
      on beginning out opened s (pasted out 0 first)
      (ap (opening beginning out) read ∙ ap (λ (b : Bool). cond b (inl (desk_of opened (pasted out 0 first))) (inr NoRoom)) f)

  pub stops : fits out 0 first ≡ false → call beginning s out ≡ halted (desk_of beginning out) NoRoom
  stops f =
      stop beginning out s NoRoom
      (ap (opening beginning out) read ∙ ap (λ (b : Bool). cond b (inl (desk_of opened (pasted out 0 first))) (inr NoRoom)) f)

  by_room :
      (b : Bool) →
      fits out 0 first ≡ b →
      ((call beginning s out).desk.first.wrote ≤ line_most + expected_most * most)
      × (line_most + expected_most * most ≤ length out → (call beginning s out).why ≢ NoRoom)
  by_room true f =
      let z = goes f in
      let o = fits_says out 0 first f in
      let l = pasted_length out 0 first (omega arith) o in
      let w = writes_most opened s (pasted out 0 first) refl held most enough in (
        subst (λ (e : Ended Known Stop). e.desk.first.wrote ≤ line_most + expected_most * most) (sym z) (omega (arith, w, first_most)),
        λ room. subst (λ (e : Ended Known Stop). e.why ≢ NoRoom) (sym z)
            (room_is_enough opened s (pasted out 0 first) refl held most enough (omega (arith, first_most))),
      )
  by_room false f =
      let z = stops f in
      let short = leb-false (0 + length first) (length out) f in (
        subst (λ (e : Ended Known Stop). e.desk.first.wrote ≤ line_most + expected_most * most) (sym z) (omega arith),
        λ room. absurd (omega (arith, first_most)),
      )

pub room_whole : RoomWhole
room_whole s out c n next read =
    let w = by_room s out c n next read (fits out 0 (output_header c n)) refl in
    (omega (arith, w.0), λ room. w.1 (omega arith))
