-- The steps that a call worked are the step lines of its script, or as many as can be worked: a call that stops for another reason than room
-- stands at the first line that is no step line, or has worked them all.
use Prim.Native.Nat.{ℕ, zero, suc, ◌+◌, ◌≤◌}
use mathlib.Core.Bool.{Bool, true, false}
use mathlib.Core.List.{List, [], ◌∷◌}
use mathlib.Core.Logic.{◌⊎◌, inl, inr, ⊎_elim, ◌≢◌}
use mathlib.Core.Path.{◌≡◌, refl, sym, ◌∙◌, ap, subst}
use native.Mathlib.Omega.{arith}
use lib.Dec.{leb}
use lib.ListN.{length, drop, length-drop}
use borrow.Author.Tests.{leb-true, le-ltb}
use Rattle.parts.proofs.Bools.{clash}
use Rattle.ticket.specs.declared.kinds.Ticket.{Ticket}
use Rattle.parts.specs.declared.kinds.Counts.{Counts}
use Rattle.block.specs.Sound.{sound}
use Rattle.block.specs.Table.{Shaped}
use Rattle.lines.specs.Reading.{read_step}
use Rattle.lines.specs.StepLine.{StepLine, Line, Finished as Nothing, Malformed as NoStep, Unfinished as Cut}
use Rattle.headers.specs.Header.{read_header}
use Rattle.headers.specs.HeaderLine.{Header}
use Rattle.digits.specs.Text.{pasted}
use Rattle.digits.specs.Room.{fits}
use Rattle.laws.proofs.Claims.{keeps_sound}
use Rattle.laws.proofs.Keeping.{built_sound}
use Rattle.stops.specs.Run.{steps_most, beginning}
use Rattle.stops.specs.declared.run.Stop.{Stop}
use Rattle.stops.specs.declared.run.Stop.TheVariants.{NoRoom}
use Rattle.walks.specs.Walk.{Reply, Ended}
use Rattle.walks.proofs.Along.{Halts}
use Rattle.walks.proofs.Chains.{Chain, stretch}
use Rattle.calls.specs.Call.{Known, asked, translation, known, desk_of, call}
use Rattle.calls.proofs.Asked.{asked_by, Stepping, Opening, asked_says, translation_steady}
use Rattle.calls.proofs.Within.{read_within}
use Rattle.room.specs.Room.{workable, room_for, step_lines_in, step_lines}
use Rattle.room.specs.Claims.{RoomBySteps}
use Rattle.room.proofs.Chains.{one_line, first, opened, goes, stops}

-- along a chain: as many steps, and as many step lines, as there are replies
record Along (q : Known) (s : List ℕ) (f : ℕ) (p : Known) (t : List ℕ) (vs : List (Reply Known)) : Type 0 where
  headed : p.headed ≡ true
  sound : sound p.table ≡ true
  steps : p.steps ≡ q.steps + length vs
  fuel : ℕ
  lines : step_lines_in f s ≡ length vs + step_lines_in fuel t

chain_along :
    (q : Known) (s : List ℕ) (p : Known) (t : List ℕ) (vs : List (Reply Known)) (f : ℕ) →
    q.headed ≡ true →
    sound q.table ≡ true →
    Shaped q.table →
    length s ≤ f →
    Chain translation q s vs p t →
    Along q s f p t vs
chain_along q s p t [] f h ok shaped long (e, g) =
    record {
      headed = sym (ap (λ (z : Known). z.headed) e) ∙ h;
      sound = sym (ap (λ (z : Known). sound z.table) e) ∙ ok;
      steps = omega (arith, ap (λ (z : Known). z.steps) e);
      fuel = f;
      lines = omega (arith, ap (step_lines_in f) g);
    }
chain_along q s p t (a ∷ vs) f h ok shaped long (e, c) =
    ⊎_elim
    (λ (w : Stepping q s a). stepped f long w (λ f g k l m. chain_along a.then (drop a.used s) p t vs f g k l m c))
    (λ (w : Opening q s a). absurd (clash h w.headed))
    (asked_says q s a e)
  where
    stepped :
        (f : ℕ) →
        length s ≤ f →
        Stepping q s a →
        ((f : ℕ) →
        a.then.headed ≡ true →
        sound a.then.table ≡ true →
        Shaped a.then.table →
        length (drop a.used s) ≤ f →
        Along a.then (drop a.used s) f p t vs) →
        Along q s f p t (a ∷ vs)
    stepped zero low w further = let k = read_within s 0 w.x a.used w.read in absurd (omega (arith, k.0, k.1))
    stepped (suc f) low w further =
        let k = read_within s 0 w.x a.used w.read in
        let l = length-drop a.used s in
        let then = ap (λ (z : Reply Known). z.then) w.is in
        let kept = keeps_sound q.table w.x shaped w.sound in
        let later =
        further f (ap (λ (z : Known). z.headed) then) (ap (λ (z : Known). sound z.table) then ∙ kept.0)
        (subst (λ (z : Known). Shaped z.table) (sym then) kept.1) (omega (arith, k.0, k.1))
        in
        let one = ap (λ (z : Known). z.steps) then in
        record {
          headed = later.headed;
          sound = later.sound;
          steps = omega (arith, later.steps);
          fuel = later.fuel;
          lines = omega (arith, later.lines, one_line f s w.x a.used w.read);
        }

-- where no step line is read there is none
abbrev IsNone : StepLine → Type 0
IsNone (Line x next) = ⊥
IsNone Nothing = Unit
IsNone NoStep = Unit
IsNone Cut = Unit

none_left : (g : ℕ) (t : List ℕ) (l : StepLine) → read_step t 0 ≡ l → IsNone l → step_lines_in g t ≡ 0
unfolding step_lines_in
none_left zero t l e n = refl
none_left (suc g) t (Line x next) e n = absurd n
none_left (suc g) t Nothing e n = ap (λ (l : StepLine). elim l [ Line x next ↦ suc (step_lines_in g (drop next t)) | Nothing ↦ 0 | NoStep ↦ 0 | Cut ↦ 0 ]) e
none_left (suc g) t NoStep e n = ap (λ (l : StepLine). elim l [ Line x next ↦ suc (step_lines_in g (drop next t)) | Nothing ↦ 0 | NoStep ↦ 0 | Cut ↦ 0 ]) e
none_left (suc g) t Cut e n = ap (λ (l : StepLine). elim l [ Line x next ↦ suc (step_lines_in g (drop next t)) | Nothing ↦ 0 | NoStep ↦ 0 | Cut ↦ 0 ]) e

abbrev IsStop : Reply Known ⊎ Stop → Type 0
IsStop (inl a) = ⊥
IsStop (inr why) = Unit

-- so it is where a call stops, or all steps are worked
at_stop :
    (q : Known) (t : List ℕ) (g : ℕ) →
    q.headed ≡ true →
    sound q.table ≡ true →
    IsStop (asked q t) →
    (step_lines_in g t ≡ 0) ⊎ (steps_most ≤ q.steps)
at_stop q t g h ok halts = go (leb (length t) 0) (leb steps_most q.steps) (read_step t 0) refl refl refl (subst IsStop same halts)
  where
    same :
        asked q t
        ≡ asked_by q true (leb (length t) 0) (leb steps_most q.steps) (read_step t 0) true (read_header t 0)
    same = λ i. asked_by q (h i) (leb (length t) 0) (leb steps_most q.steps) (read_step t 0) (ok i) (read_header t 0)

    go :
        (past many : Bool) (l : StepLine) →
        leb (length t) 0 ≡ past →
        leb steps_most q.steps ≡ many →
        read_step t 0 ≡ l →
        IsStop (asked_by q true past many l true (read_header t 0)) →
        (step_lines_in g t ≡ 0) ⊎ (steps_most ≤ q.steps)
    go true many l a b e k = inl (none_left g t Nothing (rw a) tt)
    go false true l a b e k = inr (leb-true steps_most q.steps b)
    go false false (Line x next) a b e k = absurd k
    go false false Nothing a b e k = inl (none_left g t Nothing e tt)
    go false false NoStep a b e k = inl (none_left g t NoStep e tt)
    go false false Cut a b e k = inl (none_left g t Cut e tt)

-- more than can be worked is as good as all that can be
all_worked : (n : ℕ) → steps_most ≤ n → workable n ≡ steps_most
all_worked n h = rw (le-ltb n steps_most h)

same_room : (steps lines : ℕ) → (steps ≡ lines) ⊎ ((steps_most ≤ steps) × (steps_most ≤ lines)) → room_for steps ≡ room_for lines
same_room steps lines (inl e) = ap room_for e
same_room steps lines (inr (h, l)) = rw (all_worked steps h, all_worked lines l)

module _ (s out : List ℕ) (c : Counts) (n : Ticket) (next : ℕ) (read : read_header s 0 ≡ Header c n next) where
  -- after the header's line
  counted :
      (o : List ℕ) →
      let e = call (opened s out c n next read) s o in
      e.why ≢ NoRoom →
      room_for e.desk.state.steps ≡ room_for (step_lines (drop next s))
  counted o other =
      let r = opened s out c n next read in
      let x = stretch translation translation_steady (desk_of r o) s in
      let built = built_sound c n in
      let k = chain_along (known r) (drop next s) _ _ x.replies (length (drop next s)) refl built.0 built.1 (omega arith) x.chain in
      let e = call r s o in
      let lines = step_lines (drop next s) in
      same_room e.desk.state.steps lines
      (⊎_elim
      (λ (none : step_lines_in k.fuel (drop e.desk.place s) ≡ 0). inl (omega (arith, k.steps, k.lines)))
      (λ (all : steps_most ≤ e.desk.state.steps). inr (all, omega (arith, k.steps, k.lines)))
      (at_stop e.desk.state (drop e.desk.place s) k.fuel k.headed k.sound (halting x.ends)))
    where
      halting :
          Halts translation (call (opened s out c n next read) s o).desk s (call (opened s out c n next read) s o).why →
          IsStop (asked (call (opened s out c n next read) s o).desk.state (drop (call (opened s out c n next read) s o).desk.place s))
      halting (inl e) = subst IsStop (sym e) tt
      halting (inr (a, w, is)) = absurd (other is)

  by_fit : (b : Bool) → fits out 0 (first s out c n next read) ≡ b → (call beginning s out).why ≢ NoRoom → room_for (call beginning s out).desk.state.steps ≡ room_for (step_lines (drop next s))
  by_fit true f other =
      let z = goes s out c n next read f in
      let o = pasted out 0 (first s out c n next read) in
      ap (λ (e : Ended Known Stop). room_for e.desk.state.steps) z ∙
      counted o (subst (λ (e : Ended Known Stop). e.why ≢ NoRoom) z other)
  by_fit false f other = absurd (other (ap (λ (e : Ended Known Stop). e.why) (stops s out c n next read f)))

pub room_by_steps : RoomBySteps
room_by_steps s out c n next read = by_fit s out c n next read (fits out 0 (first s out c n next read)) refl
