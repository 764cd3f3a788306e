-- Output lines equal step lines read plus the header; the numbers on them are those of the lines read, the grants those of the steps. A
-- line that is read is byte for byte the step as it is written, so each turn takes one step's bytes from the script, and writes that
-- step's line after those before it.
use Prim.Native.Nat.{ℕ, ◌+◌, ◌-◌}
use mathlib.Core.Bool.{true}
use mathlib.Core.List.{List, [], ◌∷◌, ◌++◌, append_assoc}
use mathlib.Core.Logic.{◌⊎◌, inl, inr, ⊎_elim}
use mathlib.Core.Path.{◌≡◌, refl, sym, ◌∙◌, ap, subst}
use native.Mathlib.Omega.{arith}
use lib.ListN.{length, take, drop, take-append-drop}
use lib.Seq.{drop-drop}
use Rattle.ticket.specs.declared.kinds.Ticket.{Ticket}
use Rattle.parts.proofs.Bools.{clash}
use Rattle.parts.specs.Range.{in_range}
use Rattle.block.specs.Over.{over}
use Rattle.parts.specs.declared.answer.Step.{Step}
use Rattle.parts.specs.declared.kinds.Counts.{Counts}
use Rattle.writing.specs.Writing.{step_bytes, script_header}
use Rattle.writing.proofs.AsWritten.{step_read_is_written, header_read_is_written}
use Rattle.stops.specs.declared.run.Stop.{Stop}
use Rattle.walks.specs.Walk.{Reply, Desk, replied, Ended, walked}
use Rattle.walks.proofs.Along.{Goes, Halts, next_line, along, on, stop}
use Rattle.calls.specs.Call.{Known, step_reply, header_reply, translation}
use Rattle.calls.specs.Columns.{script, step_worked, header_worked, Columned}
use Rattle.calls.specs.Claims.{ColumnsWritten, OpeningWritten}
use Rattle.calls.proofs.Asked.{Stepping, Opening, asked_says, translation_steady}

-- the line's bytes come off the bytes that are left
line_off :
    (s line : List ℕ) (at used : ℕ) →
    take (used - 0) (drop 0 (drop at s)) ≡ line →
    drop at s ≡ line ++ drop (at + used) s
line_off s line at used t =
    let z : used ≡ used - 0 = omega arith in
    sym (take-append-drop used (drop at s)) ∙
    ap (λ (n : ℕ). take n (drop at s) ++ drop used (drop at s)) z ∙
    ap (λ (l : List ℕ). l ++ drop used (drop at s)) t ∙
    ap (λ (l : List ℕ). line ++ l) (drop-drop used at s)

-- Steps

none_worked : (d : Desk Known) (s : List ℕ) → Columned s d.place [] d d
unfolding script over
none_worked d s = record { worked = []; read = refl; wrote = refl }

one_worked :
    (d e : Desk Known) (s : List ℕ) (x : Step) →
    drop d.place s ≡ step_bytes x ++ drop (step_worked d x).place s →
    Columned s (step_worked d x).place [] (step_worked d x) e →
    Columned s d.place [] d e
unfolding script over
one_worked d e s x off later =
    record {
      worked = x ∷ later.worked;
      read = off ∙ ap (λ (l : List ℕ). step_bytes x ++ l) later.read ∙ sym (append_assoc (step_bytes x) (script later.worked) _);
      wrote = later.wrote;
    }

stepping_worked :
    (d e : Desk Known) (s : List ℕ) (a : Reply Known) →
    Stepping d.state (drop d.place s) a →
    Columned s (d.place + a.used) [] (replied d a) e →
    Columned s d.place [] d e
stepping_worked d e s a y later =
    let line = step_bytes y.x in
    let k = step_read_is_written (drop d.place s) 0 y.x a.used y.read in
    let long : a.used ≡ length line = omega (arith, k.0.1) in
    let is : a ≡ step_reply d.state y.x (length line) = y.is ∙ ap (step_reply d.state y.x) long in
    one_worked d e s y.x (line_off s line d.place a.used k.0.0 ∙ ap (λ (n : ℕ). line ++ drop (d.place + n) s) long)
    (subst (λ (z : Reply Known). Columned s (d.place + z.used) [] (replied d z) e) is later)

pub columns_written : ColumnsWritten
columns_written d s =
    along translation translation_steady s
    (λ (d : Desk Known) (e : Ended Known Stop). d.state.headed ≡ true → Columned s d.place [] d e.desk)
    (λ (d : Desk Known) (why : Stop) (w : Halts translation d s why) h. none_worked d s)
    (λ (d : Desk Known) (a : Reply Known) (e : Ended Known Stop) (w : Goes translation d s a) later h.
    ⊎_elim
    (λ (y : Stepping d.state (drop d.place s) a).
    stepping_worked d e.desk s a y (later (ap (λ (z : Reply Known). z.then.headed) y.is)))
    (λ (y : Opening d.state (drop d.place s) a). absurd (clash h y.headed))
    (asked_says d.state (drop d.place s) a w.asks))
    d

-- The header

abbrev Opened : Desk Known → List ℕ → Desk Known → Type 0
Opened d s e = (c : Counts) × (n : Ticket) × (in_range c ≡ true) × Columned s d.place (script_header c n) (header_worked d c n) e

opening_worked :
    (d e : Desk Known) (s : List ℕ) (a : Reply Known) →
    Opening d.state (drop d.place s) a →
    Columned s (d.place + a.used) [] (replied d a) e →
    Opened d s e
opening_worked d e s a y later =
    let line = script_header y.c y.n in
    let k = header_read_is_written (drop d.place s) 0 y.c y.n a.used y.read in
    let long : a.used ≡ length line = omega (arith, k.0.1) in
    let is : a ≡ header_reply d.state y.c y.n (length line) = y.is ∙ ap (header_reply d.state y.c y.n) long in
    let rest = subst (λ (z : Reply Known). Columned s (d.place + z.used) [] (replied d z) e) is later in (
      y.c,
      y.n,
      k.1,
      record {
        worked = rest.worked;
        read =
            line_off s line d.place a.used k.0.0 ∙
            ap (λ (n : ℕ). line ++ drop (d.place + n) s) long ∙
            ap (λ (l : List ℕ). line ++ l) rest.read;
        wrote = rest.wrote;
      },
    )

pub opening_written : OpeningWritten
opening_written d s h = go (next_line translation d s)
  where
    Written : Type 0
    Written = ((walked translation d s).desk ≡ d) ⊎ Opened d s (walked translation d s).desk

    answered :
        (a : Reply Known) →
        Goes translation d s a →
        Stepping d.state (drop d.place s) a ⊎ Opening d.state (drop d.place s) a →
        Written
    answered a w (inl y) = absurd (clash y.headed h)
    answered a w (inr y) =
        inr
        (subst (λ (e : Ended Known Stop). Opened d s e.desk) (sym (on translation translation_steady d s a w))
        (opening_worked d _ s a y (columns_written (replied d a) s (ap (λ (z : Reply Known). z.then.headed) y.is))))

    go : ((a : Reply Known) × Goes translation d s a) ⊎ ((why : Stop) × Halts translation d s why) → Written
    go (inl (a, w)) = answered a w (asked_says d.state (drop d.place s) a w.asks)
    go (inr (why, w)) = inl (ap (λ (e : Ended Known Stop). e.desk) (stop translation translation_steady d s why w))
