use borrow.Author.Rules.{rules}
use Prim.Native.Nat.{ℕ, ◌+◌, ◌≤◌, ◌<◌}
use mathlib.Core.Bool.{Bool, true, false}
use mathlib.Core.List.{List}
use mathlib.Core.Path.{◌≡◌, refl, sym, ◌∙◌, ap}
use native.Mathlib.Nat.{le_antisymm}
use native.Mathlib.Omega.{arith}
use lib.ListN.{length, set}
use Rattle.parts.specs.Fold.{up_to, some}
use Rattle.parts.specs.Parts.{cores, register_in}
use Rattle.parts.specs.declared.kinds.LockUnit.{LockUnit}
use Rattle.settling.specs.Line.{in_line, next}
use Rattle.settling.specs.Pairs.{Line, lined, overtakes, met, kept}
use Rattle.settling.specs.Best.{Best, Nobody}
use Rattle.settling.proofs.Beaten.{picks}
use Rattle.settling.proofs.Lining.{lined_is, lined_more}
use Rattle.settling.proofs.Marking.{Marked, marked_none, marked_on, marked_by, picked}
use Rattle.settling.proofs.line.next_of.Goals as goal
use Rattle.settling.proofs.line.next_of.Goals.{then-in_line, else-in_line}

abbrev line : ℕ → List ℕ → List ℕ → Line
line c who tickets = record { count = c; who = who; tickets = tickets }

marks_long : (x : LockUnit) (j : ℕ) (l : List Bool) → Marked x j l → cores ≡ length l
marks_long x j l so = sym so.whole

marks_enough : (x : LockUnit) (m j c : ℕ) (l : List Bool) → m ≤ cores → j ≤ m → c ≤ j → Marked x j l → c ≤ length l
marks_enough x m j c l few h low so = omega (arith, so.whole)

module _ (x : LockUnit) (m j c : ℕ) (who tickets : List ℕ) (few : m ≤ cores) (h : j ≤ m) (lines : line c who tickets ≡ lined j x) where
  who_long : cores ≡ length who
  who_long = sym (ap (λ (w : Line). length w.who) lines ∙ (lined_is x j (omega arith)).long)

  tickets_long : cores ≡ length tickets
  tickets_long = sym (ap (λ (w : Line). length w.tickets) lines ∙ (lined_is x j (omega arith)).wide)

  who_enough : c ≤ j → c ≤ length who
  who_enough low = omega (arith, who_long)

  tickets_enough : c ≤ j → c ≤ length tickets
  tickets_enough low = omega (arith, tickets_long)

  -- after the turn of core j, which reads the register at i, by whether it stands in line
  module _ (i : ℕ) (here : i ≡ j) (b : Bool) (read : b ≡ in_line (register_in x i)) where
    says : b ≡ in_line (register_in x j)
    says = read ∙ ap (λ (k : ℕ). in_line (register_in x k)) here

    ticket_here : (register_in x i).ticket.0 ≡ (register_in x j).ticket.0
    ticket_here = ap (λ (k : ℕ). (register_in x k).ticket.0) here

    joins :
        (who' tickets' : List ℕ) (c' : ℕ) →
        b ≡ true →
        who' ≡ set who c j →
        tickets' ≡ set tickets c (register_in x i).ticket.0 →
        c' ≡ c + 1 →
        line c' who' tickets' ≡ lined (j + 1) x
    joins who' tickets' c' e p q r =
        lined_more x j (line c who tickets) (line c' who' tickets') lines (simp (p, q ∙ ap (set tickets c) ticket_here, r, sym says ∙ e))

    passes :
        (who' tickets' : List ℕ) (c' : ℕ) →
        b ≡ false →
        who' ≡ who →
        tickets' ≡ tickets →
        c' ≡ c →
        line c' who' tickets' ≡ lined (j + 1) x
    passes who' tickets' c' e p q r = lined_more x j (line c who tickets) (line c' who' tickets') lines (simp (p, q, r, sym says ∙ e))

    module _ (l : List Bool) (so : Marked x j l) (less : j < m) where
      judges :
          (last : Bool) (l1 l2 : List Bool) →
          c ≤ j →
          b ≡ true →
          last ≡ some (overtakes tickets (register_in x i).ticket.0) c →
          l1 ≡ up_to (met tickets (register_in x i).ticket.0) c l →
          l2 ≡ set l1 c last →
          Marked x (j + 1) l2
      judges last l1 l2 low e el e1 e2 =
          marked_on x j c who tickets l (omega arith) lines so (sym says ∙ e) last l1 l2
          (el ∙ ap (λ (t : ℕ). some (overtakes tickets t) c) ticket_here)
          (e1 ∙ ap (λ (t : ℕ). up_to (met tickets t) c l) ticket_here)
          e2
          (omega arith)

      stays : (l2 : List Bool) → b ≡ false → l2 ≡ l → Marked x (j + 1) l2
      stays l2 e is = marked_by x j c who tickets l (omega arith) lines so l2 (sym says ∙ e) is

  ends : (l : List Bool) (r : Best) → Marked x j l → m ≤ j → r ≡ up_to (kept who tickets l) c Nobody → r ≡ next m x
  ends l r so high is =
      is ∙ picked x j c who tickets l (omega arith) lines so ∙ picks j x (omega arith) ∙ ap (λ (k : ℕ). next k x) (le_antisymm h high)

pub loop-j-init : goal.loop-j-init
unfolding up_to
loop-j-init c = (search rules, search rules, refl, marked_none c.args.x)

pub loop-j-preserved : goal.loop-j-preserved
loop-j-preserved c =
    let a = c.args in
    let p = c.loop-j in
    let says = c.in_line.ensures in
    let here = c.from.ensures in
    let h = c.loop-j-test.true in
    let far = p.auto.j-end in
    elim c.if-in_line.branch [
      | then-in_line w ↦ (
        p.invariant.0,
        search rules,
        joins a.x a.n p.j p.c p.who p.line p.invariant.0 far p.invariant.2 _ here _ says _ _ _ w.if-in_line.true w.who-is w.line-is w.c-is,
        judges a.x a.n p.j p.c p.who p.line p.invariant.0 far p.invariant.2 _ here _ says p.lost p.invariant.3 h _ _ _ p.invariant.1 w.if-in_line.true
            w.column.ensures.0 w.column.ensures.1 w.lost-is,
      )
      | else-in_line w ↦ (
        p.invariant.0,
        search rules,
        passes a.x a.n p.j p.c p.who p.line p.invariant.0 far p.invariant.2 _ here _ says _ _ _ w.if-in_line.false w.who-is w.line-is w.c-is,
        stays a.x a.n p.j p.c p.who p.line p.invariant.0 far p.invariant.2 _ here _ says p.lost p.invariant.3 h _ w.if-in_line.false w.lost-is,
      )
    ]

pub returns : goal.returns
returns c = search (ends, rules)
