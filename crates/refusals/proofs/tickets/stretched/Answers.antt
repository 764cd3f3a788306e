use Rattle.std.proofs.Common.{ℕ, ◌≡◌, ◌+◌, ◌<◌, Bool, true, false, ◌&&◌, ◌∙◌, List, get_or, rules, refl, sym, ap, arith}
use borrow.Author.Tests.{le-leb, lt-leb}
use Rattle.ticket.specs.Order.{circle, half, behind, compare, Window}
use Rattle.ticket.specs.declared.kinds.Ticket.{Ticket}
use Rattle.parts.specs.Parts.{idle}
use Rattle.parts.specs.declared.kinds.Core.{Core}
use Rattle.parts.proofs.Folds.{none, at_some}
use Rattle.parts.proofs.Loops.{some_more}
use Rattle.refusals.specs.Judge.{far, live, old, stretched}
use Rattle.refusals.specs.Tickets.{Recent}
use Rattle.refusals.proofs.Far.{far_behind, opposite_half, half_opposite}
use Rattle.refusals.proofs.tickets.stretched.Goals as goal

module _ (m : Ticket) (cs : List Core) (n k : ℕ) (h : k < n) (o : ℕ) (is : o ≡ behind m.0 half) where
  abbrev c : Core
  c = get_or cs k idle

  -- the first that is live and opposite
  found : (l : Bool) → c.own.0 ≡ o → l ≡ live c → l ≡ true → true ≡ stretched m cs n
  found l e lives on =
      let lies : far (compare c.own.0 m.0) ≡ true =
      sym (far_behind m.0 c.own.0) ∙ le-leb half (behind m.0 c.own.0) (omega (arith, opposite_half m.0 c.own.0 o is e))
      in
      sym (at_some (λ (j : ℕ). old m (get_or cs j idle)) n k h (rw (sym lives ∙ on, lies) refl))

  module _ (so : false ≡ stretched m cs k) where
    passed : old m c ≡ false → false ≡ stretched m cs (k + 1)
    passed e = some_more (λ (j : ℕ). old m (get_or cs j idle)) k false false so (sym e)

    -- one that is not live
    idles : (l : Bool) → l ≡ live c → l ≡ false → false ≡ stretched m cs (k + 1)
    idles l lives e = passed (ap (λ (b : Bool). b && far (compare c.own.0 m.0)) (sym lives ∙ e))

    -- one that is not opposite, and if it is live lies closer behind
    closer : (c.own.0 ≡ o → ⊥) → c.own.0 < circle → Recent m cs n → false ≡ stretched m cs (k + 1)
    closer other small recent = passed (go (live c) refl)
      where
        go : (b : Bool) → live c ≡ b → old m c ≡ false
        go false e = ap (λ (b : Bool). b && far (compare c.own.0 m.0)) e
        go true e =
            let w : Window m.0 c.own.0 = recent k h e in
            let off : behind m.0 c.own.0 ≡ half → ⊥ = λ q. other (half_opposite m.0 c.own.0 o is small q) in
            let near : far (compare c.own.0 m.0) ≡ false =
            sym (far_behind m.0 c.own.0) ∙ lt-leb half (behind m.0 c.own.0) (omega (arith, off, w.most))
            in
            rw (e, near) refl

pub loop-k-init : goal.loop-k-init
loop-k-init c = search (none, rules)

pub returns-then-is_live : goal.returns-then-is_live
returns-then-is_live c = search (found, rules)

pub loop-k-preserved : goal.loop-k-preserved
loop-k-preserved c = search (closer, idles, rules)
