use borrow.Author.Rules.{rules}
use borrow.Author.Tests.{eq-eqb, ne_eqb}
use Prim.Native.Nat.{ℕ, ◌≤◌, ◌<◌}
use mathlib.Core.Bool.{Bool, true, false, not}
use mathlib.Core.List.{List}
use mathlib.Core.Path.{◌≡◌, sym, ◌∙◌, ap}
use native.Mathlib.Omega.{arith}
use lib.Dec.{eqb}
use lib.ListN.{get_or, length, take}
use Rattle.std.proofs.Common.{MatchBool, tests}
use Rattle.std.specs.List.{HoldsAt, AllWithin}
use Rattle.std.proofs.lemmas.Iterator.{cases_from_any, YieldsList-from_slice}
use Rattle.std.proofs.lemmas.List.{get_or-take, length-take-le}
use Rattle.parts.specs.Parts.{blank, register_in}
use Rattle.parts.specs.declared.kinds.LockUnit.{LockUnit}
use Rattle.parts.specs.declared.kinds.Register.{Register}
use Rattle.parts.proofs.Folds.{count_some, none_count}
use Rattle.settling.specs.Line.{flags}
use Rattle.settling.proofs.next.free.Goals as goal

abbrev Flagged : Bool → Register → Type 0
Flagged b r = r.flag ≡ b

module _ (x : LockUnit) (n : ℕ) (fits : n ≤ length x.registers) where
  abbrev few : List Register
  few = take n x.registers

  read : (k : ℕ) → k < n → get_or few k blank ≡ register_in x k
  read k h = get_or-take n x.registers k blank h

  long : length few ≡ n
  long = length-take-le n x.registers fits

  free_is :
      (r : Bool) → MatchBool r ((k : ℕ) × (k < length few) × HoldsAt (Flagged true) few k) (AllWithin (Flagged false) few 0 (length few)) →
      not r ≡ eqb (flags n x) 0
  free_is true h =
      let below : h.0 < n = omega (arith, long, h.1) in
      let set = sym (ap (λ (r : Register). r.flag) (read h.0 below)) ∙ h.2 blank in
      sym (ne_eqb (flags n x) 0 (λ z. let l = count_some (λ (i : ℕ). (register_in x i).flag) n h.0 below set in omega arith))
  free_is false h =
      sym (eq-eqb (flags n x) 0
      (none_count (λ (i : ℕ). (register_in x i).flag) n
      (λ k l. sym (ap (λ (r : Register). r.flag) (read k l)) ∙ h k blank (omega arith) (omega (arith, long)))))

pub returns : goal.returns
returns c =
    let whole : length c.args.x.registers ≡ 32 = search rules in
    free_is c.args.x c.args.n (omega arith) c.any.result
    (cases_from_any _ _ _ (Flagged true) (Flagged false) c.any.ensures.ran
    (YieldsList-from_slice (take c.args.n c.args.x.registers) (c.iter.ensures.rest ∙ ap (λ (m : ℕ). take m c.args.x.registers) c.from.ensures))
    (λ r q k. search (rules, tests))
    (λ r q k. search (rules, tests)))
