-- How many grants there are is one digit.
use Prim.Native.Nat.{ℕ, ◌+◌, ◌≤◌}
use mathlib.Core.List.{◌++◌}
use mathlib.Core.Path.{◌≡◌}
use native.Mathlib.Omega.{arith}
use lib.ListN.{length, length-append}
use Rattle.ticket.specs.declared.kinds.Grant.{Grant}
use Rattle.parts.specs.declared.answer.Grants.TheVariants.{None, One, Two}
use Rattle.parts.specs.declared.answer.Grants.{Grants}
use Rattle.digits.specs.Text.{tabbed}
use Rattle.expected.specs.Expected.{grant_bytes, grants_bytes}
use Rattle.digits.proofs.Parts.{one_length}
use Rattle.expected.proofs.writer.grants_width.Goals as goal

module _ (g : Grants) where
  none : g ≡ None → (2 ≡ length (grants_bytes g)) × (2 ≤ 26)
  none e = rw e (omega (arith, one_length 0 (omega arith)), omega arith)

  one : (x : Grant) (w : ℕ) → g ≡ One x → (w ≡ length (grant_bytes x)) × (w ≤ 12) → (w + 2 ≡ length (grants_bytes g)) × (w + 2 ≤ 26)
  one x w e a =
      let n = length-append (tabbed 1) (grant_bytes x) in
      rw e (omega (arith, n, one_length 1 (omega arith), a.0), omega (arith, a.1))

  two :
      (x y : Grant) (w v : ℕ) →
      g ≡ Two x y →
      (w ≡ length (grant_bytes x)) × (w ≤ 12) →
      (v ≡ length (grant_bytes y)) × (v ≤ 12) →
      (w + v + 2 ≡ length (grants_bytes g)) × (w + v + 2 ≤ 26)
  two x y w v e a b =
      let n = length-append (tabbed 2) (grant_bytes x ++ grant_bytes y) in
      let m = length-append (grant_bytes x) (grant_bytes y) in
      rw e (omega (arith, n, m, one_length 2 (omega arith), a.0, b.0), omega (arith, a.1, b.1))

pub returns-in-None : goal.returns-in-None
returns-in-None c = search none

pub returns-in-One : goal.returns-in-One
returns-in-One c = one c.args.g _ _ c.in-One.is c.grant_width.ensures

pub returns-in-Two : goal.returns-in-Two
returns-in-Two c = two c.args.g _ _ _ _ c.in-Two.is c.grant_width-in-Two.ensures c.grant_width-in-Two-2.ensures
