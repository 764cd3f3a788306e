-- Two digits and two more.
use Prim.Native.Nat.{ℕ, ◌-◌, ◌*◌, ◌/◌, ◌%◌}
use mathlib.Core.List.{List}
use mathlib.Core.Path.{◌≡◌}
use native.Mathlib.Omega.{arith}
use Rattle.digits.specs.Text.{two, four, Puts}
use Rattle.digits.proofs.Pasting.{then}
use Rattle.digits.proofs.text.put_four.Goals as goal

both :
    (o m e : List ℕ) (at p q n : ℕ) →
    Puts o m at p (two (n / 100)) →
    Puts m e p q (two (n - 100 * (n / 100))) →
    Puts o e at q (four n)
both o m e at p q n a b = let z : n % 100 ≡ n - 100 * (n / 100) = omega arith in rw z (then a b)

pub returns : goal.returns
returns c = search both
