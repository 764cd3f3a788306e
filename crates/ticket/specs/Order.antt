-- "The comparison shall answer one of four: older, younger, same, or opposite (exactly 32,768 apart), each under its exact arithmetic
-- condition." "After 65,535 comes 0."
use Rattle.std.specs.Prelude.{ℕ, ◌+◌, ◌-◌, ◌%◌, ◌≤◌, cond, ◌==◌, nat_lt}
use Rattle.ticket.specs.declared.order.Comparison.{Comparison}
use Rattle.ticket.specs.declared.order.Comparison.TheVariants.{Older, Younger, Same, Opposite}

-- how many tickets there are, and half of them
abbrev pub circle : ℕ
circle = 65536

abbrev pub half : ℕ
half = 32768

-- (a − b) mod 65,536: how far b lies behind a on the circle
unfoldable pub behind : ℕ → ℕ → ℕ
behind a b = (a + (circle - b % circle)) % circle

-- what a is, seen from b, by their difference: 0; 32,768; above 32,768; from 1 to 32,767
unfoldable pub compare : ℕ → ℕ → Comparison
compare a b =
    let d = behind a b in
    cond (d == 0) Same
    (cond (d == half) Opposite
    (cond (nat_lt half d) Older
    Younger))

-- the counter's step
unfoldable pub after : ℕ → ℕ
after t = (t + 1) % circle

-- "each lies 1 to 32,768 behind the counter": t is within the half circle behind the counter n
pub record Window (n t : ℕ) : Type 0 where
  pub least : 1 ≤ behind n t
  pub most : behind n t ≤ half
