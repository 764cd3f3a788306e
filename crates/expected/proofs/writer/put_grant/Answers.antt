-- The unit, then the core.
use Prim.Native.Nat.{ℕ}
use mathlib.Core.List.{List}
use Rattle.ticket.specs.declared.kinds.Grant.{Grant}
use Rattle.digits.specs.Text.{tabbed, Puts}
use Rattle.expected.specs.Expected.{grant_bytes}
use Rattle.digits.proofs.Pasting.{then}
use Rattle.expected.proofs.writer.put_grant.Goals as goal

-- two numbers fit in either order: their bytes are as many
both :
    (o m e : List ℕ) (at p q : ℕ) (g : Grant) →
    Puts o m at p (tabbed g.unit.0) →
    Puts m e p q (tabbed g.core.0) →
    Puts o e at q (grant_bytes g)
both o m e at p q g a b = then a b

pub returns : goal.returns
returns c = search both
