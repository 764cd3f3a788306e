-- For each number of grants, one run of bytes after another.
use Prim.Native.Nat.{ℕ, ◌+◌, ◌≤◌}
use mathlib.Core.List.{List}
use mathlib.Core.Path.{◌≡◌}
use lib.ListN.{length}
use Rattle.ticket.specs.declared.kinds.Grant.{Grant}
use Rattle.parts.specs.declared.answer.Grants.TheVariants.{One, Two}
use Rattle.parts.specs.declared.answer.Grants.{Grants}
use Rattle.digits.specs.Text.{tabbed, Puts}
use Rattle.expected.specs.Expected.{grant_bytes, grants_bytes}
use Rattle.digits.proofs.Pasting.{then}
use Rattle.expected.proofs.writer.put_grants.Goals as goal

module _ (o : List ℕ) (at : ℕ) (g : Grants) (room : at + length (grants_bytes g) ≤ length o) where
  module _ (x : Grant) (e : g ≡ One x) where
    module _ (m : List ℕ) (p : ℕ) (a : Puts o m at p (tabbed 1)) where
      one : (f : List ℕ) (q : ℕ) → Puts m f p q (grant_bytes x) → Puts o f at q (grants_bytes g)
      one f q b = rw e (then a b)

  module _ (x y : Grant) (e : g ≡ Two x y) where
    module _ (m : List ℕ) (p : ℕ) (a : Puts o m at p (tabbed 2)) where
      module _ (f : List ℕ) (q : ℕ) (b : Puts m f p q (grant_bytes x)) where
        two : (l : List ℕ) (r : ℕ) → Puts f l q r (grant_bytes y) → Puts o l at r (grants_bytes g)
        two l r d = rw e (then a (then b d))

pub returns-in-One : goal.returns-in-One
returns-in-One c = search one

pub returns-in-Two : goal.returns-in-Two
returns-in-Two c = search two
