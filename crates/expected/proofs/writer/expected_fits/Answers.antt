-- What is room for any line is room for this one, and otherwise its length says.
use Prim.Native.Nat.{ℕ, ◌+◌}
use borrow.Author.Tests.{le-leb, leb-true}
use mathlib.Core.Bool.{Bool, true}
use mathlib.Core.Path.{◌≡◌, sym, ◌∙◌, ap}
use native.Mathlib.Omega.{arith}
use lib.Dec.{leb}
use lib.ListN.{length}
use Rattle.ticket.specs.declared.kinds.Ticket.{Ticket}
use Rattle.parts.specs.declared.answer.Answer.{Answer}
use Rattle.parts.specs.declared.answer.Grants.{Grants}
use Rattle.expected.specs.Expected.{expected_bytes}
use Rattle.expected.proofs.Lengths.{expected_bound}
use Rattle.expected.proofs.writer.expected_fits.Goals as goal

module _ (len at i : ℕ) (a : Answer) (n : Ticket) (g : Grants) where
  any : (b : Bool) → b ≡ leb (at + 88) len → b ≡ true → true ≡ leb (at + length (expected_bytes i a n g)) len
  any b says e =
      let h = leb-true (at + 88) len (sym says ∙ e) in
      sym (le-leb (at + length (expected_bytes i a n g)) len (omega (arith, h, expected_bound i a n g)))

  this :
      (b : Bool) (w : ℕ) →
      w ≡ length (expected_bytes i a n g) →
      b ≡ leb (at + w) len →
      b ≡ leb (at + length (expected_bytes i a n g)) len
  this b w e says = says ∙ ap (λ (k : ℕ). leb (at + k) len) e

pub returns-then-has_room : goal.returns-then-has_room
returns-then-has_room c = search any
