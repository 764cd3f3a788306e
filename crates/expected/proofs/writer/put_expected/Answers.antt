-- The step's number, and what stands behind it.
use Prim.Native.Nat.{ℕ, ◌+◌, ◌≤◌}
use mathlib.Core.List.{List}
use lib.ListN.{length}
use Rattle.ticket.specs.declared.kinds.Ticket.{Ticket}
use Rattle.parts.specs.declared.answer.Answer.{Answer}
use Rattle.parts.specs.declared.answer.Grants.{Grants}
use Rattle.numbers.specs.Number.{decimal}
use Rattle.digits.specs.Text.{Puts}
use Rattle.expected.specs.Expected.{shown_bytes, expected_bytes}
use Rattle.digits.proofs.Pasting.{then}
use Rattle.expected.proofs.writer.put_expected.Goals as goal

module _
    (o : List ℕ) (at i : ℕ) (a : Answer) (n : Ticket) (g : Grants)
    (room : at + length (expected_bytes i a n g) ≤ length o) where
  module _ (m : List ℕ) (p : ℕ) (b : Puts o m at p (decimal i)) where
    module _ (f : List ℕ) (q : ℕ) (d : Puts m f p q (shown_bytes a n g)) where
      whole : Puts o f at q (expected_bytes i a n g)
      whole = then b d

pub returns : goal.returns
returns c = search whole
