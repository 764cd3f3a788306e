-- The answer, the ticket, the grants and the end, one after another.
use Prim.Native.Nat.{ℕ, ◌+◌, ◌<◌, ◌≤◌}
use mathlib.Core.List.{List, [], ◌∷◌, ◌++◌}
use mathlib.Core.Path.{refl}
use native.Mathlib.Omega.{arith}
use lib.ListN.{length, set}
use Rattle.ticket.specs.declared.kinds.Ticket.{Ticket}
use Rattle.parts.specs.Answer.{number_of}
use Rattle.parts.specs.declared.answer.Answer.{Answer}
use Rattle.parts.specs.declared.answer.Grants.{Grants}
use Rattle.numbers.specs.Bytes.{end}
use Rattle.digits.specs.Text.{tabbed, Puts}
use Rattle.expected.specs.Expected.{grants_bytes, shown_bytes}
use Rattle.digits.proofs.Pasting.{one, then, rest}
use Rattle.expected.proofs.writer.put_shown.Goals as goal

-- what stands after the answer
abbrev ticketed : Ticket → Grants → List ℕ
ticketed n g = tabbed n.0 ++ (grants_bytes g ++ (end ∷ []))

module _ (o : List ℕ) (at : ℕ) (a : Answer) (n : Ticket) (g : Grants) (room : at + length (shown_bytes a n g) ≤ length o) where
  module _ (f : List ℕ) (q : ℕ) (d : Puts o f at q (tabbed (number_of a))) where
    after_answer : q + length (ticketed n g) ≤ length f
    after_answer = rest d (ticketed n g) room

    module _ (l : List ℕ) (r : ℕ) (e : Puts f l q r (tabbed n.0)) where
      after_ticket : r + length (grants_bytes g ++ (end ∷ [])) ≤ length l
      after_ticket = rest e (grants_bytes g ++ (end ∷ [])) after_answer

      module _ (j : List ℕ) (s : ℕ) (h : Puts l j r s (grants_bytes g)) where
        end_fits : s < length j
        end_fits = omega (arith, rest h (end ∷ []) after_ticket)

        whole : Puts o (set j s end) at (s + 1) (shown_bytes a n g)
        whole = then d (then e (then h (one j s end (s + 1) refl end_fits)))

pub returns : goal.returns
returns c = search whole
