-- Whoever puts the numbers that are still to come, and the end, has put the line; there is room for these.
use Rattle.std.proofs.Common.{ℕ, List, ◌+◌, ◌≤◌, length, drop}
use Rattle.digits.specs.Text.{Puts}
use Rattle.writing.specs.Writing.{fields, letter_line}
use Rattle.writing.proofs.writer.put_line.Given as goal

abbrev pub invariant-loop-n : goal.invariant-loop-n
invariant-loop-n l =
    (l.end + length (fields (drop l.n-index l.numbers)) ≤ length l.out)
    × ((m : List ℕ) (q : ℕ) → Puts l.out m l.end q (fields (drop l.n-index l.numbers)) → Puts l.fn.out m l.at q (letter_line l.letter l.numbers))
