-- What the numbers that are still to come take is all that lacks; a number takes at most six bytes.
use Rattle.std.proofs.Common.{◌≡◌, ◌+◌, ◌*◌, ◌≤◌, length, drop}
use Rattle.writing.specs.Writing.{fields}
use Rattle.writing.proofs.writer.line_width.Given as goal

abbrev pub invariant-loop-n : goal.invariant-loop-n
invariant-loop-n l =
    (l.width + length (fields (drop l.n-index l.numbers)) ≡ length (fields l.numbers) + 2)
    × (l.width ≤ 2 + 6 * l.n-index)
