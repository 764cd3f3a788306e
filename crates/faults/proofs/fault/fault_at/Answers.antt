-- The line lies within the bytes.
use borrow.Author.Rules.{rules}
use Rattle.faults.proofs.Places.{ends_within}
use Rattle.faults.proofs.fault.fault_at.Goals as goal

pub line_at-requires : goal.line_at-requires
line_at-requires c = search (ends_within, rules)
