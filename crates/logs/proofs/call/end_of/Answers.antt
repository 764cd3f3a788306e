-- The line ends within the log.
use borrow.Author.Rules.{rules}
use Rattle.logs.proofs.Turning.{found_within}
use Rattle.logs.proofs.call.end_of.Goals as goal

pub returns-in-Ok-clause-within : goal.returns-in-Ok-clause-within
returns-in-Ok-clause-within c = search (found_within, rules)
