-- The line whose end `line_end` gives lies within the script.
use borrow.Author.Rules.{rules}
use Rattle.lines.proofs.Turns.{found_within}
use Rattle.lines.proofs.reading.any_line.Goals as goal

pub slice_bounds-parse_step-count : goal.slice_bounds-parse_step-count
slice_bounds-parse_step-count c = search (found_within, rules)

pub slice_bounds-parse_step-start : goal.slice_bounds-parse_step-start
slice_bounds-parse_step-start c = search (found_within, rules)

pub slice_bounds-parse_step-end : goal.slice_bounds-parse_step-end
slice_bounds-parse_step-end c = search (found_within, rules)
