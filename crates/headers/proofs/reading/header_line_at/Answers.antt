-- The line whose end `line_end` gives lies within the script.
use borrow.Author.Rules.{rules}
use Rattle.lines.proofs.Turns.{found_within}
use Rattle.headers.proofs.reading.header_line_at.Goals as goal

pub slice_bounds-parse_header-count : goal.slice_bounds-parse_header-count
slice_bounds-parse_header-count c = search (found_within, rules)

pub slice_bounds-parse_header-start : goal.slice_bounds-parse_header-start
slice_bounds-parse_header-start c = search (found_within, rules)

pub slice_bounds-parse_header-end : goal.slice_bounds-parse_header-end
slice_bounds-parse_header-end c = search (found_within, rules)
