-- The comparison of two live tickets of a place reached is the order of their issue numbers.
use Rattle.fairness.specs.Claims.{OrderIsIssueOrder}
use Rattle.fairness.proofs.Invariant.{numbered, order}

pub order_is_issue_order : OrderIsIssueOrder
order_is_issue_order p j k r a b = let n = numbered p r in order n.0 p n.1 j k a b
