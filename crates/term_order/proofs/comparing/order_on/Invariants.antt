use Rattle.std.proofs.Common.{◌-◌, reverse}
use Rattle.plain_term.specs.Beyond.{node_limit}
use Rattle.term_order.proofs.Walks.{Comparisons}
use Rattle.term_order.proofs.comparing.order_on.Given as goal

abbrev pub invariant-loop-x : goal.invariant-loop-x
invariant-loop-x g l = Comparisons l.mem l.names l.a l.b l.x l.y (reverse l.left.items) (reverse l.right.items) l.steps

abbrev pub decreases-loop-x : goal.decreases-loop-x
decreases-loop-x g l = node_limit - l.steps
