use Rattle.std.proofs.Common.{◌+◌, ◌*◌}
use Rattle.term_order.proofs.same.+same.Given as goal

abbrev pub decreases-same_term : goal.decreases-same_term
decreases-same_term l = 3 * l.most

abbrev pub decreases-same_row : goal.decreases-same_row
decreases-same_row l = 3 * l.most + 1

abbrev pub decreases-same_map : goal.decreases-same_map
decreases-same_map l = 3 * l.most + 2
