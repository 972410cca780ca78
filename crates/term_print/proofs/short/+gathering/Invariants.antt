use Rattle.std.proofs.Common.{◌+◌, ◌*◌}
use Rattle.term_print.proofs.short.+gathering.Given as goal

abbrev pub decreases-gather_term : goal.decreases-gather_term
decreases-gather_term l = 2 * l.most

abbrev pub decreases-gather_row : goal.decreases-gather_row
decreases-gather_row l = 2 * l.most + 1
