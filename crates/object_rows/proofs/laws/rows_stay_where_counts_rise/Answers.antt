use Rattle.object_rows.proofs.Raised.{raised-other, raised-own}
use Rattle.object_rows.proofs.laws.rows_stay_where_counts_rise.Goals as goal

pub returns-clause-own : goal.returns-clause-own
returns-clause-own k = raised-own

pub returns-clause-other : goal.returns-clause-other
returns-clause-other k = raised-other
