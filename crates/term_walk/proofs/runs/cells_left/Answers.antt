use Rattle.std.proofs.Common.{length, inr}
use Rattle.term_walk.proofs.Steps.{differs}
use Rattle.term_walk.proofs.runs.cells_left.Goals as goal

pub returns-clause-shallow : goal.returns-clause-shallow
returns-clause-shallow g c = inr (differs (length c.args.levels.now.items) g.row.N c.if-is_full.ensures.value c.if-is_full.ensures.fits)
