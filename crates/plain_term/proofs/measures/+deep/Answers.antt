use Rattle.std.proofs.Common.{arith}
use Rattle.std.proofs.lemmas.Grind.{common_steps}
use Rattle.plain_term.proofs.ViewLemmas.{view_steps}
use Rattle.plain_term.proofs.measures.+deep.Goals as goal

pub deepest-loop-t-preserved : goal.deepest-loop-t-preserved
deepest-loop-t-preserved t c = grind (arith, common_steps)

pub deepest_of_pairs-loop-key-preserved : goal.deepest_of_pairs-loop-key-preserved
deepest_of_pairs-loop-key-preserved t c = grind (arith, common_steps)

pub depth-returns-in-Tuple : goal.depth-returns-in-Tuple
depth-returns-in-Tuple t c = grind (arith, view_steps)

pub depth-returns-in-Map : goal.depth-returns-in-Map
depth-returns-in-Map t c = grind (arith, view_steps)

pub depth-returns-in-Fun : goal.depth-returns-in-Fun
depth-returns-in-Fun t c = grind (arith, view_steps)
