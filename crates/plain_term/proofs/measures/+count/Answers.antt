use Rattle.std.proofs.Common.{arith}
use Rattle.std.proofs.lemmas.Grind.{common_steps}
use Rattle.plain_term.proofs.ViewLemmas.{view_steps}
use Rattle.plain_term.proofs.measures.+count.Goals as goal

pub count_all_nodes-loop-t-preserved : goal.count_all_nodes-loop-t-preserved
count_all_nodes-loop-t-preserved t c = grind (arith, common_steps)

pub count_pair_nodes-loop-key-preserved : goal.count_pair_nodes-loop-key-preserved
count_pair_nodes-loop-key-preserved t c = grind (arith, common_steps)

pub count_nodes-returns-in-Tuple : goal.count_nodes-returns-in-Tuple
count_nodes-returns-in-Tuple t c = grind (arith, view_steps)

pub count_nodes-returns-in-Map : goal.count_nodes-returns-in-Map
count_nodes-returns-in-Map t c = grind (arith, view_steps)

pub count_nodes-returns-in-Fun : goal.count_nodes-returns-in-Fun
count_nodes-returns-in-Fun t c = grind (arith, view_steps)
