use Rattle.std.proofs.Common.{arith}
use Rattle.std.proofs.lemmas.Grind.{common_steps}
use Rattle.plain_term.proofs.ViewLemmas.{view_steps}
use Rattle.plain_term.proofs.measures.+flat.Goals as goal

pub flat_parts-loop-t-preserved : goal.flat_parts-loop-t-preserved
flat_parts-loop-t-preserved t c = grind (arith, common_steps)

pub flat_pairs-loop-key-preserved : goal.flat_pairs-loop-key-preserved
flat_pairs-loop-key-preserved t c = grind (arith, common_steps)

pub flat-returns-in-Tuple : goal.flat-returns-in-Tuple
flat-returns-in-Tuple t c = grind (arith, view_steps)

pub flat-returns-in-Map : goal.flat-returns-in-Map
flat-returns-in-Map t c = grind (arith, view_steps)

pub flat-returns-in-Fun : goal.flat-returns-in-Fun
flat-returns-in-Fun t c = grind (arith, view_steps)
