-- One word more is taken.
use Rattle.std.proofs.Common.{arith}
use Rattle.std.proofs.lemmas.List.{append_assoc}
use Rattle.machine_run.proofs.arguments.words_of.Goals as goal

pub loop-word-preserved : goal.loop-word-preserved
loop-word-preserved c = grind (arith, append_assoc, c.loop-word.invariant, c.in-Ok.ensures.items, c.in-Some.ensures.steps)
