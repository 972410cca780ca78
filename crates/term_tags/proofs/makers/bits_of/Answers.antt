use Rattle.std.proofs.Common.{arith}
use Rattle.std.proofs.lemmas.Grind.{common_steps}
use Rattle.term_tags.proofs.makers.bits_of.Goals as goal

pub returns-then-i-lt0 : goal.returns-then-i-lt0
returns-then-i-lt0 c = grind (arith, common_steps)
