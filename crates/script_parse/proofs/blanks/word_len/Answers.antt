use Rattle.std.proofs.Common.{arith}
use Rattle.std.proofs.lemmas.Grind.{common_steps}
use Rattle.script_parse.proofs.blanks.word_len.Goals as goal

pub loop-n-init : goal.loop-n-init
loop-n-init c = grind (arith, common_steps)

pub bounds-line-n : goal.bounds-line-n
bounds-line-n c = grind (arith, common_steps)

pub returns-then-blank-clause-value : goal.returns-then-blank-clause-value
returns-then-blank-clause-value c = grind (arith, common_steps)

pub returns-then-blank-clause-within : goal.returns-then-blank-clause-within
returns-then-blank-clause-within c = grind (arith, common_steps)

pub loop-n-preserved : goal.loop-n-preserved
loop-n-preserved c = grind (arith, common_steps)

pub returns-clause-value : goal.returns-clause-value
returns-clause-value c = grind (arith, common_steps)

pub returns-clause-within : goal.returns-clause-within
returns-clause-within c = grind (arith, common_steps)
