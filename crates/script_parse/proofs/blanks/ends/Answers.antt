use Rattle.std.proofs.Common.{arith}
use Rattle.std.proofs.lemmas.Grind.{common_steps}
use Rattle.script_parse.proofs.blanks.ends.Goals as goal

pub loop-b-init : goal.loop-b-init
loop-b-init c = grind (arith, common_steps)

pub returns-then-not-blank : goal.returns-then-not-blank
returns-then-not-blank c = grind (arith, common_steps)

pub loop-b-preserved : goal.loop-b-preserved
loop-b-preserved c = grind (arith, common_steps)

pub returns : goal.returns
returns c = grind (arith, common_steps)
