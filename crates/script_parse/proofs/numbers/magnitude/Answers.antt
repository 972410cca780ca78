use Rattle.std.proofs.Common.{arith}
use Rattle.std.proofs.lemmas.Grind.{common_steps}
use Rattle.script_parse.specs.declared.numbers.TheConstants.{WIDEST}
use Rattle.script_parse.proofs.Stepwise.NumberSteps.{zero-read}
use Rattle.script_parse.proofs.numbers.magnitude.Goals as goal

pub returns-clause-value : goal.returns-clause-value
returns-clause-value c = zero-read WIDEST c.in-Some.b c.args.line.now c.in-Some.rest.now c.in-Some.ensures (grind (arith, common_steps))
