use Rattle.std.proofs.Common.{arith}
use Rattle.script_parse.specs.declared.numbers.TheConstants.{GREATEST, WIDEST}
use Rattle.script_parse.proofs.Stepwise.NumberSteps.{digits-wider}
use Rattle.script_parse.proofs.numbers.more_digits.Goals as goal

pub returns-in-Some-clause-value : goal.returns-in-Some-clause-value
returns-in-Some-clause-value c = digits-wider GREATEST WIDEST c.args.start c.in-Some.n c.args.line.now c.in-Some.rest.now (omega arith) c.in-Some.ensures.value
