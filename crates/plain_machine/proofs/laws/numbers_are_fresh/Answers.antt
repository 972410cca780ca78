use Rattle.std.proofs.Common.{arith}
use Rattle.plain_machine.proofs.Numbering.Numbered.{run-fresh}
use Rattle.plain_machine.proofs.laws.numbers_are_fresh.Goals as goal

pub returns : goal.returns
returns c = record { first = record { numbered = (omega arith, omega arith) }; always = run-fresh }
