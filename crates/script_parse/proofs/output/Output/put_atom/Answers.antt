use Rattle.std.proofs.Common.{arith}
use Rattle.std.proofs.lemmas.Grind.{common_steps}
use Rattle.script_parse.proofs.output.Output.put_atom.Goals as goal

pub intern-requires : goal.intern-requires
intern-requires c = grind (arith, common_steps)

pub push-requires : goal.push-requires
push-requires c = grind (arith, common_steps)

pub push-requires-in-None : goal.push-requires-in-None
push-requires-in-None c = grind (arith, common_steps)

pub returns-in-Some-clause-atom : goal.returns-in-Some-clause-atom
returns-in-Some-clause-atom c = grind (arith, common_steps)

pub returns-in-Some-clause-grown : goal.returns-in-Some-clause-grown
returns-in-Some-clause-grown c = grind (arith, common_steps)

pub returns-in-Some-clause-one : goal.returns-in-Some-clause-one
returns-in-Some-clause-one c = grind (arith, common_steps)

pub returns-in-None-clause-atom : goal.returns-in-None-clause-atom
returns-in-None-clause-atom c = grind (arith, common_steps)

pub returns-in-None-clause-grown : goal.returns-in-None-clause-grown
returns-in-None-clause-grown c = grind (arith, common_steps)

pub returns-in-None-clause-one : goal.returns-in-None-clause-one
returns-in-None-clause-one c = grind (arith, common_steps)
