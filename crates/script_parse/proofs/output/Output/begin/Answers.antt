use Rattle.std.proofs.Common.{arith}
use Rattle.std.proofs.lemmas.Grind.{common_steps}
use Rattle.script_parse.proofs.output.Output.begin.Goals as goal

pub push-requires : goal.push-requires
push-requires c = grind (arith, common_steps)

pub push-requires-in-Map : goal.push-requires-in-Map
push-requires-in-Map c = grind (arith, common_steps)

pub push-requires-in-Binary : goal.push-requires-in-Binary
push-requires-in-Binary c = grind (arith, common_steps)

pub returns-in-List-clause-items : goal.returns-in-List-clause-items
returns-in-List-clause-items c = grind (arith, common_steps)

pub returns-in-List-clause-grown : goal.returns-in-List-clause-grown
returns-in-List-clause-grown c = grind (arith, common_steps)

pub returns-in-Tuple-clause-items : goal.returns-in-Tuple-clause-items
returns-in-Tuple-clause-items c = grind (arith, common_steps)

pub returns-in-Tuple-clause-grown : goal.returns-in-Tuple-clause-grown
returns-in-Tuple-clause-grown c = grind (arith, common_steps)

pub returns-in-Map-clause-items : goal.returns-in-Map-clause-items
returns-in-Map-clause-items c = grind (arith, common_steps)

pub returns-in-Map-clause-grown : goal.returns-in-Map-clause-grown
returns-in-Map-clause-grown c = grind (arith, common_steps)

pub returns-in-Binary-clause-items : goal.returns-in-Binary-clause-items
returns-in-Binary-clause-items c = grind (arith, common_steps)

pub returns-in-Binary-clause-grown : goal.returns-in-Binary-clause-grown
returns-in-Binary-clause-grown c = grind (arith, common_steps)
