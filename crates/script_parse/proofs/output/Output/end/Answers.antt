use Rattle.std.proofs.lemmas.Grind.{common_steps}
use Rattle.std.proofs.Common.{arith, ap}
use Rattle.script_parse.specs.Output.{out}
use Rattle.script_parse.proofs.output.Output.end.Goals as goal

pub returns-in-Tuple-clause-items : goal.returns-in-Tuple-clause-items
returns-in-Tuple-clause-items c = rw c.in-Tuple.is (ap (out c.args.self.now.names.now c.args.self.now.full) c.put.ensures)

pub push-requires : goal.push-requires
push-requires c = grind (arith, common_steps)

pub put-requires : goal.put-requires
put-requires c = grind (arith, common_steps)

pub put-requires-in-Map : goal.put-requires-in-Map
put-requires-in-Map c = grind (arith, common_steps)

pub put-requires-in-Binary : goal.put-requires-in-Binary
put-requires-in-Binary c = grind (arith, common_steps)

pub returns-in-List-clause-items : goal.returns-in-List-clause-items
returns-in-List-clause-items c = grind (arith, common_steps)

pub returns-in-List-clause-grown : goal.returns-in-List-clause-grown
returns-in-List-clause-grown c = grind (arith, common_steps)

pub returns-in-List-clause-one : goal.returns-in-List-clause-one
returns-in-List-clause-one c = grind (arith, common_steps)

pub returns-in-Tuple-clause-grown : goal.returns-in-Tuple-clause-grown
returns-in-Tuple-clause-grown c = grind (arith, common_steps)

pub returns-in-Tuple-clause-one : goal.returns-in-Tuple-clause-one
returns-in-Tuple-clause-one c = grind (arith, common_steps)

pub returns-in-Map-clause-items : goal.returns-in-Map-clause-items
returns-in-Map-clause-items c = grind (arith, common_steps)

pub returns-in-Map-clause-grown : goal.returns-in-Map-clause-grown
returns-in-Map-clause-grown c = grind (arith, common_steps)

pub returns-in-Map-clause-one : goal.returns-in-Map-clause-one
returns-in-Map-clause-one c = grind (arith, common_steps)

pub returns-in-Binary-clause-items : goal.returns-in-Binary-clause-items
returns-in-Binary-clause-items c = grind (arith, common_steps)

pub returns-in-Binary-clause-grown : goal.returns-in-Binary-clause-grown
returns-in-Binary-clause-grown c = grind (arith, common_steps)

pub returns-in-Binary-clause-one : goal.returns-in-Binary-clause-one
returns-in-Binary-clause-one c = grind (arith, common_steps)
