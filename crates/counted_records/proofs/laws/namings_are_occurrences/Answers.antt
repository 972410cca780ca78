use Rattle.counted_records.proofs.Occurring.{bin-namings, fun-namings}
use Rattle.counted_records.proofs.laws.namings_are_occurrences.Goals as goal

pub returns-clause-bin : goal.returns-clause-bin
returns-clause-bin k = λ c shared mem roots ts os v serial bytes all held once there. bin-namings c shared mem roots ts os all held once v serial bytes there

pub returns-clause-fun : goal.returns-clause-fun
returns-clause-fun k = λ c shared mem roots ts os v name arity all held once there. fun-namings c shared mem roots ts os all held once v name arity there
