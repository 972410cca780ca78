use Rattle.counted_records.proofs.Occurring.{bin-occurs, fun-occurs, ids-all-stand, funs-all-stand}
use Rattle.counted_records.proofs.laws.reached_records_occur.Goals as goal

pub returns-clause-bin : goal.returns-clause-bin
returns-clause-bin k = λ c shared mem roots ts os p serial bytes all held inside there. bin-occurs c shared mem roots ts os all held p inside serial bytes there

pub returns-clause-fun : goal.returns-clause-fun
returns-clause-fun k = λ c shared mem roots ts os p name arity all held inside there. fun-occurs c shared mem roots ts os all held p inside name arity there

pub returns-clause-bin_stands : goal.returns-clause-bin_stands
returns-clause-bin_stands k = λ c shared mem roots ts id all inside. ids-all-stand c shared mem id roots ts all inside

pub returns-clause-fun_stands : goal.returns-clause-fun_stands
returns-clause-fun_stands k = λ c shared mem roots ts code all inside. funs-all-stand c shared mem code roots ts all inside
