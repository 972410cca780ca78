use Rattle.counted_records.proofs.Demand.{named-once, demanded}
use Rattle.counted_records.proofs.laws.named_records_are_demanded.Goals as goal

pub returns-clause-listed : goal.returns-clause-listed
returns-clause-listed k = named-once

pub returns-clause-words : goal.returns-clause-words
returns-clause-words k = λ c shared mem roots ts os each ids funs all held differ named ids_inside funs_inside.
    demanded c shared mem roots ts os all held differ each ids funs named ids_inside funs_inside
