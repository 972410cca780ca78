use Rattle.shared_rec.proofs.Records.{bin-stays, fun-stays, record-stays, count-idle}
use Rattle.shared_rec.proofs.laws.kept_content_keeps_records.Goals as goal

pub returns-clause-bins : goal.returns-clause-bins
returns-clause-bins c = bin-stays

pub returns-clause-funs : goal.returns-clause-funs
returns-clause-funs c = fun-stays

pub returns-clause-records : goal.returns-clause-records
returns-clause-records c = record-stays

pub returns-clause-counts : goal.returns-clause-counts
returns-clause-counts c = count-idle
