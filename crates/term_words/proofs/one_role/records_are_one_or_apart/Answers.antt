use Rattle.term_words.proofs.Placing.Roles.{records-apart, object-record-apart}
use Rattle.term_words.proofs.one_role.records_are_one_or_apart.Goals as goal

pub returns-clause-records : goal.returns-clause-records
returns-clause-records c = records-apart

pub returns-clause-object : goal.returns-clause-object
returns-clause-object c = object-record-apart
