use Rattle.record_move.proofs.Narrow.{narrow-links, narrow-some}
use Rattle.record_move.proofs.laws.moved_records_are_all.Goals as goal

pub returns-clause-links : goal.returns-clause-links
returns-clause-links c = narrow-links

pub returns-clause-some : goal.returns-clause-some
returns-clause-some c = narrow-some
