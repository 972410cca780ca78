use Rattle.record_move.proofs.Renewing.{renewed-made, renewed-all, renewed-once, renewed-owners, renewed-fits, renewed-both}
use Rattle.record_move.proofs.laws.renewed_tables_name_the_copies.Goals as goal

pub returns-clause-made : goal.returns-clause-made
returns-clause-made c = renewed-made

pub returns-clause-all : goal.returns-clause-all
returns-clause-all c = renewed-all

pub returns-clause-once : goal.returns-clause-once
returns-clause-once c = renewed-once

pub returns-clause-owners : goal.returns-clause-owners
returns-clause-owners c = renewed-owners

pub returns-clause-fits : goal.returns-clause-fits
returns-clause-fits c = renewed-fits

pub returns-clause-joined : goal.returns-clause-joined
returns-clause-joined c = renewed-both
