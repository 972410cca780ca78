use Rattle.word_shift.proofs.Apart.{row-from, row-same, row-stays}
use Rattle.word_shift.proofs.laws.rows_are_relocated_one_by_one.Goals as goal

pub returns-clause-row : goal.returns-clause-row
returns-clause-row c = row-same

pub returns-clause-later : goal.returns-clause-later
returns-clause-later c = row-from

pub returns-clause-stays : goal.returns-clause-stays
returns-clause-stays c = row-stays
