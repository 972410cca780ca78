use Rattle.word_shift.proofs.Still.{row-shifted-row}
use Rattle.word_shift.proofs.laws.relocated_rows_are_rows.Goals as goal

pub returns : goal.returns
returns k = row-shifted-row
