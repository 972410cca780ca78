use Rattle.object_rows.proofs.Walk.{row-stays}
use Rattle.object_rows.proofs.laws.rows_stay_where_their_words_do.Goals as goal

pub returns : goal.returns
returns c = row-stays
