use Rattle.term_words.proofs.Totals.Flat.{flat-total, listed}
use Rattle.term_words.proofs.counted.flat_size_covers_lists_of_objects.Goals as goal

pub returns-clause-words : goal.returns-clause-words
returns-clause-words c = flat-total

pub returns-clause-listed : goal.returns-clause-listed
returns-clause-listed c = listed
