use Rattle.term_words.proofs.Totals.Packing.{packed, laid-packed}
use Rattle.term_words.proofs.counted.packed_words_are_counted.Goals as goal

pub returns-clause-words : goal.returns-clause-words
returns-clause-words c = packed

pub returns-clause-tiles : goal.returns-clause-tiles
returns-clause-tiles c = laid-packed
