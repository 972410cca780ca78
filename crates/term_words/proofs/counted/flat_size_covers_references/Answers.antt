use Rattle.term_words.proofs.Totals.Flat.{references}
use Rattle.term_words.proofs.counted.flat_size_covers_references.Goals as goal

pub returns : goal.returns
returns c = references
