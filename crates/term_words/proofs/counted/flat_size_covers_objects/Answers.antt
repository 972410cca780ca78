use Rattle.term_words.proofs.Reaching.Reached.{reached-words}
use Rattle.term_words.proofs.counted.flat_size_covers_objects.Goals as goal

pub returns : goal.returns
returns c = reached-words
