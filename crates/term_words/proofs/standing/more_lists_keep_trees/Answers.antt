use Rattle.term_words.proofs.Framing.Growing.{grow}
use Rattle.term_words.proofs.standing.more_lists_keep_trees.Goals as goal

pub returns : goal.returns
returns c = λ k shared more mem w t s. grow k shared more mem w t s
