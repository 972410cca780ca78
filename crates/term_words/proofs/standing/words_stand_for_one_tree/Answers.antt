use Rattle.term_words.proofs.Placing.Single.{single}
use Rattle.term_words.proofs.standing.words_stand_for_one_tree.Goals as goal

pub returns : goal.returns
returns c = λ k d shared other mem w t u s r. single k d shared other mem w t u s r
