use Rattle.term_words.proofs.Reaching.Reached.{reached}
use Rattle.term_words.proofs.standing.reached_words_stand.Goals as goal

pub returns : goal.returns
returns c = λ k shared mem roots ts all w r. reached k shared mem roots ts all w r
