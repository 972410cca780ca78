use Rattle.term_words.proofs.Framing.Rooms.{weaken}
use Rattle.term_words.proofs.standing.weaker_tests_keep_trees.Goals as goal

pub returns : goal.returns
returns c = λ k d mem h. weaken k d mem h
