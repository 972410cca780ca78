use Rattle.term_words.proofs.Framing.Rooms.{write-keeps}
use Rattle.term_words.proofs.standing.idle_writes_keep_trees.Goals as goal

pub returns : goal.returns
returns c = λ k mem a v idle. write-keeps k mem a v idle
