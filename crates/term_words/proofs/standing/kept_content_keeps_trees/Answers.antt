use Rattle.term_words.proofs.Framing.Frames.{frame}
use Rattle.term_words.proofs.standing.kept_content_keeps_trees.Goals as goal

pub returns : goal.returns
returns c = λ k d old new h. frame k d old new h
