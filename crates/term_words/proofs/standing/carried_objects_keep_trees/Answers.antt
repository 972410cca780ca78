use Rattle.term_words.proofs.Framing.Frames.{carry, kept-carried}
use Rattle.term_words.proofs.standing.carried_objects_keep_trees.Goals as goal

pub returns-clause-trees : goal.returns-clause-trees
returns-clause-trees c = λ k d old new h. record { each = carry k d old new h }

pub returns-clause-kept : goal.returns-clause-kept
returns-clause-kept c = kept-carried
