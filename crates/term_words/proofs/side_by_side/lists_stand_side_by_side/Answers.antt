use Rattle.term_words.proofs.Framing.Lists.{all-join, all-cut}
use Rattle.term_words.proofs.side_by_side.lists_stand_side_by_side.Goals as goal

pub returns-clause-joined : goal.returns-clause-joined
returns-clause-joined c = all-join

pub returns-clause-split : goal.returns-clause-split
returns-clause-split c = all-cut
