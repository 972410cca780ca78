use Rattle.word_shift.proofs.Sliding.{single-moved}
use Rattle.word_shift.proofs.laws.moved_roles_are_single.Goals as goal

pub returns : goal.returns
returns c = single-moved
