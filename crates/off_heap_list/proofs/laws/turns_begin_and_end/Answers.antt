use Rattle.off_heap_list.proofs.Walked.Turning.{turn-begins, turn-ends}
use Rattle.off_heap_list.proofs.laws.turns_begin_and_end.Goals as goal

pub returns-clause-begins : goal.returns-clause-begins
returns-clause-begins c = turn-begins

pub returns-clause-ends : goal.returns-clause-ends
returns-clause-ends c = turn-ends
