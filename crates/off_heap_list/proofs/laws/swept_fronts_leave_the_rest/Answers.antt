use Rattle.off_heap_list.proofs.Walked.Tallied.{front-links, rest-stays}
use Rattle.off_heap_list.proofs.laws.swept_fronts_leave_the_rest.Goals as goal

pub returns-clause-chain : goal.returns-clause-chain
returns-clause-chain c = rest-stays

pub returns-clause-front : goal.returns-clause-front
returns-clause-front c = front-links
