use Rattle.word_arena.proofs.Laid.Lent.{lent-apart, lent-began, lent-begins, lent-blocked, lent-free, lent-used}
use Rattle.word_arena.proofs.laws.blocks_stay_with_the_headers.Goals as goal

pub returns-clause-blocked : goal.returns-clause-blocked
returns-clause-blocked k = lent-blocked

pub returns-clause-begins : goal.returns-clause-begins
returns-clause-begins k = lent-begins

pub returns-clause-no_more : goal.returns-clause-no_more
returns-clause-no_more k = lent-began

pub returns-clause-used : goal.returns-clause-used
returns-clause-used k = lent-used

pub returns-clause-free : goal.returns-clause-free
returns-clause-free k = lent-free

pub returns-clause-apart : goal.returns-clause-apart
returns-clause-apart k = lent-apart
