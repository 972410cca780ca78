use Rattle.off_heap_list.proofs.Chaining.Several.{beside-swapped, many-again, many-changed, many-of-none, none-of-many, one-of-many}
use Rattle.off_heap_list.proofs.laws.many_chains_are_chains.Goals as goal

pub returns-clause-one : goal.returns-clause-one
returns-clause-one c = one-of-many

pub returns-clause-again : goal.returns-clause-again
returns-clause-again c = many-again

pub returns-clause-changed : goal.returns-clause-changed
returns-clause-changed c = many-changed

pub returns-clause-none : goal.returns-clause-none
returns-clause-none c = none-of-many

pub returns-clause-of_none : goal.returns-clause-of_none
returns-clause-of_none c = many-of-none

pub returns-clause-swapped : goal.returns-clause-swapped
returns-clause-swapped c = beside-swapped
