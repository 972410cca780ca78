use Rattle.off_heap_list.proofs.Chaining.Several.{one-of-several, several-again}
use Rattle.off_heap_list.proofs.laws.each_of_several_chains_is_one.Goals as goal

pub returns-clause-one : goal.returns-clause-one
returns-clause-one c = one-of-several

pub returns-clause-several : goal.returns-clause-several
returns-clause-several c = several-again
