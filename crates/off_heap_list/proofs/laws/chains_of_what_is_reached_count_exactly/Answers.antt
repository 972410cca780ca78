use Rattle.off_heap_list.proofs.Chaining.Exact.{counts-exact, several-exact}
use Rattle.off_heap_list.proofs.laws.chains_of_what_is_reached_count_exactly.Goals as goal

pub returns-clause-one : goal.returns-clause-one
returns-clause-one c = counts-exact

pub returns-clause-several : goal.returns-clause-several
returns-clause-several c = several-exact
