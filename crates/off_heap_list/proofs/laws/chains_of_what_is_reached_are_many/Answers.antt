use Rattle.off_heap_list.proofs.Chaining.Several.{chained-many, many-chained}
use Rattle.off_heap_list.proofs.laws.chains_of_what_is_reached_are_many.Goals as goal

pub returns-clause-many : goal.returns-clause-many
returns-clause-many c = chained-many

pub returns-clause-reached : goal.returns-clause-reached
returns-clause-reached c = many-chained
