use Rattle.off_heap_list.proofs.Chaining.Relocated.{links-moved, many-moved}
use Rattle.off_heap_list.proofs.laws.relocated_chains_stand.Goals as goal

pub returns-clause-one : goal.returns-clause-one
returns-clause-one c = links-moved

pub returns-clause-several : goal.returns-clause-several
returns-clause-several c = many-moved
