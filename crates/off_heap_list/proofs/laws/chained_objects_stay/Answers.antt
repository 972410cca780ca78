use Rattle.off_heap_list.proofs.Chaining.Chained.{link-stays}
use Rattle.off_heap_list.proofs.laws.chained_objects_stay.Goals as goal

pub returns : goal.returns
returns c = link-stays
