use Rattle.off_heap_list.proofs.Chaining.Exact.{counted-or-told}
use Rattle.off_heap_list.proofs.laws.swept_records_are_counted_or_told.Goals as goal

pub returns : goal.returns
returns c = counted-or-told
