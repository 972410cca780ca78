use Rattle.std.proofs.Common.{◌∙◌}
use Rattle.one_space.proofs.OfHeap.Keeping.{among-numbers}
use Rattle.one_space.proofs.heap.OneHeapHeaps.find.Goals as goal

pub returns-clause-among : goal.returns-clause-among
returns-clause-among c = c.find.ensures.among ∙ rw c.deref.ensures.value (among-numbers c.args.self.now.halves.procs.items c.args.number)
