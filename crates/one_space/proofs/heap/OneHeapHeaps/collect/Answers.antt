use Rattle.std.proofs.Common.{false}
use Rattle.one_space.proofs.OfHeap.Rooming.{can-collect, collects-rows, is-collected, sweeps-few}
use Rattle.one_space.proofs.heap.OneHeapHeaps.collect.Goals as goal

pub collect-requires-clause-can : goal.collect-requires-clause-can
collect-requires-clause-can c = can-collect c.args.self.now c.requires.ready

pub collect-requires-clause-counted : goal.collect-requires-clause-counted
collect-requires-clause-counted c = sweeps-few c.args.self.now c.requires.ready

pub returns-clause-rows : goal.returns-clause-rows
returns-clause-rows c = collects-rows c.args.self.now c.collect.new.self c.collect.ensures false

pub returns-clause-collected : goal.returns-clause-collected
returns-clause-collected c = is-collected c.args.self.now c.collect.new.self c.collect.ensures
