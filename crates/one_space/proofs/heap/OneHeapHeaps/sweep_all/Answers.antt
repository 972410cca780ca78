use Rattle.std.proofs.Common.{true}
use Rattle.one_space.proofs.OfHeap.Rooming.{can-collect, collects-rows, is-collected, sweeps-few}
use Rattle.one_space.proofs.heap.OneHeapHeaps.sweep_all.Goals as goal

pub collect-requires-clause-can : goal.collect-requires-clause-can
collect-requires-clause-can c = can-collect c.args.self.now c.requires.ready

pub collect-requires-clause-counted : goal.collect-requires-clause-counted
collect-requires-clause-counted c = sweeps-few c.args.self.now c.requires.ready

pub returns-clause-rows : goal.returns-clause-rows
returns-clause-rows c = collects-rows c.args.self.now c.collect.new.self c.collect.ensures true

pub returns-clause-swept : goal.returns-clause-swept
returns-clause-swept c = is-collected c.args.self.now c.collect.new.self c.collect.ensures
