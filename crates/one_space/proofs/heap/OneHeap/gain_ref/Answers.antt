use Rattle.std.proofs.Common.{arith}
use Rattle.one_space.proofs.OfHeap.Gaining.{ref-gains, refs-few}
use Rattle.one_space.proofs.heap.OneHeap.gain_ref.Goals as goal

pub overflow_add-count : goal.overflow_add-count
overflow_add-count c = omega (arith, refs-few c.args.self.now c.requires.ready c.args.row c.requires.row c.process-process.result.now c.process-process.ensures)

pub returns : goal.returns
returns c =
    ref-gains c.args.self.now c.requires.ready c.args.row c.requires.row c.args.r c.reference-w.new.mem c.reference-w.new.room c.process_mut-process.result.now
    c.process_mut-process.ensures.value c.reference-w.result c.requires.room c.reference-w.ensures.uses c.process-process.result.now c.process-process.ensures c.reference-w.ensures.built
