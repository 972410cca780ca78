use Rattle.one_space.proofs.OfHeap.Gaining.{same-gains}
use Rattle.one_space.proofs.heap.OneHeap.gain_same.Goals as goal

pub returns : goal.returns
returns c =
    same-gains c.args.self.now c.requires.ready c.args.row c.requires.row c.args.r c.repeated-w.new.mem c.repeated-w.new.room c.process_mut-process.result.now
    c.process_mut-process.ensures.value c.repeated-w.result c.args.shape c.args.n c.args.s c.requires.room c.repeated-w.ensures.uses c.process.result.now c.process.ensures c.repeated-w.ensures.built
