use Rattle.one_space.proofs.OfHeap.Acting.{puts-word}
use Rattle.one_space.proofs.heap.OneHeap.set_reg.Goals as goal

pub returns : goal.returns
returns c = puts-word c.args.self.now c.requires.ready c.args.row c.requires.row c.process_mut-process.result.now c.process_mut-process.ensures.value c.args.r c.args.w
