use Rattle.std.proofs.Common.{take, replicate}
use Rattle.std.proofs.lemmas.List.{take-replicate}
use Rattle.one_space.proofs.OfHeap.Gaining.{bytes-gains}
use Rattle.one_space.proofs.heap.OneHeap.gain_bytes.Goals as goal

pub returns : goal.returns
returns c =
    bytes-gains c.args.self.now c.requires.ready c.args.row c.requires.row c.args.r c.heap_bin-w.new.mem c.heap_bin-w.new.room c.process_mut-process.result.now
    c.process_mut-process.ensures.value c.heap_bin-w.result c.args.n c.args.byte c.requires.room (take c.args.n (replicate 64 c.args.byte))
    (take-replicate c.args.n 64 c.args.byte c.requires.can.makes.0) c.heap_bin-w.ensures.uses c.heap_bin-w.ensures.built
