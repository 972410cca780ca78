use Rattle.one_space.proofs.OfHeap.Gaining.{part-gains, part-there}
use Rattle.one_space.proofs.heap.OneHeap.gain_part.Goals as goal

pub sub_part-w-requires-clause-part : goal.sub_part-w-requires-clause-part
sub_part-w-requires-clause-part c =
    part-there c.args.self.now c.requires.ready c.args.row c.requires.row c.args.s c.args.offset c.args.len c.process.result.now c.process.ensures c.requires.can

pub returns : goal.returns
returns c =
    part-gains c.args.self.now c.requires.ready c.args.row c.requires.row c.args.s c.args.offset c.args.len c.process.result.now c.process.ensures c.args.r c.sub_part-w.new.mem
    c.sub_part-w.new.room c.process_mut-process.result.now c.process_mut-process.ensures.value c.sub_part-w.result c.requires.room c.sub_part-w.ensures.uses c.sub_part-w.ensures.built
