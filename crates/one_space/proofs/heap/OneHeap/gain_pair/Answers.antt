use Rattle.one_space.proofs.OfHeap.Gaining.{pair-gains, place-there}
use Rattle.one_space.proofs.heap.OneHeap.gain_pair.Goals as goal

pub map_with-w-requires-clause-map : goal.map_with-w-requires-clause-map
map_with-w-requires-clause-map c =
    place-there c.args.self.now c.requires.ready c.args.row c.requires.row c.args.s c.args.place c.args.k c.args.v c.process.result.now c.process.ensures c.requires.room c.requires.can

pub returns : goal.returns
returns c =
    pair-gains c.args.self.now c.requires.ready c.args.row c.requires.row c.args.s c.args.place c.args.k c.args.v c.process.result.now c.process.ensures c.requires.room c.requires.can
    c.args.r c.map_with-w.new.mem c.map_with-w.new.room c.map_with-w.ensures.uses c.process_mut-process.result.now c.process_mut-process.ensures.value c.map_with-w.result
    c.map_with-w.ensures.built
