use Rattle.std.proofs.Common.{arith}
use Rattle.one_space.proofs.OfHeap.Putting.{bin-fits, bin-gains}
use Rattle.one_space.proofs.heap.OneHeap.put_bin.Goals as goal

pub add_bin-w-requires-clause-laid : goal.add_bin-w-requires-clause-laid
add_bin-w-requires-clause-laid c = c.requires.ready.lives.whole.laid

pub add_bin-w-requires-clause-next : goal.add_bin-w-requires-clause-next
add_bin-w-requires-clause-next c =
    let n = c.requires.next in
    record { named = n.named; shared = n.shared; processes = n.processes; stands = n.stood.is; last = n.next }

pub add_bin-w-requires-clause-table : goal.add_bin-w-requires-clause-table
add_bin-w-requires-clause-table c =
    let n = c.requires.next in
    bin-fits n.named c.args.self.now.halves n.shared n.processes n.stood.is c.requires.ready.lives.whole.laid (omega (arith, c.requires.room)) c.requires.ready.lives.whole.bins

pub returns : goal.returns
returns c =
    bin-gains c.args.self.now c.requires.ready c.args.row c.requires.row c.add_bin-w.new.self c.add_bin-w.ensures.adds c.process_mut-process.result.now c.process_mut-process.ensures.value
    c.args.r c.add_bin-w.result c.args.serial c.args.len c.args.byte c.add_bin-w.ensures.gets c.add_bin-w.ensures.uses
