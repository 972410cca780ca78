use Rattle.std.proofs.Common.{arith}
use Rattle.one_space.proofs.OfHeap.Acting.{drops}
use Rattle.one_space.proofs.heap.OneHeap.drop_row.Goals as goal

pub returns : goal.returns
returns c =
    drops c.args.self.now c.requires.ready.lives c.args.row c.requires.row c.remove-row.new.self c.remove-row.ensures.items c.remove-row.ensures.capacity
    c.push_reserved.new.self (omega (arith, c.push_reserved.ensures.len)) c.push_reserved.ensures.capacity
