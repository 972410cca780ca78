use Rattle.one_space.proofs.OfHeap.Acting.{left-inside, takes-none, takes-some}
use Rattle.one_space.proofs.heap.OneHeap.take_message.Goals as goal

pub returns-in_default : goal.returns-in_default
returns-in_default c =
    takes-none c.args.self.now c.requires.ready.lives c.args.row c.requires.row c.args.r c.receive.new.self c.in_default.ensures.0 c.in_default.ensures.1

pub process_mut-process-requires : goal.process_mut-process-requires
process_mut-process-requires c =
    left-inside c.args.self.now c.requires.ready.lives c.args.row c.requires.row c.args.r c.receive.new.self c.in-Some.w c.in-Some.ensures

pub returns : goal.returns
returns c =
    takes-some c.args.self.now c.requires.ready.lives c.args.row c.requires.row c.args.r c.receive.new.self c.in-Some.w c.in-Some.ensures c.process_mut-process.result.now
    c.process_mut-process.ensures.value
