use Rattle.std.proofs.Common.{arith}
use Rattle.two_halves.proofs.Queued.Queuing.{message-inside, takes}
use Rattle.two_halves.proofs.halves.Halves.receive.Goals as goal

pub overflow_add-place : goal.overflow_add-place
overflow_add-place c =
    omega (arith, c.bounded.ensures, message-inside c.args.self.now c.args.row c.requires.has c.process-process.result.now c.process-process.ensures c.if-process-eq0.false)

pub get-requires : goal.get-requires
get-requires c = omega (arith, message-inside c.args.self.now c.args.row c.requires.has c.process-process.result.now c.process-process.ensures c.if-process-eq0.false)

pub get-requires-2 : goal.get-requires-2
get-requires-2 c = omega (arith, message-inside c.args.self.now c.args.row c.requires.has c.process-process.result.now c.process-process.ensures c.if-process-eq0.false)

pub returns : goal.returns
returns c =
    takes c.args.self.now c.args.row c.requires.has c.process-process.result.now c.process-process.ensures c.if-process-eq0.false c.get.result c.get-2.result c.get.ensures c.get-2.ensures
