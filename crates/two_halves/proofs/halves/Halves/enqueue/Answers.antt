use Rattle.std.proofs.Common.{◌-◌, refl, arith}
use Rattle.two_halves.proofs.Queued.Entering.{last-inside, queues, waiting-few}
use Rattle.two_halves.proofs.halves.Halves.enqueue.Goals as goal

pub follow-first-requires : goal.follow-first-requires
follow-first-requires c = last-inside c.args.self.now c.args.row c.args.w c.requires.can c.process-process.result.now c.process-process.ensures

pub overflow_add-process : goal.overflow_add-process
overflow_add-process c =
    omega (arith, c.bounded.ensures, waiting-few c.args.self.now c.args.row c.args.w c.requires.can c.process-process.result.now c.process-process.ensures)

pub returns : goal.returns
returns c =
    queues c.args.self.now c.args.row c.args.w c.requires.can c.process-process.result.now c.process-process.ensures c.follow-first.new.mem c.set.new.self
    (c.args.self.now.room.end - 2) c.follow-first.result refl c.follow-first.ensures c.set.ensures
