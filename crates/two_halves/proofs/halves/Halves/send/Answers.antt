use Rattle.two_halves.proofs.Queued.Sending.{can-copy-in, can-queue, sends}
use Rattle.two_halves.proofs.halves.Halves.send.Goals as goal

pub copy_in-copy-requires : goal.copy_in-copy-requires
copy_in-copy-requires c = record { can = can-copy-in c.args.self.now c.args.row c.args.w c.requires.can }

pub enqueue-requires : goal.enqueue-requires
enqueue-requires c = record { can = can-queue c.args.self.now c.args.row c.args.w c.requires.can c.copy_in-copy.new.self c.copy_in-copy.result c.copy_in-copy.ensures }

pub returns : goal.returns
returns c = sends c.args.self.now c.args.row c.args.w c.requires.can c.copy_in-copy.new.self c.copy_in-copy.result c.copy_in-copy.ensures c.enqueue.new.self c.enqueue.ensures
