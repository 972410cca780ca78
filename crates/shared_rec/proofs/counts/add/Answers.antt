use Rattle.std.proofs.Common.{◌+◌}
use Rattle.term_words.proofs.Framing.Rooms.{write-keeps}
use Rattle.shared_rec.proofs.counts.add.Goals as goal

pub returns-clause-kept : goal.returns-clause-kept
returns-clause-kept c = λ k idle. rw c.set.ensures (write-keeps k c.args.mem.now (c.args.at + 2) _ idle)
