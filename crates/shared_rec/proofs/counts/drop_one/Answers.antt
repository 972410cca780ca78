use Rattle.std.proofs.Common.{◌+◌}
use Rattle.term_words.proofs.Framing.Rooms.{write-keeps}
use Rattle.shared_rec.proofs.counts.drop_one.Goals as goal

pub returns-then-count-eq0-clause-kept : goal.returns-then-count-eq0-clause-kept
returns-then-count-eq0-clause-kept c = λ k idle. rw c.set.ensures (write-keeps k c.args.mem.now (c.args.at + 2) _ idle)

pub returns-else-count-eq0-clause-kept : goal.returns-else-count-eq0-clause-kept
returns-else-count-eq0-clause-kept c = λ k idle. rw c.set.ensures (write-keeps k c.args.mem.now (c.args.at + 2) _ idle)
