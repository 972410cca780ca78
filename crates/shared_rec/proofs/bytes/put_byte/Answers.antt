use Rattle.std.proofs.Common.{◌+◌, ◌/◌, arith}
use Rattle.term_words.proofs.Framing.Rooms.{write-keeps}
use Rattle.shared_rec.proofs.Rows.{byte-written}
use Rattle.shared_rec.proofs.bytes.put_byte.Goals as goal

pub returns-clause-made : goal.returns-clause-made
returns-clause-made c = λ k serial bytes o below.
    rw (c.set.ensures, c.put_in_word.ensures, c.get-word.ensures) (byte-written k c.args.mem.now c.args.at serial c.args.i c.args.b bytes c.requires (omega (arith, c.ranges.b)) o below)

pub returns-clause-kept : goal.returns-clause-kept
returns-clause-kept c = λ k idle. rw c.set.ensures (write-keeps k c.args.mem.now (c.args.at + (4 + c.args.i / 8)) _ idle)
