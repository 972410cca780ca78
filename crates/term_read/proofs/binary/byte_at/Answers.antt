use Rattle.term_read.proofs.Binaries.{tells-byte, past-byte, no-byte, byte-inside}
use Rattle.term_read.proofs.binary.byte_at.Goals as goal

pub returns-then-i-bytes : goal.returns-then-i-bytes
returns-then-i-bytes c = rw c.get-word.ensures (tells-byte c.args.mem.now c.args.w c.args.i c.in_ok-bytes.bytes c.in_ok-bytes.ensures c.if-i-bytes.true)

pub returns-else-i-bytes : goal.returns-else-i-bytes
returns-else-i-bytes c = past-byte c.args.mem.now c.args.w c.args.i c.in_ok-bytes.bytes c.in_ok-bytes.ensures c.if-i-bytes.false

pub returns-in_err-bytes : goal.returns-in_err-bytes
returns-in_err-bytes c = rw c.from_residual.ensures (no-byte c.args.mem.now c.args.w c.args.i c.in_err-bytes.ensures)

pub get-word-requires : goal.get-word-requires
get-word-requires c = byte-inside c.args.mem.now c.args.w c.args.i c.in_ok-bytes.bytes c.requires c.in_ok-bytes.ensures c.if-i-bytes.true
