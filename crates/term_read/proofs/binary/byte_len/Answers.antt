use Rattle.term_read.proofs.Binaries.{tells-len, no-len}
use Rattle.term_read.proofs.binary.byte_len.Goals as goal

pub returns-in_err-bytes : goal.returns-in_err-bytes
returns-in_err-bytes c = rw c.from_residual.ensures (no-len c.args.mem.now c.args.w c.in_err-bytes.ensures)

pub returns : goal.returns
returns c = tells-len c.args.mem.now c.args.w c.in_ok-bytes.bytes c.in_ok-bytes.ensures
