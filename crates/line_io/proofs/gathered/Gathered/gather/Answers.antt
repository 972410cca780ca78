use Rattle.std.proofs.Common.{take, arith}
use Rattle.line_io.proofs.Ranges.{copied-front, range-grows}
use Rattle.line_io.proofs.gathered.Gathered.gather.Goals as goal

pub returns-clause-gathered : goal.returns-clause-gathered
returns-clause-gathered g c =
    let w = c.args.self.now in
    let n = c.min-n.result in
    let new = c.put_at.new.buf in
    let bytes = c.args.bytes.now in
    let written = copied-front w.buf new bytes w.to n (omega arith) c.put_at.ensures.front in
    range-grows w.buf new (take n bytes) w.from w.to n w.in_order (omega arith) written
