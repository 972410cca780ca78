use Rattle.term_read.proofs.Reading.{reads-tail, no-tail}
use Rattle.term_read.proofs.cons.tl.Goals as goal

pub returns-in_err-cons-clause-reads : goal.returns-in_err-cons-clause-reads
returns-in_err-cons-clause-reads c = rw c.from_residual.ensures (no-tail c.args.mem.now c.args.w c.in_err-cons.ensures.none)

pub returns-clause-reads : goal.returns-clause-reads
returns-clause-reads c =
    let (tag, place, inside) = c.in_ok-cons.ensures.some in
    rw c.get.ensures (reads-tail c.args.mem.now c.args.w c.in_ok-cons.cons tag place)
