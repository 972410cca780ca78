use Rattle.term_read.proofs.Reading.{reads-head, no-head}
use Rattle.term_read.proofs.cons.hd.Goals as goal

pub returns-in_err-place-clause-reads : goal.returns-in_err-place-clause-reads
returns-in_err-place-clause-reads c = rw c.from_residual.ensures (no-head c.args.mem.now c.args.w c.in_err-place.ensures.none)

pub returns-clause-reads : goal.returns-clause-reads
returns-clause-reads c =
    let (tag, place, inside) = c.in_ok-place.ensures.some in
    rw c.get.ensures (reads-head c.args.mem.now c.args.w c.in_ok-place.place tag place)
