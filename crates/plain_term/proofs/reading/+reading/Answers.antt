use Rattle.std.proofs.Common.{arith}
use Rattle.plain_term.proofs.WrittenLemmas.{no-head, no-tail, no-part, no-tuple, reads-more, reads-cons, reads-tuple, are-more, is-tuple}
use Rattle.plain_term.proofs.reading.+reading.Goals as goal

pub read_tuple-returns-in_err-part : goal.read_tuple-returns-in_err-part
read_tuple-returns-in_err-part t c =
    let done = c.loop-i.invariant in
    rw c.from_residual.ensures (no-tuple c.args.items.now c.args.n (no-part c.args.items.now c.loop-i._i c.args.n done.terms c.loop-i.rest.now done.begin c.loop-i-test.true c.in_err-part.ensures))

pub read_tuple-loop-i-preserved : goal.read_tuple-loop-i-preserved
read_tuple-loop-i-preserved t c =
    reads-more c.args.items.now c.loop-i._i c.loop-i.parts c.pushed-parts.result c.loop-i.rest.now c.in_ok-part.part c.in_ok-part.after.now c.loop-i.invariant c.in_ok-part.ensures
    (λ ts t all one. are-more c.loop-i.parts c.in_ok-part.part c.pushed-parts.result ts t c.pushed-parts.ensures all one)

pub read_tuple-returns : goal.read_tuple-returns
read_tuple-returns t c =
    reads-tuple c.args.items.now c.loop-i._i c.args.n c.loop-i.parts c.map.result c.loop-i.rest.now (omega arith) c.loop-i.invariant (is-tuple c.loop-i.parts c.map.result c.map.ensures.cases)

pub read_cons-returns-in_err-head : goal.read_cons-returns-in_err-head
read_cons-returns-in_err-head t c = rw c.from_residual.ensures (no-head c.args.items.now c.in_err-head.ensures)

pub read_cons-returns-in_err-tail : goal.read_cons-returns-in_err-tail
read_cons-returns-in_err-tail t c =
    let head = c.in_ok-head.ensures in
    rw c.from_residual-in_err-tail.ensures (no-tail c.args.items.now head.term c.in_ok-head.rest.now head.begins c.in_err-tail.ensures)

pub read_cons-returns : goal.read_cons-returns
read_cons-returns t c =
    reads-cons c.args.items.now c.in_ok-head.head c.in_ok-head.rest.now c.in_ok-tail.tail c.cons.result c.in_ok-tail.rest.now c.in_ok-head.ensures c.in_ok-tail.ensures
    (λ h u hd tl. c.cons.ensures h u (c.boxed-head.ensures h hd) (c.boxed.ensures u tl))

pub read_term-returns-in-Cons : goal.read_term-returns-in-Cons
read_term-returns-in-Cons t c = rw c.in_ok-first.ensures (rw c.in-Cons.is c.read_cons.ensures)

pub read_term-returns-in-Tuple : goal.read_term-returns-in-Tuple
read_term-returns-in-Tuple t c = rw c.in_ok-first.ensures (rw c.in-Tuple.is c.read_tuple.ensures)

pub read_term-returns-in-Bin : goal.read_term-returns-in-Bin
read_term-returns-in-Bin t c = rw c.in_ok-first.ensures (rw c.in-Bin.is c.read_binary.ensures)
