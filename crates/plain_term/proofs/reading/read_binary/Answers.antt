use Rattle.std.proofs.Common.{arith}
use Rattle.plain_term.proofs.WrittenLemmas.{no-byte, no-binary, reads-byte, reads-bin, bytes-more, is-binary}
use Rattle.plain_term.proofs.reading.read_binary.Goals as goal

pub returns-in_err-byte : goal.returns-in_err-byte
returns-in_err-byte c =
    let done = c.loop-i.invariant in
    rw c.from_residual.ensures (no-binary c.args.items.now c.args.n (no-byte c.args.items.now c.loop-i._i c.args.n done.bytes c.loop-i.rest.now done.begin c.loop-i-test.true c.in_err-byte.ensures))

pub loop-i-preserved : goal.loop-i-preserved
loop-i-preserved c =
    reads-byte c.args.items.now c.loop-i._i c.loop-i.bytes c.pushed-bytes.result c.loop-i.rest.now c.in_ok-byte.byte c.in_ok-byte.after.now c.loop-i.invariant c.in_ok-byte.ensures
    (λ bs all. bytes-more c.loop-i.bytes c.pushed-bytes.result c.in_ok-byte.byte bs c.pushed-bytes.ensures all)

pub returns : goal.returns
returns c =
    reads-bin c.args.items.now c.loop-i._i c.args.n c.loop-i.bytes c.map.result c.loop-i.rest.now (omega arith) (omega arith) c.loop-i.invariant
    (is-binary c.loop-i.bytes c.map.result c.map.ensures.cases)
