use Rattle.std.proofs.Common.{◌+◌, ◌∙◌, arith}
use Rattle.shared_rec.proofs.Rows.{bytes-filled, free-keep}
use Rattle.plain_term.specs.Measures.{bin_words}
use Rattle.shared_rec.proofs.bytes.fill.Goals as goal

pub returns-clause-made : goal.returns-clause-made
returns-clause-made c = λ k serial bytes o.
    bytes-filled k c.args.mem.now c.put_equal.new.mem c.args.at serial c.args.b c.get-len.result bytes (omega (arith, c.ranges.b)) (c.get-len.ensures ∙ o.size) o
    c.put_equal.ensures.writes c.put_equal.ensures.whole c.put_equal.ensures.rest

pub returns-clause-kept : goal.returns-clause-kept
returns-clause-kept c = λ k free.
    free-keep k (c.args.at + 4) (c.args.at + 4 + bin_words c.get-len.result) c.args.mem.now c.put_equal.new.mem c.put_equal.ensures.writes (rw c.get-len.ensures free)
