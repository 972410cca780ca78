use Rattle.plain_term.specs.Written.{ReadsBytes}
use Rattle.plain_term.proofs.reading.read_binary.Given as goal

abbrev pub invariant-loop-i : goal.invariant-loop-i
invariant-loop-i l = ReadsBytes l.items l._i l.bytes l.rest
