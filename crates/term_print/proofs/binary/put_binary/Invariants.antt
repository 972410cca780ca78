use Rattle.std.proofs.Common.{◌≡◌, ℕ, List}
use Rattle.term_order.specs.Own.{IsBytes}
use Rattle.term_print.proofs.Numbers.{BytesCome}
use Rattle.term_print.proofs.binary.put_binary.Given as goal

abbrev pub invariant-loop-i : goal.invariant-loop-i
invariant-loop-i g l = record {
  come : (xs : List ℕ) → IsBytes l.mem l.bytes xs → BytesCome xs l.i g.K.Sink.wrote l.fn.sink l.sink;
  told : g.K.Sink.faults l.sink ≡ g.K.Sink.faults l.fn.sink;
}
