-- The numbers are those of what was taken before and of the bytes so far.
use Rattle.std.proofs.Common.{take}
use Rattle.line_io.specs.Sink.{Grew}
use Rattle.line_io.specs.SumSink.{SumsUp}
use Rattle.line_io.proofs.sum_sink.SumSinkSink.write.Given as goal

abbrev pub invariant-loop-byte : goal.invariant-loop-byte
invariant-loop-byte l = Grew SumsUp l.initial.self l.self (take l.byte-index l.bytes)
