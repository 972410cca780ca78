-- What went so far is the front of the bytes, each call takes some, and none has failed.
use Rattle.std.proofs.Common.{length, ◌-◌, ◌≡◌, ◌≤◌, take}
use Rattle.line_io.specs.Sink.{Grew}
use Rattle.line_io.proofs.sink.put_most.Given as goal

abbrev pub invariant-loop-at : goal.invariant-loop-at
invariant-loop-at g l = (l.at ≤ length l.bytes) × Grew g.K.Sink.wrote l.initial.sink l.sink (take l.at l.bytes) × (g.K.Sink.faults l.sink ≡ g.K.Sink.faults l.initial.sink)

abbrev pub decreases-loop-at : goal.decreases-loop-at
decreases-loop-at g l = length l.bytes - l.at
