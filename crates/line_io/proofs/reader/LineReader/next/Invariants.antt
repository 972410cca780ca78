-- The bytes read so far are in the reader, which has not come to its end, and no line end stands before `looked`.
use Rattle.line_io.specs.Reader.{reads_left}
use Rattle.line_io.proofs.Loop.{Looping}
use Rattle.line_io.proofs.reader.LineReader.next.Given as goal

abbrev pub invariant-reading : goal.invariant-reading
invariant-reading g l = Looping (g.S.Source.left l.initial.source) (g.S.Source.left l.source) (g.S.Source.faults l.initial.source) (g.S.Source.faults l.source) l.initial.self l.self l.looked

abbrev pub decreases-reading : goal.decreases-reading
decreases-reading g l = reads_left l.self.stop l.self.bytes_left
