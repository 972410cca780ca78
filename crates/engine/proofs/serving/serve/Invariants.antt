use Rattle.std.proofs.Common.{◌≡◌, ◌+◌, ◌≤◌, length}
use Rattle.line_io.specs.Reader.{IsFaulted, lines_left, limits_of}
use Rattle.plain_machine.specs.State.{State}
use Rattle.engine.specs.Acts.{StandsWith, leaving}
use Rattle.engine.specs.Serving.{Going}
use Rattle.engine.proofs.serving.serve.Given as goal

abbrev pub invariant-loop-status : goal.invariant-loop-status
invariant-loop-status g l = record {
  going : (first : State) → StandsWith (g.S.Space.stands l.initial.m.space) l.initial.m.names first
      → Going (record { words = g.S.Space.words l.initial.m.space; first = first; limits = limits_of l.initial.reader })
      (record { before = g.T.Source.left l.initial.source; after = g.T.Source.left l.source })
      (record { wrote = g.K.Sink.wrote; faults = g.K.Sink.faults; before = l.initial.sink; after = l.sink })
      l.reader (leaving (g.S.Space.stands l.m.space) (g.S.Space.text l.m.space) l.m.names);
  no_fault : IsFaulted l.reader → ⊥;
  read_told : g.T.Source.faults l.source ≡ g.T.Source.faults l.initial.source;
  words : g.S.Space.words l.m.space ≡ g.S.Space.words l.initial.m.space;
  calls : g.S.Space.calls l.m.space + lines_left l.reader ≤ g.S.Space.calls l.initial.m.space + (limits_of l.initial.reader).lines;
  named : g.S.Space.named l.m.space ≤ length l.m.names;
  limits : limits_of l.reader ≡ limits_of l.initial.reader;
}

abbrev pub decreases-loop-status : goal.decreases-loop-status
decreases-loop-status g l = lines_left l.reader
