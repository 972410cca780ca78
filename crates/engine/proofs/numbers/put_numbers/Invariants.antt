use Rattle.std.proofs.Common.{◌≡◌, ℕ, ◌<◌, ◌==◌, ◌^◌, ◌-◌, ◌++◌, List}
use Rattle.line_io.specs.Sink.{Grew}
use Rattle.plain_machine.specs.State.{State, live_numbers}
use Rattle.plain_machine.specs.Step.{procs_text}
use Rattle.space_api.specs.Calls.{AreRising}
use Rattle.engine.specs.Writing.{above, end_of_line}
use Rattle.engine.proofs.Rising.{left}
use Rattle.engine.proofs.numbers.put_numbers.Given as goal

abbrev pub invariant-loop-n : goal.invariant-loop-n
invariant-loop-n g l = record {
  fits : l.last < 2 ^ 64;
  told : g.K.Sink.faults l.sink ≡ g.K.Sink.faults l.fn.sink;
  wrote : (s : State) → g.S.Space.stands l.space s → AreRising 0 (live_numbers s)
      → (part : List ℕ) × Grew g.K.Sink.wrote l.fn.sink l.sink part × (end_of_line (procs_text s) ≡ part ++ left (l.last == 0) (above l.last (live_numbers s)));
}

abbrev pub decreases-loop-n : goal.decreases-loop-n
decreases-loop-n g l = 2 ^ 64 - l.last
