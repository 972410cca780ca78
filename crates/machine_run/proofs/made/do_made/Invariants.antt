-- The lines that were given are done, with those that are left they are the whole script, and each call is one of a line.
use Rattle.std.proofs.Common.{◌≡◌, ◌+◌, ◌≤◌, length}
use Rattle.made_script.specs.Script.{lines_to_come}
use Rattle.plain_machine.specs.State.{State}
use Rattle.space_api.specs.Calls.{most_calls}
use Rattle.engine.specs.Acts.{StandsWith}
use Rattle.machine_run.proofs.Making.{Making}
use Rattle.machine_run.proofs.made.do_made.Given as goal

abbrev pub invariant-loop-script : goal.invariant-loop-script
invariant-loop-script g l = record {
  making : (first : State) → StandsWith (g.P.Space.stands l.initial.m.space) l.initial.m.names first
      → Making (g.P.Space.words l.initial.m.space) first l.number (lines_to_come l.script)
      (StandsWith (g.P.Space.stands l.m.space) l.m.names) l.sums;
  words : g.P.Space.words l.m.space ≡ g.P.Space.words l.initial.m.space;
  calls : g.P.Space.calls l.m.space + length (lines_to_come l.script) ≤ most_calls;
  named : g.P.Space.named l.m.space ≤ length l.m.names;
}

abbrev pub decreases-loop-script : goal.decreases-loop-script
decreases-loop-script g l = length (lines_to_come l.script)
