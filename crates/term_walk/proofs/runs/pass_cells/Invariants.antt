use Rattle.std.proofs.Common.{◌-◌, ◌≤◌}
use Rattle.term_walk.specs.Runs.{PassesCells}
use Rattle.term_walk.proofs.runs.pass_cells.Given as goal

abbrev pub invariant-loop-cells : goal.invariant-loop-cells
invariant-loop-cells l = record {
  few : l.cells ≤ l.most;
  passes : PassesCells l.mem l.w l.word l.cells;
}

abbrev pub decreases-loop-cells : goal.decreases-loop-cells
decreases-loop-cells l = l.most - l.cells
