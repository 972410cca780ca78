use Rattle.std.proofs.Common.{◌-◌, ◌≤◌}
use Rattle.term_order.specs.Runs.{PassesBoth}
use Rattle.term_order.proofs.runs.pass_same.Given as goal

abbrev pub invariant-loop-cells : goal.invariant-loop-cells
invariant-loop-cells l = record {
  few : l.cells ≤ l.most;
  passes : PassesBoth l.mem l.a l.b l.left l.right l.cells;
}

abbrev pub decreases-loop-cells : goal.decreases-loop-cells
decreases-loop-cells l = l.most - l.cells
