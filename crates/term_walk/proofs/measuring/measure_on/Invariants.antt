use Rattle.std.proofs.Common.{◌*◌, ◌-◌, ◌^◌, ◌≤◌, reverse}
use Rattle.plain_term.specs.Beyond.{node_limit}
use Rattle.term_walk.specs.Measured.{Counts}
use Rattle.term_walk.proofs.measuring.measure_on.Given as goal

abbrev pub invariant-loop-nodes : goal.invariant-loop-nodes
invariant-loop-nodes g l = record {
  counts : Counts l.mem l.w l.word (reverse l.levels.items) l.nodes l.flat;
  few : l.nodes ≤ node_limit;
  small : l.flat ≤ l.nodes * 2 ^ 26;
}

abbrev pub decreases-loop-nodes : goal.decreases-loop-nodes
decreases-loop-nodes g l = node_limit - l.nodes
