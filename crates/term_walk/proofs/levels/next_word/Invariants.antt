use Rattle.std.proofs.Common.{◌≤◌, length, reverse}
use Rattle.term_walk.proofs.Steps.{Skips}
use Rattle.term_walk.proofs.levels.next_word.Given as goal

abbrev pub invariant-loop-rest : goal.invariant-loop-rest
invariant-loop-rest g l = record {
  skips : Skips l.mem (reverse l.fn.levels.items) (reverse l.levels.items);
  few : length l.levels.items ≤ g.row.N;
}

abbrev pub decreases-loop-rest : goal.decreases-loop-rest
decreases-loop-rest g l = length l.levels.items
