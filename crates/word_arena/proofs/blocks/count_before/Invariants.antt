use Rattle.std.proofs.Common.{◌≡◌, ℕ, ◌-◌, ◌<◌, ◌≤◌}
use Rattle.word_arena.specs.Blocks.{BlockBegins, IsBoundary}
use Rattle.word_arena.specs.Sums.{free_before}
use Rattle.word_arena.proofs.blocks.count_before.Given as goal

abbrev pub invariant-loop-at : goal.invariant-loop-at
invariant-loop-at l = record {
  stop : IsBoundary l.mem l.at;
  from : l.from ≤ l.at;
  inner : (p : ℕ) → BlockBegins l.mem p → l.from ≤ p → p < l.at → p < l.end;
  sum : l.sum ≡ free_before l.mem l.at;
}

abbrev pub decreases-loop-at : goal.decreases-loop-at
decreases-loop-at l = l.end - l.at
