use Rattle.std.proofs.Common.{ℕ, ◌-◌, ◌<◌, ◌≤◌}
use Rattle.word_arena.specs.Blocks.{kind_at, BlockBegins, IsBoundary}
use Rattle.word_arena.proofs.blocks.first_free.Given as goal

abbrev pub invariant-loop-at : goal.invariant-loop-at
invariant-loop-at l = record {
  stop : IsBoundary l.mem l.at;
  from : l.from ≤ l.at;
  passed : (p : ℕ) → BlockBegins l.mem p → l.from ≤ p → p < l.at → (p < l.end) × (1 ≤ kind_at l.mem p);
}

abbrev pub decreases-loop-at : goal.decreases-loop-at
decreases-loop-at l = l.end - l.at
