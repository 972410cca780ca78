use Rattle.std.proofs.Common.{◌≡◌, ℕ, ◌-◌, ◌<◌, ◌≤◌}
use Rattle.word_arena.specs.Blocks.{free_at, BlockBegins, IsBoundary}
use Rattle.word_arena.proofs.blocks.greatest.Given as goal

abbrev pub invariant-loop-at : goal.invariant-loop-at
invariant-loop-at l = record {
  stop : IsBoundary l.mem l.at;
  from : l.from ≤ l.at;
  above : (p : ℕ) → BlockBegins l.mem p → l.from ≤ p → p < l.at → free_at l.mem p ≤ l.most;
  inner : (p : ℕ) → BlockBegins l.mem p → l.from ≤ p → p < l.at → p < l.end;
  met : 0 < l.most → (p : ℕ) × BlockBegins l.mem p × (l.from ≤ p) × (p < l.end) × (free_at l.mem p ≡ l.most);
}

abbrev pub decreases-loop-at : goal.decreases-loop-at
decreases-loop-at l = l.end - l.at
