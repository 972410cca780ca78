use Rattle.std.proofs.Common.{◌≡◌, ◌≢◌, ℕ, ◌+◌, ◌-◌, ◌<◌, ◌≤◌}
use Rattle.word_arena.specs.Blocks.{size_at, kind_at, BlockBegins, IsBoundary}
use Rattle.word_arena.proofs.blocks.free_before.Given as goal

abbrev pub invariant-loop-p : goal.invariant-loop-p
invariant-loop-p l = record {
  stop : IsBoundary l.mem l.p;
  none : (q : ℕ) → BlockBegins l.mem q → l.from ≤ q → q < l.p → kind_at l.mem q ≡ 0 → q + size_at l.mem q ≢ l.at;
}

abbrev pub decreases-loop-p : goal.decreases-loop-p
decreases-loop-p l = l.end - l.p
