use Rattle.std.proofs.Common.{◌≡◌, ℕ, ◌-◌, ◌<◌, ◌≤◌}
use Rattle.word_arena.specs.Blocks.{kind_at, BlockBegins}
use Rattle.word_arena.specs.Sums.{free_before}
use Rattle.word_arena.proofs.shifts.Shifts.before.Given as goal

abbrev pub invariant-loop-p : goal.invariant-loop-p
invariant-loop-p l = record {
  begins : l.p < l.at → BlockBegins l.mem l.p;
  passed : (q : ℕ) → BlockBegins l.mem q → l.at ≤ q → q < l.p → 1 ≤ kind_at l.mem q;
  sum : l.sum ≡ free_before l.mem l.p;
}

abbrev pub decreases-loop-p : goal.decreases-loop-p
decreases-loop-p l = l.at - l.p
