use Rattle.std.proofs.Common.{◌≡◌, ℕ, ◌+◌, ◌<◌, ◌≤◌, get_or}
use Rattle.word_arena.proofs.tops.largest.Given as goal

abbrev pub invariant-loop-i : goal.invariant-loop-i
invariant-loop-i l = record {
  above : (k : ℕ) → l.from ≤ k → k < l.i → get_or l.row k 0 ≤ l.most;
  met : 0 < l.most → (k : ℕ) × (l.from ≤ k) × (k < l.from + 64) × (get_or l.row k 0 ≡ l.most);
}
