use Rattle.std.proofs.Common.{◌≡◌, ℕ, ◌<◌, ◌≤◌, get_or}
use Rattle.word_arena.proofs.tops.Tops.greatest.Given as goal

abbrev pub invariant-loop-number : goal.invariant-loop-number
invariant-loop-number l = record {
  above : (k : ℕ) → k < l.number-index → get_or l.number-items k 0 ≤ l.most;
  met : 0 < l.most → (k : ℕ) × (get_or l.number-items k 0 ≡ l.most);
}
