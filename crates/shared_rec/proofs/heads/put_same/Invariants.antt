use Rattle.std.proofs.Common.{◌≡◌, ℕ, ◌<◌, ◌≤◌, ◌⊎◌, length, slice_index}
use Rattle.shared_rec.proofs.heads.put_same.Given as goal

abbrev pub invariant-loop-q : goal.invariant-loop-q
invariant-loop-q l = record {
  same_len : length l.mem ≡ length l.initial.mem;
  same : (q : ℕ) → l.from ≤ q → q < l.q → slice_index l.mem q ≡ l.word;
  others : (q : ℕ) → (q < l.from) ⊎ (l.to ≤ q) → slice_index l.mem q ≡ slice_index l.initial.mem q;
}
