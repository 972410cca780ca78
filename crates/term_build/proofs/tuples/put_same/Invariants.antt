use Rattle.std.proofs.Common.{◌≡◌, ℕ, ◌+◌, ◌<◌, ◌≤◌, ◌⊎◌, length, slice_index}
use Rattle.term_build.proofs.tuples.put_same.Given as goal

abbrev pub invariant-loop-i : goal.invariant-loop-i
invariant-loop-i l = record {
  same_len : length l.mem ≡ length l.initial.mem;
  row : (q j : ℕ) → j < l.i → q ≡ l.place + j → slice_index l.mem q ≡ l.w;
  others : (q : ℕ) → (q < l.place) ⊎ (l.place + l.n ≤ q) → slice_index l.mem q ≡ slice_index l.initial.mem q;
}
