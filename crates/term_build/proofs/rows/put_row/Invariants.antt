use Rattle.std.proofs.Common.{◌≡◌, ℕ, ◌+◌, ◌<◌, ◌≤◌, ◌⊎◌, length, slice_index}
use Rattle.term_build.proofs.rows.put_row.Given as goal

abbrev pub invariant-loop-i : goal.invariant-loop-i
invariant-loop-i l = record {
  same_len : length l.mem ≡ length l.initial.mem;
  row : (q j : ℕ) → j < l.i → q ≡ l.at + j → slice_index l.mem q ≡ slice_index l.words j;
  others : (q : ℕ) → (q < l.at) ⊎ (l.at + length l.words ≤ q) → slice_index l.mem q ≡ slice_index l.initial.mem q;
}
