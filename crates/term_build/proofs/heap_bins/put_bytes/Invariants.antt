use Rattle.std.proofs.Common.{◌≡◌, ℕ, ◌+◌, ◌*◌, ◌/◌, ◌%◌, ◌<◌, ◌≤◌, ◌⊎◌, length, slice_index}
use Rattle.term_words.specs.Object.{byte_of}
use Rattle.term_build.proofs.heap_bins.put_bytes.Given as goal

abbrev pub invariant-loop-j : goal.invariant-loop-j
invariant-loop-j l = record {
  same_len : length l.mem ≡ length l.initial.mem;
  row : (i a : ℕ) → i < l.j * 8 → a ≡ l.place + i / 8 → byte_of (slice_index l.mem a) (i % 8) ≡ slice_index l.bytes i;
  others : (q : ℕ) → (q < l.place) ⊎ (l.place + l.words ≤ q) → slice_index l.mem q ≡ slice_index l.initial.mem q;
}
