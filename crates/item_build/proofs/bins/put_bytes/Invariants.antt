use Rattle.std.proofs.Common.{◌≡◌, ℕ, ◌+◌, ◌*◌, ◌/◌, ◌%◌, ◌<◌, ◌≤◌, ◌⊎◌, length, slice_index}
use Rattle.plain_term.specs.Measures.{bin_words}
use Rattle.term_words.specs.Object.{byte_of}
use Rattle.item_build.specs.Reading.{bytes_in}
use Rattle.item_build.proofs.bins.put_bytes.Given as goal

abbrev pub invariant-loop-j : goal.invariant-loop-j
invariant-loop-j l = record {
  same_len : length l.mem ≡ length l.initial.mem;
  row : (i a : ℕ) → i < l.j * 8 → a ≡ l.at + i / 8 → byte_of (slice_index l.mem a) (i % 8) ≡ slice_index (bytes_in l.n l.bytes) i;
  others : (q : ℕ) → (q < l.at) ⊎ (l.at + bin_words l.n ≤ q) → slice_index l.mem q ≡ slice_index l.initial.mem q;
}
