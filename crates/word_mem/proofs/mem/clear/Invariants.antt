use Rattle.std.proofs.Common.{◌≡◌, ℕ, ◌<◌, true, false, get_or}
use Rattle.word_mem.proofs.mem.clear.Given as goal

abbrev pub invariant-loop-at : goal.invariant-loop-at
invariant-loop-at l = record {
  ptr : l.row.ptr ≡ l.initial.row.ptr;
  len : l.row.len ≡ l.count;
  zeros : (k : ℕ) → k < l.at → get_or l.row.items k 0 ≡ 0;
  filled : (k : ℕ) → k < l.at → get_or l.row.filled k false ≡ true;
}
