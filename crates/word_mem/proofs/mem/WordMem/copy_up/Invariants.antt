use Rattle.std.proofs.Common.{◌≡◌, ℕ, ◌+◌, ◌<◌, ◌≤◌, ◌^◌, ◌⊎◌, length, get_or}
use Rattle.word_mem.proofs.mem.WordMem.copy_up.Given as goal

abbrev pub invariant-loop-i : goal.invariant-loop-i
invariant-loop-i l = record {
  same_len : length l.self ≡ length l.initial.self;
  most : length l.self ≤ 2 ^ 24;
  moved : (p q : ℕ) → l.dst ≤ q → q < l.dst + l.i → p + l.dst ≡ q + l.src → get_or l.self q 0 ≡ get_or l.initial.self p 0;
  kept : (q : ℕ) → (q < l.dst) ⊎ (l.dst + l.i ≤ q) → get_or l.self q 0 ≡ get_or l.initial.self q 0;
}
