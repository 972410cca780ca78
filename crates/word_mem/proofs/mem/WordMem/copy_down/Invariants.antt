use Rattle.std.proofs.Common.{◌≡◌, ℕ, ◌+◌, ◌<◌, ◌≤◌, ◌^◌, ◌⊎◌, length, get_or}
use Rattle.word_mem.proofs.mem.WordMem.copy_down.Given as goal

abbrev pub invariant-loop-left : goal.invariant-loop-left
invariant-loop-left l = record {
  same_len : length l.self ≡ length l.initial.self;
  most : length l.self ≤ 2 ^ 24;
  within : l.left ≤ l.n;
  moved : (p q : ℕ) → l.dst + l.left ≤ q → q < l.dst + l.n → p + l.dst ≡ q + l.src → get_or l.self q 0 ≡ get_or l.initial.self p 0;
  kept : (q : ℕ) → (q < l.dst + l.left) ⊎ (l.dst + l.n ≤ q) → get_or l.self q 0 ≡ get_or l.initial.self q 0;
}

abbrev pub decreases-loop-left : goal.decreases-loop-left
decreases-loop-left l = l.left
