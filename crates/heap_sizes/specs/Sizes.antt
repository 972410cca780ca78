-- The sequence of heap sizes, by its law.
use Rattle.std.specs.Prelude.{ℕ, zero, suc, ◌≡◌, ◌+◌, ◌/◌, ◌<◌, ◌≤◌, nat_le, if◌then◌else◌}

-- The entry with number k, from the two before it: up to entry 22 their sum and 1, then the last and a fifth of it, rounded down.
abbrev pub entry_after : (k before last : ℕ) → ℕ
entry_after k before last = if nat_le k 22 then before + last + 1 else (last + last / 5)

-- Entry k + 1 and the next one, from entry k and the next one.
abbrev pub move_on : ℕ → ℕ × ℕ → ℕ × ℕ
move_on k two = (two.1, entry_after (k + 2) two.0 two.1)

-- Entry k and the next one. The first two are 12 and 38.
unfoldable pub two_at : ℕ → ℕ × ℕ
two_at zero = (12, 38)
two_at (suc k) = move_on k (two_at k)

-- Entry k of the sequence.
abbrev pub heap_size : ℕ → ℕ
heap_size k = (two_at k).0

-- The least of the 39 entries that is at least n.
pub record IsNextSize (n size : ℕ) : Type 0 where
  pub place : ℕ
  pub inside : place < 39
  pub entry : size ≡ heap_size place
  pub enough : n ≤ size
  pub least : (k : ℕ) → k < 39 → n ≤ heap_size k → size ≤ heap_size k
