-- Words that are written byte by byte, and words of equal bytes.
use Rattle.std.specs.Prelude.{ℕ, ◌+◌, ◌*◌, ◌/◌, ◌%◌, ◌^◌}

-- The word with another byte k, from the lowest.
abbrev pub with_byte : (word k b : ℕ) → ℕ
with_byte word k b = (word / 2 ^ (k * 8) / 256 * 256 + b) * 2 ^ (k * 8) + word % 2 ^ (k * 8)

-- The word whose eight bytes are all b.
abbrev pub equal_bytes : ℕ → ℕ
equal_bytes b = b * 72340172838076673
