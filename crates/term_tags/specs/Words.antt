-- The word of each kind of term, by its low bits.
use Rattle.std.specs.Prelude.{ℕ, suc, ◌+◌, ◌-◌, ◌*◌, ◌/◌, ◌^◌, nat_lt, if◌then◌else◌, ℤ, pos, negsuc, ◌≤ℤ◌, ◌<ℤ◌}

-- a small integer is at least -2^59 and below 2^59
abbrev pub IsSmall : ℤ → Type 0
IsSmall i = (negsuc (2 ^ 59 - 1) ≤ℤ i) × (i <ℤ pos (2 ^ 59))

-- the 60 bits of an integer: itself, or 2^60 less its magnitude where it is negative
abbrev pub small_bits : ℤ → ℕ
small_bits (pos n) = n
small_bits (negsuc n) = 2 ^ 60 - suc n

-- the word of a small integer: its bits, and the tag 1111
abbrev pub small_word : ℤ → ℕ
small_word i = small_bits i * 16 + 15

-- the small integer with these 60 bits
abbrev pub small_of_bits : ℕ → ℤ
small_of_bits b = if nat_lt b (2 ^ 59) then pos b else negsuc (2 ^ 60 - suc b)

-- the small integer of a word
abbrev pub small_value : ℕ → ℤ
small_value w = small_of_bits (w / 16)

-- the word of a process number: the tag 0011
abbrev pub pid_word : ℕ → ℕ
pid_word n = n * 16 + 3

-- the word of an atom: the tag 001011
abbrev pub atom_word : ℕ → ℕ
atom_word k = k * 64 + 11

-- the list pointer to the cons at a place: the tag 01
abbrev pub list_word : ℕ → ℕ
list_word place = place * 4 + 1

-- the boxed pointer to the header at a place: the tag 10
abbrev pub boxed_word : ℕ → ℕ
boxed_word place = place * 4 + 2

-- the header of an object: the tag 00
abbrev pub head_word : (subtag arity : ℕ) → ℕ
head_word subtag arity = arity * 64 + subtag * 4

-- the first word of a record of this kind and size in words
abbrev pub record_word : (kind words : ℕ) → ℕ
record_word kind words = words * 16 + kind
