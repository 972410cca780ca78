-- What a memory stands for, and what is true of each.
use Rattle.std.specs.Prelude.{◌≡◌, ℕ, ◌^◌, ◌<◌, ◌≤◌, true, false, List, length, slice_index_or}
use Rattle.word_mem.specs.declared.mem.WordMem.TheInside.{Inside}

-- the list of its words
abbrev pub inside_words : Inside → List ℕ
inside_words m = m.words.items

-- it has at most 2^24 words, each was written, and its lease is that of its block
abbrev pub IsWhole : Inside → Type 0
IsWhole m = (m.len ≡ length m.words.items) × (m.len ≤ 2 ^ 24) × ((k : ℕ) → k < m.len → slice_index_or m.words.filled k false ≡ true)
    × (m.lease.alloc ≡ m.alloc) × (m.lease.ptr ≡ m.words.ptr) × (m.lease.len ≡ m.words.len)
