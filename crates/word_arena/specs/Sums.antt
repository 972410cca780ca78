-- Words that are free, in use or in the blocks of a list, and where a block comes to when the free words before it go.
use Rattle.std.specs.Prelude.{ℕ, ◌+◌, ◌-◌, ◌==◌, nat_lt, if◌then◌else◌, List, [], ◌∷◌}
use Rattle.word_arena.specs.Blocks.{size_at, kind_at, free_at, block_places}

-- The free words of those blocks among these that begin before a place.
abbrev pub free_below : List ℕ → (at : ℕ) → List ℕ → ℕ
free_below mem at [] = 0
free_below mem at (p ∷ ps) = (if nat_lt p at then free_at mem p else 0) + free_below mem at ps

-- The free words of the blocks that begin before a place.
unfoldable pub free_before : List ℕ → (at : ℕ) → ℕ
free_before mem at = free_below mem at (block_places mem)

-- Where the word at a place of a block comes to when the free words before the block go.
abbrev pub slid : List ℕ → (block at : ℕ) → ℕ
slid mem block at = at - free_before mem block

-- How many words in use the block at a place has: none of a free block, all of another.
abbrev pub used_at : List ℕ → ℕ → ℕ
used_at mem at = if kind_at mem at == 0 then 0 else size_at mem at

-- The words in use of the blocks at these places.
abbrev pub used_among : List ℕ → List ℕ → ℕ
used_among mem [] = 0
used_among mem (p ∷ ps) = used_at mem p + used_among mem ps

-- The words of all blocks in use.
unfoldable pub used_of : List ℕ → ℕ
used_of mem = used_among mem (block_places mem)

-- The words of the blocks at these places together.
abbrev pub words_among : List ℕ → List ℕ → ℕ
words_among mem [] = 0
words_among mem (p ∷ ps) = size_at mem p + words_among mem ps
