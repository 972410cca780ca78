-- The memory as a row of blocks. Places and sizes are in words; the first word of a block is its header.
use Rattle.std.specs.Prelude.{◌≡◌, ℕ, zero, suc, ◌+◌, ◌*◌, ◌/◌, ◌%◌, ◌<◌, ◌≤◌, ◌⊎◌, ◌==◌, nat_lt, if◌then◌else◌, List, [], ◌∷◌, length, slice_index}
use Rattle.word_arena.specs.declared.blocks.TheConstants.{KINDS, LAST_KIND}

-- How many words the block at a place has.
abbrev pub size_at : List ℕ → ℕ → ℕ
size_at mem at = slice_index mem at / KINDS

-- The kind of the block at a place; that of a free block is 0.
abbrev pub kind_at : List ℕ → ℕ → ℕ
kind_at mem at = slice_index mem at % KINDS

-- Whose the block at a place is; a free block has no owner.
abbrev pub owner_at : List ℕ → ℕ → ℕ
owner_at mem at = slice_index mem (at + 1)

-- How many free words the block at a place has: all of a free block, none of another.
abbrev pub free_at : List ℕ → ℕ → ℕ
free_at mem at = if kind_at mem at == 0 then size_at mem at else 0

-- The header of a block of so many words and of this kind.
abbrev pub header : (size kind : ℕ) → ℕ
header size kind = size * KINDS + kind

-- A word is a block's header: a free block has a word at least, any other has two.
pub record IsHeader (word : ℕ) : Type 0 where
  pub kind : word % KINDS ≤ LAST_KIND
  pub sized : 1 ≤ word / KINDS
  pub owned : 1 ≤ word % KINDS → 2 ≤ word / KINDS

-- The words from one place up to another are blocks that begin at these places, without a gap.
abbrev pub Blocks : List ℕ → (from : ℕ) → (places : List ℕ) → (to : ℕ) → Type 0
Blocks mem from [] to = from ≡ to
Blocks mem from (p ∷ ps) to = (p ≡ from) × IsHeader (slice_index mem p) × Blocks mem (from + size_at mem p) ps to

-- The places to which the headers lead from one place on, up to the memory's end, in at most so many steps.
abbrev pub places_from : List ℕ → (steps : ℕ) → (at : ℕ) → List ℕ
places_from mem zero at = []
places_from mem (suc steps) at = if nat_lt at (length mem) then at ∷ places_from mem steps (at + size_at mem at) else []

-- The places where blocks begin, from the memory's first word on.
unfoldable pub block_places : List ℕ → List ℕ
block_places mem = places_from mem (length mem) 0

-- The memory is a row of blocks.
pub record Blocked (mem : List ℕ) : Type 0 where
  pub row : Blocks mem 0 (block_places mem) (length mem)

-- Blocks lead from the memory's first word to the place.
pub record Reaches (mem : List ℕ) (at : ℕ) : Type 0 where
  pub places : List ℕ
  pub row : Blocks mem 0 places at

-- The place stands in the list.
abbrev pub IsListed : ℕ → List ℕ → Type 0
IsListed p [] = ⊥
IsListed p (q ∷ qs) = (p ≡ q) ⊎ IsListed p qs

-- A block begins at the place.
pub record BlockBegins (mem : List ℕ) (at : ℕ) : Type 0 where
  pub listed : IsListed at (block_places mem)

-- A block begins at the place that is not free.
pub record IsUsed (mem : List ℕ) (at : ℕ) : Type 0 where
  pub begins : BlockBegins mem at
  pub kind : 1 ≤ kind_at mem at

-- A block begins at the place, or the memory ends there.
pub record IsBoundary (mem : List ℕ) (at : ℕ) : Type 0 where
  pub inside : at ≤ length mem
  pub begins : at < length mem → BlockBegins mem at

-- The free words of the blocks at these places.
abbrev pub free_among : List ℕ → List ℕ → ℕ
free_among mem [] = 0
free_among mem (p ∷ ps) = free_at mem p + free_among mem ps

-- The free words of all blocks.
unfoldable pub free_of : List ℕ → ℕ
free_of mem = free_among mem (block_places mem)

-- No two free blocks stand side by side.
pub record FreeApart (mem : List ℕ) : Type 0 where
  pub apart : (p : ℕ) → BlockBegins mem p → kind_at mem p ≡ 0 → p + size_at mem p < length mem → 1 ≤ kind_at mem (p + size_at mem p)
