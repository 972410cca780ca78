-- What each call finds, writes and leaves.
use Rattle.std.specs.Prelude.{◌≡◌, ◌≢◌, ℕ, ◌+◌, ◌-◌, ◌<◌, ◌≤◌, ◌⊎◌, nat_lt, if◌then◌else◌, List, length, slice_index, slice_set}
use Rattle.word_arena.specs.Blocks.{size_at, kind_at, owner_at, free_at, header, BlockBegins, IsUsed}

-- No free block has so many words.
abbrev pub NoneFits : List ℕ → (words : ℕ) → Type 0
NoneFits mem words = (p : ℕ) → BlockBegins mem p → free_at mem p < words

-- At the place begins the first free block that has so many words.
pub record FirstFit (mem : List ℕ) (words at : ℕ) : Type 0 where
  pub begins : BlockBegins mem at
  pub free : kind_at mem at ≡ 0
  pub fits : words ≤ size_at mem at
  pub first : (p : ℕ) → BlockBegins mem p → p < at → free_at mem p < words

-- No free block has more words than so many, and one has so many where that is not 0.
pub record IsGreatest (mem : List ℕ) (words : ℕ) : Type 0 where
  pub above : (p : ℕ) → BlockBegins mem p → free_at mem p ≤ words
  pub met : 0 < words → (p : ℕ) × BlockBegins mem p × (free_at mem p ≡ words)

-- At the place begins a block with these words, kind and owner.
pub record IsBlock (mem : List ℕ) (at words kind owner : ℕ) : Type 0 where
  pub begins : BlockBegins mem at
  pub has_words : size_at mem at ≡ words
  pub has_kind : kind_at mem at ≡ kind
  pub has_owner : owner_at mem at ≡ owner

-- The memory in which the words from one place up to another are one free block, where there are any.
abbrev pub freed : List ℕ → (from to : ℕ) → List ℕ
freed mem from to = if nat_lt from to then slice_set mem from (header (to - from) 0) else mem

-- The memory after a block was taken from the front of the free block at the place: the rest is free.
abbrev pub taken : List ℕ → (at words kind owner : ℕ) → List ℕ
taken mem at words kind owner =
    slice_set (slice_set (freed mem (at + words) (at + size_at mem at)) at (header words kind)) (at + 1) owner

-- Where the words end that are free from the place on: at the end of the free block that begins there, else at the place.
abbrev pub free_end : List ℕ → ℕ → ℕ
free_end mem at = at + free_at mem at

-- The memory after the block at the place was cut to so many words: the rest and the free block behind it are one.
abbrev pub shortened : List ℕ → (at words : ℕ) → List ℕ
shortened mem at words =
    slice_set (freed mem (at + words) (free_end mem (at + size_at mem at))) at (header words (kind_at mem at))

-- The free words before a place begin here: at the free block that ends at the place, else at the place itself.
pub record FreeFrom (mem : List ℕ) (at from : ℕ) : Type 0 where
  pub place : (from ≡ at) ⊎ (BlockBegins mem from × (kind_at mem from ≡ 0) × (from + size_at mem from ≡ at))
  pub only : (p : ℕ) → BlockBegins mem p → kind_at mem p ≡ 0 → p + size_at mem p ≡ at → p ≡ from

-- The block at the place was given back: it and the free blocks beside it are one, which begins at `from`.
pub record Merged (old new : List ℕ) (at : ℕ) : Type 0 where
  pub from : ℕ
  pub free : FreeFrom old at from
  pub words : new ≡ slice_set old from (header (free_end old (at + size_at old at) - from) 0)

-- Each block that is not free and does not begin at the place is still there, word for word, and no other such block is.
pub record OthersStay (old new : List ℕ) (at : ℕ) : Type 0 where
  pub same_len : length new ≡ length old
  pub stay : (p : ℕ) → p ≢ at → IsUsed old p → IsUsed new p
  pub only : (p : ℕ) → p ≢ at → IsUsed new p → IsUsed old p
  pub words : (p q : ℕ) → p ≢ at → IsUsed old p → p ≤ q → q < p + size_at old p → slice_index new q ≡ slice_index old q

-- No block in use has a word in common with the so many words from the place on.
abbrev pub BesideUsed : List ℕ → (at words : ℕ) → Type 0
BesideUsed mem at words = (p : ℕ) → IsUsed mem p → (p + size_at mem p ≤ at) ⊎ (at + words ≤ p)

-- The headers are as they were, whatever else was written.
pub record HeadersStay (old new : List ℕ) : Type 0 where
  pub same_len : length new ≡ length old
  pub same : (p : ℕ) → BlockBegins old p → slice_index new p ≡ slice_index old p
