-- What each call does to the memory, for the table beside it.
use Rattle.std.specs.Prelude.{◌≡◌, ◌≢◌, ℕ, ◌+◌, ◌-◌, ◌<◌, ◌≤◌, List, length, slice_index, slice_set}
use Rattle.word_arena.specs.Blocks.{size_at, kind_at, owner_at, header, Blocks, Blocked, BlockBegins, IsUsed, free_among, free_of, FreeApart}
use Rattle.word_arena.specs.Calls.{IsBlock, freed, taken, free_end, shortened, OthersStay}

-- Blocks begin where they did, with the same headers, but for three places.
pub record Frame (old new : List ℕ) (a b c : ℕ) : Type 0 where
  pub same_len : length new ≡ length old
  pub keeps : (p : ℕ) → p ≢ a → p ≢ b → p ≢ c → BlockBegins old p → BlockBegins new p
  pub comes : (p : ℕ) → p ≢ a → p ≢ b → p ≢ c → BlockBegins new p → BlockBegins old p
  pub same : (p : ℕ) → p ≢ a → p ≢ b → p ≢ c → BlockBegins old p → slice_index new p ≡ slice_index old p

-- A block was taken from the front of the free block at the place.
pub record TookBlock (old new : List ℕ) (at words kind owner : ℕ) : Type 0 where
  pub blocked : Blocked new
  pub mem : new ≡ taken old at words kind owner
  pub block : IsBlock new at words kind owner
  pub others : OthersStay old new at
  pub free : free_of new + words ≡ free_of old
  pub frame : Frame old new at at (at + words)
  pub apart : FreeApart old → FreeApart new

-- The block at the place was cut to so many words.
pub record Shortened (old new : List ℕ) (at words : ℕ) : Type 0 where
  pub blocked : Blocked new
  pub mem : new ≡ shortened old at words
  pub block : IsBlock new at words (kind_at old at) (owner_at old at)
  pub others : OthersStay old new at
  pub free : free_of new + words ≡ free_of old + size_at old at
  pub frame : Frame old new at (at + words) (at + size_at old at)
  pub apart : FreeApart old → FreeApart new
  pub rest : words < size_at old at → BlockBegins new (at + words) × (at + size_at old at ≤ at + words + size_at new (at + words))

-- The block at the place was given this kind.
pub record Turned (old new : List ℕ) (at kind : ℕ) : Type 0 where
  pub blocked : Blocked new
  pub mem : new ≡ slice_set old at (header (size_at old at) kind)
  pub block : IsBlock new at (size_at old at) kind (owner_at old at)
  pub others : OthersStay old new at
  pub free : free_of new ≡ free_of old
  pub frame : Frame old new at at at
  pub apart : FreeApart old → FreeApart new

-- The block at the place was freed and is one with the free words beside it, from the given place on.
pub record GaveBlock (old new : List ℕ) (at from : ℕ) : Type 0 where
  pub blocked : Blocked new
  pub mem : new ≡ slice_set old from (header (free_end old (at + size_at old at) - from) 0)
  pub begins : BlockBegins new from
  pub others : OthersStay old new at
  pub free : free_of new ≡ free_of old + size_at old at
  pub frame : Frame old new from at (at + size_at old at)
  pub apart : FreeApart old → FreeApart new
  pub gone : IsUsed new at → ⊥
  pub order : (from ≤ at) × (at + size_at old at ≤ from + size_at new from)

-- The memory is a row of blocks whose last, from the place on, is free, where the place is not the end.
pub record Closed (old new : List ℕ) (end_of_row : ℕ) : Type 0 where
  pub blocked : Blocked new
  pub mem : new ≡ freed old end_of_row (length old)
  pub free : (places : List ℕ) → Blocks old 0 places end_of_row → free_of new + end_of_row ≡ free_among old places + length old
  pub apart : ((p : ℕ) → BlockBegins new p → p < end_of_row → 1 ≤ kind_at new p) → FreeApart new
