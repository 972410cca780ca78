-- What the table knows of each stretch of 64 words.
use Rattle.std.specs.Prelude.{◌≡◌, ℕ, ◌+◌, ◌*◌, ◌/◌, ◌<◌, ◌≤◌, ◌^◌, List, length, slice_index}
use Rattle.word_arena.specs.Blocks.{free_at, BlockBegins, IsBoundary, free_of}
use Rattle.word_arena.specs.declared.holes.Holes.{Holes}
use Rattle.word_arena.specs.declared.stretches.TheConstants.{STRETCH}

-- The first block that begins in a stretch begins so far into it; at its end where none begins in it.
pub record IsFirst (mem : List ℕ) (stretch first : ℕ) : Type 0 where
  pub begins : first < STRETCH → BlockBegins mem (stretch * STRETCH + first)
  pub least : (p : ℕ) → BlockBegins mem p → p / STRETCH ≡ stretch → stretch * STRETCH + first ≤ p

-- The greatest free block that begins in a stretch has so many words; 0 where none begins in it.
pub record IsTop (mem : List ℕ) (stretch top : ℕ) : Type 0 where
  pub above : (p : ℕ) → BlockBegins mem p → p / STRETCH ≡ stretch → free_at mem p ≤ top
  pub met : 0 < top → (p : ℕ) × BlockBegins mem p × (p / STRETCH ≡ stretch) × (free_at mem p ≡ top)

-- The table is right about a stretch.
pub record Right (mem firsts tops : List ℕ) (stretch : ℕ) : Type 0 where
  pub first : IsFirst mem stretch (slice_index firsts stretch)
  pub top : IsTop mem stretch (slice_index tops stretch)

-- At the place begins the first block at or behind the stretch's first word, or the memory ends there.
pub record IsStart (mem : List ℕ) (stretch from : ℕ) : Type 0 where
  pub stop : IsBoundary mem from
  pub low : from < length mem → stretch * STRETCH ≤ from
  pub least : (p : ℕ) → BlockBegins mem p → stretch * STRETCH ≤ p → from ≤ p

-- The table has a stretch for each word of the memory, and one for its end.
pub record HasRoom (mem : List ℕ) (h : Holes) : Type 0 where
  pub stretches : length mem < STRETCH * length h.firsts.items
  pub tops : length h.tops ≡ length h.firsts.items
  pub few : length h.firsts.items ≤ 2 ^ 24

-- The table is right about every stretch, and about the sum of free words.
pub record Agrees (mem : List ℕ) (h : Holes) : Type 0 where
  pub room : HasRoom mem h
  pub right : (i : ℕ) → i < length h.firsts.items → Right mem h.firsts.items h.tops i
  pub free : h.free ≡ free_of mem

-- The table was brought up to date: it is right about one stretch, and about each about which it was right.
pub record Settled (mem : List ℕ) (old new : Holes) : Type 0 where
  pub room : HasRoom mem new
  pub same_len : length new.firsts.items ≡ length old.firsts.items
  pub keeps : (i : ℕ) → Right mem old.firsts.items old.tops i → Right mem new.firsts.items new.tops i
  pub free : new.free ≡ old.free
