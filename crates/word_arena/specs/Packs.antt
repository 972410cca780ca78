-- What packing leaves.
use Rattle.std.specs.Prelude.{◌≡◌, ℕ, ◌+◌, ◌<◌, ◌≤◌, List, length, slice_index}
use Rattle.word_arena.specs.Blocks.{size_at, kind_at, Blocks, IsListed, BlockBegins, IsUsed}
use Rattle.word_arena.specs.Sums.{free_before, slid}

-- The blocks in use stand side by side in their order, word for word, and all behind them is one free block, or there is none.
pub record Packed (old new : List ℕ) : Type 0 where
  pub same_len : length new ≡ length old
  pub used : (p : ℕ) → IsUsed old p → IsUsed new (slid old p p)
  pub words : (p q : ℕ) → IsUsed old p → p ≤ q → q < p + size_at old p → slice_index new (slid old p q) ≡ slice_index old q
  pub only : (r : ℕ) → IsUsed new r → (p : ℕ) × IsUsed old p × (slid old p p ≡ r)
  pub last : (r : ℕ) → BlockBegins new r → kind_at new r ≡ 0 → r + size_at new r ≡ length new

-- The blocks in use that begin before a place stand side by side in their order up to another, and from the place on each word is as it was.
pub record Gathered (old now : List ℕ) (at to : ℕ) : Type 0 where
  pub same_len : length now ≡ length old
  pub order : to + free_before old at ≡ at
  pub ahead : (q : ℕ) → at ≤ q → slice_index now q ≡ slice_index old q
  pub places : List ℕ
  pub row : Blocks now 0 places to
  pub used : (r : ℕ) → IsListed r places → 1 ≤ kind_at now r
  pub words : (p q : ℕ) → IsUsed old p → p < at → p ≤ q → q < p + size_at old p → slice_index now (slid old p q) ≡ slice_index old q
  pub stay : (p : ℕ) → IsUsed old p → p < at → IsListed (slid old p p) places
  pub only : (r : ℕ) → IsListed r places → (p : ℕ) × IsUsed old p × (p < at) × (slid old p p ≡ r)
