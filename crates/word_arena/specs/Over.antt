-- A row of numbers under the row of the greatest of each 64 side by side.
use Rattle.std.specs.Prelude.{◌≡◌, ℕ, ◌*◌, ◌/◌, ◌<◌, ◌≤◌, List, length, slice_index}
use Rattle.word_arena.specs.declared.tops.TheConstants.{FAN}

-- Each number of the upper row is the greatest of its 64 in the lower one, or 0.
pub record Over (low high : List ℕ) : Type 0 where
  pub lens : length low ≡ FAN * length high
  pub above : (i : ℕ) → i < length low → slice_index low i ≤ slice_index high (i / FAN)
  pub met : (g : ℕ) → g < length high → 0 < slice_index high g → (i : ℕ) × (i / FAN ≡ g) × (slice_index low i ≡ slice_index high g)
