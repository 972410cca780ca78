-- Whole objects and records side by side, read by their first words. A tile is an object's pointer, or 4 times the place
-- of a record.
use Rattle.std.specs.Prelude.{◌≡◌, ℕ, ◌+◌, ◌-◌, ◌*◌, ◌/◌, ◌%◌, ◌≤◌, ◌⊎◌, ◌==◌, if◌then◌else◌, List, [], ◌∷◌, slice_index, Some}
use Rattle.term_tags.specs.Table.{layout_for}
use Rattle.term_tags.specs.declared.layouts.Layout.{Layout}
use Rattle.term_tags.specs.Words.{record_word}
use Rattle.term_tags.specs.declared.records.TheConstants.{BIN_RECORD, FUN_RECORD}
use Rattle.term_words.specs.Object.{object_words}
use Rattle.term_words.specs.Counted.{In}

-- The header of a record: 4 words at least for the bytes of a binary, 4 for a fun.
abbrev pub IsRecordHeader : ℕ → Type 0
IsRecordHeader h = ((4 ≤ h / 16) × (h % 16 ≡ BIN_RECORD)) ⊎ (h ≡ record_word FUN_RECORD 4)

-- The words of what a tile names.
abbrev pub tile_words : List ℕ → ℕ → ℕ
tile_words mem w = if w % 4 == 0 then slice_index mem (w / 4) / 16 else object_words mem w

-- What the tile names begins at its place: a cons with a word that is no header, any other object with a header that has
-- a layout, a record with its own header.
abbrev pub IsTile : List ℕ → ℕ → Type 0
IsTile mem w = ((w % 4 ≡ 1) × (slice_index mem (w / 4) % 4 ≡ 0 → ⊥))
    ⊎ (((w % 4 ≡ 2) × ((l : Layout) × (layout_for (slice_index mem (w / 4)) ≡ Some l))) ⊎ ((w % 4 ≡ 0) × IsRecordHeader (slice_index mem (w / 4))))

-- The words from one place up to another are what these tiles name, without a gap.
abbrev pub Tiled : List ℕ → (from : ℕ) → (tiles : List ℕ) → (to : ℕ) → Type 0
Tiled mem from [] to = from ≡ to
Tiled mem from (w ∷ ws) to = (w / 4 ≡ from) × IsTile mem w × Tiled mem (from + tile_words mem w) ws to

-- What a tile is read by stands at the other place: the tag of a cons's first word, the whole first word of what is no cons.
pub record IsTileAt (old new : List ℕ) (w at : ℕ) : Type 0 where
  pub cons : w % 4 ≡ 1 → slice_index new at % 4 ≡ slice_index old (w / 4) % 4
  pub others : (w % 4 ≡ 1 → ⊥) → slice_index new at ≡ slice_index old (w / 4)

-- The tiles between two places move with these by one shift: what each is read by stands at its new place, to which its new
-- word leads.
pub record MoveAsOne (old new : List ℕ) (f g : ℕ → ℕ) (from to : ℕ) (ws : List ℕ) : Type 0 where
  pub shift : (q : ℕ) → from ≤ q → q ≤ to → g q ≡ g from + (q - from)
  pub words : (w : ℕ) → In w ws → f w ≡ g (w / 4) * 4 + w % 4
  pub read : (w : ℕ) → In w ws → IsTileAt old new w (g (w / 4))
