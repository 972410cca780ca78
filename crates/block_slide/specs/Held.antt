-- What a slide asks of what stands: where words with a role lie, and that what the roots reach lies in the rows that are relocated.
use Rattle.std.specs.Prelude.{◌≡◌, ◌≢◌, ℕ, ◌+◌, ◌*◌, ◌<◌, ◌≤◌, ◌⊎◌, Bool, true, List, length, slice_index}
use Rattle.word_mem.specs.declared.ranges.Span.{Span}
use Rattle.term_words.specs.Role.{NAMES, RECORD_FIRST, OfRecord}
use Rattle.term_words.specs.Object.{IsPointer}
use Rattle.term_words.specs.Counted.{In}
use Rattle.term_words.specs.Reach.{Reach}
use Rattle.word_arena.specs.Blocks.{size_at, kind_at, BlockBegins, IsUsed}
use Rattle.off_heap_list.specs.Links.{name_place, IsLink}
use Rattle.object_rows.specs.Row.{AreObjects}
use Rattle.block_slide.specs.Down.{packed_place}
use Rattle.block_slide.specs.Parts.{nth_part, span_of}
use Rattle.block_slide.specs.declared.parts.Part.{Part}
use Rattle.block_slide.specs.declared.parts.Part.TheVariants.{Objects}

-- The place lies in a block in use, and is the block's first word for no role but that of the first word of a record: a record may be a
-- block, whose header is the record's own.
pub record IsHeldAt (mem : List ℕ) (at role : ℕ) : Type 0 where
  pub block : ℕ
  pub used : IsUsed mem block
  pub from : block ≤ at
  pub below : at < block + size_at mem block
  pub inner : role ≢ RECORD_FIRST → block < at

-- Each word with a role lies so in a block in use, and no part has a word of a record.
pub record RolesHeld (c : ℕ → ℕ → Bool) (mem : List ℕ) (xs : List Part) : Type 0 where
  pub within : (a k : ℕ) → c a k ≡ true → IsHeldAt mem a k
  pub apart : (a k : ℕ) → c a k ≡ true → OfRecord k → (i : ℕ) → i < length xs → (a < (span_of (nth_part xs i)).start) ⊎ ((span_of (nth_part xs i)).end ≤ a)

-- The pointer names an object of a row that is one of the parts.
pub record IsOfRow (mem : List ℕ) (xs : List Part) (w : ℕ) : Type 0 where
  pub part : ℕ
  pub listed : part < length xs
  pub span : Span
  pub is : nth_part xs part ≡ Objects span
  pub ws : List ℕ
  pub are : AreObjects mem span.start ws span.end
  pub member : In w ws

-- Each object that the roots reach is in a row that is one of the parts.
pub record ReachHeld (mem roots : List ℕ) (xs : List Part) : Type 0 where
  pub objects : (w : ℕ) → Reach mem roots w → IsPointer w → IsOfRow mem xs w

-- Each of these holders and funs can be chained, is in a row that is one of the parts, and no word of it names but the one for that.
pub record LinksHeld (c : ℕ → ℕ → Bool) (mem : List ℕ) (xs : List Part) (ps : List ℕ) : Type 0 where
  pub links : (p : ℕ) → In p ps → IsLink c mem p
  pub rows : (p : ℕ) → In p ps → IsOfRow mem xs (p * 4 + 2)
  pub only : (p q : ℕ) → In p ps → p ≤ q → q < p + 6 → c q NAMES ≡ true → q ≡ name_place mem p

-- The blocks in use stand at the new places, in their order and with their sizes, kinds and owners, and no other; all behind them is
-- one free block, or there is none.
pub record BlocksSlid (old new : List ℕ) : Type 0 where
  pub same_len : length new ≡ length old
  pub used : (p : ℕ) → IsUsed old p → IsUsed new (packed_place old p)
  pub headers : (p : ℕ) → IsUsed old p → slice_index new (packed_place old p) ≡ slice_index old p
  pub owners : (p : ℕ) → IsUsed old p → slice_index new (packed_place old p + 1) ≡ slice_index old (p + 1)
  pub only : (r : ℕ) → IsUsed new r → (p : ℕ) × IsUsed old p × (packed_place old p ≡ r)
  pub order : (p q : ℕ) → IsUsed old p → IsUsed old q → p < q → packed_place old p + size_at old p ≤ packed_place old q
  pub last : (r : ℕ) → BlockBegins new r → kind_at new r ≡ 0 → r + size_at new r ≡ length new
