-- Parts of the memory that are relocated in place, and what becomes of their words.
use Rattle.std.specs.Prelude.{◌≡◌, ℕ, ◌+◌, ◌<◌, ◌≤◌, ◌⊎◌, List, length, slice_index, slice_index_or}
use Rattle.word_mem.specs.declared.ranges.Span.{Span}
use Rattle.term_words.specs.Counted.{In}
use Rattle.word_arena.specs.Blocks.{size_at, IsUsed}
use Rattle.word_arena.specs.Calls.{HeadersStay}
use Rattle.word_arena.specs.Packs.{Packed}
use Rattle.object_rows.specs.Row.{AreObjects, IsRow}
use Rattle.word_shift.specs.Shifted.{word_image, ObjectShifted, RowShifted, StaysBeside, WordsShifted}
use Rattle.block_slide.specs.Down.{packed_place}
use Rattle.block_slide.specs.declared.parts.Part.{Part}
use Rattle.block_slide.specs.declared.parts.Part.TheVariants.{Objects, Words, Links}

-- The places of a part.
abbrev pub span_of : Part → Span
span_of (Objects s) = s
span_of (Words s) = s
span_of (Links s) = s

-- Part i of a list; a row without places past its end.
abbrev pub nth_part : List Part → ℕ → Part
nth_part xs i = slice_index_or xs i (Objects (record { start = 0; end = 0 }))

-- The part lies in the memory, and a row is one of whole objects.
abbrev pub IsPartIn : List ℕ → Part → Type 0
IsPartIn mem (Objects s) = IsRow mem s.start s.end
IsPartIn mem (Words s) = s.end ≤ length mem
IsPartIn mem (Links s) = s.end ≤ length mem

-- Each word from one place up to another, a place, became its new place, and no other word changed.
pub record PlacesShifted (g : ℕ → ℕ) (old new : List ℕ) (from to : ℕ) : Type 0 where
  pub beside : StaysBeside old new from to
  pub images : (q : ℕ) → from ≤ q → q < to → slice_index new q ≡ g (slice_index old q)

-- Each place of one list became the new place at its place in the other.
pub record PlaceListShifted (g : ℕ → ℕ) (old new : List ℕ) : Type 0 where
  pub same_len : length new ≡ length old
  pub images : (i : ℕ) → i < length old → slice_index new i ≡ g (slice_index old i)

-- The part was relocated, and no word outside changed.
abbrev pub PartShifted : (ℕ → ℕ) → (old new : List ℕ) → Part → Type 0
PartShifted g old new (Objects s) = (ws : List ℕ) → AreObjects old s.start ws s.end → RowShifted g old new s.start s.end ws
PartShifted g old new (Words s) = WordsShifted g old new s.start s.end
PartShifted g old new (Links s) = PlacesShifted g old new s.start s.end

-- Each object of a part is relocated, or each word an image, or each word a new place.
abbrev pub PartDone : (ℕ → ℕ) → (old new : List ℕ) → Part → Type 0
PartDone g old new (Objects s) = (ws : List ℕ) → AreObjects old s.start ws s.end → (w : ℕ) → In w ws → ObjectShifted g old new w
PartDone g old new (Words s) = (q : ℕ) → s.start ≤ q → q < s.end → slice_index new q ≡ word_image g (slice_index old q)
PartDone g old new (Links s) = (q : ℕ) → s.start ≤ q → q < s.end → slice_index new q ≡ g (slice_index old q)

-- The part lies in a block in use, behind the block's two first words.
pub record LiesInUse (mem : List ℕ) (x : Part) : Type 0 where
  pub block : ℕ
  pub used : IsUsed mem block
  pub behind : block + 2 ≤ (span_of x).start
  pub inside : (span_of x).end ≤ block + size_at mem block
  pub is : IsPartIn mem x

-- One part ends before the other begins.
abbrev pub PartsApart : (x y : Part) → Type 0
PartsApart x y = ((span_of x).end ≤ (span_of y).start) ⊎ ((span_of y).end ≤ (span_of x).start)

-- Each part lies in a block in use, and no two have a word in common.
pub record AreParts (mem : List ℕ) (xs : List Part) : Type 0 where
  pub each : (i : ℕ) → i < length xs → LiesInUse mem (nth_part xs i)
  pub apart : (i j : ℕ) → i < j → j < length xs → PartsApart (nth_part xs i) (nth_part xs j)

-- The first n parts were relocated, and no word outside them changed.
pub record PartsShifted (g : ℕ → ℕ) (old new : List ℕ) (xs : List Part) (n : ℕ) : Type 0 where
  pub same_len : length new ≡ length old
  pub done : (i : ℕ) → i < n → i < length xs → PartDone g old new (nth_part xs i)
  pub others : (q : ℕ) → ((i : ℕ) → i < n → i < length xs → (q < (span_of (nth_part xs i)).start) ⊎ ((span_of (nth_part xs i)).end ≤ q))
      → slice_index new q ≡ slice_index old q

-- All parts were relocated where they stood, and then the blocks in use were packed.
pub record SlidParts (old new : List ℕ) (xs : List Part) : Type 0 where
  pub mid : List ℕ
  pub shifted : PartsShifted (packed_place old) old mid xs (length xs)
  pub headers : HeadersStay old mid
  pub packed : Packed mid new
