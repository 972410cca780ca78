-- What words become where places change: a word, the words of an object, and of a row of objects.
use Rattle.std.specs.Prelude.{◌≡◌, ℕ, ◌+◌, ◌*◌, ◌/◌, ◌%◌, ◌<◌, ◌≤◌, ◌⊎◌, ◌==◌, ◌||◌, if◌then◌else◌, Bool, true, false, List, length, slice_index}
use Rattle.term_words.specs.Object.{IsPointer, object_words}
use Rattle.term_words.specs.Reach.{first_traced}
use Rattle.term_words.specs.Counted.{In}
use Rattle.term_words.specs.Tiled.{IsTile}
use Rattle.off_heap_list.specs.Links.{name_place}
use Rattle.object_rows.specs.Row.{is_link}

-- The image of a word: a pointer leads to the new place of its object and has the same tag, any other word is as it is.
abbrev pub word_image : (ℕ → ℕ) → ℕ → ℕ
word_image g w = if (w % 4 == 1) || (w % 4 == 2) then g (w / 4) * 4 + w % 4 else w

-- The map of places can be asked whatever words stand from one place up to another, where all others are as they are, and answers
-- the same.
pub record FitsBeside (fits : List ℕ → Type 0) (map : List ℕ → ℕ → ℕ) (mem : List ℕ) (from to : ℕ) : Type 0 where
  pub fit : (new : List ℕ) → length new ≡ length mem → ((q : ℕ) → (q < from) ⊎ (to ≤ q) → slice_index new q ≡ slice_index mem q) → fits new
  pub alike : (new : List ℕ) → length new ≡ length mem → ((q : ℕ) → (q < from) ⊎ (to ≤ q) → slice_index new q ≡ slice_index mem q)
      → (a : ℕ) → map new a ≡ map mem a

-- The memory is as long as it was, and no word changed but from one place up to another.
pub record StaysBeside (old new : List ℕ) (from to : ℕ) : Type 0 where
  pub same_len : length new ≡ length old
  pub same : (q : ℕ) → (q < from) ⊎ (to ≤ q) → slice_index new q ≡ slice_index old q

-- Each word from one place up to another is the image of the word that stood there, and no other word changed.
pub record WordsShifted (g : ℕ → ℕ) (old new : List ℕ) (from to : ℕ) : Type 0 where
  pub beside : StaysBeside old new from to
  pub images : (q : ℕ) → from ≤ q → q < to → slice_index new q ≡ word_image g (slice_index old q)

-- Each word of one list is the image of the word at its place in the other.
pub record ListShifted (g : ℕ → ℕ) (old new : List ℕ) : Type 0 where
  pub same_len : length new ≡ length old
  pub images : (i : ℕ) → i < length old → slice_index new i ≡ word_image g (slice_index old i)

-- The words of an object at p, traced from `first` on: those are images; if it leads on, its word `next` and the word that names
-- its record are the new places of what they told; every other word is as it was.
pub record IsShifted (g : ℕ → ℕ) (old new : List ℕ) (p first size : ℕ) (leads : Bool) (name : ℕ) : Type 0 where
  pub traced : (q : ℕ) → p + first ≤ q → q < p + size → slice_index new q ≡ word_image g (slice_index old q)
  pub next : leads ≡ true → slice_index new (p + 2) ≡ g (slice_index old (p + 2))
  pub names : leads ≡ true → slice_index new name ≡ g (slice_index old name)
  pub others : (q : ℕ) → p ≤ q → q < p + first → q < p + size → (leads ≡ false) ⊎ ((q < p + 2) ⊎ (p + 2 < q)) → (leads ≡ false) ⊎ ((q < name) ⊎ (name < q))
      → slice_index new q ≡ slice_index old q

-- The object that the pointer leads to was relocated: traced words are images; the name and `next` of a holder or a fun are new places.
abbrev pub ObjectShifted : (ℕ → ℕ) → (old new : List ℕ) → ℕ → Type 0
ObjectShifted g old new w = IsShifted g old new (w / 4) (first_traced old w) (object_words old w) (is_link old w) (name_place old (w / 4))

-- A whole object lies at a place of the memory, and the map can be asked while its words are written.
pub record CanRelocate (fits : List ℕ → Type 0) (map : List ℕ → ℕ → ℕ) (mem : List ℕ) (at : ℕ) : Type 0 where
  pub w : ℕ
  pub pointer : IsPointer w
  pub tile : IsTile mem w
  pub place : w / 4 ≡ at
  pub inside : at + object_words mem w ≤ length mem
  pub fit : FitsBeside fits map mem at (at + object_words mem w)

-- The object at the place was relocated, and nothing else was written; it ends at `next`.
pub record RelocatesObject (g : ℕ → ℕ) (old new : List ℕ) (w next : ℕ) : Type 0 where
  pub ends : next ≡ w / 4 + object_words old w
  pub beside : StaysBeside old new (w / 4) (w / 4 + object_words old w)
  pub shifted : ObjectShifted g old new w

-- Each of the objects from one place up to another was relocated, and nothing else was written.
pub record RowShifted (g : ℕ → ℕ) (old new : List ℕ) (from to : ℕ) (ws : List ℕ) : Type 0 where
  pub beside : StaysBeside old new from to
  pub each : (w : ℕ) → In w ws → ObjectShifted g old new w
