-- The words of a counted record, and what a call writes of them.
use Rattle.std.specs.Prelude.{◌≡◌, ℕ, ◌+◌, ◌<◌, ◌≤◌, ◌⊎◌, ◌==◌, if◌then◌else◌, List, length, slice_index}
use Rattle.term_words.specs.Role.{COUNT, RECORD, RECORD_FIRST}
use Rattle.shared_rec.specs.declared.counts.Dropped.{Dropped}
use Rattle.shared_rec.specs.declared.counts.Dropped.TheVariants.{Freed, Kept}

-- The serial of a binary record, or the name and arity of a fun's: the word after the first.
abbrev pub owner_in : List ℕ → ℕ → ℕ
owner_in mem v = slice_index mem (v + 1)

-- How many objects name the record, as its third word says.
abbrev pub count_in : List ℕ → ℕ → ℕ
count_in mem v = slice_index mem (v + 2)

-- The length in bytes of a binary record: its fourth word, 0 in a fun's record.
abbrev pub length_in : List ℕ → ℕ → ℕ
length_in mem v = slice_index mem (v + 3)

-- The roles of a record's words, by the number of the word: the first, the count, and all others.
abbrev pub record_roles : ℕ → ℕ
record_roles j = if j == 0 then RECORD_FIRST else if j == 2 then COUNT else RECORD

-- No words but those from one place up to another were written.
pub record WritesRecord (from to : ℕ) (old new : List ℕ) : Type 0 where
  pub same_len : length new ≡ length old
  pub others : (q : ℕ) → (q < from) ⊎ (to ≤ q) → slice_index new q ≡ slice_index old q

-- What becomes of a record whose count has come down to n.
abbrev pub dropped_to : ℕ → Dropped
dropped_to n = if n == 0 then Freed else Kept n
