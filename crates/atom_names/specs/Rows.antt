-- How the rows of names stand for the names.
use Rattle.std.specs.Prelude.{ℕ, ◌≡◌, ◌<◌, ◌≤◌, List, map, take, length, slice_index_or}
use Rattle.atom_names.specs.declared.row.Row.{Row}
use Rattle.atom_names.specs.declared.table.Table.{Table}
use Rattle.atom_names.specs.Names.{AreNames}
use Rattle.atom_names.specs.Slots.{FindsSlot}
use Rattle.atom_names.specs.declared.names.TheConstants.{MOST_NAMES}
use Rattle.atom_names.specs.declared.row.TheConstants.{LONGEST_NAME}

-- The name of a row.
abbrev pub row_name : Row → List ℕ
row_name r = take r.len r.bytes

-- The names of the first rows.
abbrev pub names_of : List Row → ℕ → List (List ℕ)
names_of rows count = map row_name (take count rows)

-- No row is longer than its room.
abbrev pub AreShort : List Row → Type 0
AreShort rows = (k : ℕ) (d : Row) → k < length rows → (slice_index_or rows k d).len ≤ LONGEST_NAME

-- What is true of the rows and their table at any time.
pub record NamesHold (rows : List Row) (table : Table) (count : ℕ) : Type 0 where
  pub room : length rows ≡ MOST_NAMES
  pub within : count ≤ MOST_NAMES
  pub short : AreShort rows
  pub names : AreNames (names_of rows count)
  pub finds : FindsSlot (names_of rows count) count table.slots.items table.places.items
