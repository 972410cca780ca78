-- What callers see: a list of names, each a list of bytes, in the order of their numbers.
use Rattle.std.specs.Prelude.{ℕ, ◌≡◌, ◌<◌, ◌≤◌, List, [], ◌∷◌, ◌++◌, length, slice_index_or, Option, Some, if◌then◌else◌}
use Rattle.std.specs.List.{position}
use Rattle.std.specs.Option.{is_some}
use Rattle.std.specs.Str.{bytes_eq}
use Rattle.atom_names.specs.declared.names.TheConstants.{MOST_NAMES}
use Rattle.atom_names.specs.declared.row.TheConstants.{LONGEST_NAME}

-- The first place where the name stands.
abbrev pub index_of : List (List ℕ) → List ℕ → Option ℕ
index_of names name = position (λ x. bytes_eq x name) names

-- The list itself where the name stands in it, else the list with the name at its end.
abbrev pub with_name : List (List ℕ) → List ℕ → List (List ℕ)
with_name names name = if is_some (index_of names name) then names else (names ++ name ∷ [])

-- There are at most so many names.
abbrev pub most_names : ℕ
most_names = MOST_NAMES

-- At most so many names, none of which stands twice, is empty, or is longer than a name may be.
pub record AreNames (names : List (List ℕ)) : Type 0 where
  pub few : length names ≤ most_names
  pub sized : (k : ℕ) → k < length names → (1 ≤ length (slice_index_or names k [])) × (length (slice_index_or names k []) ≤ LONGEST_NAME)
  pub once : (k : ℕ) → k < length names → index_of names (slice_index_or names k []) ≡ Some k
