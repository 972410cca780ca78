-- Where a fun's record stands in its table.
use Rattle.std.specs.Prelude.{◌≡◌, ℕ, ◌<◌, ◌≤◌, List, length, slice_index, Option, Some, None}
use Rattle.shared_rec.specs.Record.{owner_in}

-- So many funs' records have a lesser owner word than this number, and the others no lesser one.
pub record IsSpot (mem : List ℕ) (funs : List ℕ) (code i : ℕ) : Type 0 where
  pub within : i ≤ length funs
  pub below : (j : ℕ) → j < i → owner_in mem (slice_index funs j) < code
  pub above : (j : ℕ) → i ≤ j → j < length funs → code ≤ owner_in mem (slice_index funs j)

-- The answer is the record with that number, which has this owner word; or there is none with both.
abbrev pub IsFunAt : (mem funs : List ℕ) → (i code : ℕ) → Option ℕ → Type 0
IsFunAt mem funs i code (Some v) = (i < length funs) × ((v ≡ slice_index funs i) × (owner_in mem v ≡ code))
IsFunAt mem funs i code None = i < length funs → owner_in mem (slice_index funs i) ≡ code → ⊥
