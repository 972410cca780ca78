-- The table of slots by which a name is found: each slot holds a name's number and 1, or 0.
use Rattle.std.specs.Prelude.{ℕ, zero, suc, ◌≡◌, ◌+◌, ◌-◌, ◌%◌, ◌<◌, ◌≤◌, List, [], ◌∷◌, length, slice_index, slice_index_or}
use Rattle.atom_names.specs.Spread.{first_slot}
use Rattle.atom_names.specs.declared.names.TheConstants.{MOST_NAMES}

-- The slot that is j steps after another one, around the end.
abbrev pub after : (start j : ℕ) → ℕ
after start j = (start + j) % 65536

-- How many steps a slot is after another one.
abbrev pub steps : (start slot : ℕ) → ℕ
steps start slot = (slot + 65536 - start) % 65536

-- How many slots hold no name.
unfoldable pub empties : List ℕ → ℕ
empties [] = 0
empties (zero ∷ xs) = empties xs + 1
empties (suc _ ∷ xs) = empties xs

-- The way to a name's place leads over slots that hold names older than number k.
pub record LeadsTo (slots : List ℕ) (name : List ℕ) (place k : ℕ) : Type 0 where
  pub full : (j : ℕ) → j < steps (first_slot name) place → 0 < slice_index slots (after (first_slot name) j)
  pub older : (j : ℕ) → j < steps (first_slot name) place → slice_index slots (after (first_slot name) j) ≤ k

-- The first n names are found: each stands at its place, the way there leads over older names, and no slot holds another number.
pub record FindsSlot (names : List (List ℕ)) (n : ℕ) (slots places : List ℕ) : Type 0 where
  pub slots_room : length slots ≡ 65536
  pub places_room : length places ≡ MOST_NAMES
  pub placed : (k : ℕ) → k < n → slice_index places k < 65536
  pub own : (k : ℕ) → k < n → slice_index slots (slice_index places k) ≡ k + 1
  pub led : (k : ℕ) → k < n → LeadsTo slots (slice_index_or names k []) (slice_index places k) k
  pub known : (i k : ℕ) → i < 65536 → slice_index slots i ≡ k + 1 → k < n
  pub back : (i k : ℕ) → i < 65536 → slice_index slots i ≡ k + 1 → slice_index places k ≡ i
  pub rest : empties slots + n ≡ 65536

-- A slot that is free for a name that is new: no slot before it is.
pub record IsFreeSlot (name : List ℕ) (slots : List ℕ) (slot : ℕ) : Type 0 where
  pub inside : slot < 65536
  pub empty : slice_index slots slot ≡ 0
  pub led : (j : ℕ) → j < steps (first_slot name) slot → 0 < slice_index slots (after (first_slot name) j)
