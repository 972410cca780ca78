-- The numbers of rows, by what gives a row's number.
use Rattle.std.specs.Prelude.{ℕ, ◌<◌, ◌==◌, Bool, List, [], ◌∷◌, map, slice_index}
use Rattle.std.specs.List.{list_any}

-- The numbers, in order.
abbrev pub numbers : {R : Type 0} → (R → ℕ) → List R → List ℕ
numbers f rows = map f rows

-- The number of the row at a place.
abbrev pub row_number : {R : Type 0} → (R → ℕ) → List R → ℕ → ℕ
row_number f rows i = slice_index (numbers f rows) i

-- A row with this number is among them.
abbrev pub is_among : {R : Type 0} → (R → ℕ) → List R → ℕ → Bool
is_among f rows n = list_any (λ r. f r == n) rows

-- Every number is below this one.
abbrev pub AreBelow : ℕ → List ℕ → Type 0
AreBelow limit [] = Unit {0}
AreBelow limit (n ∷ ns) = (n < limit) × AreBelow limit ns
