-- The records that new holders name.
use Rattle.std.specs.Prelude.{ℕ, zero, suc, ◌+◌, ◌*◌, List, [], ◌∷◌, ◌++◌, slice_index}

-- The places of the records of n holders that lie side by side from a place on, in order.
abbrev pub records_from : List ℕ → (first n : ℕ) → List ℕ
records_from mem first zero = []
records_from mem first (suc n) = records_from mem first n ++ slice_index mem (first + 6 * n + 3) ∷ []
