-- A memory laid out by hand, with an object of each kind.
use Rattle.std.specs.Prelude.{ℕ, List, [], ◌∷◌}

abbrev pub sample : List ℕ
sample = 0 ∷ 31 ∷ 59 ∷ 128 ∷ 331 ∷ 5 ∷ 164 ∷ 3 ∷ 591879 ∷ 86 ∷ 1 ∷ 1 ∷ 2 ∷ 513 ∷ 352 ∷ 2 ∷ 0 ∷ 9 ∷ 0 ∷ 0 ∷ 296 ∷ 1 ∷ 1 ∷ 0 ∷ 58 ∷ 71 ∷ 770 ∷ 1 ∷ 0 ∷ 404 ∷ 25 ∷
    0 ∷ 2 ∷ 1 ∷ 19 ∷ 79 ∷ 64 ∷ 75 ∷ 252 ∷ 1 ∷ 146 ∷ 159 ∷ 144 ∷ 1 ∷ 7 ∷ 72 ∷ 9223372036854775808 ∷ 0 ∷ 136 ∷ 0 ∷ 1 ∷ []
