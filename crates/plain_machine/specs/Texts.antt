-- Texts that are divided by commas.
use Rattle.std.specs.Prelude.{ℕ, List, [], ◌∷◌, ◌++◌, codes}

-- Texts, each after a comma.
abbrev pub more_divided : List (List ℕ) → List ℕ
more_divided [] = []
more_divided (text ∷ texts) = codes "," ++ (text ++ more_divided texts)

-- Texts divided by commas.
abbrev pub divided : List (List ℕ) → List ℕ
divided [] = []
divided (text ∷ texts) = text ++ more_divided texts
