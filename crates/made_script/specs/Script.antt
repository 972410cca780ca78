-- The script of a number, and what of it is yet to come.
use Rattle.std.specs.Prelude.{ℕ, zero, suc, List, [], ◌∷◌, ◌++◌, codes, drop}
use Rattle.rand_pcg.specs.Lcg.{Lcg, started, increment_of}
use Rattle.rand_pcg.specs.Pcg.{multiplier_64}
use Rattle.made_script.specs.Draws.{drawn, after_draws}
use Rattle.made_script.specs.Lines.{line_of}
use Rattle.made_script.specs.declared.script.MadeScript.{MadeScript}

-- the lines of the opening: seven more processes, and a literal area
abbrev pub opening_lines : List (List ℕ)
opening_lines = codes "sys spawn" ∷ codes "sys spawn" ∷ codes "sys spawn" ∷ codes "sys spawn" ∷ codes "sys spawn"
    ∷ codes "sys spawn" ∷ codes "sys spawn" ∷ codes "sys load base {lit,[1,2,3]} ; #{k=>v}" ∷ []

-- so many lines, each of what it draws from the generator that the line before it left
unfoldable pub lines_from : ℕ → Lcg → List (List ℕ)
lines_from zero g = []
lines_from (suc n) g = line_of (drawn g) ∷ lines_from n (after_draws g)

-- the generator of a number, on its first stream
unfoldable pub generator_of : ℕ → Lcg
generator_of number = started 64 multiplier_64 number (increment_of 64 1)

-- the script of a number has 100,000 lines
unfoldable pub made_script : ℕ → List (List ℕ)
made_script number = opening_lines ++ lines_from 99992 (generator_of number)

-- the lines that are yet to come
abbrev pub lines_to_come : MadeScript → List (List ℕ)
lines_to_come s = drop s.opened opening_lines ++ lines_from s.left s.generator
