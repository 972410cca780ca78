-- The limits of lines in figures: a constant that is cited by its name is pinned here.
use Rattle.std.specs.Prelude.{ℕ, ◌≡◌, ◌^◌, List, [], ◌∷◌, refl}
use Rattle.script_grammar.specs.declared.limits.TheConstants.{REGISTERS, NUMBERS, LEVELS, MOST_HELD}

-- 16 registers, numbers below 2^40, 256 levels of brackets, and 64 registers in an environment.
pub limits-of-lines : (REGISTERS ∷ NUMBERS ∷ LEVELS ∷ MOST_HELD ∷ []) ≡ (16 ∷ 2 ^ 40 ∷ 256 ∷ 64 ∷ [])
limits-of-lines = refl
