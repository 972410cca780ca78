-- The words of a space in figures: a constant that is cited by its name is pinned here.
use Rattle.std.specs.Prelude.{◌≡◌, [], ◌∷◌, refl}
use Rattle.one_space.specs.declared.heap.TheConstants.{SPAWN_WORDS}
use Rattle.one_space.specs.declared.space.TheConstants.{LEAST_WORDS}

-- A process that is made looks for 14 words, and a space has at least 4,096.
pub words-of-spaces : (SPAWN_WORDS ∷ LEAST_WORDS ∷ []) ≡ (14 ∷ 4096 ∷ [])
words-of-spaces = refl
