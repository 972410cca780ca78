-- The words of a half and of a place in figures: a constant that is cited by its name is pinned here.
use Rattle.std.specs.Prelude.{◌≡◌, [], ◌∷◌, refl}
use Rattle.two_halves.specs.declared.halves.TheConstants.{UNUSED, PLACE_WORDS}

-- Two words of a half are never used, and a stack place has two.
pub words-of-halves : (UNUSED ∷ PLACE_WORDS ∷ []) ≡ (2 ∷ 2 ∷ [])
words-of-halves = refl
