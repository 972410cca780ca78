-- The bounds of arenas in figures: a constant that is cited by its name is pinned here.
use Rattle.std.specs.Prelude.{◌≡◌, refl}
use Rattle.command_line.specs.declared.values.TheConstants.{SMALLEST_ARENA, LARGEST_ARENA, USUAL_ARENA}

-- The smallest arena has so many words.
pub smallest-arena : SMALLEST_ARENA ≡ 4096
smallest-arena = refl

-- The largest arena has so many words.
pub largest-arena : LARGEST_ARENA ≡ 16777216
largest-arena = refl

-- The arena that nothing was asked for has so many words.
pub usual-arena : USUAL_ARENA ≡ 1048576
usual-arena = refl
