-- The tables of the code in figures: a constant that is cited by its name is pinned here.
use Rattle.std.specs.Prelude.{◌≡◌, map, refl}
use Rattle.made_script.specs.Script.{opening_lines}
use Rattle.made_script.specs.declared.script.TheConstants.{OPENING, DRAWN_LINES}

-- The opening has these lines.
pub opening-lines : map (λ line. line.now) OPENING ≡ opening_lines
opening-lines = refl

-- So many lines are drawn.
pub drawn-lines : DRAWN_LINES ≡ 99992
drawn-lines = refl
