-- The words of verbs in figures: a constant that is cited by its name is pinned here.
use Rattle.std.specs.Prelude.{◌≡◌, refl}
use Rattle.process_verbs.specs.declared.verbs.TheConstants.{ROW}

-- A line has at most 4,096 items.
pub items-of-lines : ROW ≡ 4096
items-of-lines = refl
