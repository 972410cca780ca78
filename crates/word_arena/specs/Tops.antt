-- A row of numbers under two rows of the greatest of each 64 side by side.
use Rattle.std.specs.Prelude.{ℕ, List}
use Rattle.word_arena.specs.Over.{Over}
use Rattle.word_arena.specs.declared.tops.Tops.TheInside.{Inside}

-- What callers see: the lowest row.
abbrev pub leaves_of : Inside → List ℕ
leaves_of t = t.leaves.items

-- The rows stand one over the other.
pub record IsTree (t : Inside) : Type 0 where
  pub lower : Over t.leaves.items t.groups.items
  pub upper : Over t.groups.items t.regions.items
