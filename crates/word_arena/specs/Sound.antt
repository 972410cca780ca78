-- What is true of an arena between two calls.
use Rattle.word_arena.specs.Blocks.{Blocked}
use Rattle.word_arena.specs.Stretches.{Agrees}
use Rattle.word_arena.specs.declared.arena.Arena.{Arena}

-- The memory is a row of blocks, and the table agrees with it.
pub record Sound (a : Arena) : Type 0 where
  pub blocked : Blocked a.mem
  pub agrees : Agrees a.mem a.holes
