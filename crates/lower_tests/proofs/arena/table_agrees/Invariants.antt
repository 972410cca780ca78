use Rattle.word_arena.specs.Sound.{Sound}
use Rattle.lower_tests.proofs.arena.table_agrees.Given as goal

abbrev pub invariant-table : goal.invariant-table
invariant-table l = Sound l.arena
