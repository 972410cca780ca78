use Rattle.word_arena.specs.Blocks.{BlockBegins}
use Rattle.lower_tests.proofs.arena.block_behind.Given as goal

abbrev pub invariant-walk : goal.invariant-walk
invariant-walk l = BlockBegins l.arena.mem l.at
