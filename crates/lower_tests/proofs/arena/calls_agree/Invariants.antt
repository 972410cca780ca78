use Rattle.word_arena.specs.Sound.{Sound}
use Rattle.lower_tests.proofs.arena.calls_agree.Given as goal

abbrev pub invariant-run : goal.invariant-run
invariant-run l = Sound l.arena
