use Rattle.ladder_tests.specs.declared.rungs.TheConstants.{ROLLS}
use Rattle.ladder_tests.specs.Bench.{IsBench, shared_of}
use Rattle.ladder_tests.proofs.ladder.raise.Given as goal

abbrev pub invariant-rungs : goal.invariant-rungs
invariant-rungs l = IsBench (shared_of ROLLS) l.names l.room l.mem l.words.items
