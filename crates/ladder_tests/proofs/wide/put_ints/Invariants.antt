use Rattle.ladder_tests.specs.declared.rungs.TheConstants.{ROLLS}
use Rattle.ladder_tests.specs.Bench.{IsBench, shared_of}
use Rattle.ladder_tests.proofs.wide.put_ints.Given as goal

abbrev pub invariant-ints : goal.invariant-ints
invariant-ints l = IsBench (shared_of ROLLS) l.names l.room l.mem l.words.items
