use Rattle.ladder_tests.specs.declared.rungs.TheConstants.{ROLLS}
use Rattle.ladder_tests.specs.Bench.{IsBench, shared_of}
use Rattle.ladder_tests.proofs.limits.put_times.Given as goal

abbrev pub invariant-times : goal.invariant-times
invariant-times l = IsBench (shared_of ROLLS) l.names l.room l.mem l.words.items
