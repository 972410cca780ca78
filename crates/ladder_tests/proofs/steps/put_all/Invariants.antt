use Rattle.ladder_tests.specs.Bench.{IsBench, shared_of}
use Rattle.ladder_tests.proofs.steps.put_all.Given as goal

abbrev pub invariant-steps : goal.invariant-steps
invariant-steps l = IsBench (shared_of l.rolls) l.names l.room l.mem l.words.items
