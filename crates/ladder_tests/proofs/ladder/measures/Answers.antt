use Rattle.ladder_tests.proofs.Good.{term-at}
use Rattle.ladder_tests.proofs.ladder.measures.Goals as goal

pub measure-requires : goal.measure-requires
measure-requires c = term-at c.args.names.now _ _ c.loop-i.i c.requires c.loop-i-test.true
