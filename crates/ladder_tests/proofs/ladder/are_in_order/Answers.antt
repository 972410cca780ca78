use Rattle.ladder_tests.proofs.Good.{terms-named}
use Rattle.ladder_tests.proofs.ladder.are_in_order.Goals as goal

pub compare-got-requires : goal.compare-got-requires
compare-got-requires c = terms-named _ _ _ c.loop-i.i c.loop-j.j c.requires c.loop-i-test.true c.loop-j-test.true
