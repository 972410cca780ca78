use Rattle.chain_tests.proofs.SampleRow.{can-drop}
use Rattle.chain_tests.proofs.rows.is_dropped.Goals as goal

pub drop_next-requires : goal.drop_next-requires
drop_next-requires c = can-drop c.laid.result c.in_ok-mem.mem c.in_ok-mem.was c.laid.ensures
