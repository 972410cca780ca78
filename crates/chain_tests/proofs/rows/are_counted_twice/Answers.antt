use Rattle.chain_tests.proofs.SampleRow.{can-raise}
use Rattle.chain_tests.proofs.rows.are_counted_twice.Goals as goal

pub raise_row-requires : goal.raise_row-requires
raise_row-requires c = can-raise c.laid.result c.in_ok-mem.mem c.in_ok-mem.was c.laid.ensures
