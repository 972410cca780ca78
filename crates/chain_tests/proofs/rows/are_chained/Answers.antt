use Rattle.chain_tests.proofs.SampleRow.{is-row}
use Rattle.chain_tests.proofs.rows.are_chained.Goals as goal

pub chain_row-chained-requires : goal.chain_row-chained-requires
chain_row-chained-requires c = is-row c.laid.result c.in_ok-mem.mem c.in_ok-mem.was c.laid.ensures
