use Rattle.chain_tests.proofs.Sample.{can-collect-with}
use Rattle.chain_tests.proofs.moving.is_moved_with_registers.Goals as goal

pub collect_with-requires : goal.collect_with-requires
collect_with-requires c =
    can-collect-with c.laid.result c.in_ok-mem.mem c.none.result c.with.result c.empty.result c.empty-2.result c.in_ok-mem.was c.laid.ensures c.none.ensures
    c.with.ensures.places c.empty.ensures c.empty-2.ensures
