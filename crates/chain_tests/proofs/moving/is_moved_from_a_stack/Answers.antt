use Rattle.chain_tests.proofs.Sample.{stack-there, stack-scans}
use Rattle.chain_tests.proofs.moving.is_moved_from_a_stack.Goals as goal

pub evacuate_places-requires-clause-can : goal.evacuate_places-requires-clause-can
evacuate_places-requires-clause-can c = stack-there c.laid.result c.in_ok-mem.mem c.none.result c.with.result c.empty.result c.empty-2.result c.in_ok-mem.was c.laid.ensures c.none.ensures
    c.with.ensures.places c.empty.ensures c.empty-2.ensures

pub scan-requires : goal.scan-requires
scan-requires c =
    stack-scans c.laid.result c.in_ok-mem.mem c.evacuate_places.new.mem c.none.result c.with.result c.empty.result c.empty-2.result c.evacuate_places.new.mv c.in_ok-mem.was c.laid.ensures
    c.none.ensures c.with.ensures.places
    c.empty.ensures c.empty-2.ensures c.evacuate_places.ensures
