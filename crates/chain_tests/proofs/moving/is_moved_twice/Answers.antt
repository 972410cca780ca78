use Rattle.std.proofs.Common.{◌∙◌}
use Rattle.chain_tests.proofs.Sample.{begins-there, can-collect, can-go-on, plan}
use Rattle.chain_tests.proofs.moving.is_moved_twice.Goals as goal

pub collect-requires : goal.collect-requires
collect-requires c = can-collect c.laid.result c.in_ok-mem.mem c.none.result c.with-stay.result c.empty-3.result c.empty-4.result c.in_ok-mem.was c.laid.ensures c.none.ensures
    c.with-stay.ensures.places c.empty-3.ensures c.empty-4.ensures

pub collect-requires-2 : goal.collect-requires-2
collect-requires-2 c =
    can-go-on c.collect.new.mem c.collect.new.roots c.collect.new.mv c.none.result c.copied.result c.empty.result c.empty-2.result
    (c.collect.ensures.done plan (begins-there c.laid.result c.in_ok-mem.mem c.none.result c.with-stay.result c.empty-3.result c.empty-4.result c.in_ok-mem.was c.laid.ensures
    c.none.ensures c.with-stay.ensures.places c.empty-3.ensures c.empty-4.ensures))
    c.none.ensures (λ q. c.copied.ensures.places q ∙ c.with-stay.ensures.places q) c.empty.ensures c.empty-2.ensures
