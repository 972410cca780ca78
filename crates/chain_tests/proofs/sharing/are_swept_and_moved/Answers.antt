use Rattle.chain_tests.proofs.Sharers.{begins-there, can-sweep, can-move-all, plan}
use Rattle.chain_tests.proofs.sharing.are_swept_and_moved.Goals as goal

pub collect-requires : goal.collect-requires
collect-requires c = record {
  plan = plan;
  begins = begins-there c.laid.result c.in_ok-mem.mem c.none.result c.empty.result c.empty-2.result c.in_ok-mem.was c.laid.ensures c.none.ensures c.empty.ensures c.empty-2.ensures;
}

pub sweep_chain-left-requires : goal.sweep_chain-left-requires
sweep_chain-left-requires c =
    can-sweep c.collect.new.mem c.collect.new.mv c.collect.new.roots
    (c.collect.ensures.done plan
    (begins-there c.laid.result c.in_ok-mem.mem c.none.result c.empty.result c.empty-2.result c.in_ok-mem.was c.laid.ensures c.none.ensures c.empty.ensures c.empty-2.ensures))

pub move_records-low-requires : goal.move_records-low-requires
move_records-low-requires c =
    can-move-all c.collect.new.mem c.collect.new.mv c.collect.new.roots
    (c.collect.ensures.done plan
    (begins-there c.laid.result c.in_ok-mem.mem c.none.result c.empty.result c.empty-2.result c.in_ok-mem.was c.laid.ensures c.none.ensures c.empty.ensures c.empty-2.ensures))
    c.sweep_chain-left.new.mem c.sweep_chain-left.result (λ k os further single number s. c.sweep_chain-left.ensures k os further single number s)
