use Rattle.chain_tests.proofs.Sharers.{begins-there, can-deal, can-sweep-front, plan}
use Rattle.chain_tests.proofs.sharing.are_swept_and_dealt.Goals as goal

pub collect-requires : goal.collect-requires
collect-requires c = record {
  plan = plan;
  begins = begins-there c.laid.result c.in_ok-mem.mem c.none.result c.empty.result c.empty-2.result c.in_ok-mem.was c.laid.ensures c.none.ensures c.empty.ensures c.empty-2.ensures;
}

pub sweep_front-front-requires : goal.sweep_front-front-requires
sweep_front-front-requires c =
    can-sweep-front c.collect.new.mem c.collect.new.mv c.collect.new.roots
    (c.collect.ensures.done plan
    (begins-there c.laid.result c.in_ok-mem.mem c.none.result c.empty.result c.empty-2.result c.in_ok-mem.was c.laid.ensures c.none.ensures c.empty.ensures c.empty-2.ensures))

pub deal_chain-dealt-requires : goal.deal_chain-dealt-requires
deal_chain-dealt-requires c =
    can-deal c.collect.new.mem c.collect.new.mv c.collect.new.roots
    (c.collect.ensures.done plan
    (begins-there c.laid.result c.in_ok-mem.mem c.none.result c.empty.result c.empty-2.result c.in_ok-mem.was c.laid.ensures c.none.ensures c.empty.ensures c.empty-2.ensures))
    c.sweep_front-front.new.mem c.sweep_front-front.result (λ k os to further single number s. c.sweep_front-front.ensures k os to further single number s)
