use Rattle.cheney.proofs.Before.Spans.{slice-carry}
use Rattle.cheney.proofs.stay.Stay.with.Goals as goal

pub loop-next-preserved : goal.loop-next-preserved
loop-next-preserved c =
    slice-carry c.as_slice-next-items.result.now c.args.self.now.spans.items c.loop-next.stay.spans.items c.put.new.self.spans.items c.args.span c.loop-next.carried c.in_order.result.0
    c.in_order.result.1 c.loop-next.next-index
    c.as_slice-next-items.ensures.value c.args.self.now.ordered c.loop-next-test.true c.loop-next.invariant c.in_order.ensures.ordered c.in_order.ensures.same c.put.ensures.places
    c.put.ensures.len c.put.ensures.begin
