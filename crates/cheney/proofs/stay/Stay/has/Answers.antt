use Rattle.cheney.proofs.Before.Spans.{slice-before, slice-after, slice-found}
use Rattle.cheney.proofs.stay.Stay.has.Goals as goal

pub returns-then-place-spans : goal.returns-then-place-spans
returns-then-place-spans c = slice-before c.as_slice-spans.result.now c.args.self.now.spans.items c.args.place c.as_slice-spans.ensures.value c.args.self.now.ordered c.if-place-spans.true

pub returns-then-spans-count : goal.returns-then-spans-count
returns-then-spans-count c = slice-after c.as_slice-spans.result.now c.args.self.now.spans.items c.args.place c.as_slice-spans.ensures.value c.args.self.now.ordered c.if-count-eq0.false
    c.if-spans-count.true

pub returns : goal.returns
returns c =
    slice-found c.as_slice-spans.result.now c.args.self.now.spans.items c.args.place c.loop-high.low c.loop-high.high c.as_slice-spans.ensures.value c.args.self.now.ordered
    c.loop-high.invariant.order c.loop-high.invariant.within c.loop-high.invariant.from c.loop-high.invariant.above c.loop-high-test.false
