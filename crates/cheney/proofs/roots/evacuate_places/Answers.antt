use Rattle.cheney.proofs.Rooted.Places.{places-done, places-further, places-moves, places-reached}
use Rattle.cheney.proofs.roots.evacuate_places.Goals as goal

pub evacuate_at-requires : goal.evacuate_at-requires
evacuate_at-requires c =
    places-moves c.requires.can.plan c.args.mem.now c.loop-i.mem c.loop-i.mv c.requires.can.marks c.args.from c.args.step c.args.count c.loop-i.i c.requires.apart
    (c.loop-i.invariant c.requires.can.plan c.requires.can.marks c.requires.can.runs c.requires.can.roots) c.requires.can.roots c.loop-i-test.true

pub loop-i-preserved : goal.loop-i-preserved
loop-i-preserved c = λ p k run roots.
    places-further p c.args.mem.now c.loop-i.mem c.loop-i.mv k c.args.from c.args.step c.args.count c.loop-i.i c.requires.apart (c.loop-i.invariant p k run roots) roots
    c.evacuate_at.new.mem c.evacuate_at.new.mv c.loop-i-test.true
    (c.evacuate_at.ensures p k (c.loop-i.invariant p k run roots).runs (roots.free c.loop-i.i c.loop-i-test.true)
    (places-reached p c.args.mem.now c.loop-i.mem c.loop-i.mv k c.args.from c.args.step c.args.count c.loop-i.i c.requires.apart (c.loop-i.invariant p k run roots) roots c.loop-i-test.true))

pub returns : goal.returns
returns c = λ p k run roots. places-done p c.args.mem.now c.loop-i.mem c.loop-i.mv k c.args.from c.args.step c.args.count c.loop-i.i c.requires.apart (c.loop-i.invariant p k run roots)
    roots c.loop-i-test.false
