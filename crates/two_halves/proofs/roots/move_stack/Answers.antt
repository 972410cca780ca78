use Rattle.std.proofs.Common.{arith}
use Rattle.two_halves.proofs.Moved.Stacking.{stack-end, step-more, step-moves, step-new, step-old}
use Rattle.two_halves.proofs.roots.move_stack.Goals as goal

pub move_place-place-requires-clause-can : goal.move_place-place-requires-clause-can
move_place-place-requires-clause-can c =
    step-moves c.args.mem.now c.args.mv.now c.args.from c.args.depth c.args.to c.requires c.loop-i.mem c.loop-i.mv c.loop-i.i c.loop-i.place c.loop-i.invariant c.loop-i-test.true

pub move_place-place-requires-clause-old : goal.move_place-place-requires-clause-old
move_place-place-requires-clause-old c =
    step-old c.args.mem.now c.args.mv.now c.args.from c.args.depth c.args.to c.requires c.loop-i.mem c.loop-i.mv c.loop-i.i c.loop-i.place c.loop-i.invariant c.loop-i-test.true

pub move_place-place-requires-clause-new : goal.move_place-place-requires-clause-new
move_place-place-requires-clause-new c =
    omega (arith, step-new c.args.mem.now c.args.mv.now c.args.from c.args.depth c.args.to c.requires c.loop-i.mem c.loop-i.mv c.loop-i.i c.loop-i.place c.loop-i.invariant c.loop-i-test.true)

pub loop-i-preserved : goal.loop-i-preserved
loop-i-preserved c =
    step-more c.args.mem.now c.args.mv.now c.args.from c.args.depth c.args.to c.requires c.loop-i.mem c.loop-i.mv c.loop-i.i c.loop-i.place c.loop-i.invariant c.loop-i-test.true
    c.move_place-place.new.mem c.move_place-place.new.mv c.move_place-place.result c.move_place-place.ensures

pub returns : goal.returns
returns c =
    stack-end c.args.mem.now c.args.mv.now c.args.from c.args.depth c.args.to c.loop-i.mem c.loop-i.mv c.loop-i.i c.loop-i.place
    c.loop-i.invariant c.loop-i-test.false
