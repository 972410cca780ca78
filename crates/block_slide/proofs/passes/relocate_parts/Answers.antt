use Rattle.std.proofs.Common.{sym, arith}
use Rattle.word_arena.proofs.Laid.Lent.{lent-blocked}
use Rattle.block_slide.proofs.Parting.{next-ends, next-fits, next-part, next-summed, parts-step}
use Rattle.block_slide.proofs.passes.relocate_parts.Goals as goal

pub relocate_part-requires-clause-part : goal.relocate_part-requires-clause-part
relocate_part-requires-clause-part c =
    next-part c.args.mem.now c.loop-i.mem c.args.parts.now c.loop-i.i c.requires.summed.blocked c.requires.parts c.loop-i.invariant.1 c.loop-i-test.true

pub near-near-requires-clause-summed : goal.near-near-requires-clause-summed
near-near-requires-clause-summed c =
    next-summed c.args.mem.now c.loop-i.mem c.args.parts.now c.loop-i.i c.requires.summed.blocked c.requires.parts c.loop-i.invariant.1 c.loop-i-test.true
    c.args.places.now.shifts.now c.requires.summed

pub near-near-requires-clause-inside : goal.near-near-requires-clause-inside
near-near-requires-clause-inside c =
    rw c.span.ensures
    (next-ends c.args.mem.now c.loop-i.mem c.args.parts.now c.loop-i.i c.requires.summed.blocked c.requires.parts c.loop-i.invariant.1 c.loop-i-test.true)

pub relocate_part-requires-clause-fits : goal.relocate_part-requires-clause-fits
relocate_part-requires-clause-fits c =
    let f =
    next-fits c.args.mem.now c.loop-i.mem c.args.parts.now c.loop-i.i c.requires.summed.blocked c.requires.parts c.loop-i.invariant.1 c.loop-i-test.true
    c.args.places.now.shifts.now c.near-near.result.down c.requires.summed (rw (sym c.span.ensures) c.near-near.ensures.down) in
    rw (c.near-near.ensures.all, c.near-near.ensures.near, c.span.ensures) f

pub loop-i-preserved : goal.loop-i-preserved
loop-i-preserved c = (
  omega (arith, c.loop-i-test.true),
  parts-step c.args.mem.now c.loop-i.mem c.args.parts.now c.loop-i.i c.requires.summed.blocked c.requires.parts c.loop-i.invariant.1 c.loop-i-test.true
      c.relocate_part.new.mem (lent-blocked c.args.mem.now c.loop-i.mem c.requires.summed.blocked c.loop-i.invariant.1.headers) c.relocate_part.ensures,
)
