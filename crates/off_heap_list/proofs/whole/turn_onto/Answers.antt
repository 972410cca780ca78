use Rattle.std.proofs.Common.{arith}
use Rattle.off_heap_list.proofs.Walked.Turning.{turns-begin, turns-within, turns-more, turns-done}
use Rattle.off_heap_list.proofs.whole.turn_onto.Goals as goal

pub loop-i-init : goal.loop-i-init
loop-i-init c = record { each = λ k os kept further single number l. turns-begin k c.args.mem.now c.args.head c.args.first os kept further l }

pub turn_next-requires : goal.turn_next-requires
turn_next-requires c =
    turns-within c.requires.test c.args.mem.now c.loop-i.mem c.loop-i.turn.rest c.loop-i.turn.first c.loop-i.i c.requires.os c.requires.kept c.requires.further
    (c.loop-i.invariant.each c.requires.test c.requires.os c.requires.kept c.requires.further c.requires.single c.requires.number c.requires.turning)
    (omega (arith, c.loop-i-test.true, c.requires.number))

pub loop-i-preserved : goal.loop-i-preserved
loop-i-preserved c = record {
  each = λ k os kept further single number l.
      rw (c.turn_next.ensures.writes, c.turn_next.ensures.rest, c.turn_next.ensures.first)
      (turns-more k c.args.mem.now c.loop-i.mem c.loop-i.turn.rest c.loop-i.turn.first c.loop-i.i os kept further (c.loop-i.invariant.each k os kept further single number l)
      (omega (arith, c.loop-i-test.true, number)) single);
}

pub returns : goal.returns
returns c = λ k os kept further single number l.
    turns-done k c.args.mem.now c.loop-i.mem c.loop-i.turn.rest c.loop-i.turn.first c.loop-i.i os kept further single (c.loop-i.invariant.each k os kept further single number l)
    (omega (arith, c.loop-i-test.false, number))
