use Rattle.std.proofs.Common.{◌<◌, length, arith}
use Rattle.record_move.proofs.Moving.{are-few}
use Rattle.record_move.proofs.Walking.{walks-begin, walks-within, walks-more, walks-done, left-there, moves-there}
use Rattle.record_move.proofs.moves.move_records.Goals as goal

pub loop-i-init : goal.loop-i-init
loop-i-init c = record {
  each = λ k os low number can. walks-begin k c.args.mem.now c.args.head os low c.args.top can (are-few k c.args.mem.now c.args.head os low c.args.top can c.bounded.ensures);
}

pub next_of-next-requires : goal.next_of-next-requires
next_of-next-requires c =
    let few = are-few c.requires.test c.args.mem.now c.args.head c.requires.os c.requires.low c.args.top c.requires.can c.bounded.ensures in
    walks-within c.requires.test c.args.mem.now c.loop-i.mem c.args.head c.requires.os c.requires.low c.loop-i.now c.args.top c.loop-i.object c.loop-i.i c.requires.can few
    (c.loop-i.invariant.each c.requires.test c.requires.os c.requires.low c.requires.number c.requires.can) (omega (arith, c.loop-i-test.true, c.requires.number))

pub move_record-now-requires : goal.move_record-now-requires
move_record-now-requires c =
    let few = are-few c.requires.test c.args.mem.now c.args.head c.requires.os c.requires.low c.args.top c.requires.can c.bounded.ensures in
    let w = c.loop-i.invariant.each c.requires.test c.requires.os c.requires.low c.requires.number c.requires.can in
    record {
      test = c.requires.test;
      start = c.args.mem.now;
      head = c.args.head;
      os = c.requires.os;
      low = c.requires.low;
      top = c.args.top;
      can = c.requires.can;
      few = few;
      rest = left-there c.requires.test c.args.mem.now c.loop-i.mem c.args.head c.requires.os c.requires.low c.loop-i.now c.args.top c.loop-i.object c.loop-i.i c.requires.can few w
          (omega (arith, c.loop-i-test.true, c.requires.number));
      moves = moves-there c.requires.test c.args.mem.now c.loop-i.mem c.args.head c.requires.os c.requires.low c.loop-i.now c.args.top c.loop-i.object c.loop-i.i c.requires.can few w
          (omega (arith, c.loop-i-test.true, c.requires.number));
    }

pub loop-i-preserved : goal.loop-i-preserved
loop-i-preserved c = record {
  each = λ k os low number can.
      let few = are-few k c.args.mem.now c.args.head os low c.args.top can c.bounded.ensures in
      let w = c.loop-i.invariant.each k os low number can in
      let less : c.loop-i.i < length os = omega (arith, c.loop-i-test.true, number) in
      rw c.next_of-next.ensures
      (walks-more k c.args.mem.now c.loop-i.mem c.args.head os low c.loop-i.now c.args.top c.loop-i.object c.loop-i.i can few w less c.move_record-now.new.mem c.move_record-now.result
      (c.move_record-now.ensures k c.args.mem.now c.args.head os
      (left-there k c.args.mem.now c.loop-i.mem c.args.head os low c.loop-i.now c.args.top c.loop-i.object c.loop-i.i can few w less) low c.args.top can few
      (moves-there k c.args.mem.now c.loop-i.mem c.args.head os low c.loop-i.now c.args.top c.loop-i.object c.loop-i.i can few w less)));
}

pub returns : goal.returns
returns c = λ k os low number can.
    walks-done k c.args.mem.now c.loop-i.mem c.args.head os low c.loop-i.now c.args.top c.loop-i.object c.loop-i.i can
    (are-few k c.args.mem.now c.args.head os low c.args.top can c.bounded.ensures) (c.loop-i.invariant.each k os low number can) (omega (arith, c.loop-i-test.false, number))
