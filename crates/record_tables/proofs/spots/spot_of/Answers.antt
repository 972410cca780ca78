use Rattle.std.proofs.Common.{ℕ, ◌+◌, ◌-◌, ◌/◌, get_or, arith}
use Rattle.term_words.proofs.Totals.Members.{in-at}
use Rattle.record_tables.proofs.Joining.{above-there, below-there}
use Rattle.record_tables.proofs.spots.spot_of.Goals as goal

pub serial_of-requires : goal.serial_of-requires
serial_of-requires c =
    let middle : ℕ = c.loop-low.low + (c.loop-low.high - c.loop-low.low) / 2 in
    c.requires.within (get_or c.args.funs.now middle 0) (in-at c.args.funs.now middle (omega (arith, c.loop-low-test.true, c.loop-low.invariant.within)))

pub loop-low-preserved-then-serial_of-code : goal.loop-low-preserved-then-serial_of-code
loop-low-preserved-then-serial_of-code c = record {
  order = omega (arith, c.loop-low-test.true);
  within = c.loop-low.invariant.within;
  below = below-there c.args.mem.now c.args.funs.now c.args.code (c.loop-low.low + (c.loop-low.high - c.loop-low.low) / 2) c.requires.rise
      (omega (arith, c.loop-low-test.true, c.loop-low.invariant.within)) (omega (arith, c.serial_of.ensures.word, c.if-serial_of-code.true));
  above = c.loop-low.invariant.above;
}

pub loop-low-preserved : goal.loop-low-preserved
loop-low-preserved c = record {
  order = omega arith;
  within = omega (arith, c.loop-low-test.true, c.loop-low.invariant.within);
  below = c.loop-low.invariant.below;
  above = above-there c.args.mem.now c.args.funs.now c.args.code (c.loop-low.low + (c.loop-low.high - c.loop-low.low) / 2) c.requires.rise
      (omega (arith, c.loop-low-test.true, c.loop-low.invariant.within)) (omega (arith, c.serial_of.ensures.word, c.if-serial_of-code.false));
}
