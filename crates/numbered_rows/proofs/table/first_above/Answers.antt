use Rattle.std.proofs.Common.{◌+◌, ◌-◌, ◌/◌, ◌<◌, length, arith}
use Rattle.numbered_rows.proofs.Rising.{number-read, rising-upto, rising-from}
use Rattle.numbered_rows.proofs.table.first_above.Goals as goal

pub loop-low-preserved-then-number-n : goal.loop-low-preserved-then-number-n
loop-low-preserved-then-number-n g c = record {
  order = omega arith;
  within = c.loop-low.invariant.within;
  below = λ k less.
      let here : c.loop-low.low + (c.loop-low.high - c.loop-low.low) / 2 < length c.args.rows.now = omega arith in
      rising-upto g.R.Numbered.number_of c.args.rows.now k (c.loop-low.low + (c.loop-low.high - c.loop-low.low) / 2) c.args.n c.requires less here
      (omega (
        arith,
        number-read g.R.Numbered.number_of c.args.rows.now (c.loop-low.low + (c.loop-low.high - c.loop-low.low) / 2) c.index-rows-middle.result here c.index-rows-middle.is,
        c.number.ensures,
        c.if-number-n.true,
      ));
  above = c.loop-low.invariant.above;
}

pub loop-low-preserved : goal.loop-low-preserved
loop-low-preserved g c = record {
  order = omega arith;
  within = omega arith;
  below = c.loop-low.invariant.below;
  above = λ k from within.
      let here : c.loop-low.low + (c.loop-low.high - c.loop-low.low) / 2 < length c.args.rows.now = omega arith in
      rising-from g.R.Numbered.number_of c.args.rows.now k (c.loop-low.low + (c.loop-low.high - c.loop-low.low) / 2) c.args.n c.requires from within
      (omega (
        arith,
        number-read g.R.Numbered.number_of c.args.rows.now (c.loop-low.low + (c.loop-low.high - c.loop-low.low) / 2) c.index-rows-middle.result here c.index-rows-middle.is,
        c.number.ensures,
        c.if-number-n.false,
      ));
}
