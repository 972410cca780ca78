use Rattle.std.proofs.Common.{arith}
use Rattle.std.proofs.lemmas.Grind.{common_steps}
use Rattle.term_build.proofs.Putting.{lie-same}
use Rattle.term_build.proofs.tuples.put_same.Goals as goal

pub loop-i-preserved : goal.loop-i-preserved
loop-i-preserved c = record {
  same_len = grind (arith, common_steps);
  row = λ q j below e. grind (arith, common_steps, c.loop-i.invariant.row q j);
  others = λ q apart. grind (arith, common_steps, c.loop-i.invariant.others q);
}

pub returns-clause-words : goal.returns-clause-words
returns-clause-words c = lie-same c.args.n c.loop-i.i c.args.w c.args.room.now.top c.loop-i.mem (omega (arith, c.loop-i-test.false)) c.loop-i.invariant.row
