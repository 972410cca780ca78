use Rattle.std.proofs.Common.{arith, rules}
use Rattle.std.proofs.lemmas.Grind.{common_steps}
use Rattle.term_build.proofs.rows.put_row.Goals as goal

pub loop-i-preserved : goal.loop-i-preserved
loop-i-preserved c = record {
  same_len = grind (arith, common_steps);
  row = search rules;
  others = λ q apart. grind (arith, common_steps);
}
