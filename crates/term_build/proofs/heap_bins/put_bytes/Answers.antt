use Rattle.std.proofs.Common.{arith, rules}
use Rattle.std.proofs.lemmas.Grind.{common_steps}
use Rattle.term_build.proofs.heap_bins.put_bytes.Goals as goal

pub loop-j-preserved : goal.loop-j-preserved
loop-j-preserved c = record {
  same_len = grind (arith, common_steps);
  row = search rules;
  others = λ q apart. grind (arith, common_steps);
}

pub overflow_add-words : goal.overflow_add-words
overflow_add-words c = grind (arith, common_steps)

pub loop-j-init : goal.loop-j-init
loop-j-init c = grind (arith, common_steps)

pub overflow_add-place : goal.overflow_add-place
overflow_add-place c = grind (arith, common_steps)

pub overflow_mul-j : goal.overflow_mul-j
overflow_mul-j c = grind (arith, common_steps)

pub word_at-requires : goal.word_at-requires
word_at-requires c = grind (arith, common_steps)

pub set-requires : goal.set-requires
set-requires c = grind (arith, common_steps)

pub overflow_add-room : goal.overflow_add-room
overflow_add-room c = grind (arith, common_steps)

pub returns-clause-uses : goal.returns-clause-uses
returns-clause-uses c = grind (arith, common_steps)

pub returns-clause-bytes : goal.returns-clause-bytes
returns-clause-bytes c = grind (arith, common_steps)
