use Rattle.word_arena.proofs.Side.Before.{before-kept}
use Rattle.word_arena.proofs.Slid.Summed.{summed-kept}
use Rattle.word_arena.proofs.laws.sums_stay_with_the_headers.Goals as goal

pub returns-clause-before : goal.returns-clause-before
returns-clause-before k = λ old new at blocked same. before-kept old new at blocked same

pub returns-clause-summed : goal.returns-clause-summed
returns-clause-summed k = λ old new s same summed. summed-kept old new s same summed
