use Rattle.word_arena.proofs.Laid.Lent.{kept-inside, set-inside}
use Rattle.word_arena.proofs.laws.words_inside_a_block_are_no_headers.Goals as goal

pub returns-clause-word : goal.returns-clause-word
returns-clause-word k = λ mem p q w blocked begins above below. set-inside mem p q w blocked begins above below

pub returns-clause-range : goal.returns-clause-range
returns-clause-range k = λ old new p from to blocked begins above below same_len same. kept-inside old new p from to blocked begins above below same_len same
