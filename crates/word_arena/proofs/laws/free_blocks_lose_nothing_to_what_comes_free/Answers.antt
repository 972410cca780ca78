use Rattle.word_arena.proofs.Laid.Greatest.{free-kept-given, free-kept-cut}
use Rattle.word_arena.proofs.laws.free_blocks_lose_nothing_to_what_comes_free.Goals as goal

pub returns-clause-given : goal.returns-clause-given
returns-clause-given k = λ old new at p blocked used merged begins. free-kept-given old new at p blocked used merged begins

pub returns-clause-cut : goal.returns-clause-cut
returns-clause-cut k = λ mem at words p blocked used some fits begins. free-kept-cut mem at words p blocked used some fits begins
