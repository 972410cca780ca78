use Rattle.word_arena.proofs.Laid.Greatest.{fits-given, none-fits-given}
use Rattle.word_arena.proofs.laws.given_words_join_two_free_blocks_at_most.Goals as goal

pub returns-clause-shows : goal.returns-clause-shows
returns-clause-shows k = λ old new at words p blocked used merged begins long. fits-given old new at words p blocked used merged begins long

pub returns-clause-none : goal.returns-clause-none
returns-clause-none k = λ old new at words blocked used merged none. none-fits-given old new at words blocked used merged none
