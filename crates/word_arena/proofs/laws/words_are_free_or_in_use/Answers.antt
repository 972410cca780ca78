use Rattle.word_arena.proofs.Side.Shares.{used-and-free, used_of-most}
use Rattle.word_arena.proofs.laws.words_are_free_or_in_use.Goals as goal

pub returns-clause-all : goal.returns-clause-all
returns-clause-all k = λ mem blocked. used-and-free mem blocked

pub returns-clause-most : goal.returns-clause-most
returns-clause-most k = λ mem ps blocked each. used_of-most mem ps blocked each
