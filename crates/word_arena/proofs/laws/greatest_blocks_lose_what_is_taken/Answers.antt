use Rattle.word_arena.proofs.Laid.Greatest.{greatest-taken, none-fits-taken}
use Rattle.word_arena.proofs.laws.greatest_blocks_lose_what_is_taken.Goals as goal

pub returns-clause-greatest : goal.returns-clause-greatest
returns-clause-greatest k = λ mem at words kind owner before after blocked fit some used low was is.
    greatest-taken mem at words kind owner before after blocked fit some used low was is

pub returns-clause-none : goal.returns-clause-none
returns-clause-none k = λ mem at words kind owner n blocked fit some used low none. none-fits-taken mem at words kind owner n blocked fit some used low none
