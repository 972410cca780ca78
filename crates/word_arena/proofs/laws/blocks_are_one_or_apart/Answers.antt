use Rattle.word_arena.proofs.Side.Facts.{one-or-apart}
use Rattle.word_arena.proofs.laws.blocks_are_one_or_apart.Goals as goal

pub returns : goal.returns
returns k = λ mem p q blocked first second. one-or-apart mem p q blocked first second
