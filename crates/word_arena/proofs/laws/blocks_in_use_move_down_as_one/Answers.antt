use Rattle.word_arena.proofs.Side.Before.{before-used, before-most, before-order}
use Rattle.word_arena.proofs.laws.blocks_in_use_move_down_as_one.Goals as goal

pub returns-clause-same : goal.returns-clause-same
returns-clause-same k = λ mem p at blocked used from to. before-used mem p at blocked used from to

pub returns-clause-most : goal.returns-clause-most
returns-clause-most k = λ mem p blocked begins. before-most mem p blocked begins

pub returns-clause-order : goal.returns-clause-order
returns-clause-order k = λ mem p q blocked first second below. before-order mem p q blocked first second below
