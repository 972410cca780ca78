use Rattle.std.proofs.Common.{arith}
use Rattle.word_arena.proofs.Laid.Taking.{free_end-inside}
use Rattle.word_arena.proofs.blocks.free_end.Goals as goal

pub overflow_add-result : goal.overflow_add-result
overflow_add-result c =
    omega (arith, free_end-inside _ _ c.requires.blocked c.requires.stop.inside c.requires.stop.begins, c.free.ensures, c.len.ensures.most)

pub returns-then-at-len-clause-inside : goal.returns-then-at-len-clause-inside
returns-then-at-len-clause-inside c =
    omega (arith, free_end-inside _ _ c.requires.blocked c.requires.stop.inside c.requires.stop.begins, c.free.ensures)
