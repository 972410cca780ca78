use Rattle.std.proofs.Common.{arith}
use Rattle.word_arena.proofs.Side.Facts.{block-within, stop-next}
use Rattle.word_arena.proofs.blocks.next.Goals as goal

pub size-requires : goal.size-requires
size-requires c =
    let w = block-within _ _ c.requires.blocked c.requires.block in
    omega (arith, w.to, w.header.sized)

pub overflow_add-result : goal.overflow_add-result
overflow_add-result c =
    let w = block-within _ _ c.requires.blocked c.requires.block in
    omega (arith, w.to, c.size.ensures, c.bounded.ensures)

pub returns-clause-stop : goal.returns-clause-stop
returns-clause-stop c = rw c.size.ensures (stop-next _ _ c.requires.blocked c.requires.block)

pub returns-clause-after : goal.returns-clause-after
returns-clause-after c =
    let w = block-within _ _ c.requires.blocked c.requires.block in
    omega (arith, w.header.sized, c.size.ensures)
