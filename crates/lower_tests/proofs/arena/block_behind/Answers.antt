use Rattle.word_arena.proofs.Side.Facts.{zero-begins}
use Rattle.word_arena.proofs.Found.Table.{begins-below}
use Rattle.lower_tests.proofs.arena.block_behind.Goals as goal

pub walk-init : goal.walk-init
walk-init c = zero-begins _ c.requires.sound.blocked c.requires.some

pub returns-in_default-clause-inside : goal.returns-in_default-clause-inside
returns-in_default-clause-inside c = begins-below _ _ c.requires.sound.blocked c.walk.invariant

pub returns-clause-inside : goal.returns-clause-inside
returns-clause-inside c = begins-below _ _ c.requires.sound.blocked c.walk.invariant
