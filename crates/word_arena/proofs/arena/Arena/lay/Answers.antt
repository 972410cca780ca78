use Rattle.std.proofs.Common.{[], refl, arith}
use Rattle.word_arena.proofs.arena.Arena.lay.Goals as goal

pub returns-clause-free : goal.returns-clause-free
returns-clause-free c = omega (arith, c.relay.ensures.free [] refl)
