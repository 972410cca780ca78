use Rattle.std.proofs.Common.{arith}
use Rattle.term_order.proofs.bytes.equal_words.Goals as goal

pub overflow_add-b : goal.overflow_add-b
overflow_add-b c = omega (arith, c.requires.first c.loop-at.at (omega (arith, c.loop-at-test.true, c.requires.least)), c.bounded.ensures)
