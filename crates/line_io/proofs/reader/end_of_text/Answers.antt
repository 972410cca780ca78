use Rattle.std.proofs.Common.{arith}
use Rattle.std.proofs.lemmas.Grind.{common_steps}
use Rattle.line_io.proofs.reader.end_of_text.Goals as goal

pub returns-then-buf-at-eq13 : goal.returns-then-buf-at-eq13
returns-then-buf-at-eq13 c = record { in_order = omega (arith, c.if-start-at.true); before = omega arith; text = grind (arith, common_steps) }

pub returns : goal.returns
returns c = record { in_order = c.requires.in_order; before = omega arith; text = grind (arith, common_steps) }
