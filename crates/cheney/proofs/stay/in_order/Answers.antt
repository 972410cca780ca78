use Rattle.std.proofs.Common.{refl, arith, inl, inr}
use Rattle.cheney.proofs.stay.in_order.Goals as goal

pub returns-then-a-b : goal.returns-then-a-b
returns-then-a-b c = record { ordered = c.if-a-b.true; same = inl (refl, refl) }

pub returns-else-a-b : goal.returns-else-a-b
returns-else-a-b c = record { ordered = omega (arith, c.if-a-b.false); same = inr (refl, refl) }
