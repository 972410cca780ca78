use Rattle.std.proofs.Common.{◌-◌}
use Rattle.object_rows.specs.Raised.{CanRaise}
use Rattle.object_rows.proofs.Raised.{Raising}
use Rattle.object_rows.proofs.raising.raise_row.Given as goal

abbrev pub invariant-loop-at : goal.invariant-loop-at
invariant-loop-at l = (x : CanRaise l.initial.mem l.from l.to) → Raising l.initial.mem l.mem l.from l.at l.to x.ws

abbrev pub decreases-loop-at : goal.decreases-loop-at
decreases-loop-at l = l.to - l.at
