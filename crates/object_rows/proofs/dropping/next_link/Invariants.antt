use Rattle.std.proofs.Common.{◌-◌, ℕ, List}
use Rattle.object_rows.specs.Row.{AreObjects}
use Rattle.object_rows.proofs.Passed.{Passing}
use Rattle.object_rows.proofs.dropping.next_link.Given as goal

abbrev pub invariant-loop-at : goal.invariant-loop-at
invariant-loop-at l = (ws : List ℕ) → AreObjects l.mem l.from ws l.to → Passing l.mem l.at l.to ws

abbrev pub decreases-loop-at : goal.decreases-loop-at
decreases-loop-at l = l.to - l.at
