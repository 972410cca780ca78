use Rattle.std.proofs.Common.{◌-◌, ℕ, List}
use Rattle.object_rows.specs.Row.{AreObjects}
use Rattle.object_rows.proofs.Rows.{Chaining}
use Rattle.object_rows.proofs.chaining.chain_row.Given as goal

abbrev pub invariant-loop-at : goal.invariant-loop-at
invariant-loop-at l = (ws : List ℕ) → AreObjects l.initial.mem l.from ws l.to → Chaining l.initial.mem l.mem l.at l.to l.head ws l.chained

abbrev pub decreases-loop-at : goal.decreases-loop-at
decreases-loop-at l = l.to - l.at
