use Rattle.std.proofs.Common.{◌-◌, ℕ, List}
use Rattle.object_rows.specs.Row.{AreObjects}
use Rattle.word_shift.proofs.Walk.{Relocating}
use Rattle.word_shift.proofs.rows.relocate_row.Given as goal

abbrev pub invariant-loop-at : goal.invariant-loop-at
invariant-loop-at g l = (ws : List ℕ) → AreObjects l.initial.mem l.from ws l.to → Relocating (g.P.Places.to l.places l.initial.mem) l.initial.mem l.mem l.from l.at l.to ws

abbrev pub decreases-loop-at : goal.decreases-loop-at
decreases-loop-at g l = l.to - l.at
