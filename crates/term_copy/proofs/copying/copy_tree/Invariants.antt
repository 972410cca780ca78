use Rattle.std.proofs.Common.{◌≡◌, ◌-◌}
use Rattle.cheney.specs.Ranges.{stays}
use Rattle.term_copy.specs.Copied.{Task}
use Rattle.term_copy.specs.Going.{Advances, Begun, IsStay, ReadyToCopy}
use Rattle.term_copy.proofs.copying.copy_tree.Given as goal

abbrev pub invariant-loop-at : goal.invariant-loop-at
invariant-loop-at l = record {
  room : Advances l.fn.room l.room;
  each : (p : Task) → IsStay p (stays l.fn.stay) → ReadyToCopy p → p.start ≡ l.fn.mem → p.top ≡ l.fn.room.top → p.word ≡ l.fn.w
      → Begun p l.mem l.at l.room.top l.result;
}

abbrev pub decreases-loop-at : goal.decreases-loop-at
decreases-loop-at l = l.room.end - l.at
