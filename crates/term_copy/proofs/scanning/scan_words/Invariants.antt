use Rattle.std.proofs.Common.{◌-◌, List}
use Rattle.plain_term.specs.Tree.{Trees}
use Rattle.cheney.specs.Ranges.{stays}
use Rattle.term_copy.specs.Copied.{Task}
use Rattle.term_copy.specs.Going.{Advances, IsStay, Item, Scanning}
use Rattle.term_copy.proofs.Stepping.{Still}
use Rattle.term_copy.proofs.scanning.scan_words.Given as goal

abbrev pub invariant-loop-at : goal.invariant-loop-at
invariant-loop-at l = record {
  room : Advances l.initial.room l.room;
  each : (p : Task) (known : List Item) (rest : Trees) → IsStay p (stays l.stay) → Scanning p known l.initial.mem l.from l.to l.initial.room.top rest → Still p known l.mem l.at l.to l.room.top;
}

abbrev pub decreases-loop-at : goal.decreases-loop-at
decreases-loop-at l = l.to - l.at
