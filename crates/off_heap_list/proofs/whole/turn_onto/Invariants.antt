use Rattle.std.proofs.Common.{◌≡◌, ℕ, Bool, List, length}
use Rattle.term_words.specs.Role.{IsSingle}
use Rattle.off_heap_list.specs.Turned.{Turning}
use Rattle.off_heap_list.proofs.Walked.Turning.{Turns}
use Rattle.off_heap_list.proofs.whole.turn_onto.Given as goal

abbrev pub invariant-loop-i : goal.invariant-loop-i
invariant-loop-i l = record {
  each : (c : ℕ → ℕ → Bool) (os kept further : List ℕ) → IsSingle c → length os ≡ l.len → Turning c l.initial.mem l.head os l.first kept further
      → Turns c l.initial.mem l.mem l.turn.rest l.turn.first l.i os kept further;
}
