use Rattle.std.proofs.Common.{◌≡◌, ℕ, Bool, List, [], length}
use Rattle.term_words.specs.Role.{IsSingle}
use Rattle.off_heap_list.specs.Swept.{FrontSweeping}
use Rattle.off_heap_list.proofs.Walked.Tallied.{Sweeps}
use Rattle.off_heap_list.proofs.whole.sweep_front.Given as goal

abbrev pub invariant-loop-i : goal.invariant-loop-i
invariant-loop-i l = record {
  each : (c : ℕ → ℕ → Bool) (os : List ℕ) (to : ℕ) (further : List ℕ) → IsSingle c → length os ≡ l.len → FrontSweeping c l.initial.mem l.head os to 0 [] 0 [] further
      → Sweeps c l.initial.mem l.mem l.sweep.rest to l.sweep.first l.sweep.last l.tally.len l.tally.words l.tally.freed l.i os further;
}
