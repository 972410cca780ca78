use Rattle.std.proofs.Common.{◌≡◌, ℕ, Bool, List, length}
use Rattle.record_move.specs.Copies.{RecordsCanMove}
use Rattle.record_move.proofs.Walking.{Walks}
use Rattle.record_move.proofs.moves.move_records.Given as goal

abbrev pub invariant-loop-i : goal.invariant-loop-i
invariant-loop-i l = record {
  each : (c : ℕ → ℕ → Bool) (os : List ℕ) (low : ℕ) → length os ≡ l.len → RecordsCanMove c l.initial.mem l.head os low l.top
      → Walks c l.initial.mem l.mem l.head os low l.now l.top l.object l.i;
}
