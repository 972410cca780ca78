use Rattle.std.proofs.Common.{◌≡◌, ℕ, length}
use Rattle.term_words.specs.Counted.{In}
use Rattle.cheney.specs.Plan.{Plan, Reached}
use Rattle.cheney.specs.Zones.{Marks}
use Rattle.cheney.specs.Rooms.{Runs}
use Rattle.cheney.proofs.Rooted.Rows.{RowMoving}
use Rattle.cheney.proofs.roots.evacuate_all.Given as goal

abbrev pub invariant-loop-i : goal.invariant-loop-i
invariant-loop-i l = record {
  len : length l.words ≡ length l.initial.words;
  each : (p : Plan) (k : Marks) → Runs p l.initial.mem l.initial.mv k → ((w : ℕ) → In w l.initial.words → Reached p w) → RowMoving p l.initial.mem l.mem l.mv k l.initial.words l.words l.i;
}
