use Rattle.std.proofs.Common.{◌≡◌, ◌-◌, ◌<◌, ◌≤◌, length}
use Rattle.cheney.specs.Plan.{Plan}
use Rattle.cheney.specs.Zones.{Marks, mark, object_at, scanned_at}
use Rattle.cheney.specs.Rooms.{Runs, top_of}
use Rattle.cheney.specs.Calls.{IsFreshCons, RunsOn}
use Rattle.cheney.proofs.spine.scan_spine.Given as goal

abbrev pub invariant-loop-further : goal.invariant-loop-further
invariant-loop-further l = record {
  each : (p : Plan) (k : Marks) → Runs p l.initial.mem l.initial.mv k → scanned_at k l.aged ≡ l.place → object_at k l.aged ≡ l.place → l.place < top_of l.initial.mv l.aged
      → RunsOn p l.initial.mem l.mem l.mv (mark k l.aged l.cell.place l.cell.place);
  next : IsFreshCons l.mem l.mv l.aged l.cell.place l.cell.head l.cell.tail;
  above : l.place ≤ l.cell.place;
}

abbrev pub decreases-loop-further : goal.decreases-loop-further
decreases-loop-further l = length l.initial.mem - l.cell.place
