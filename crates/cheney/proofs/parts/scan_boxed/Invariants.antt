use Rattle.std.proofs.Common.{◌-◌, ◌≡◌, Bool, ◌<◌}
use Rattle.cheney.specs.Plan.{Plan}
use Rattle.cheney.specs.Zones.{Marks, object_at, scanned_at}
use Rattle.cheney.specs.Rooms.{Runs, top_of}
use Rattle.cheney.proofs.Stepping.Steps.{Going}
use Rattle.cheney.proofs.parts.scan_boxed.Given as goal

abbrev pub invariant-loop-at : goal.invariant-loop-at
invariant-loop-at l =
    (p : Plan) (k : Marks) (b : Bool) → Runs p l.initial.mem l.initial.mv k → scanned_at k b ≡ l.place → object_at k b ≡ l.place → l.place < top_of l.initial.mv b → Going p l.initial.mem
    l.mem l.mv k b l.at l.end

abbrev pub decreases-loop-at : goal.decreases-loop-at
decreases-loop-at l = l.end - l.at
