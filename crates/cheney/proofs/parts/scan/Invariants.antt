use Rattle.std.proofs.Common.{◌-◌, ◌+◌}
use Rattle.cheney.specs.Plan.{Plan}
use Rattle.cheney.specs.Zones.{at_objects}
use Rattle.cheney.specs.Rooms.{Runs}
use Rattle.cheney.specs.Calls.{RunsOn}
use Rattle.cheney.proofs.parts.scan.Given as goal

abbrev pub invariant-loop-aged : goal.invariant-loop-aged
invariant-loop-aged l =
    (p : Plan) → Runs p l.initial.mem l.initial.mv (at_objects l.initial.mv.aged.start l.initial.mv.young.start) → RunsOn p l.initial.mem l.mem l.mv (at_objects l.aged l.young)

abbrev pub decreases-loop-aged : goal.decreases-loop-aged
decreases-loop-aged l = (l.mv.aged.end - l.aged) + (l.mv.young.end - l.young)
