use Rattle.cheney.specs.Plan.{Plan}
use Rattle.cheney.specs.Zones.{Marks}
use Rattle.cheney.specs.Rooms.{Runs}
use Rattle.cheney.specs.Roots.{AreRoots}
use Rattle.cheney.proofs.Rooted.Places.{PlacesMoving}
use Rattle.cheney.proofs.roots.evacuate_places.Given as goal

abbrev pub invariant-loop-i : goal.invariant-loop-i
invariant-loop-i l = (p : Plan) (k : Marks) → Runs p l.initial.mem l.initial.mv k → AreRoots p l.initial.mem l.from l.step l.count → PlacesMoving p l.initial.mem l.mem l.mv k l.from l.step
    l.count l.i
