use Rattle.std.proofs.Common.{◌≡◌, take}
use Rattle.two_halves.specs.Halves.{places_in}
use Rattle.two_halves.proofs.halves.count_places.Given as goal

abbrev pub invariant-loop-p : goal.invariant-loop-p
invariant-loop-p l = l.sum ≡ places_in (take l.p-index l.procs)
