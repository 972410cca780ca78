use Rattle.std.proofs.Common.{◌≤◌, length}
use Rattle.block_slide.proofs.Parting.{PlacesGoing}
use Rattle.block_slide.proofs.relocating.relocate_place_list.Given as goal

abbrev pub invariant-loop-i : goal.invariant-loop-i
invariant-loop-i g l = (l.i ≤ length l.initial.list) × PlacesGoing (g.P.Places.to l.places l.mem) l.initial.list l.list l.i
