use Rattle.std.proofs.Common.{◌-◌, ◌≤◌, ◌⊎◌, ◌≡◌}
use Rattle.block_slide.specs.Parts.{PlacesShifted}
use Rattle.block_slide.proofs.relocating.relocate_places.Given as goal

abbrev pub invariant-loop-at : goal.invariant-loop-at
invariant-loop-at g l = (l.from ≤ l.at) × (((l.at ≤ l.to) ⊎ (l.at ≡ l.from)) × PlacesShifted (g.P.Places.to l.places l.initial.mem) l.initial.mem l.mem l.from l.at)

abbrev pub decreases-loop-at : goal.decreases-loop-at
decreases-loop-at g l = l.to - l.at
