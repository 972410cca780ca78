use Rattle.std.proofs.Common.{◌≡◌, ◌+◌, ◌≤◌, length, drop}
use Rattle.item_build.specs.Reading.{long_bins}
use Rattle.item_build.proofs.bins.long_bins.Given as goal

abbrev pub invariant-loop-i : goal.invariant-loop-i
invariant-loop-i l = (l.count + l.i ≤ length l.code) × (l.count ≡ long_bins (drop l.i l.code))

abbrev pub decreases-loop-i : goal.decreases-loop-i
decreases-loop-i l = l.i
