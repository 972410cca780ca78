use Rattle.std.proofs.Common.{◌≡◌, ◌+◌, ◌*◌, ◌-◌, ◌^◌, ◌<◌, min, map, drop, length}
use Rattle.plain_term.specs.View.{view, trees_of, pairs_of, pair_of}
use Rattle.plain_term.specs.Measures.{flat_of_all, flat_of_pairs}
use Rattle.plain_term.proofs.measures.+flat.Given as goal

abbrev pub invariant-flat_parts-loop-t : goal.invariant-flat_parts-loop-t
invariant-flat_parts-loop-t l = (l.sum < 2 ^ 64) × (min (l.sum + (length l.ts - l.t-index) + flat_of_all (trees_of (map view (drop l.t-index l.ts)))) (2 ^ 64 - 1)
    ≡ min (length l.ts + flat_of_all (trees_of (map view l.ts))) (2 ^ 64 - 1))

abbrev pub invariant-flat_pairs-loop-key : goal.invariant-flat_pairs-loop-key
invariant-flat_pairs-loop-key l = (l.sum < 2 ^ 64) × (min (l.sum + 2 * (length l.ps - l.key-index) + flat_of_pairs (pairs_of (map pair_of (drop l.key-index l.ps)))) (2 ^ 64 - 1)
    ≡ min (2 * length l.ps + flat_of_pairs (pairs_of (map pair_of l.ps))) (2 ^ 64 - 1))
