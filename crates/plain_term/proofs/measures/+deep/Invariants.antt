use Rattle.std.proofs.Common.{◌≡◌, ◌-◌, ◌^◌, ◌<◌, min, max, map, drop}
use Rattle.plain_term.specs.View.{view, trees_of, pairs_of, pair_of}
use Rattle.plain_term.specs.Measures.{greatest_depth, greatest_depth_of_pairs}
use Rattle.plain_term.proofs.measures.+deep.Given as goal

abbrev pub invariant-deepest-loop-t : goal.invariant-deepest-loop-t
invariant-deepest-loop-t l = (l.most < 2 ^ 64) × (min (max l.most (greatest_depth (trees_of (map view (drop l.t-index l.ts))))) (2 ^ 64 - 1)
    ≡ min (greatest_depth (trees_of (map view l.ts))) (2 ^ 64 - 1))

abbrev pub invariant-deepest_of_pairs-loop-key : goal.invariant-deepest_of_pairs-loop-key
invariant-deepest_of_pairs-loop-key l = (l.most < 2 ^ 64) × (min (max l.most (greatest_depth_of_pairs (pairs_of (map pair_of (drop l.key-index l.ps))))) (2 ^ 64 - 1)
    ≡ min (greatest_depth_of_pairs (pairs_of (map pair_of l.ps))) (2 ^ 64 - 1))
