use Rattle.std.proofs.Common.{◌≡◌, ◌+◌, ◌-◌, ◌^◌, ◌<◌, min, [], map, drop}
use Rattle.plain_term.specs.View.{view, trees_of, pairs_of, pair_of}
use Rattle.plain_term.specs.Measures.{nodes_of_all, nodes_of_pairs}
use Rattle.plain_term.proofs.measures.+count.Given as goal

abbrev pub invariant-count_all_nodes-loop-t : goal.invariant-count_all_nodes-loop-t
invariant-count_all_nodes-loop-t l = (l.sum < 2 ^ 64) × (min (l.sum + nodes_of_all [] (trees_of (map view (drop l.t-index l.ts)))) (2 ^ 64 - 1)
    ≡ min (nodes_of_all [] (trees_of (map view l.ts))) (2 ^ 64 - 1))

abbrev pub invariant-count_pair_nodes-loop-key : goal.invariant-count_pair_nodes-loop-key
invariant-count_pair_nodes-loop-key l = (l.sum < 2 ^ 64) × (min (l.sum + nodes_of_pairs [] (pairs_of (map pair_of (drop l.key-index l.ps)))) (2 ^ 64 - 1)
    ≡ min (nodes_of_pairs [] (pairs_of (map pair_of l.ps))) (2 ^ 64 - 1))
