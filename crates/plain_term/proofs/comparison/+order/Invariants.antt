use Rattle.std.proofs.Common.{◌≡◌, [], map, drop}
use Rattle.std.specs.Ordering.{ordering_then}
use Rattle.plain_term.specs.View.{view, trees_of, pairs_of, pair_of}
use Rattle.plain_term.specs.Order.{order_of_all, order_of_keys, order_of_values}
use Rattle.plain_term.proofs.comparison.+order.Given as goal

abbrev pub invariant-compare_all-loop-i : goal.invariant-compare_all-loop-i
invariant-compare_all-loop-i l = order_of_all (map (λ v. v.items) l.names) [] (trees_of (map view l.xs)) (trees_of (map view l.ys))
    ≡ order_of_all (map (λ v. v.items) l.names) [] (trees_of (map view (drop l.i l.xs))) (trees_of (map view (drop l.i l.ys)))

abbrev pub invariant-compare_pairs-loop-i : goal.invariant-compare_pairs-loop-i
invariant-compare_pairs-loop-i l = (order_of_keys (map (λ v. v.items) l.names) [] (pairs_of (map pair_of l.ps)) (pairs_of (map pair_of l.qs))
    ≡ order_of_keys (map (λ v. v.items) l.names) [] (pairs_of (map pair_of (drop l.i l.ps))) (pairs_of (map pair_of (drop l.i l.qs))))
    × (order_of_values (map (λ v. v.items) l.names) [] (pairs_of (map pair_of l.ps)) (pairs_of (map pair_of l.qs))
    ≡ ordering_then l.values (order_of_values (map (λ v. v.items) l.names) [] (pairs_of (map pair_of (drop l.i l.ps))) (pairs_of (map pair_of (drop l.i l.qs)))))
