use Rattle.std.proofs.Common.{arith}
use Rattle.term_verbs.proofs.Mapping.{full-place, is-within}
use Rattle.term_verbs.proofs.pairs.place_in.Goals as goal

pub count_with-requires : goal.count_with-requires
count_with-requires c = omega (arith, c.bounded.ensures, c.in-Map.ensures.places.0.within)

pub returns-then-count_with-gt-MOST_KEYS : goal.returns-then-count_with-gt-MOST_KEYS
returns-then-count_with-gt-MOST_KEYS c = λ r shared t k s sk.
    full-place r c.args.names.now shared c.args.mem.now c.args.w t k c.in-Map.rows c.in-Some.spot (c.in-Map.ensures.tree.each r shared t s) (is-within _ (c.in-Some.ensures.beyond r shared k sk))
    (λ ps a sorted. c.in-Some.ensures.finds r shared ps k a sorted sk) (omega (arith, c.if-count_with-gt-MOST_KEYS.true, c.count_with.ensures))
