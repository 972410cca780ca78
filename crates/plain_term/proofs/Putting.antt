-- Pairs put in order: their keys rise, they are no more than there were, and what holds of each pair alone holds still.
use Rattle.std.proofs.Common.{◌≡◌, ℕ, ◌+◌, ◌≤◌, true, List, refl, ◌∙◌, ap, arith}
use Rattle.std.specs.Ordering.{match_ordering, ordering_reverse}
use Rattle.std.specs.declared.cmp.Ordering.{Ordering}
use Rattle.std.specs.declared.cmp.Ordering.TheVariants.{Less, Equal, Greater}
use Rattle.plain_term.specs.Tree.{Tree, Pairs, pairs_len}
use Rattle.plain_term.specs.Tree.Pairs.{stop, pair}
use Rattle.plain_term.specs.Order.{order}
use Rattle.plain_term.specs.InOrder.{put_pair, put_all, in_order}
use Rattle.plain_term.specs.Proper.{keys_rise}
use Rattle.plain_term.proofs.TokenLemmas.{order-total}
use Rattle.plain_term.proofs.Rising.{Below, rise-parts, rise-join, below-alike}

module _ (names shared : List (List ℕ)) where
  put-below : (j k v : Tree) (ps : Pairs) → Below names shared j ps → order names shared j k ≡ Less → Below names shared j (put_pair names shared k v ps)
  put-below j k v stop b l = l
  put-below j k v (pair i w ps) b l = by (order names shared k i)
    where
      by : (o : Ordering) → Below names shared j (match_ordering o (pair k v (pair i w ps)) (pair k v ps) (pair i w (put_pair names shared k v ps)))
      by Less = l
      by Equal = l
      by Greater = b

  pub put-rises : (k v : Tree) (ps : Pairs) → keys_rise names shared ps ≡ true → keys_rise names shared (put_pair names shared k v ps) ≡ true
  put-rises k v stop h = refl
  put-rises k v (pair j w ps) h = by (rise-parts names shared j w ps h) (put-rises k v ps (rise-parts names shared j w ps h).1) (order names shared k j) refl
    where
      by : Below names shared j ps × (keys_rise names shared ps ≡ true) → keys_rise names shared (put_pair names shared k v ps) ≡ true → (o : Ordering) → order names shared k j ≡ o
          → keys_rise names shared (match_ordering o (pair k v (pair j w ps)) (pair k v ps) (pair j w (put_pair names shared k v ps))) ≡ true
      by parts rest Less e = rise-join names shared k v (pair j w ps) e h
      by parts rest Equal e = rise-join names shared k v ps (below-alike names shared k j ps e parts.0) parts.1
      by parts rest Greater e =
          rise-join names shared j w (put_pair names shared k v ps) (put-below j k v ps parts.0 ((order-total names shared).antisymm j k ∙ ap ordering_reverse e)) rest

  all-rise : (ps given : Pairs) → keys_rise names shared ps ≡ true → keys_rise names shared (put_all names shared ps given) ≡ true
  all-rise ps stop h = h
  all-rise ps (pair k v given) h = all-rise (put_pair names shared k v ps) given (put-rises k v ps h)

  pub in-order-rises : (given : Pairs) → keys_rise names shared (in_order names shared given) ≡ true
  in-order-rises given = all-rise stop given refl

  -- Pairs that are put among others never make these fewer.

  put-grows : (k v : Tree) (ps : Pairs) → pairs_len ps ≤ pairs_len (put_pair names shared k v ps)
  put-grows k v stop = omega arith
  put-grows k v (pair j w ps) = by (order names shared k j) (put-grows k v ps)
    where
      by : (o : Ordering) → pairs_len ps ≤ pairs_len (put_pair names shared k v ps)
          → pairs_len ps + 1 ≤ pairs_len (match_ordering o (pair k v (pair j w ps)) (pair k v ps) (pair j w (put_pair names shared k v ps)))
      by Less rest = omega arith
      by Equal rest = omega arith
      by Greater rest = omega arith

  pub all-grows : (ps given : Pairs) → pairs_len ps ≤ pairs_len (put_all names shared ps given)
  all-grows ps stop = omega arith
  all-grows ps (pair k v given) = omega (arith, put-grows k v ps, all-grows (put_pair names shared k v ps) given)

  -- And never bring more than there are.

  put-few : (k v : Tree) (ps : Pairs) → pairs_len (put_pair names shared k v ps) ≤ pairs_len ps + 1
  put-few k v stop = omega arith
  put-few k v (pair j w ps) = by (order names shared k j) (put-few k v ps)
    where
      by : (o : Ordering) → pairs_len (put_pair names shared k v ps) ≤ pairs_len ps + 1
          → pairs_len (match_ordering o (pair k v (pair j w ps)) (pair k v ps) (pair j w (put_pair names shared k v ps))) ≤ pairs_len ps + 1 + 1
      by Less rest = omega arith
      by Equal rest = omega arith
      by Greater rest = omega arith

  all-few : (ps given : Pairs) → pairs_len (put_all names shared ps given) ≤ pairs_len ps + pairs_len given
  all-few ps stop = omega arith
  all-few ps (pair k v given) = omega (arith, put-few k v ps, all-few (put_pair names shared k v ps) given)

  pub in-order-few : (given : Pairs) → pairs_len (in_order names shared given) ≤ pairs_len given
  in-order-few given = omega (arith, all-few stop given)

  -- What holds of pairs where something holds of each of them alone.
  module _ (Each : Pairs → Type 0) (One : Tree → Tree → Type 0)
      (parts : (k v : Tree) (ps : Pairs) → Each (pair k v ps) → One k v × Each ps) (join : (k v : Tree) (ps : Pairs) → One k v → Each ps → Each (pair k v ps)) where
    pub put-keeps : (k v : Tree) (ps : Pairs) → One k v → Each ps → Each (put_pair names shared k v ps)
    put-keeps k v stop h e = join k v stop h e
    put-keeps k v (pair j w ps) h e = by (parts j w ps e) (put-keeps k v ps h (parts j w ps e).1) (order names shared k j)
      where
        by : One j w × Each ps → Each (put_pair names shared k v ps) → (o : Ordering) → Each (match_ordering o (pair k v (pair j w ps)) (pair k v ps) (pair j w (put_pair names shared k v ps)))
        by p rest Less = join k v (pair j w ps) h e
        by p rest Equal = join k v ps h p.1
        by p rest Greater = join j w (put_pair names shared k v ps) p.0 rest

    pub all-keep : (ps given : Pairs) → Each ps → Each given → Each (put_all names shared ps given)
    all-keep ps stop e g = e
    all-keep ps (pair k v given) e g = let p = parts k v given g in all-keep (put_pair names shared k v ps) given (put-keeps k v ps p.0 e) p.1
