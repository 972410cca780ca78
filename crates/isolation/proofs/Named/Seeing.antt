-- What is seen of a tree is seen of it by name.
use Rattle.std.proofs.Common.{◌≡◌, ℕ, ◌+◌, Bool, true, false, ◌||◌, nat_lt, max, List, ◌++◌, length, take, drop, codes, refl, ap, arith}
use Rattle.std.specs.Ordering.{nat_cmp, ordering_then}
use Rattle.plain_term.specs.Tree.{Tree, Trees, Pairs, trees_len, pairs_len}
use Rattle.plain_term.specs.Tree.Tree.{Int, Atom, Pid, Ref, Nil, Cons, Tuple, Map, Bin, Shared, Part, Fun}
use Rattle.plain_term.specs.Tree.Trees.{end, ◌▹◌}
use Rattle.plain_term.specs.Tree.Pairs.{stop, pair}
use Rattle.plain_term.specs.Bytes.{bytes_of}
use Rattle.plain_term.specs.Measures.{bin_nodes, nodes, nodes_of_all, nodes_of_pairs, depth, greatest_depth, greatest_depth_of_pairs, flat, flat_of_all, flat_of_pairs}
use Rattle.plain_term.specs.Beyond.{is_beyond, node_limit, depth_limit}
use Rattle.plain_term.specs.Order.{order, order_of_all, order_of_keys, order_of_values, kind_rank, bytes_order, name_of}
use Rattle.plain_term.specs.Text.{binary_text, placed, text_as, text_of_all, more_terms, text_of_pairs, more_pairs}
use Rattle.isolation.specs.Named.NamedTree.{as_named, all_as_named, pairs_as_named}
use Rattle.isolation.specs.Named.Seen.{count_of, pairs_count, named_bytes, named_nodes, all_named_nodes, pairs_named_nodes, named_depth, all_named_depth, pairs_named_depth, named_flat, all_named_flat, pairs_named_flat, named_beyond, named_rank, named_order, all_named_order, keys_named_order, values_named_order, named_text_as, all_named_text, more_named_text, pairs_named_text, more_named_pairs}
use Rattle.isolation.specs.Named.Laws.{SeenOf}

module _ (names shared : List (List ℕ)) where
  count-seen : (ts : Trees) → trees_len ts ≡ count_of (all_as_named names shared ts)
  count-seen end = refl
  count-seen (t ▹ ts) = ap (λ n. n + 1) (count-seen ts)

  pub pairs-seen : (ps : Pairs) → pairs_len ps ≡ pairs_count (pairs_as_named names shared ps)
  pairs-seen stop = refl
  pairs-seen (pair k v ps) = ap (λ n. n + 1) (pairs-seen ps)

  bytes-seen : (t : Tree) → bytes_of shared t ≡ named_bytes (as_named names shared t)
  bytes-seen (Part base offset len) = ap (λ bs. take len (drop offset bs)) (bytes-seen base)
  bytes-seen _ = refl

  mutual
    nodes-seen : (t : Tree) → nodes shared t ≡ named_nodes (as_named names shared t)
    nodes-seen (Cons h t) = omega (arith, nodes-seen h, nodes-seen t)
    nodes-seen (Tuple ts) = omega (arith, nodes-all ts)
    nodes-seen (Map ps) = omega (arith, nodes-pairs ps)
    nodes-seen (Fun f a c env) = omega (arith, nodes-all env)
    nodes-seen (Part base offset len) = ap (λ bs. bin_nodes (length bs)) (bytes-seen (Part base offset len))
    nodes-seen _ = refl

    nodes-all : (ts : Trees) → nodes_of_all shared ts ≡ all_named_nodes (all_as_named names shared ts)
    nodes-all end = refl
    nodes-all (t ▹ ts) = omega (arith, nodes-seen t, nodes-all ts)

    nodes-pairs : (ps : Pairs) → nodes_of_pairs shared ps ≡ pairs_named_nodes (pairs_as_named names shared ps)
    nodes-pairs stop = refl
    nodes-pairs (pair k v ps) = omega (arith, nodes-seen k, nodes-seen v, nodes-pairs ps)

  mutual
    depth-seen : (t : Tree) → depth t ≡ named_depth (as_named names shared t)
    depth-seen (Cons h t) = λ i. max (1 + depth-seen h i) (depth-seen t i)
    depth-seen (Tuple ts) = λ i. 1 + depth-all ts i
    depth-seen (Map ps) = λ i. 1 + depth-pairs ps i
    depth-seen (Fun f a c env) = λ i. 1 + depth-all env i
    depth-seen _ = refl

    depth-all : (ts : Trees) → greatest_depth ts ≡ all_named_depth (all_as_named names shared ts)
    depth-all end = refl
    depth-all (t ▹ ts) = λ i. max (depth-seen t i) (depth-all ts i)

    depth-pairs : (ps : Pairs) → greatest_depth_of_pairs ps ≡ pairs_named_depth (pairs_as_named names shared ps)
    depth-pairs stop = refl
    depth-pairs (pair k v ps) = λ i. max (max (depth-seen k i) (depth-seen v i)) (depth-pairs ps i)

  mutual
    flat-seen : (t : Tree) → flat t ≡ named_flat (as_named names shared t)
    flat-seen (Cons h t) = omega (arith, flat-seen h, flat-seen t)
    flat-seen (Tuple ts) = omega (arith, count-seen ts, flat-all ts)
    flat-seen (Map ps) = omega (arith, pairs-seen ps, flat-pairs ps)
    flat-seen (Fun f a c env) = omega (arith, count-seen env, flat-all env)
    flat-seen (Part base offset len) = omega (arith, flat-seen base)
    flat-seen _ = refl

    flat-all : (ts : Trees) → flat_of_all ts ≡ all_named_flat (all_as_named names shared ts)
    flat-all end = refl
    flat-all (t ▹ ts) = omega (arith, flat-seen t, flat-all ts)

    flat-pairs : (ps : Pairs) → flat_of_pairs ps ≡ pairs_named_flat (pairs_as_named names shared ps)
    flat-pairs stop = refl
    flat-pairs (pair k v ps) = omega (arith, flat-seen k, flat-seen v, flat-pairs ps)

  pub beyond-seen : (t : Tree) → is_beyond shared t ≡ named_beyond (as_named names shared t)
  beyond-seen t = λ i. nat_lt node_limit (nodes-seen t i) || nat_lt depth_limit (depth-seen t i)

  rank-seen : (t : Tree) → kind_rank t ≡ named_rank (as_named names shared t)
  rank-seen (Int n) = refl
  rank-seen _ = refl

  mutual
    pub order-seen : (a b : Tree) → order names shared a b ≡ named_order (as_named names shared a) (as_named names shared b)
    order-seen (Int i) (Int j) = refl
    order-seen (Atom k) (Atom j) = refl
    order-seen (Ref n k) (Ref m j) = refl
    order-seen (Pid n) (Pid m) = refl
    order-seen Nil Nil = refl
    order-seen (Fun f n c ts) (Fun g m d us) = λ i. ordering_then (bytes_order (name_of names f) (name_of names g))
        (ordering_then (nat_cmp n m) (ordering_then (nat_cmp c d)
        (ordering_then (nat_cmp (count-seen ts i) (count-seen us i)) (order-all ts us i))))
    order-seen (Tuple ts) (Tuple us) = λ i. ordering_then (nat_cmp (count-seen ts i) (count-seen us i)) (order-all ts us i)
    order-seen (Map ps) (Map qs) = λ i. ordering_then (nat_cmp (pairs-seen ps i) (pairs-seen qs i)) (ordering_then (order-keys ps qs i) (order-values ps qs i))
    order-seen (Cons a b) (Cons c d) = λ i. ordering_then (order-seen a c i) (order-seen b d i)
    order-seen a b = λ i. ordering_then (nat_cmp (rank-seen a i) (rank-seen b i)) (bytes_order (bytes-seen a i) (bytes-seen b i))

    order-all : (ts us : Trees) → order_of_all names shared ts us ≡ all_named_order (all_as_named names shared ts) (all_as_named names shared us)
    order-all end end = refl
    order-all end (u ▹ us) = refl
    order-all (t ▹ ts) end = refl
    order-all (t ▹ ts) (u ▹ us) = λ i. ordering_then (order-seen t u i) (order-all ts us i)

    order-keys : (ps qs : Pairs) → order_of_keys names shared ps qs ≡ keys_named_order (pairs_as_named names shared ps) (pairs_as_named names shared qs)
    order-keys stop stop = refl
    order-keys stop (pair k v qs) = refl
    order-keys (pair k v ps) stop = refl
    order-keys (pair k v ps) (pair j w qs) = λ i. ordering_then (order-seen k j i) (order-keys ps qs i)

    order-values : (ps qs : Pairs) → order_of_values names shared ps qs ≡ values_named_order (pairs_as_named names shared ps) (pairs_as_named names shared qs)
    order-values stop stop = refl
    order-values stop (pair k v qs) = refl
    order-values (pair k v ps) stop = refl
    order-values (pair k v ps) (pair j w qs) = λ i. ordering_then (order-seen v w i) (order-values ps qs i)

  mutual
    text-seen : (tail : Bool) (t : Tree) → text_as names shared tail t ≡ named_text_as tail (as_named names shared t)
    text-seen tail (Int i) = refl
    text-seen tail (Atom k) = refl
    text-seen false Nil = refl
    text-seen true Nil = refl
    text-seen false (Cons h t) = λ i. codes "[" ++ (text-seen false h i ++ text-seen true t i)
    text-seen true (Cons h t) = λ i. codes "," ++ (text-seen false h i ++ text-seen true t i)
    text-seen tail (Tuple ts) = λ i. placed tail (codes "{" ++ (text-all ts i ++ codes "}"))
    text-seen tail (Map ps) = λ i. placed tail (codes "#{" ++ (text-pairs ps i ++ codes "}"))
    text-seen tail (Bin bytes) = refl
    text-seen tail (Shared id) = refl
    text-seen tail (Part base offset len) = λ i. placed tail (binary_text (bytes-seen (Part base offset len) i))
    text-seen tail (Pid n) = refl
    text-seen tail (Ref n k) = refl
    text-seen tail (Fun f a c env) = refl

    text-all : (ts : Trees) → text_of_all names shared ts ≡ all_named_text (all_as_named names shared ts)
    text-all end = refl
    text-all (t ▹ ts) = λ i. text-seen false t i ++ text-more ts i

    text-more : (ts : Trees) → more_terms names shared ts ≡ more_named_text (all_as_named names shared ts)
    text-more end = refl
    text-more (t ▹ ts) = λ i. codes "," ++ (text-seen false t i ++ text-more ts i)

    text-pairs : (ps : Pairs) → text_of_pairs names shared ps ≡ pairs_named_text (pairs_as_named names shared ps)
    text-pairs stop = refl
    text-pairs (pair k v ps) = λ i. text-seen false k i ++ (codes "=>" ++ (text-seen false v i ++ text-more-pairs ps i))

    text-more-pairs : (ps : Pairs) → more_pairs names shared ps ≡ more_named_pairs (pairs_as_named names shared ps)
    text-more-pairs stop = refl
    text-more-pairs (pair k v ps) = λ i. codes "," ++ (text-seen false k i ++ (codes "=>" ++ (text-seen false v i ++ text-more-pairs ps i)))

  pub seen : (t : Tree) → SeenOf names shared t
  seen t = record {
    has_bytes = bytes-seen t;
    has_nodes = nodes-seen t;
    is_deep = depth-seen t;
    is_flat = flat-seen t;
    is_far = beyond-seen t;
    reads = text-seen false t;
    stands = λ u. order-seen t u;
  }
