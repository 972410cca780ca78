-- What is said of a tree depends on the names and the bytes of shared binaries that it has, and on no others.
use Rattle.std.proofs.Common.{◌≡◌, ℕ, zero, suc, ◌≤◌, ◌<◌, ◌||◌, nat_lt, List, [], ◌++◌, length, take, drop, refl, ◌∙◌, ap, arith}
use Rattle.std.proofs.lemmas.List.{get_or_append_left}
use Rattle.std.specs.Ordering.{nat_cmp, ordering_then, match_ordering}
use Rattle.plain_term.specs.Tree.{Tree, Trees, Pairs, trees_len, pairs_len}
use Rattle.plain_term.specs.Tree.Tree.{Int, Atom, Pid, Ref, Nil, Cons, Tuple, Map, Shared, Part, Fun}
use Rattle.plain_term.specs.Tree.Trees.{end, ◌▹◌}
use Rattle.plain_term.specs.Tree.Pairs.{stop, pair}
use Rattle.plain_term.specs.Bytes.{bytes_of, shared_bytes}
use Rattle.plain_term.specs.Measures.{nodes, nodes_of_all, nodes_of_pairs, bin_nodes, depth}
use Rattle.plain_term.specs.Beyond.{is_beyond, node_limit, depth_limit}
use Rattle.plain_term.specs.Order.{order, order_of_all, order_of_keys, order_of_values, kind_rank, bytes_order, name_of}
use Rattle.plain_term.specs.InOrder.{put_pair, put_all, in_order}
use Rattle.plain_term.proofs.Putting.{put-keeps, all-keep}

-- All numbers of names in a tree are of one kind, and all ids of shared binaries of another.
abbrev mutual
  pub HasOnly : (ℕ → Type 0) → (ℕ → Type 0) → Tree → Type 0
  HasOnly N S (Atom k) = N k
  HasOnly N S (Cons h t) = HasOnly N S h × HasOnly N S t
  HasOnly N S (Tuple ts) = AllHaveOnly N S ts
  HasOnly N S (Map ps) = PairsHaveOnly N S ps
  HasOnly N S (Shared id) = S id
  HasOnly N S (Part base offset len) = HasOnly N S base
  HasOnly N S (Fun name arity creator env) = N name × AllHaveOnly N S env
  HasOnly N S _ = Unit {0}

  pub AllHaveOnly : (ℕ → Type 0) → (ℕ → Type 0) → Trees → Type 0
  AllHaveOnly N S end = Unit {0}
  AllHaveOnly N S (t ▹ ts) = HasOnly N S t × AllHaveOnly N S ts

  pub PairsHaveOnly : (ℕ → Type 0) → (ℕ → Type 0) → Pairs → Type 0
  PairsHaveOnly N S stop = Unit {0}
  PairsHaveOnly N S (pair k v ps) = HasOnly N S k × HasOnly N S v × PairsHaveOnly N S ps

-- The ids of all shared binaries in a tree are at most n.
abbrev pub Knows : ℕ → Tree → Type 0
Knows n t = HasOnly (λ k. Unit {0}) (λ id. id ≤ n) t

abbrev pub KnowsAll : ℕ → Trees → Type 0
KnowsAll n ts = AllHaveOnly (λ k. Unit {0}) (λ id. id ≤ n) ts

abbrev pub KnowsPairs : ℕ → Pairs → Type 0
KnowsPairs n ps = PairsHaveOnly (λ k. Unit {0}) (λ id. id ≤ n) ps

-- What is of a kind is of a wider one.
module _ (N S M R : ℕ → Type 0) (name : (k : ℕ) → N k → M k) (bytes : (id : ℕ) → S id → R id) where
  mutual
    pub has-only : (t : Tree) → HasOnly N S t → HasOnly M R t
    has-only (Atom k) h = name k h
    has-only (Cons a b) h = (has-only a h.0, has-only b h.1)
    has-only (Tuple ts) h = all-have-only ts h
    has-only (Map ps) h = pairs-have-only ps h
    has-only (Shared id) h = bytes id h
    has-only (Part base offset len) h = has-only base h
    has-only (Fun f a c env) h = (name f h.0, all-have-only env h.1)
    has-only _ h = tt

    pub all-have-only : (ts : Trees) → AllHaveOnly N S ts → AllHaveOnly M R ts
    all-have-only end h = tt
    all-have-only (t ▹ ts) h = (has-only t h.0, all-have-only ts h.1)

    pub pairs-have-only : (ps : Pairs) → PairsHaveOnly N S ps → PairsHaveOnly M R ps
    pairs-have-only stop h = tt
    pairs-have-only (pair k v ps) h = (has-only k h.0, has-only v h.1, pairs-have-only ps h.2)

-- Pairs put in order have what there was.
module _ (N S : ℕ → Type 0) (names shared : List (List ℕ)) where
  abbrev PairHasOnly : Tree → Tree → Type 0
  PairHasOnly k v = HasOnly N S k × HasOnly N S v

  pair-parts : (k v : Tree) (ps : Pairs) → PairsHaveOnly N S (pair k v ps) → PairHasOnly k v × PairsHaveOnly N S ps
  pair-parts k v ps h = ((h.0, h.1), h.2)

  pair-join : (k v : Tree) (ps : Pairs) → PairHasOnly k v → PairsHaveOnly N S ps → PairsHaveOnly N S (pair k v ps)
  pair-join k v ps p h = (p.0, p.1, h)

  put-has-only : (k v : Tree) (ps : Pairs) → PairHasOnly k v → PairsHaveOnly N S ps → PairsHaveOnly N S (put_pair names shared k v ps)
  put-has-only = put-keeps names shared (PairsHaveOnly N S) PairHasOnly pair-parts pair-join

  pub in-order-has-only : (given : Pairs) → PairsHaveOnly N S given → PairsHaveOnly N S (in_order names shared given)
  in-order-has-only given g = all-keep names shared (PairsHaveOnly N S) PairHasOnly pair-parts pair-join stop given tt g

-- Two lists of names, and two of shared bytes, that agree on all that a tree has.
module _ (names names2 shared shared2 : List (List ℕ)) where
  abbrev pub SameName : ℕ → Type 0
  SameName k = name_of names k ≡ name_of names2 k

  abbrev pub SameBytes : ℕ → Type 0
  SameBytes id = shared_bytes shared id ≡ shared_bytes shared2 id

  abbrev pub AgreeOn : Tree → Type 0
  AgreeOn t = HasOnly SameName SameBytes t

  abbrev pub AgreeOnAll : Trees → Type 0
  AgreeOnAll ts = AllHaveOnly SameName SameBytes ts

  abbrev pub AgreeOnPairs : Pairs → Type 0
  AgreeOnPairs ps = PairsHaveOnly SameName SameBytes ps

  pub same-bytes : (t : Tree) → AgreeOn t → bytes_of shared t ≡ bytes_of shared2 t
  same-bytes (Shared id) h = h
  same-bytes (Part base offset len) h = ap (λ bs. take len (drop offset bs)) (same-bytes base h)
  same-bytes _ h = refl

  mutual
    pub same-nodes : (t : Tree) → AgreeOn t → nodes shared t ≡ nodes shared2 t
    same-nodes (Cons a b) h = omega (arith, same-nodes a h.0, same-nodes b h.1)
    same-nodes (Tuple ts) h = omega (arith, all-same-nodes ts h)
    same-nodes (Fun f a c ts) h = omega (arith, all-same-nodes ts h.1)
    same-nodes (Map ps) h = omega (arith, pairs-same-nodes ps h)
    same-nodes (Shared id) h = ap (λ bs. bin_nodes (length bs)) h
    same-nodes (Part base offset len) h = ap (λ bs. bin_nodes (length bs)) (same-bytes (Part base offset len) h)
    same-nodes _ h = refl

    all-same-nodes : (ts : Trees) → AgreeOnAll ts → nodes_of_all shared ts ≡ nodes_of_all shared2 ts
    all-same-nodes end h = refl
    all-same-nodes (t ▹ ts) h = omega (arith, same-nodes t h.0, all-same-nodes ts h.1)

    pairs-same-nodes : (ps : Pairs) → AgreeOnPairs ps → nodes_of_pairs shared ps ≡ nodes_of_pairs shared2 ps
    pairs-same-nodes stop h = refl
    pairs-same-nodes (pair k v ps) h = omega (arith, same-nodes k h.0, same-nodes v h.1, pairs-same-nodes ps h.2)

  pub same-beyond : (t : Tree) → AgreeOn t → is_beyond shared t ≡ is_beyond shared2 t
  same-beyond t h = ap (λ n. nat_lt node_limit n || nat_lt depth_limit (depth t)) (same-nodes t h)

  mutual
    pub same-order : (a b : Tree) → AgreeOn a → AgreeOn b → order names shared a b ≡ order names2 shared2 a b
    same-order (Int i) (Int j) p q = refl
    same-order (Atom k) (Atom j) p q = λ i. bytes_order (p i) (q i)
    same-order (Ref n k) (Ref m j) p q = refl
    same-order (Pid n) (Pid m) p q = refl
    same-order Nil Nil p q = refl
    same-order (Fun f n c ts) (Fun g m d us) p q =
        λ i. ordering_then (bytes_order (p.0 i) (q.0 i))
        (ordering_then (nat_cmp n m) (ordering_then (nat_cmp c d)
        (ordering_then (nat_cmp (trees_len ts) (trees_len us)) (all-same-order ts us p.1 q.1 i))))
    same-order (Tuple ts) (Tuple us) p q = ap (λ o. ordering_then (nat_cmp (trees_len ts) (trees_len us)) o) (all-same-order ts us p q)
    same-order (Map ps) (Map qs) p q =
        λ i. ordering_then (nat_cmp (pairs_len ps) (pairs_len qs)) (ordering_then (keys-same-order ps qs p q i) (values-same-order ps qs p q i))
    same-order (Cons a b) (Cons c d) p q = λ i. ordering_then (same-order a c p.0 q.0 i) (same-order b d p.1 q.1 i)
    same-order a b p q = λ i. ordering_then (nat_cmp (kind_rank a) (kind_rank b)) (bytes_order (same-bytes a p i) (same-bytes b q i))

    all-same-order : (ts us : Trees) → AgreeOnAll ts → AgreeOnAll us → order_of_all names shared ts us ≡ order_of_all names2 shared2 ts us
    all-same-order end end p q = refl
    all-same-order end (u ▹ us) p q = refl
    all-same-order (t ▹ ts) end p q = refl
    all-same-order (t ▹ ts) (u ▹ us) p q = λ i. ordering_then (same-order t u p.0 q.0 i) (all-same-order ts us p.1 q.1 i)

    keys-same-order : (ps qs : Pairs) → AgreeOnPairs ps → AgreeOnPairs qs → order_of_keys names shared ps qs ≡ order_of_keys names2 shared2 ps qs
    keys-same-order stop stop p q = refl
    keys-same-order stop (pair k v qs) p q = refl
    keys-same-order (pair k v ps) stop p q = refl
    keys-same-order (pair k v ps) (pair j w qs) p q = λ i. ordering_then (same-order k j p.0 q.0 i) (keys-same-order ps qs p.2 q.2 i)

    values-same-order : (ps qs : Pairs) → AgreeOnPairs ps → AgreeOnPairs qs → order_of_values names shared ps qs ≡ order_of_values names2 shared2 ps qs
    values-same-order stop stop p q = refl
    values-same-order stop (pair k v qs) p q = refl
    values-same-order (pair k v ps) stop p q = refl
    values-same-order (pair k v ps) (pair j w qs) p q = λ i. ordering_then (same-order v w p.1 q.1 i) (values-same-order ps qs p.2 q.2 i)

  -- They put pairs in the same order.

  put-same : (k v : Tree) (ps : Pairs) → AgreeOn k → AgreeOnPairs ps → put_pair names shared k v ps ≡ put_pair names2 shared2 k v ps
  put-same k v stop a h = refl
  put-same k v (pair j w ps) a h =
      λ i. match_ordering (same-order k j a h.0 i) (pair k v (pair j w ps)) (pair k v ps) (pair j w (put-same k v ps a h.2 i))

  pub all-put-same : (ps given : Pairs) → AgreeOnPairs ps → AgreeOnPairs given → put_all names shared ps given ≡ put_all names2 shared2 ps given
  all-put-same ps stop h g = refl
  all-put-same ps (pair k v given) h g =
      ap (λ z. put_all names shared z given) (put-same k v ps g.0 h)
      ∙ all-put-same (put_pair names2 shared2 k v ps) given (put-has-only SameName SameBytes names2 shared2 k v ps (g.0, g.1) h) g.2

-- The names, and the shared bytes, that were there stay where more stand after them.
module _ (xs more : List (List ℕ)) where
  pub name-stays : (k : ℕ) → k < length xs → name_of (xs ++ more) k ≡ name_of xs k
  name-stays k below = get_or_append_left xs more [] k below

  pub bytes-stay : (id : ℕ) → id ≤ length xs → shared_bytes (xs ++ more) id ≡ shared_bytes xs id
  bytes-stay zero below = refl
  bytes-stay (suc k) below = get_or_append_left xs more [] k (omega (arith, below))

-- Who knows no later shared binaries than n knows none later than a greater number.
module _ (n m : ℕ) (fewer : n ≤ m) where
  wider : (id : ℕ) → id ≤ n → id ≤ m
  wider id h = omega (arith, h, fewer)

  pub knows-more : (t : Tree) → Knows n t → Knows m t
  knows-more = has-only (λ k. Unit {0}) (λ id. id ≤ n) (λ k. Unit {0}) (λ id. id ≤ m) (λ k h. tt) wider

  pub all-knows-more : (ts : Trees) → KnowsAll n ts → KnowsAll m ts
  all-knows-more = all-have-only (λ k. Unit {0}) (λ id. id ≤ n) (λ k. Unit {0}) (λ id. id ≤ m) (λ k h. tt) wider

-- What is said of trees over shared binaries that they know stays where more of these stand after them.
module _ (names shared more : List (List ℕ)) where
  pub knows-beyond : (t : Tree) → Knows (length shared) t → is_beyond (shared ++ more) t ≡ is_beyond shared t
  knows-beyond t h =
      same-beyond names names (shared ++ more) shared t
      (has-only (λ k. Unit {0}) (λ id. id ≤ length shared) (SameName names names (shared ++ more) shared)
      (SameBytes names names (shared ++ more) shared) (λ k u. refl) (bytes-stay shared more) t h)

  pub knows-in-order : (given : Pairs) → KnowsPairs (length shared) given → in_order names (shared ++ more) given ≡ in_order names shared given
  knows-in-order given h =
      all-put-same names names (shared ++ more) shared stop given tt
      (pairs-have-only (λ k. Unit {0}) (λ id. id ≤ length shared) (SameName names names (shared ++ more) shared)
      (SameBytes names names (shared ++ more) shared) (λ k u. refl) (bytes-stay shared more) given h)
