-- What is seen of a tree by name: bytes, sizes, order and text.
use Rattle.std.specs.Prelude.{ℕ, ◌+◌, ◌*◌, Bool, true, false, ◌||◌, nat_lt, max, List, [], ◌++◌, length, take, drop, codes, decimal}
use Rattle.std.specs.Fmt.{signed_decimal}
use Rattle.std.specs.Ordering.{int_cmp, nat_cmp, ordering_then}
use Rattle.std.specs.declared.cmp.Ordering.{Ordering}
use Rattle.std.specs.declared.cmp.Ordering.TheVariants.{Less, Equal, Greater}
use Rattle.plain_term.specs.Measures.{bin_words, bin_nodes, int_flat}
use Rattle.plain_term.specs.Beyond.{node_limit, depth_limit}
use Rattle.plain_term.specs.Order.{bytes_order}
use Rattle.plain_term.specs.Text.{binary_text, placed}
use Rattle.isolation.specs.Named.NamedTree.{NamedTree, NamedTrees, NamedPairs}
use Rattle.isolation.specs.Named.NamedTree.NamedTree.{Int, Atom, Pid, Ref, Nil, Cons, Tuple, Map, Bin, Shared, Part, Fun}
use Rattle.isolation.specs.Named.NamedTree.NamedTrees.{nothing, before}
use Rattle.isolation.specs.Named.NamedTree.NamedPairs.{unpaired, paired}

-- How many trees, how many pairs a list has.
abbrev pub count_of : NamedTrees → ℕ
count_of nothing = 0
count_of (before t ts) = count_of ts + 1

abbrev pub pairs_count : NamedPairs → ℕ
pairs_count unpaired = 0
pairs_count (paired k v ps) = pairs_count ps + 1

-- The bytes of a binary; no other tree has any.
abbrev pub named_bytes : NamedTree → List ℕ
named_bytes (Bin bytes) = bytes
named_bytes (Shared bytes) = bytes
named_bytes (Part base offset len) = take len (drop offset (named_bytes base))
named_bytes _ = []

abbrev mutual
  -- One for each part, and for a binary one more for each 64 bytes.
  pub named_nodes : NamedTree → ℕ
  named_nodes (Cons h t) = 1 + named_nodes h + named_nodes t
  named_nodes (Tuple ts) = 1 + all_named_nodes ts
  named_nodes (Map ps) = 1 + pairs_named_nodes ps
  named_nodes (Fun name arity creator env) = 1 + all_named_nodes env
  named_nodes (Bin bytes) = bin_nodes (length bytes)
  named_nodes (Shared bytes) = bin_nodes (length bytes)
  named_nodes (Part base offset len) = bin_nodes (length (named_bytes (Part base offset len)))
  named_nodes _ = 1

  pub all_named_nodes : NamedTrees → ℕ
  all_named_nodes nothing = 0
  all_named_nodes (before t ts) = named_nodes t + all_named_nodes ts

  pub pairs_named_nodes : NamedPairs → ℕ
  pairs_named_nodes unpaired = 0
  pairs_named_nodes (paired k v ps) = named_nodes k + named_nodes v + pairs_named_nodes ps

abbrev mutual
  -- How many tuples, maps, funs and heads of lists stand inside one another.
  pub named_depth : NamedTree → ℕ
  named_depth (Cons h t) = max (1 + named_depth h) (named_depth t)
  named_depth (Tuple ts) = 1 + all_named_depth ts
  named_depth (Map ps) = 1 + pairs_named_depth ps
  named_depth (Fun name arity creator env) = 1 + all_named_depth env
  named_depth _ = 0

  pub all_named_depth : NamedTrees → ℕ
  all_named_depth nothing = 0
  all_named_depth (before t ts) = max (named_depth t) (all_named_depth ts)

  pub pairs_named_depth : NamedPairs → ℕ
  pairs_named_depth unpaired = 0
  pairs_named_depth (paired k v ps) = max (max (named_depth k) (named_depth v)) (pairs_named_depth ps)

abbrev mutual
  -- The heap words of a copy.
  pub named_flat : NamedTree → ℕ
  named_flat (Int i) = int_flat i
  named_flat (Ref n k) = 3
  named_flat (Cons h t) = 2 + named_flat h + named_flat t
  named_flat (Tuple ts) = 1 + count_of ts + all_named_flat ts
  named_flat (Map ps) = 4 + 2 * pairs_count ps + pairs_named_flat ps
  named_flat (Fun name arity creator env) = 6 + count_of env + all_named_flat env
  named_flat (Bin bytes) = 2 + bin_words (length bytes)
  named_flat (Shared bytes) = 6
  named_flat (Part base offset len) = 5 + named_flat base
  named_flat _ = 0

  pub all_named_flat : NamedTrees → ℕ
  all_named_flat nothing = 0
  all_named_flat (before t ts) = named_flat t + all_named_flat ts

  pub pairs_named_flat : NamedPairs → ℕ
  pairs_named_flat unpaired = 0
  pairs_named_flat (paired k v ps) = named_flat k + named_flat v + pairs_named_flat ps

-- Beyond the walk limit: too many nodes, or too deep.
abbrev pub named_beyond : NamedTree → Bool
named_beyond t = nat_lt node_limit (named_nodes t) || nat_lt depth_limit (named_depth t)

-- The kinds of terms, from the least.
abbrev pub named_rank : NamedTree → ℕ
named_rank (Int i) = 0
named_rank (Atom name) = 1
named_rank (Ref n k) = 2
named_rank (Fun name arity creator env) = 3
named_rank (Pid n) = 4
named_rank (Tuple ts) = 5
named_rank (Map ps) = 6
named_rank Nil = 7
named_rank (Cons h t) = 8
named_rank (Bin bytes) = 9
named_rank (Shared bytes) = 9
named_rank (Part base offset len) = 9

abbrev mutual
  -- The order of terms.
  pub named_order : NamedTree → NamedTree → Ordering
  named_order (Int i) (Int j) = int_cmp i j
  named_order (Atom name) (Atom other) = bytes_order name other
  named_order (Ref n k) (Ref m j) = ordering_then (nat_cmp n m) (nat_cmp k j)
  named_order (Fun f a c env) (Fun g b d others) = ordering_then (bytes_order f g)
      (ordering_then (nat_cmp a b) (ordering_then (nat_cmp c d)
      (ordering_then (nat_cmp (count_of env) (count_of others)) (all_named_order env others))))
  named_order (Pid n) (Pid m) = nat_cmp n m
  named_order (Tuple ts) (Tuple us) = ordering_then (nat_cmp (count_of ts) (count_of us)) (all_named_order ts us)
  named_order (Map ps) (Map qs) = ordering_then (nat_cmp (pairs_count ps) (pairs_count qs))
      (ordering_then (keys_named_order ps qs) (values_named_order ps qs))
  named_order Nil Nil = Equal
  named_order (Cons h t) (Cons k u) = ordering_then (named_order h k) (named_order t u)
  named_order a b = ordering_then (nat_cmp (named_rank a) (named_rank b)) (bytes_order (named_bytes a) (named_bytes b))

  pub all_named_order : NamedTrees → NamedTrees → Ordering
  all_named_order nothing nothing = Equal
  all_named_order nothing (before u us) = Less
  all_named_order (before t ts) nothing = Greater
  all_named_order (before t ts) (before u us) = ordering_then (named_order t u) (all_named_order ts us)

  pub keys_named_order : NamedPairs → NamedPairs → Ordering
  keys_named_order unpaired unpaired = Equal
  keys_named_order unpaired (paired k v qs) = Less
  keys_named_order (paired k v ps) unpaired = Greater
  keys_named_order (paired k v ps) (paired j w qs) = ordering_then (named_order k j) (keys_named_order ps qs)

  pub values_named_order : NamedPairs → NamedPairs → Ordering
  values_named_order unpaired unpaired = Equal
  values_named_order unpaired (paired k v qs) = Less
  values_named_order (paired k v ps) unpaired = Greater
  values_named_order (paired k v ps) (paired j w qs) = ordering_then (named_order v w) (values_named_order ps qs)

abbrev mutual
  -- The text of a term, or of what follows in a list whose tail is the term.
  pub named_text_as : (tail : Bool) → NamedTree → List ℕ
  named_text_as tail (Int i) = placed tail (signed_decimal i)
  named_text_as tail (Atom name) = placed tail name
  named_text_as false Nil = codes "[]"
  named_text_as true Nil = codes "]"
  named_text_as false (Cons h t) = codes "[" ++ (named_text_as false h ++ named_text_as true t)
  named_text_as true (Cons h t) = codes "," ++ (named_text_as false h ++ named_text_as true t)
  named_text_as tail (Tuple ts) = placed tail (codes "{" ++ (all_named_text ts ++ codes "}"))
  named_text_as tail (Map ps) = placed tail (codes "#{" ++ (pairs_named_text ps ++ codes "}"))
  named_text_as tail (Bin bytes) = placed tail (binary_text bytes)
  named_text_as tail (Shared bytes) = placed tail (binary_text bytes)
  named_text_as tail (Part base offset len) = placed tail (binary_text (named_bytes (Part base offset len)))
  named_text_as tail (Pid n) = placed tail (codes "<0." ++ (decimal n ++ codes ".0>"))
  named_text_as tail (Ref n k) = placed tail (codes "#Ref<0." ++ (decimal n ++ (codes "." ++ (decimal k ++ codes ">"))))
  named_text_as tail (Fun f arity creator env) = placed tail (codes "#Fun<" ++ (f ++ (codes "/" ++ (decimal arity ++ codes ">"))))

  pub all_named_text : NamedTrees → List ℕ
  all_named_text nothing = []
  all_named_text (before t ts) = named_text_as false t ++ more_named_text ts

  pub more_named_text : NamedTrees → List ℕ
  more_named_text nothing = []
  more_named_text (before t ts) = codes "," ++ (named_text_as false t ++ more_named_text ts)

  pub pairs_named_text : NamedPairs → List ℕ
  pairs_named_text unpaired = []
  pairs_named_text (paired k v ps) = named_text_as false k ++ (codes "=>" ++ (named_text_as false v ++ more_named_pairs ps))

  pub more_named_pairs : NamedPairs → List ℕ
  more_named_pairs unpaired = []
  more_named_pairs (paired k v ps) = codes "," ++ (named_text_as false k ++ (codes "=>" ++ (named_text_as false v ++ more_named_pairs ps)))

abbrev pub named_text : NamedTree → List ℕ
named_text t = named_text_as false t
