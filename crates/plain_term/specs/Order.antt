-- The order of terms, from the names of the atoms and the shared byte lists.
use Rattle.std.specs.Prelude.{ℕ, List, [], slice_index_or}
use Rattle.std.specs.Ordering.{int_cmp, nat_cmp, ordering_then}
use Rattle.std.specs.Cmp.Lexicographic.{slice_cmp}
use Rattle.std.specs.declared.cmp.Ordering.{Ordering}
use Rattle.std.specs.declared.cmp.Ordering.TheVariants.{Less, Equal, Greater}
use Rattle.plain_term.specs.Tree.{Tree, Trees, Pairs, trees_len, pairs_len}
use Rattle.plain_term.specs.Tree.Tree.{Int, Atom, Pid, Ref, Nil, Cons, Tuple, Map, Bin, Shared, Part, Fun}
use Rattle.plain_term.specs.Tree.Trees.{end, ◌▹◌}
use Rattle.plain_term.specs.Tree.Pairs.{stop, pair}
use Rattle.plain_term.specs.Bytes.{bytes_of}

-- The kinds of terms, from the least.
abbrev pub kind_rank : Tree → ℕ
kind_rank (Int i) = 0
kind_rank (Atom k) = 1
kind_rank (Ref n k) = 2
kind_rank (Fun name arity creator env) = 3
kind_rank (Pid n) = 4
kind_rank (Tuple ts) = 5
kind_rank (Map ps) = 6
kind_rank Nil = 7
kind_rank (Cons h t) = 8
kind_rank (Bin bytes) = 9
kind_rank (Shared id) = 9
kind_rank (Part base offset len) = 9

-- Bytes from the left, a proper prefix being less.
abbrev pub bytes_order : List ℕ → List ℕ → Ordering
bytes_order xs ys = slice_cmp nat_cmp xs ys

-- The bytes of the k-th name, counted from 0.
abbrev pub name_of : (names : List (List ℕ)) (k : ℕ) → List ℕ
name_of names k = slice_index_or names k []

abbrev mutual
  -- Terms of one kind by their parts in the order of writing, a tuple, map or fun by its size
  -- first; terms of different kinds by kind, and binaries of any form by their bytes.
  pub order : (names shared : List (List ℕ)) → Tree → Tree → Ordering
  order names shared (Int i) (Int j) = int_cmp i j
  order names shared (Atom k) (Atom j) = bytes_order (name_of names k) (name_of names j)
  order names shared (Ref n k) (Ref m j) = ordering_then (nat_cmp n m) (nat_cmp k j)
  order names shared (Fun f a c env) (Fun g b d others) = ordering_then (bytes_order (name_of names f) (name_of names g))
      (ordering_then (nat_cmp a b) (ordering_then (nat_cmp c d)
      (ordering_then (nat_cmp (trees_len env) (trees_len others)) (order_of_all names shared env others))))
  order names shared (Pid n) (Pid m) = nat_cmp n m
  order names shared (Tuple ts) (Tuple us) = ordering_then (nat_cmp (trees_len ts) (trees_len us)) (order_of_all names shared ts us)
  order names shared (Map ps) (Map qs) = ordering_then (nat_cmp (pairs_len ps) (pairs_len qs))
      (ordering_then (order_of_keys names shared ps qs) (order_of_values names shared ps qs))
  order names shared Nil Nil = Equal
  order names shared (Cons h t) (Cons k u) = ordering_then (order names shared h k) (order names shared t u)
  order names shared a b = ordering_then (nat_cmp (kind_rank a) (kind_rank b)) (bytes_order (bytes_of shared a) (bytes_of shared b))

  -- Parts from the left; where one list ends first it is less.
  pub order_of_all : (names shared : List (List ℕ)) → Trees → Trees → Ordering
  order_of_all names shared end end = Equal
  order_of_all names shared end (u ▹ us) = Less
  order_of_all names shared (t ▹ ts) end = Greater
  order_of_all names shared (t ▹ ts) (u ▹ us) = ordering_then (order names shared t u) (order_of_all names shared ts us)

  -- Keys in order.
  pub order_of_keys : (names shared : List (List ℕ)) → Pairs → Pairs → Ordering
  order_of_keys names shared stop stop = Equal
  order_of_keys names shared stop (pair k v qs) = Less
  order_of_keys names shared (pair k v ps) stop = Greater
  order_of_keys names shared (pair k v ps) (pair j w qs) = ordering_then (order names shared k j) (order_of_keys names shared ps qs)

  -- Values in the order of the keys.
  pub order_of_values : (names shared : List (List ℕ)) → Pairs → Pairs → Ordering
  order_of_values names shared stop stop = Equal
  order_of_values names shared stop (pair k v qs) = Less
  order_of_values names shared (pair k v ps) stop = Greater
  order_of_values names shared (pair k v ps) (pair j w qs) = ordering_then (order names shared v w) (order_of_values names shared ps qs)
