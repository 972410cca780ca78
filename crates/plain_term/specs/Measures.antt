-- Nodes, depth and flat size of a tree, with nothing counted as shared.
use Rattle.std.specs.Prelude.{ℕ, ◌+◌, ◌*◌, ◌/◌, ◌^◌, Bool, nat_lt, max, ℤ, pos, negsuc, List, length, if◌then◌else◌}
use Rattle.plain_term.specs.Tree.{Tree, Trees, Pairs, trees_len, pairs_len}
use Rattle.plain_term.specs.Tree.Tree.{Int, Atom, Pid, Ref, Nil, Cons, Tuple, Map, Bin, Shared, Part, Fun}
use Rattle.plain_term.specs.Tree.Trees.{end, ◌▹◌}
use Rattle.plain_term.specs.Tree.Pairs.{stop, pair}
use Rattle.plain_term.specs.Bytes.{bytes_of}

-- Words for n bytes, eight in each.
abbrev pub bin_words : ℕ → ℕ
bin_words n = (n + 7) / 8

-- Nodes of a binary of n bytes: one, and one for each 64 bytes begun.
abbrev pub bin_nodes : ℕ → ℕ
bin_nodes n = 1 + (n + 63) / 64

-- Small integers have 60 bits with their sign.
abbrev pub is_small : ℤ → Bool
is_small (pos n) = nat_lt n (2 ^ 59)
is_small (negsuc n) = nat_lt n (2 ^ 59)

-- The magnitude of an integer.
abbrev pub magnitude : ℤ → ℕ
magnitude (pos n) = n
magnitude (negsuc n) = n + 1

-- A small integer takes no heap word, a big one a header and one or two digits of 64 bits.
abbrev pub int_flat : ℤ → ℕ
int_flat i = if is_small i then 0 else (if nat_lt (magnitude i) (2 ^ 64) then 2 else 3)

abbrev mutual
  -- One for each part of a term, and for a binary one more for each 64 bytes.
  pub nodes : (shared : List (List ℕ)) → Tree → ℕ
  nodes shared (Int i) = 1
  nodes shared (Atom k) = 1
  nodes shared (Pid n) = 1
  nodes shared Nil = 1
  nodes shared (Ref n k) = 1
  nodes shared (Cons h t) = 1 + nodes shared h + nodes shared t
  nodes shared (Tuple ts) = 1 + nodes_of_all shared ts
  nodes shared (Map ps) = 1 + nodes_of_pairs shared ps
  nodes shared (Fun name arity creator env) = 1 + nodes_of_all shared env
  nodes shared (Bin bytes) = bin_nodes (length bytes)
  nodes shared (Shared id) = bin_nodes (length (bytes_of shared (Shared id)))
  nodes shared (Part base offset len) = bin_nodes (length (bytes_of shared (Part base offset len)))

  -- The nodes of all trees of a list.
  pub nodes_of_all : (shared : List (List ℕ)) → Trees → ℕ
  nodes_of_all shared end = 0
  nodes_of_all shared (t ▹ ts) = nodes shared t + nodes_of_all shared ts

  -- The nodes of all keys and values.
  pub nodes_of_pairs : (shared : List (List ℕ)) → Pairs → ℕ
  nodes_of_pairs shared stop = 0
  nodes_of_pairs shared (pair k v ps) = nodes shared k + nodes shared v + nodes_of_pairs shared ps

abbrev mutual
  -- How many tuples, maps, funs and heads of lists stand inside one another; a list is no deeper
  -- than its deepest part and one.
  pub depth : Tree → ℕ
  depth (Int i) = 0
  depth (Atom k) = 0
  depth (Pid n) = 0
  depth Nil = 0
  depth (Ref n k) = 0
  depth (Cons h t) = max (1 + depth h) (depth t)
  depth (Tuple ts) = 1 + greatest_depth ts
  depth (Map ps) = 1 + greatest_depth_of_pairs ps
  depth (Fun name arity creator env) = 1 + greatest_depth env
  depth (Bin bytes) = 0
  depth (Shared id) = 0
  depth (Part base offset len) = 0

  -- The greatest depth of a list of trees, 0 where it has none.
  pub greatest_depth : Trees → ℕ
  greatest_depth end = 0
  greatest_depth (t ▹ ts) = max (depth t) (greatest_depth ts)

  -- The greatest depth of keys and values, 0 where there are none.
  pub greatest_depth_of_pairs : Pairs → ℕ
  greatest_depth_of_pairs stop = 0
  greatest_depth_of_pairs (pair k v ps) = max (max (depth k) (depth v)) (greatest_depth_of_pairs ps)

abbrev mutual
  -- The heap words of a copy; the bytes of a shared binary are in no heap.
  pub flat : Tree → ℕ
  flat (Int i) = int_flat i
  flat (Atom k) = 0
  flat (Pid n) = 0
  flat Nil = 0
  flat (Ref n k) = 3
  flat (Cons h t) = 2 + flat h + flat t
  flat (Tuple ts) = 1 + trees_len ts + flat_of_all ts
  flat (Map ps) = 4 + 2 * pairs_len ps + flat_of_pairs ps
  flat (Fun name arity creator env) = 6 + trees_len env + flat_of_all env
  flat (Bin bytes) = 2 + bin_words (length bytes)
  flat (Shared id) = 6
  flat (Part base offset len) = 5 + flat base

  -- The heap words of all trees of a list.
  pub flat_of_all : Trees → ℕ
  flat_of_all end = 0
  flat_of_all (t ▹ ts) = flat t + flat_of_all ts

  -- The heap words of all keys and values.
  pub flat_of_pairs : Pairs → ℕ
  flat_of_pairs stop = 0
  flat_of_pairs (pair k v ps) = flat k + flat v + flat_of_pairs ps
