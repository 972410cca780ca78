-- A tree by name enters a state: its names and byte lists are added where they are new, and it is a tree over them.
use Rattle.std.specs.Prelude.{ℕ, ◌+◌, List, [], ◌∷◌, ◌++◌}
use Rattle.plain_term.specs.Tree.{Tree, Trees, Pairs}
use Rattle.plain_term.specs.Tree.{Tree as tree}
use Rattle.plain_term.specs.Tree.{Trees as trees}
use Rattle.plain_term.specs.Tree.{Pairs as pairs}
use Rattle.script_grammar.specs.Names.{number_of, with_names}
use Rattle.isolation.specs.Named.NamedTree.{NamedTree, NamedTrees, NamedPairs}
use Rattle.isolation.specs.Named.NamedTree.NamedTree.{Int, Atom, Pid, Ref, Nil, Cons, Tuple, Map, Bin, Shared, Part, Fun}
use Rattle.isolation.specs.Named.NamedTree.NamedTrees.{nothing, before}
use Rattle.isolation.specs.Named.NamedTree.NamedPairs.{unpaired, paired}

abbrev mutual
  -- The names of atoms and of funs, from left to right.
  pub names_in : NamedTree → List (List ℕ)
  names_in (Atom name) = name ∷ []
  names_in (Cons h t) = names_in h ++ names_in t
  names_in (Tuple ts) = all_names_in ts
  names_in (Map ps) = pairs_names_in ps
  names_in (Part base offset len) = names_in base
  names_in (Fun name arity creator env) = name ∷ all_names_in env
  names_in _ = []

  pub all_names_in : NamedTrees → List (List ℕ)
  all_names_in nothing = []
  all_names_in (before t ts) = names_in t ++ all_names_in ts

  pub pairs_names_in : NamedPairs → List (List ℕ)
  pairs_names_in unpaired = []
  pairs_names_in (paired k v ps) = names_in k ++ (names_in v ++ pairs_names_in ps)

abbrev mutual
  -- The byte lists of shared binaries, from left to right.
  pub shared_in : NamedTree → List (List ℕ)
  shared_in (Cons h t) = shared_in h ++ shared_in t
  shared_in (Tuple ts) = all_shared_in ts
  shared_in (Map ps) = pairs_shared_in ps
  shared_in (Shared bytes) = bytes ∷ []
  shared_in (Part base offset len) = shared_in base
  shared_in (Fun name arity creator env) = all_shared_in env
  shared_in _ = []

  pub all_shared_in : NamedTrees → List (List ℕ)
  all_shared_in nothing = []
  all_shared_in (before t ts) = shared_in t ++ all_shared_in ts

  pub pairs_shared_in : NamedPairs → List (List ℕ)
  pairs_shared_in unpaired = []
  pairs_shared_in (paired k v ps) = shared_in k ++ (shared_in v ++ pairs_shared_in ps)

-- The id of the first shared binary with these bytes; ids count from 1.
abbrev pub first_id_of : (shared : List (List ℕ)) → List ℕ → ℕ
first_id_of shared bytes = number_of shared bytes + 1

abbrev mutual
  -- The tree that is this one by name, where these names and byte lists are known.
  pub tree_over : (names shared : List (List ℕ)) → NamedTree → Tree
  tree_over names shared (Int i) = tree.Int i
  tree_over names shared (Atom name) = tree.Atom (number_of names name)
  tree_over names shared (Pid n) = tree.Pid n
  tree_over names shared (Ref n k) = tree.Ref n k
  tree_over names shared Nil = tree.Nil
  tree_over names shared (Cons h t) = tree.Cons (tree_over names shared h) (tree_over names shared t)
  tree_over names shared (Tuple ts) = tree.Tuple (trees_over names shared ts)
  tree_over names shared (Map ps) = tree.Map (pairs_over names shared ps)
  tree_over names shared (Bin bytes) = tree.Bin bytes
  tree_over names shared (Shared bytes) = tree.Shared (first_id_of shared bytes)
  tree_over names shared (Part base offset len) = tree.Part (tree_over names shared base) offset len
  tree_over names shared (Fun name arity creator env) = tree.Fun (number_of names name) arity creator (trees_over names shared env)

  pub trees_over : (names shared : List (List ℕ)) → NamedTrees → Trees
  trees_over names shared nothing = trees.end
  trees_over names shared (before t ts) = trees.◌▹◌ (tree_over names shared t) (trees_over names shared ts)

  pub pairs_over : (names shared : List (List ℕ)) → NamedPairs → Pairs
  pairs_over names shared unpaired = pairs.stop
  pairs_over names shared (paired k v ps) = pairs.pair (tree_over names shared k) (tree_over names shared v) (pairs_over names shared ps)

-- The names with those of the tree that are new, and the byte lists with those that are new, at their ends in order of first place.
abbrev pub names_with : (names : List (List ℕ)) → NamedTree → List (List ℕ)
names_with names t = with_names names (names_in t)

abbrev pub shared_with : (shared : List (List ℕ)) → NamedTree → List (List ℕ)
shared_with shared t = with_names shared (shared_in t)

-- The tree over them.

abbrev pub entered : (names shared : List (List ℕ)) → NamedTree → Tree
entered names shared t = tree_over (names_with names t) (shared_with shared t) t
