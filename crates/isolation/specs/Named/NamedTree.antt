-- Trees by name: each atom and each fun's name by the bytes of the name, each shared binary by its bytes.
use Rattle.std.specs.Prelude.{ℕ, ◌<◌, ◌≤◌, ℤ, List, length}
use Rattle.plain_term.specs.Tree.{Tree, Trees, Pairs}
use Rattle.plain_term.specs.Tree.{Tree as tree}
use Rattle.plain_term.specs.Tree.{Trees as trees}
use Rattle.plain_term.specs.Tree.{Pairs as pairs}
use Rattle.plain_term.specs.Bytes.{shared_bytes}
use Rattle.plain_term.specs.Order.{name_of}

mutual
  -- A term by value that has no number of a name or of a shared binary in it.
  pub data NamedTree : Type 0 where
    Int : ℤ → NamedTree
    Atom : List ℕ → NamedTree
    Pid : ℕ → NamedTree
    Ref : (number k : ℕ) → NamedTree
    Nil : NamedTree
    Cons : (head tail : NamedTree) → NamedTree
    Tuple : NamedTrees → NamedTree
    Map : NamedPairs → NamedTree
    Bin : List ℕ → NamedTree
    Shared : List ℕ → NamedTree
    Part : (base : NamedTree) → (offset len : ℕ) → NamedTree
    Fun : (name : List ℕ) → (arity creator : ℕ) → NamedTrees → NamedTree

  -- A list of trees by name.
  pub data NamedTrees : Type 0 where
    nothing : NamedTrees
    before : NamedTree → NamedTrees → NamedTrees

  -- A list of pairs of key and value by name.
  pub data NamedPairs : Type 0 where
    unpaired : NamedPairs
    paired : (key value : NamedTree) → NamedPairs → NamedPairs

abbrev mutual
  -- A tree by name, where these are the names and the byte lists of the shared binaries.
  pub as_named : (names shared : List (List ℕ)) → Tree → NamedTree
  as_named names shared (tree.Int i) = NamedTree.Int i
  as_named names shared (tree.Atom k) = NamedTree.Atom (name_of names k)
  as_named names shared (tree.Pid n) = NamedTree.Pid n
  as_named names shared (tree.Ref n k) = NamedTree.Ref n k
  as_named names shared tree.Nil = NamedTree.Nil
  as_named names shared (tree.Cons h t) = NamedTree.Cons (as_named names shared h) (as_named names shared t)
  as_named names shared (tree.Tuple ts) = NamedTree.Tuple (all_as_named names shared ts)
  as_named names shared (tree.Map ps) = NamedTree.Map (pairs_as_named names shared ps)
  as_named names shared (tree.Bin bytes) = NamedTree.Bin bytes
  as_named names shared (tree.Shared id) = NamedTree.Shared (shared_bytes shared id)
  as_named names shared (tree.Part base offset len) = NamedTree.Part (as_named names shared base) offset len
  as_named names shared (tree.Fun f arity creator env) = NamedTree.Fun (name_of names f) arity creator (all_as_named names shared env)

  pub all_as_named : (names shared : List (List ℕ)) → Trees → NamedTrees
  all_as_named names shared trees.end = NamedTrees.nothing
  all_as_named names shared (trees.◌▹◌ t ts) = NamedTrees.before (as_named names shared t) (all_as_named names shared ts)

  pub pairs_as_named : (names shared : List (List ℕ)) → Pairs → NamedPairs
  pairs_as_named names shared pairs.stop = NamedPairs.unpaired
  pairs_as_named names shared (pairs.pair k v ps) = NamedPairs.paired (as_named names shared k) (as_named names shared v) (pairs_as_named names shared ps)

abbrev mutual
  -- Each atom and each fun of the tree has a name, and each shared binary its bytes.
  pub IsKnown : (names shared : List (List ℕ)) → Tree → Type 0
  IsKnown names shared (tree.Atom k) = k < length names
  IsKnown names shared (tree.Cons h t) = IsKnown names shared h × IsKnown names shared t
  IsKnown names shared (tree.Tuple ts) = AreKnown names shared ts
  IsKnown names shared (tree.Map ps) = PairsKnown names shared ps
  IsKnown names shared (tree.Shared id) = id ≤ length shared
  IsKnown names shared (tree.Part base offset len) = IsKnown names shared base
  IsKnown names shared (tree.Fun f arity creator env) = (f < length names) × AreKnown names shared env
  IsKnown names shared _ = Unit {0}

  pub AreKnown : (names shared : List (List ℕ)) → Trees → Type 0
  AreKnown names shared trees.end = Unit {0}
  AreKnown names shared (trees.◌▹◌ t ts) = IsKnown names shared t × AreKnown names shared ts

  pub PairsKnown : (names shared : List (List ℕ)) → Pairs → Type 0
  PairsKnown names shared pairs.stop = Unit {0}
  PairsKnown names shared (pairs.pair k v ps) = IsKnown names shared k × IsKnown names shared v × PairsKnown names shared ps
