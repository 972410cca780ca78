-- The tree that a value of the code's type stands for.
use Rattle.std.specs.Prelude.{Bool, true, false, ◌&&◌, List, [], ◌∷◌}
use Rattle.plain_term.specs.declared.tree.Tree.{Tree}
use Rattle.plain_term.specs.declared.tree.Tree.TheOpen.{Tree-F}
use Rattle.plain_term.specs.declared.tree.Tree.TheFolds.{fold-Tree}
use Rattle.plain_term.specs.declared.tree.Tree.TheOpen.Tree-F.{Int, Atom, Pid, Ref, Nil, Cons, Tuple, Map, Bin, Shared, Part, Fun}
use Rattle.plain_term.specs.Tree.{Trees, Pairs}
use Rattle.plain_term.specs.Tree.Trees.{end, ◌▹◌}
use Rattle.plain_term.specs.Tree.Pairs.{stop, pair}
use Rattle.plain_term.specs.Tree as plain

-- A list as a list of trees.
abbrev pub trees_of : List plain.Tree → Trees
trees_of [] = end
trees_of (t ∷ ts) = t ▹ trees_of ts

-- A list of pairs as pairs of trees.
abbrev pub pairs_of : List (plain.Tree × plain.Tree) → Pairs
pairs_of [] = stop
pairs_of (p ∷ ps) = pair p.0 p.1 (pairs_of ps)

-- One level of a value, with trees in place of its parts.
abbrev pub level : Tree-F plain.Tree → plain.Tree
level (Int i) = plain.Tree.Int i
level (Atom k) = plain.Tree.Atom k
level (Pid n) = plain.Tree.Pid n
level (Ref n k) = plain.Tree.Ref n k
level Nil = plain.Tree.Nil
level (Cons head tail) = plain.Tree.Cons head tail
level (Tuple parts) = plain.Tree.Tuple (trees_of parts)
level (Map pairs) = plain.Tree.Map (pairs_of pairs)
level (Bin bytes) = plain.Tree.Bin bytes
level (Shared id) = plain.Tree.Shared id
level (Part base offset len) = plain.Tree.Part base offset len
level (Fun name arity creator env) = plain.Tree.Fun name arity creator (trees_of env)

-- The tree of a value.
abbrev pub view : Tree → plain.Tree
view = fold-Tree plain.Tree level

-- The trees of a pair of values.
abbrev pub pair_of : Tree × Tree → plain.Tree × plain.Tree
pair_of p = (view p.0, view p.1)

-- No shared binary is named in the tree.
abbrev mutual
  pub has_no_shared : plain.Tree → Bool
  has_no_shared (plain.Tree.Cons head tail) = has_no_shared head && has_no_shared tail
  has_no_shared (plain.Tree.Tuple parts) = all_have_no_shared parts
  has_no_shared (plain.Tree.Map pairs) = pairs_have_no_shared pairs
  has_no_shared (plain.Tree.Shared id) = false
  has_no_shared (plain.Tree.Part base offset len) = has_no_shared base
  has_no_shared (plain.Tree.Fun name arity creator env) = all_have_no_shared env
  has_no_shared _ = true

  -- The same of each tree of a list.
  pub all_have_no_shared : Trees → Bool
  all_have_no_shared end = true
  all_have_no_shared (t ▹ ts) = has_no_shared t && all_have_no_shared ts

  -- The same of each key and value.
  pub pairs_have_no_shared : Pairs → Bool
  pairs_have_no_shared stop = true
  pairs_have_no_shared (pair k v ps) = has_no_shared k && has_no_shared v && pairs_have_no_shared ps
