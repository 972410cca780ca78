-- The names of a term's atoms and funs are among so many.
use Rattle.std.specs.Prelude.{ℕ, Bool, true, ◌&&◌, nat_lt}
use Rattle.plain_term.specs.Tree.{Tree, Trees, Pairs}
use Rattle.plain_term.specs.Tree.Tree.{Atom, Cons, Tuple, Map, Fun}
use Rattle.plain_term.specs.Tree.Trees.{end, ◌▹◌}
use Rattle.plain_term.specs.Tree.Pairs.{stop, pair}

abbrev mutual
  -- Each atom and each fun's name is below n.
  pub is_named : (n : ℕ) → Tree → Bool
  is_named n (Atom k) = nat_lt k n
  is_named n (Cons h t) = is_named n h && is_named n t
  is_named n (Tuple ts) = are_named n ts
  is_named n (Map ps) = pairs_named n ps
  is_named n (Fun name arity creator env) = nat_lt name n && are_named n env
  is_named n _ = true

  -- So it is of each tree of a list.
  pub are_named : (n : ℕ) → Trees → Bool
  are_named n end = true
  are_named n (t ▹ ts) = is_named n t && are_named n ts

  -- So it is of each key and value.
  pub pairs_named : (n : ℕ) → Pairs → Bool
  pairs_named n stop = true
  pairs_named n (pair k v ps) = is_named n k && is_named n v && pairs_named n ps
