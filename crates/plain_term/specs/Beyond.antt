-- The walk limit: calls that walk a whole term refuse one that is beyond it.
use Rattle.std.specs.Prelude.{ℕ, Bool, ◌||◌, nat_lt, List}
use Rattle.plain_term.specs.Tree.{Tree}
use Rattle.plain_term.specs.Measures.{nodes, depth}

-- The most nodes of a tree that is walked.
abbrev pub node_limit : ℕ
node_limit = 1048576

-- The greatest depth of a tree that is walked.
abbrev pub depth_limit : ℕ
depth_limit = 1024

-- A tree is beyond the walk limit where it has too many nodes or is too deep.
abbrev pub is_beyond : (shared : List (List ℕ)) → Tree → Bool
is_beyond shared t = nat_lt node_limit (nodes shared t) || nat_lt depth_limit (depth t)
