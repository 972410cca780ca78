-- The parts of trees.
use Rattle.std.specs.Prelude.{ℕ, zero, suc, Option, Some, None}
use Rattle.plain_term.specs.Tree.{Tree, Trees}
use Rattle.plain_term.specs.Tree.Tree.{Cons, Tuple, Fun}
use Rattle.plain_term.specs.Tree.Trees.{end, ◌▹◌}

-- The tree at a place of a list, counted from 0.
abbrev pub part_at : Trees → ℕ → Option Tree
part_at end i = None
part_at (t ▹ ts) zero = Some t
part_at (t ▹ ts) (suc i) = part_at ts i

-- The tree at a place of a list, counted from 1.
abbrev pub place_of : Trees → ℕ → Option Tree
place_of ts zero = None
place_of ts (suc i) = part_at ts i

-- The head of a list place; no other tree has one.
abbrev pub head_in : Tree → Option Tree
head_in (Cons h t) = Some h
head_in _ = None

-- The tail of a list place; no other tree has one.
abbrev pub tail_in : Tree → Option Tree
tail_in (Cons h t) = Some t
tail_in _ = None

-- The element of a tuple at a place, counted from 1; no other tree has one.
abbrev pub element_of : ℕ → Tree → Option Tree
element_of i (Tuple ts) = place_of ts i
element_of i _ = None

-- What stands at a place of a fun's environment, counted from 1; no other tree has one.
abbrev pub env_in : ℕ → Tree → Option Tree
env_in i (Fun name arity creator env) = place_of env i
env_in i _ = None
