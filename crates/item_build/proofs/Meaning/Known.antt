-- What stands over shared binaries knows no later ones.
use Rattle.std.proofs.Common.{ℕ, Bool, List, length}
use Rattle.plain_term.specs.Tree.{Tree, Trees, Pairs}
use Rattle.plain_term.specs.Tree.Tree.{Int, Atom, Pid, Ref, Nil, Cons, Tuple, Map, Bin, Shared, Part, Fun}
use Rattle.plain_term.specs.Tree.Trees.{end, ◌▹◌}
use Rattle.plain_term.specs.Tree.Pairs.{stop, pair}
use Rattle.plain_term.proofs.Known.{Knows, KnowsAll, KnowsPairs}
use Rattle.term_words.specs.Stands.{Stands, RowStands, KeysStand, ValuesStand}

mutual
  unfolding Stands RowStands KeysStand ValuesStand

  pub stands-known : (c : ℕ → ℕ → Bool) (shared : List (List ℕ)) (mem : List ℕ) (w : ℕ) (t : Tree) → Stands c shared mem w t → Knows (length shared) t
  stands-known c shared mem w (Int i) s = tt
  stands-known c shared mem w (Atom k) s = tt
  stands-known c shared mem w (Pid n) s = tt
  stands-known c shared mem w (Ref n k) s = tt
  stands-known c shared mem w Nil s = tt
  stands-known c shared mem w (Cons h u) s = (stands-known c shared mem _ h s.1, stands-known c shared mem _ u s.2)
  stands-known c shared mem w (Tuple ts) s = row-known c shared mem _ ts s.1
  stands-known c shared mem w (Map ps) s = pairs-stand-known c shared mem _ _ ps s.1 s.2
  stands-known c shared mem w (Bin bytes) s = tt
  stands-known c shared mem w (Shared id) s = s.known
  stands-known c shared mem w (Part base offset len) s = stands-known c shared mem _ base s.2
  stands-known c shared mem w (Fun name arity creator env) s = (tt, row-known c shared mem _ env s.1)

  row-known : (c : ℕ → ℕ → Bool) (shared : List (List ℕ)) (mem : List ℕ) (p : ℕ) (ts : Trees) → RowStands c shared mem p ts → KnowsAll (length shared) ts
  row-known c shared mem p end s = tt
  row-known c shared mem p (t ▹ ts) s = (stands-known c shared mem _ t s.0, row-known c shared mem _ ts s.1)

  pairs-stand-known : (c : ℕ → ℕ → Bool) (shared : List (List ℕ)) (mem : List ℕ) (p q : ℕ) (ps : Pairs) → KeysStand c shared mem p ps → ValuesStand c shared mem q ps → KnowsPairs (length shared) ps
  pairs-stand-known c shared mem p q stop s r = tt
  pairs-stand-known c shared mem p q (pair k v ps) s r = (stands-known c shared mem _ k s.0, stands-known c shared mem _ v r.0, pairs-stand-known c shared mem _ _ ps s.1 r.1)
