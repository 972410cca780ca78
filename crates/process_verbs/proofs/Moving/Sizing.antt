-- The flat size of a tree that stands, by its nodes.
use Rattle.std.proofs.Common.{◌≡◌, ℕ, ◌+◌, ◌*◌, ◌^◌, ◌≤◌, ◌||◌, nat_lt, Bool, true, false, List, arith}
use Rattle.std.proofs.lemmas.Bool.Decides.{nat_tests}
use Rattle.plain_term.specs.Tree.{Tree, Trees, Pairs, trees_len, pairs_len}
use Rattle.plain_term.specs.Tree.Tree.{Int, Atom, Pid, Ref, Nil, Cons, Tuple, Map, Bin, Shared, Part, Fun}
use Rattle.plain_term.specs.Tree.Trees.{end, ◌▹◌}
use Rattle.plain_term.specs.Tree.Pairs.{stop, pair}
use Rattle.plain_term.specs.Measures.{depth, flat, flat_of_all, flat_of_pairs, is_small, magnitude, nodes, nodes_of_all, nodes_of_pairs}
use Rattle.plain_term.specs.Beyond.{depth_limit, is_beyond, node_limit}
use Rattle.term_words.specs.Stands.{IsBase, KeysStand, RowStands, Stands, ValuesStand}
use Rattle.item_build.proofs.Meaning.Whole.{int-few}

mutual
  unfolding Stands RowStands KeysStand ValuesStand

  pub flat-few : (c : ℕ → ℕ → Bool) (shared : List (List ℕ)) (mem : List ℕ) (w : ℕ) (t : Tree) → Stands c shared mem w t → flat t + 1 ≤ 16 * nodes shared t
  flat-few c shared mem w (Int i) s = omega (arith, int-few (is_small i) (nat_lt (magnitude i) (2 ^ 64)))
  flat-few c shared mem w (Atom k) s = omega arith
  flat-few c shared mem w (Pid n) s = omega arith
  flat-few c shared mem w (Ref n k) s = omega arith
  flat-few c shared mem w Nil s = omega arith
  flat-few c shared mem w (Cons h u) s = omega (arith, flat-few c shared mem _ h s.1, flat-few c shared mem _ u s.2)
  flat-few c shared mem w (Tuple ts) s = omega (arith, row-few c shared mem _ ts s.1)
  flat-few c shared mem w (Map ps) s = omega (arith, pairs-few c shared mem _ _ ps s.1 s.2)
  flat-few c shared mem w (Bin bytes) s = omega (arith, s.range)
  flat-few c shared mem w (Shared id) s = omega arith
  flat-few c shared mem w (Part base offset len) s = omega (arith, base-few c shared mem _ base s.1 s.2)
  flat-few c shared mem w (Fun name arity creator env) s = omega (arith, row-few c shared mem _ env s.1)

  base-few : (c : ℕ → ℕ → Bool) (shared : List (List ℕ)) (mem : List ℕ) (w : ℕ) (t : Tree) → IsBase t → Stands c shared mem w t → flat t ≤ 10
  base-few c shared mem w (Bin bytes) b s = omega (arith, s.range)
  base-few c shared mem w (Shared id) b s = omega arith
  base-few c shared mem w _ b s = absurd b

  row-few : (c : ℕ → ℕ → Bool) (shared : List (List ℕ)) (mem : List ℕ) (p : ℕ) (ts : Trees) → RowStands c shared mem p ts → flat_of_all ts + trees_len ts ≤ 16 * nodes_of_all shared ts
  row-few c shared mem p end s = omega arith
  row-few c shared mem p (t ▹ ts) s = omega (arith, flat-few c shared mem _ t s.0, row-few c shared mem _ ts s.1)

  pairs-few : (c : ℕ → ℕ → Bool) (shared : List (List ℕ)) (mem : List ℕ) (p q : ℕ) (ps : Pairs) → KeysStand c shared mem p ps → ValuesStand c shared mem q ps
      → flat_of_pairs ps + 2 * pairs_len ps ≤ 16 * nodes_of_pairs shared ps
  pairs-few c shared mem p q stop s r = omega arith
  pairs-few c shared mem p q (pair k v ps) s r = omega (arith, flat-few c shared mem _ k s.0, flat-few c shared mem _ v r.0, pairs-few c shared mem _ _ ps s.1 r.1)

-- A tree within the walk limit takes few words.
pub within-few : (c : ℕ → ℕ → Bool) (shared : List (List ℕ)) (mem : List ℕ) (w : ℕ) (t : Tree) → Stands c shared mem w t → is_beyond shared t ≡ false → flat t ≤ 16 * 1048576
within-few c shared mem w t s e = omega (arith, flat-few c shared mem w t s, few (nodes shared t) (nat_lt depth_limit (depth t)) e)
  where
    few : (n : ℕ) (deep : Bool) → (nat_lt node_limit n || deep) ≡ false → n ≤ 1048576
    few n true e = grind (arith, nat_tests, e)
    few n false e = grind (arith, nat_tests, e)
