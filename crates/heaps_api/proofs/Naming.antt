-- Names of trees: below a greater number too, and those of what is built of trees.
use Rattle.std.proofs.Common.{◌≡◌, ℕ, zero, suc, ◌≤◌, ◌&&◌, true, nat_lt, refl, arith}
use Rattle.std.proofs.lemmas.Bool.{and_from, and_parts}
use Rattle.std.proofs.lemmas.Bool.Decides.{nat_tests}
use Rattle.plain_term.specs.Tree.{Tree, Trees, Pairs, same_trees}
use Rattle.plain_term.specs.Tree.Tree.{Int, Atom, Pid, Ref, Nil, Cons, Tuple, Map, Bin, Shared, Part, Fun}
use Rattle.plain_term.specs.Tree.Trees.{end, ◌▹◌}
use Rattle.plain_term.specs.Tree.Pairs.{stop, pair}
use Rattle.term_order.specs.Named.{is_named, are_named, pairs_named}
use Rattle.plain_machine.specs.Parts.{repeated}
use Rattle.plain_machine.specs.Made.{list_tree}
use Rattle.script_grammar.specs.declared.command.Shape.{Shape}
use Rattle.script_grammar.specs.declared.command.Shape.TheVariants.{Tuple as InTuple, List as InList}
use Rattle.term_maps.specs.declared.sorted.Spot.{Spot}
use Rattle.term_maps.specs.declared.sorted.Spot.TheVariants as spot
use Rattle.term_verbs.specs.Placed.{pair_insert, pair_set, put_at_spot}

below-more : (k n m : ℕ) → n ≤ m → nat_lt k n ≡ true → nat_lt k m ≡ true
below-more k n m up h = grind (arith, nat_tests)

module _ (n m : ℕ) (up : n ≤ m) where
  mutual
    pub named-more : (t : Tree) → is_named n t ≡ true → is_named m t ≡ true
    named-more (Int i) h = refl
    named-more (Atom k) h = below-more k n m up h
    named-more (Pid k) h = refl
    named-more (Ref k j) h = refl
    named-more Nil h = refl
    named-more (Cons x t) h = and_from (is_named m x) (is_named m t) (named-more x ((and_parts (is_named n x) (is_named n t) h).0)) (named-more t ((and_parts (is_named n x) (is_named n t) h).1))
    named-more (Tuple ts) h = are-more ts h
    named-more (Map ps) h = pairs-more ps h
    named-more (Bin bytes) h = refl
    named-more (Shared id) h = refl
    named-more (Part base offset len) h = refl
    named-more (Fun name arity creator env) h =
        and_from (nat_lt name m) (are_named m env) (below-more name n m up ((and_parts (nat_lt name n) (are_named n env) h).0)) (are-more env ((and_parts (nat_lt name n) (are_named n env) h).1))

    are-more : (ts : Trees) → are_named n ts ≡ true → are_named m ts ≡ true
    are-more end h = refl
    are-more (t ▹ ts) h = and_from (is_named m t) (are_named m ts) (named-more t ((and_parts (is_named n t) (are_named n ts) h).0)) (are-more ts ((and_parts (is_named n t) (are_named n ts) h).1))

    pairs-more : (ps : Pairs) → pairs_named n ps ≡ true → pairs_named m ps ≡ true
    pairs-more stop h = refl
    pairs-more (pair k v ps) h =
        let front : is_named n k && is_named n v ≡ true = (and_parts (is_named n k && is_named n v) (pairs_named n ps) h).0 in
        and_from (is_named m k && is_named m v) (pairs_named m ps)
        (and_from (is_named m k) (is_named m v) (named-more k ((and_parts (is_named n k) (is_named n v) front).0)) (named-more v ((and_parts (is_named n k) (is_named n v) front).1)))
        (pairs-more ps ((and_parts (is_named n k && is_named n v) (pairs_named n ps) h).1))

-- Many times a tree has the names of the tree.
module _ (n : ℕ) (t : Tree) (named : is_named n t ≡ true) where
  times-named : (k : ℕ) → are_named n (same_trees k t) ≡ true
  times-named zero = refl
  times-named (suc k) = and_from (is_named n t) (are_named n (same_trees k t)) named (times-named k)

  list-named : (k : ℕ) → is_named n (list_tree (same_trees k t) Nil) ≡ true
  list-named zero = refl
  list-named (suc k) = and_from (is_named n t) (is_named n (list_tree (same_trees k t) Nil)) named (list-named k)

  pub repeated-named : (shape : Shape) (k : ℕ) → is_named n (repeated shape k t) ≡ true
  repeated-named InTuple k = times-named k
  repeated-named InList k = list-named k

-- A map with a pair more has no names but those of the map and of the pair.
module _ (n : ℕ) (k v : Tree) (key : is_named n k ≡ true) (value : is_named n v ≡ true) where
  pair-joins : (j w : Tree) (ps : Pairs) → is_named n j ≡ true → is_named n w ≡ true → pairs_named n ps ≡ true → pairs_named n (pair j w ps) ≡ true
  pair-joins j w ps x y h = and_from (is_named n j && is_named n w) (pairs_named n ps) (and_from (is_named n j) (is_named n w) x y) h

  set-named : (ps : Pairs) (i : ℕ) → pairs_named n ps ≡ true → pairs_named n (pair_set i k v ps) ≡ true
  set-named stop i h = refl
  set-named (pair j w ps) zero h = pair-joins k v ps key value ((and_parts (is_named n j && is_named n w) (pairs_named n ps) h).1)
  set-named (pair j w ps) (suc i) h =
      and_from (is_named n j && is_named n w) (pairs_named n (pair_set i k v ps)) ((and_parts (is_named n j && is_named n w) (pairs_named n ps) h).0)
      (set-named ps i ((and_parts (is_named n j && is_named n w) (pairs_named n ps) h).1))

  insert-named : (ps : Pairs) (i : ℕ) → pairs_named n ps ≡ true → pairs_named n (pair_insert i k v ps) ≡ true
  insert-named stop i h = pair-joins k v stop key value refl
  insert-named (pair j w ps) zero h = pair-joins k v (pair j w ps) key value h
  insert-named (pair j w ps) (suc i) h =
      and_from (is_named n j && is_named n w) (pairs_named n (pair_insert i k v ps)) ((and_parts (is_named n j && is_named n w) (pairs_named n ps) h).0)
      (insert-named ps i ((and_parts (is_named n j && is_named n w) (pairs_named n ps) h).1))

  pub placed-named : (x : Spot) (ps : Pairs) → pairs_named n ps ≡ true → pairs_named n (put_at_spot x k v ps) ≡ true
  placed-named (spot.Same i) ps h = set-named ps i h
  placed-named (spot.New i) ps h = insert-named ps i h
