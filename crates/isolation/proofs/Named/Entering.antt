-- A tree by name that enters is itself by name, and known.
use Rattle.std.proofs.Common.{◌≡◌, ℕ, suc, ◌+◌, ◌≤◌, List, [], ◌∷◌, ◌++◌, length, get_or, refl, ap, ◌∙◌, arith}
use Rattle.atom_names.proofs.Places.{index_of-Some}
use Rattle.plain_term.specs.Bytes.{shared_bytes}
use Rattle.script_grammar.specs.Names.{number_of}
use Rattle.script_grammar.proofs.Naming.{IsPlaced, ArePlaced, placed-front, placed-back, with-names-placed, number-below}
use Rattle.isolation.specs.Named.NamedTree.{NamedTree, NamedTrees, NamedPairs, as_named, all_as_named, pairs_as_named, IsKnown, AreKnown, PairsKnown}
use Rattle.isolation.specs.Named.NamedTree.NamedTree.{Int, Atom, Pid, Ref, Nil, Cons, Tuple, Map, Bin, Shared, Part, Fun}
use Rattle.isolation.specs.Named.NamedTree.NamedTrees.{nothing, before}
use Rattle.isolation.specs.Named.NamedTree.NamedPairs.{unpaired, paired}
use Rattle.isolation.specs.Named.Entering.{names_in, all_names_in, pairs_names_in, shared_in, all_shared_in, pairs_shared_in, first_id_of, tree_over, trees_over, pairs_over, names_with, shared_with}
use Rattle.isolation.specs.Named.Laws.{EntersAsItself, HaveNames}

-- what has a number stands there
pub name-placed : (names : List (List ℕ)) (a : List ℕ) → IsPlaced names a → get_or names (number_of names a) [] ≡ a
name-placed names a p = rw (p.1) (index_of-Some names a p.0 p.1).there

-- so the atoms of a line have their names after it
pub have-names : (names atoms : List (List ℕ)) → ArePlaced names atoms → HaveNames names atoms
have-names names [] h = tt
have-names names (a ∷ atoms) h = (number-below names a h.0, name-placed names a h.0, have-names names atoms h.1)

bytes-placed : (shared : List (List ℕ)) (a : List ℕ) → IsPlaced shared a → shared_bytes shared (first_id_of shared a) ≡ a
bytes-placed shared a p = ap (shared_bytes shared) (plus-one (number_of shared a)) ∙ name-placed shared a p
  where
    plus-one : (n : ℕ) → n + 1 ≡ suc n
    plus-one n = omega arith

id-below : (shared : List (List ℕ)) (a : List ℕ) → IsPlaced shared a → first_id_of shared a ≤ length shared
id-below shared a p = omega (arith, number-below shared a p)

module _ (names shared : List (List ℕ)) where
  mutual
    over-named : (t : NamedTree) → ArePlaced names (names_in t) → ArePlaced shared (shared_in t) → as_named names shared (tree_over names shared t) ≡ t
    over-named (Int i) n b = refl
    over-named (Atom a) n b = ap Atom (name-placed names a n.0)
    over-named (Pid k) n b = refl
    over-named (Ref k m) n b = refl
    over-named Nil n b = refl
    over-named (Cons h t) n b = λ i. Cons (over-named h (placed-front names (names_in h) (names_in t) n) (placed-front shared (shared_in h) (shared_in t) b) i)
        (over-named t (placed-back names (names_in h) (names_in t) n) (placed-back shared (shared_in h) (shared_in t) b) i)
    over-named (Tuple ts) n b = ap Tuple (all-over ts n b)
    over-named (Map ps) n b = ap Map (pairs-over ps n b)
    over-named (Bin bytes) n b = refl
    over-named (Shared bytes) n b = ap Shared (bytes-placed shared bytes b.0)
    over-named (Part base offset len) n b = ap (λ z. Part z offset len) (over-named base n b)
    over-named (Fun f a c env) n b = λ i. Fun (name-placed names f n.0 i) a c (all-over env n.1 b i)

    all-over : (ts : NamedTrees) → ArePlaced names (all_names_in ts) → ArePlaced shared (all_shared_in ts) → all_as_named names shared (trees_over names shared ts) ≡ ts
    all-over nothing n b = refl
    all-over (before t ts) n b = λ i. before (over-named t (placed-front names (names_in t) (all_names_in ts) n) (placed-front shared (shared_in t) (all_shared_in ts) b) i)
        (all-over ts (placed-back names (names_in t) (all_names_in ts) n) (placed-back shared (shared_in t) (all_shared_in ts) b) i)

    pairs-over : (ps : NamedPairs) → ArePlaced names (pairs_names_in ps) → ArePlaced shared (pairs_shared_in ps) → pairs_as_named names shared (pairs_over names shared ps) ≡ ps
    pairs-over unpaired n b = refl
    pairs-over (paired k v ps) n b =
        let m = placed-back names (names_in k) (names_in v ++ pairs_names_in ps) n in
        let c = placed-back shared (shared_in k) (shared_in v ++ pairs_shared_in ps) b in
        let one : as_named names shared (tree_over names shared k) ≡ k =
        over-named k (placed-front names (names_in k) (names_in v ++ pairs_names_in ps) n) (placed-front shared (shared_in k) (shared_in v ++ pairs_shared_in ps) b) in
        let two : as_named names shared (tree_over names shared v) ≡ v =
        over-named v (placed-front names (names_in v) (pairs_names_in ps) m) (placed-front shared (shared_in v) (pairs_shared_in ps) c) in
        let rest : pairs_as_named names shared (pairs_over names shared ps) ≡ ps = pairs-over ps (placed-back names (names_in v) (pairs_names_in ps) m)
        (placed-back shared (shared_in v) (pairs_shared_in ps) c) in
        λ i. paired (one i) (two i) (rest i)

  mutual
    over-known : (t : NamedTree) → ArePlaced names (names_in t) → ArePlaced shared (shared_in t) → IsKnown names shared (tree_over names shared t)
    over-known (Int i) n b = tt
    over-known (Atom a) n b = number-below names a n.0
    over-known (Pid k) n b = tt
    over-known (Ref k m) n b = tt
    over-known Nil n b = tt
    over-known (Cons h t) n b = (
      over-known h (placed-front names (names_in h) (names_in t) n) (placed-front shared (shared_in h) (shared_in t) b),
      over-known t (placed-back names (names_in h) (names_in t) n) (placed-back shared (shared_in h) (shared_in t) b),
    )
    over-known (Tuple ts) n b = all-over-known ts n b
    over-known (Map ps) n b = pairs-over-known ps n b
    over-known (Bin bytes) n b = tt
    over-known (Shared bytes) n b = id-below shared bytes b.0
    over-known (Part base offset len) n b = over-known base n b
    over-known (Fun f a c env) n b = (number-below names f n.0, all-over-known env n.1 b)

    all-over-known : (ts : NamedTrees) → ArePlaced names (all_names_in ts) → ArePlaced shared (all_shared_in ts) → AreKnown names shared (trees_over names shared ts)
    all-over-known nothing n b = tt
    all-over-known (before t ts) n b = (
      over-known t (placed-front names (names_in t) (all_names_in ts) n) (placed-front shared (shared_in t) (all_shared_in ts) b),
      all-over-known ts (placed-back names (names_in t) (all_names_in ts) n) (placed-back shared (shared_in t) (all_shared_in ts) b),
    )

    pairs-over-known : (ps : NamedPairs) → ArePlaced names (pairs_names_in ps) → ArePlaced shared (pairs_shared_in ps) → PairsKnown names shared (pairs_over names shared ps)
    pairs-over-known unpaired n b = tt
    pairs-over-known (paired k v ps) n b =
        let m = placed-back names (names_in k) (names_in v ++ pairs_names_in ps) n in
        let c = placed-back shared (shared_in k) (shared_in v ++ pairs_shared_in ps) b in (
          over-known k (placed-front names (names_in k) (names_in v ++ pairs_names_in ps) n) (placed-front shared (shared_in k) (shared_in v ++ pairs_shared_in ps) b),
          over-known v (placed-front names (names_in v) (pairs_names_in ps) m) (placed-front shared (shared_in v) (pairs_shared_in ps) c),
          pairs-over-known ps (placed-back names (names_in v) (pairs_names_in ps) m) (placed-back shared (shared_in v) (pairs_shared_in ps) c),
        )

pub enters : EntersAsItself
enters names shared t =
    let n = with-names-placed names (names_in t) in
    let b = with-names-placed shared (shared_in t) in record {
      is = over-named (names_with names t) (shared_with shared t) t n b;
      known = over-known (names_with names t) (shared_with shared t) t n b;
    }
