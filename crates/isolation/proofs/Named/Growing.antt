-- More names and shared binaries behind those that there are leave known trees as they are by name.
use Rattle.std.proofs.Common.{◌≡◌, ℕ, ◌<◌, true, nat_lt, nat_le, List, [], ◌∷◌, ◌++◌, length, length-append, map, refl, ap, arith, ltb-true}
use Rattle.std.proofs.lemmas.Bool.{and_parts, leb-true}
use Rattle.plain_term.specs.Tree.{Tree, Trees, Pairs}
use Rattle.plain_term.specs.Tree.Tree.{Int, Atom, Pid, Ref, Nil, Cons, Tuple, Map, Bin, Shared, Part, Fun}
use Rattle.plain_term.specs.Tree.Trees.{end, ◌▹◌}
use Rattle.plain_term.specs.Tree.Pairs.{stop, pair}
use Rattle.plain_term.specs.Proper.{is_proper, are_proper, are_proper_pairs}
use Rattle.plain_term.proofs.Known.{name-stays, bytes-stay}
use Rattle.plain_machine.proofs.Properly.Growing.{cons-parts, all-parts, fun-parts, part-parts, map-parts, pairs-parts}
use Rattle.isolation.specs.Named.NamedTree.{as_named, all_as_named, pairs_as_named, IsKnown, AreKnown, PairsKnown}
use Rattle.isolation.specs.Named.NamedTree.{NamedTree as by_name}
use Rattle.isolation.specs.Named.NamedTree.{NamedTrees as all_by_name}
use Rattle.isolation.specs.Named.NamedTree.{NamedPairs as pairs_by_name}
use Rattle.isolation.specs.Named.Laws.{AllKnown}

module _ (names more s extra : List (List ℕ)) where
  mutual
    pub named-grown : (t : Tree) → IsKnown names s t → as_named (names ++ more) (s ++ extra) t ≡ as_named names s t
    named-grown (Atom k) h = ap by_name.Atom (name-stays names more k h)
    named-grown (Cons a b) h = λ i. by_name.Cons (named-grown a h.0 i) (named-grown b h.1 i)
    named-grown (Tuple ts) h = ap by_name.Tuple (all-grown ts h)
    named-grown (Map ps) h = ap by_name.Map (pairs-grown ps h)
    named-grown (Shared id) h = ap by_name.Shared (bytes-stay s extra id h)
    named-grown (Part base offset len) h = ap (λ z. by_name.Part z offset len) (named-grown base h)
    named-grown (Fun f a c env) h = λ i. by_name.Fun (name-stays names more f h.0 i) a c (all-grown env h.1 i)
    named-grown (Int i) h = refl
    named-grown (Pid n) h = refl
    named-grown (Ref n k) h = refl
    named-grown Nil h = refl
    named-grown (Bin bytes) h = refl

    pub all-grown : (ts : Trees) → AreKnown names s ts → all_as_named (names ++ more) (s ++ extra) ts ≡ all_as_named names s ts
    all-grown end h = refl
    all-grown (t ▹ ts) h = λ i. all_by_name.before (named-grown t h.0 i) (all-grown ts h.1 i)

    pub pairs-grown : (ps : Pairs) → PairsKnown names s ps → pairs_as_named (names ++ more) (s ++ extra) ps ≡ pairs_as_named names s ps
    pairs-grown stop h = refl
    pairs-grown (pair k v ps) h = λ i. pairs_by_name.paired (named-grown k h.0 i) (named-grown v h.1 i) (pairs-grown ps h.2 i)

module _ (names s : List (List ℕ)) where
  mutual
    pub proper-known : (t : Tree) → is_proper names s t ≡ true → IsKnown names s t
    proper-known (Atom k) h = ltb-true k (length names) h
    proper-known (Cons a b) h = let p = cons-parts names [] s [] a b h in (proper-known a p.0, proper-known b p.1)
    proper-known (Tuple ts) h = all-known ts h
    proper-known (Map ps) h = pairs-known ps (map-parts names [] s [] ps h).2
    proper-known (Shared id) h = leb-true id (length s) (and_parts (nat_lt 0 id) (nat_le id (length s)) h).1
    proper-known (Part base offset len) h = proper-known base (part-parts names [] s [] base offset len h).1
    proper-known (Fun f a c env) h = let p = fun-parts names [] s [] f a c env h in (ltb-true f (length names) p.0, all-known env p.1)
    proper-known (Int i) h = tt
    proper-known (Pid n) h = tt
    proper-known (Ref n k) h = tt
    proper-known Nil h = tt
    proper-known (Bin bytes) h = tt

    pub all-known : (ts : Trees) → are_proper names s ts ≡ true → AreKnown names s ts
    all-known end h = tt
    all-known (t ▹ ts) h = let p = all-parts names [] s [] t ts h in (proper-known t p.0, all-known ts p.1)

    pub pairs-known : (ps : Pairs) → are_proper_pairs names s ps ≡ true → PairsKnown names s ps
    pairs-known stop h = tt
    pairs-known (pair k v ps) h = let p = pairs-parts names [] s [] k v ps h in (proper-known k p.0, proper-known v p.2, pairs-known ps p.3)

-- a known tree stays known
module _ (names more s extra : List (List ℕ)) where
  below-grown : (n : ℕ) (xs ys : List (List ℕ)) → n < length xs → n < length (xs ++ ys)
  below-grown n xs ys h = omega (arith, h, length-append xs ys)

  mutual
    pub known-grown : (t : Tree) → IsKnown names s t → IsKnown (names ++ more) (s ++ extra) t
    known-grown (Atom k) h = below-grown k names more h
    known-grown (Cons a b) h = (known-grown a h.0, known-grown b h.1)
    known-grown (Tuple ts) h = all-known-grown ts h
    known-grown (Map ps) h = pairs-known-grown ps h
    known-grown (Shared id) h = omega (arith, h, length-append s extra)
    known-grown (Part base offset len) h = known-grown base h
    known-grown (Fun f a c env) h = (below-grown f names more h.0, all-known-grown env h.1)
    known-grown (Int i) h = tt
    known-grown (Pid n) h = tt
    known-grown (Ref n k) h = tt
    known-grown Nil h = tt
    known-grown (Bin bytes) h = tt

    pub all-known-grown : (ts : Trees) → AreKnown names s ts → AreKnown (names ++ more) (s ++ extra) ts
    all-known-grown end h = tt
    all-known-grown (t ▹ ts) h = (known-grown t h.0, all-known-grown ts h.1)

    pub pairs-known-grown : (ps : Pairs) → PairsKnown names s ps → PairsKnown (names ++ more) (s ++ extra) ps
    pairs-known-grown stop h = tt
    pairs-known-grown (pair k v ps) h = (known-grown k h.0, known-grown v h.1, pairs-known-grown ps h.2)

  -- so it is with lists of trees
  pub held-grown : (ts : List Tree) → AllKnown names s ts → map (as_named (names ++ more) (s ++ extra)) ts ≡ map (as_named names s) ts
  held-grown [] h = refl
  held-grown (t ∷ ts) h = λ i. named-grown names more s extra t h.0 i ∷ held-grown ts h.1 i

  pub held-known-grown : (ts : List Tree) → AllKnown names s ts → AllKnown (names ++ more) (s ++ extra) ts
  held-known-grown [] h = tt
  held-known-grown (t ∷ ts) h = (known-grown t h.0, held-known-grown ts h.1)
