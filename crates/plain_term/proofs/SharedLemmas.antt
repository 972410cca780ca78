-- A tree that names no shared binary has the same nodes and place in the order whatever the shared lists are.
use Rattle.std.proofs.Common.{◌≡◌, ℕ, true, ◌&&◌, List, [], refl}
use Rattle.std.proofs.lemmas.Bool.{and_parts, false≢true}
use Rattle.plain_term.specs.Order.{order}
use Rattle.plain_term.specs.Tree.{Tree, Trees, Pairs}
use Rattle.plain_term.specs.Tree.Tree.{Atom, Cons, Tuple, Map, Shared, Part, Fun}
use Rattle.plain_term.specs.Tree.Trees.{end, ◌▹◌}
use Rattle.plain_term.specs.Tree.Pairs.{stop, pair}
use Rattle.plain_term.specs.Measures.{nodes}
use Rattle.plain_term.specs.View.{has_no_shared, all_have_no_shared, pairs_have_no_shared}
use Rattle.plain_term.proofs.Known.{AgreeOn, AgreeOnAll, AgreeOnPairs, same-nodes, same-order}

-- So two lists agree on all that it has.
module _ (names s : List (List ℕ)) where
  mutual
    alike : (t : Tree) → has_no_shared t ≡ true → AgreeOn names names s [] t
    alike (Atom k) h = refl
    alike (Cons a b) h = let p = and_parts (has_no_shared a) (has_no_shared b) h in (alike a p.0, alike b p.1)
    alike (Tuple ts) h = all-alike ts h
    alike (Map ps) h = pairs-alike ps h
    alike (Shared id) h = absurd (false≢true h)
    alike (Part base offset len) h = alike base h
    alike (Fun f a c ts) h = (refl, all-alike ts h)
    alike _ h = tt

    all-alike : (ts : Trees) → all_have_no_shared ts ≡ true → AgreeOnAll names names s [] ts
    all-alike end h = tt
    all-alike (t ▹ ts) h = let p = and_parts (has_no_shared t) (all_have_no_shared ts) h in (alike t p.0, all-alike ts p.1)

    pairs-alike : (ps : Pairs) → pairs_have_no_shared ps ≡ true → AgreeOnPairs names names s [] ps
    pairs-alike stop h = tt
    pairs-alike (pair k v ps) h =
        let p = and_parts (has_no_shared k && has_no_shared v) (pairs_have_no_shared ps) h in
        let q = and_parts (has_no_shared k) (has_no_shared v) p.0 in
        (alike k q.0, alike v q.1, pairs-alike ps p.1)

  pub order-any : (a b : Tree) → has_no_shared a ≡ true → has_no_shared b ≡ true → order names s a b ≡ order names [] a b
  order-any a b p q = same-order names names s [] a b (alike a p) (alike b q)

pub nodes-any : (s : List (List ℕ)) (t : Tree) → has_no_shared t ≡ true → nodes s t ≡ nodes [] t
nodes-any s t h = same-nodes [] [] s [] t (alike [] s t h)
