-- What written terms make, by name.
use Rattle.std.proofs.Common.{◌≡◌, ℕ, zero, suc, ◌+◌, ◌≤◌, Bool, true, false, cond, ◌||◌, ◌&&◌, not, nat_lt, nat_le, List, [], ◌∷◌, ◌++◌, length, map, get_or, refl, sym, ap, subst, ◌∙◌, arith, append-nil, length-append}
use Rattle.std.proofs.Math.Seq.{get_or-append_seam}
use Rattle.term_tags.specs.declared.layouts.TheConstants.{MOST_KEYS}
use Rattle.plain_term.specs.Tree.{Tree, Trees, Pairs}
use Rattle.plain_term.specs.Tree.{Tree as tree}
use Rattle.plain_term.specs.Tree.{Trees as trees}
use Rattle.plain_term.specs.Tree.{Pairs as pairs}
use Rattle.plain_term.specs.Bytes.{shared_bytes}
use Rattle.plain_term.specs.InOrder.{put_pair, in_order}
use Rattle.plain_term.proofs.Putting.{put-keeps, all-keep}
use Rattle.script_grammar.specs.Written.{Term, Terms, TermPairs}
use Rattle.script_grammar.specs.Written.Term.{Int, Atom, Pid, Held, Listed, Barred, Tuple, Map, Bin}
use Rattle.script_grammar.specs.Written.Terms.{end, ◌▹◌}
use Rattle.script_grammar.specs.Written.TermPairs.{stop, pair}
use Rattle.script_grammar.specs.Names.{atoms_of, atoms_of_all, atoms_of_pairs}
use Rattle.plain_machine.specs.Made.{tree_of, trees_of_terms, trees_of_pairs, list_tree, bin_tree}
use Rattle.plain_machine.specs.Flaws.{is_wide, are_wide, are_wide_pairs, is_big, are_big, are_big_pairs}
use Rattle.plain_machine.proofs.Properly.Making.{Extends, made-more, all-made-more, pairs-made-more, extends-then}
use Rattle.isolation.specs.Named.NamedTree.{NamedTree, as_named, all_as_named, pairs_as_named, IsKnown, AreKnown, PairsKnown}
use Rattle.isolation.specs.Named.NamedTree.{NamedTree as by_name}
use Rattle.isolation.specs.Named.NamedTree.{NamedTrees as all_by_name}
use Rattle.isolation.specs.Named.NamedTree.{NamedPairs as pairs_by_name}
use Rattle.isolation.specs.Named.Seen.{named_beyond, pairs_count}
use Rattle.isolation.specs.Named.Doing.{named_list, named_put_all, named_bin, named_made, all_named_made, pairs_named_made, named_wide, all_named_wide, pairs_named_wide, named_big, all_named_big, pairs_named_big}
use Rattle.isolation.specs.Named.Laws.{MadeOf, HaveNames, AllKnown}
use Rattle.isolation.proofs.Named.Seeing.{pairs-seen, beyond-seen}
use Rattle.isolation.proofs.Named.Growing.{named-grown}
use Rattle.isolation.proofs.Named.Doing.{at-by, list-by, put-all-by}

names-front : (names xs ys : List (List ℕ)) → HaveNames names (xs ++ ys) → HaveNames names xs
names-front names [] ys h = tt
names-front names (x ∷ xs) ys h = (h.0, h.1, names-front names xs ys h.2)

names-back : (names xs ys : List (List ℕ)) → HaveNames names (xs ++ ys) → HaveNames names ys
names-back names [] ys h = h
names-back names (x ∷ xs) ys h = names-back names xs ys h.2

module _ (names : List (List ℕ)) where
  -- known trees stay known
  module _ (old new : List (List ℕ)) (x : Extends old new) where
    longer : length old ≤ length new
    longer = omega (arith, ap (λ (z : List (List ℕ)). length z) x.are, length-append old x.more)

    mutual
      pub known-more : (t : Tree) → IsKnown names old t → IsKnown names new t
      known-more (tree.Atom k) h = h
      known-more (tree.Cons a b) h = (known-more a h.0, known-more b h.1)
      known-more (tree.Tuple ts) h = all-known-more ts h
      known-more (tree.Map ps) h = pairs-known-more ps h
      known-more (tree.Shared id) h = omega (arith, h, longer)
      known-more (tree.Part base offset len) h = known-more base h
      known-more (tree.Fun f a c env) h = (h.0, all-known-more env h.1)
      known-more (tree.Int i) h = tt
      known-more (tree.Pid n) h = tt
      known-more (tree.Ref n k) h = tt
      known-more tree.Nil h = tt
      known-more (tree.Bin bytes) h = tt

      pub all-known-more : (ts : Trees) → AreKnown names old ts → AreKnown names new ts
      all-known-more trees.end h = tt
      all-known-more (trees.◌▹◌ t ts) h = (known-more t h.0, all-known-more ts h.1)

      pub pairs-known-more : (ps : Pairs) → PairsKnown names old ps → PairsKnown names new ps
      pairs-known-more pairs.stop h = tt
      pairs-known-more (pairs.pair k v ps) h = (known-more k h.0, known-more v h.1, pairs-known-more ps h.2)

    pub held-known-more : (ts : List Tree) → AllKnown names old ts → AllKnown names new ts
    held-known-more [] h = tt
    held-known-more (t ∷ ts) h = (known-more t h.0, held-known-more ts h.1)

    -- and are the same by name
    pub same-more : (t : Tree) → IsKnown names old t → as_named names new t ≡ as_named names old t
    same-more t h =
        let P : List (List ℕ) → Type 0 = λ z. as_named z new t ≡ as_named names old t in
        let Q : List (List ℕ) → Type 0 = λ z. as_named (names ++ []) z t ≡ as_named names old t in
        subst P (append-nil names) (subst Q (sym x.are) (named-grown names [] old x.more t h))

    all-same-more : (ts : Trees) → AreKnown names old ts → all_as_named names new ts ≡ all_as_named names old ts
    all-same-more trees.end h = refl
    all-same-more (trees.◌▹◌ t ts) h = λ i. all_by_name.before (same-more t h.0 i) (all-same-more ts h.1 i)

    pub held-same-more : (ts : List Tree) → AllKnown names old ts → map (as_named names new) ts ≡ map (as_named names old) ts
    held-same-more [] h = refl
    held-same-more (t ∷ ts) h = λ i. same-more t h.0 i ∷ held-same-more ts h.1 i

  -- what is made of known trees is known
  pub at-known : (shared : List (List ℕ)) (ts : List Tree) (r : ℕ) → AllKnown names shared ts → IsKnown names shared (get_or ts r tree.Nil)
  at-known shared [] r h = tt
  at-known shared (t ∷ ts) zero h = h.0
  at-known shared (t ∷ ts) (suc r) h = at-known shared ts r h.1

  pub list-known : (shared : List (List ℕ)) (ts : Trees) (t : Tree) → AreKnown names shared ts → IsKnown names shared t → IsKnown names shared (list_tree ts t)
  list-known shared trees.end t h k = k
  list-known shared (trees.◌▹◌ u ts) t h k = (h.0, list-known shared ts t h.1 k)

  abbrev KnownPair : (shared : List (List ℕ)) → Tree → Tree → Type 0
  KnownPair shared k v = IsKnown names shared k × IsKnown names shared v

  known-parts : (shared : List (List ℕ)) (k v : Tree) (ps : Pairs) → PairsKnown names shared (pairs.pair k v ps) → KnownPair shared k v × PairsKnown names shared ps
  known-parts shared k v ps h = ((h.0, h.1), h.2)

  known-join : (shared : List (List ℕ)) (k v : Tree) (ps : Pairs) → KnownPair shared k v → PairsKnown names shared ps → PairsKnown names shared (pairs.pair k v ps)
  known-join shared k v ps h l = (h.0, h.1, l)

  pub put-known : (shared : List (List ℕ)) (k v : Tree) (ps : Pairs) → IsKnown names shared k → IsKnown names shared v → PairsKnown names shared ps
      → PairsKnown names shared (put_pair names shared k v ps)
  put-known shared k v ps h g l = put-keeps names shared (PairsKnown names shared) (KnownPair shared) (known-parts shared) (known-join shared) k v ps (h, g) l

  in-order-known : (shared : List (List ℕ)) (given : Pairs) → PairsKnown names shared given → PairsKnown names shared (in_order names shared given)
  in-order-known shared given k = all-keep names shared (PairsKnown names shared) (KnownPair shared) (known-parts shared) (known-join shared) pairs.stop given tt k

  -- the tree of bytes
  pub record BinMade (bytes : List ℕ) (made : Tree × List (List ℕ)) : Type 0 where
    pub makes : as_named names (made.1) (made.0) ≡ named_bin bytes
    pub known : IsKnown names (made.1) (made.0)

  pub bin-made : (bytes : List ℕ) (shared : List (List ℕ)) → BinMade bytes (bin_tree bytes shared)
  bin-made bytes shared = at (nat_le (length bytes) 64) refl
    where
      plus-one : (n : ℕ) → n + 1 ≡ suc n
      plus-one n = omega arith

      last : shared_bytes (shared ++ bytes ∷ []) (length shared + 1) ≡ bytes
      last = ap (shared_bytes (shared ++ bytes ∷ [])) (plus-one (length shared)) ∙ get_or-append_seam shared bytes [] []

      few : by_name.Bin bytes ≡ cond true (by_name.Bin bytes) (by_name.Shared bytes)
      few = refl

      at : (b : Bool) → nat_le (length bytes) 64 ≡ b
          → BinMade bytes (cond {A = Tree × List (List ℕ)} b (tree.Bin bytes, shared) (tree.Shared (length shared + 1), shared ++ bytes ∷ []))
      at true e = record { makes = ap (λ z. cond z (by_name.Bin bytes) (by_name.Shared bytes)) (sym e); known = tt }
      at false e = record {
        makes = ap by_name.Shared last ∙ ap (λ z. cond z (by_name.Bin bytes) (by_name.Shared bytes)) (sym e);
        known = omega (arith, length-append shared (bytes ∷ []));
      }

  module _ (held : List Tree) where
    abbrev by : List (List ℕ) → List NamedTree
    by shared = map (as_named names shared) held

    -- the same of terms and of pairs
    pub record AllMade (shared : List (List ℕ)) (ts : Terms) : Type 0 where
      pub makes : all_as_named names ((trees_of_terms names held ts shared).1) ((trees_of_terms names held ts shared).0) ≡ all_named_made (by shared) ts
      pub known : AreKnown names ((trees_of_terms names held ts shared).1) ((trees_of_terms names held ts shared).0)
      pub wide : are_wide names held ts shared ≡ all_named_wide (by shared) ts
      pub big : are_big names held ts shared ≡ all_named_big (by shared) ts

    pub record PairsMade (shared : List (List ℕ)) (ps : TermPairs) : Type 0 where
      pub makes : pairs_as_named names ((trees_of_pairs names held ps shared).1) ((trees_of_pairs names held ps shared).0) ≡ pairs_named_made (by shared) ps
      pub known : PairsKnown names ((trees_of_pairs names held ps shared).1) ((trees_of_pairs names held ps shared).0)
      pub wide : are_wide_pairs names held ps shared ≡ pairs_named_wide (by shared) ps
      pub big : are_big_pairs names held ps shared ≡ pairs_named_big (by shared) ps

    mutual
      pub made : (t : Term) (shared : List (List ℕ)) → AllKnown names shared held → HaveNames names (atoms_of t) → MadeOf names held shared t
      made (Int i) shared h n = record { makes = refl; known = tt; wide = refl; big = refl }
      made (Atom a) shared h n = record { makes = ap by_name.Atom n.1; known = n.0; wide = refl; big = refl }
      made (Pid k) shared h n = record { makes = refl; known = tt; wide = refl; big = refl }
      made (Held r) shared h n = record { makes = at-by names shared held r; known = at-known shared held r h; wide = refl; big = refl }
      made (Listed ts) shared h n =
          let a = all-made ts shared h n in
          let all : Trees × List (List ℕ) = trees_of_terms names held ts shared in record {
            makes = list-by names (all.1) (all.0) tree.Nil ∙ ap (λ z. named_list z by_name.Nil) a.makes;
            known = list-known (all.1) (all.0) tree.Nil a.known tt;
            wide = a.wide;
            big = a.big;
          }
      made (Barred ts t) shared h n =
          let heads : Trees × List (List ℕ) = trees_of_terms names held ts shared in
          let last : Tree × List (List ℕ) = tree_of names held t (heads.1) in
          let x : Extends shared (heads.1) = all-made-more names held ts shared in
          let y : Extends (heads.1) (last.1) = made-more names held t (heads.1) in
          let a = all-made ts shared h (names-front names (atoms_of_all ts) (atoms_of t) n) in
          let b = made t (heads.1) (held-known-more shared (heads.1) x held h) (names-back names (atoms_of_all ts) (atoms_of t) n) in
          let same : by (heads.1) ≡ by shared = held-same-more shared (heads.1) x held h in
          let first : all_as_named names (last.1) (heads.0) ≡ all_named_made (by shared) ts = all-same-more (heads.1) (last.1) y (heads.0) a.known ∙ a.makes in
          let tail : as_named names (last.1) (last.0) ≡ named_made (by shared) t = b.makes ∙ ap (λ z. named_made z t) same in
          let wide : is_wide names held t (heads.1) ≡ named_wide (by shared) t = b.wide ∙ ap (λ z. named_wide z t) same in
          let big : is_big names held t (heads.1) ≡ named_big (by shared) t = b.big ∙ ap (λ z. named_big z t) same in record {
            makes = list-by names (last.1) (heads.0) (last.0) ∙ (λ i. named_list (first i) (tail i));
            known = list-known (last.1) (heads.0) (last.0) (all-known-more (heads.1) (last.1) y (heads.0) a.known) b.known;
            wide = λ i. a.wide i || wide i;
            big = λ i. a.big i || big i;
          }
      made (Tuple ts) shared h n =
          let a = all-made ts shared h n in record { makes = ap by_name.Tuple a.makes; known = a.known; wide = a.wide; big = a.big }
      made (Map ps) shared h n =
          let a = pairs-made ps shared h n in
          let all : Pairs × List (List ℕ) = trees_of_pairs names held ps shared in
          let sorted : pairs_as_named names (all.1) (in_order names (all.1) (all.0)) ≡ named_put_all pairs_by_name.unpaired (pairs_named_made (by shared) ps) =
          put-all-by names (all.1) pairs.stop (all.0) ∙ ap (named_put_all pairs_by_name.unpaired) a.makes in record {
            makes = ap by_name.Map sorted;
            known = in-order-known (all.1) (all.0) a.known;
            wide = λ i. nat_lt MOST_KEYS ((pairs-seen names (all.1) (in_order names (all.1) (all.0)) ∙ ap pairs_count sorted) i) || a.wide i;
            big = a.big;
          }
      made (Bin bytes) shared h n = let b = bin-made bytes shared in record { makes = b.makes; known = b.known; wide = refl; big = refl }

      pub all-made : (ts : Terms) (shared : List (List ℕ)) → AllKnown names shared held → HaveNames names (atoms_of_all ts) → AllMade shared ts
      all-made end shared h n = record { makes = refl; known = tt; wide = refl; big = refl }
      all-made (t ▹ ts) shared h n =
          let first : Tree × List (List ℕ) = tree_of names held t shared in
          let others : Trees × List (List ℕ) = trees_of_terms names held ts (first.1) in
          let x : Extends shared (first.1) = made-more names held t shared in
          let y : Extends (first.1) (others.1) = all-made-more names held ts (first.1) in
          let a = made t shared h (names-front names (atoms_of t) (atoms_of_all ts) n) in
          let b = all-made ts (first.1) (held-known-more shared (first.1) x held h) (names-back names (atoms_of t) (atoms_of_all ts) n) in
          let same : by (first.1) ≡ by shared = held-same-more shared (first.1) x held h in
          let one : as_named names (others.1) (first.0) ≡ named_made (by shared) t = same-more (first.1) (others.1) y (first.0) a.known ∙ a.makes in
          let rest : all_as_named names (others.1) (others.0) ≡ all_named_made (by shared) ts = b.makes ∙ ap (λ z. all_named_made z ts) same in
          let wide : are_wide names held ts (first.1) ≡ all_named_wide (by shared) ts = b.wide ∙ ap (λ z. all_named_wide z ts) same in
          let big : are_big names held ts (first.1) ≡ all_named_big (by shared) ts = b.big ∙ ap (λ z. all_named_big z ts) same in record {
            makes = λ i. all_by_name.before (one i) (rest i);
            known = (known-more (first.1) (others.1) y (first.0) a.known, b.known);
            wide = λ i. a.wide i || wide i;
            big = λ i. a.big i || big i;
          }

      pub pairs-made : (ps : TermPairs) (shared : List (List ℕ)) → AllKnown names shared held → HaveNames names (atoms_of_pairs ps) → PairsMade shared ps
      pairs-made stop shared h n = record { makes = refl; known = tt; wide = refl; big = refl }
      pairs-made (pair k v ps) shared h n =
          let key : Tree × List (List ℕ) = tree_of names held k shared in
          let value : Tree × List (List ℕ) = tree_of names held v (key.1) in
          let others : Pairs × List (List ℕ) = trees_of_pairs names held ps (value.1) in
          let x : Extends shared (key.1) = made-more names held k shared in
          let y : Extends (key.1) (value.1) = made-more names held v (key.1) in
          let z : Extends (value.1) (others.1) = pairs-made-more names held ps (value.1) in
          let yz : Extends (key.1) (others.1) = extends-then (key.1) (value.1) (others.1) y z in
          let later = names-back names (atoms_of k) (atoms_of v ++ atoms_of_pairs ps) n in
          let known1 : AllKnown names (key.1) held = held-known-more shared (key.1) x held h in
          let known2 : AllKnown names (value.1) held = held-known-more (key.1) (value.1) y held known1 in
          let a = made k shared h (names-front names (atoms_of k) (atoms_of v ++ atoms_of_pairs ps) n) in
          let b = made v (key.1) known1 (names-front names (atoms_of v) (atoms_of_pairs ps) later) in
          let c = pairs-made ps (value.1) known2 (names-back names (atoms_of v) (atoms_of_pairs ps) later) in
          let same1 : by (key.1) ≡ by shared = held-same-more shared (key.1) x held h in
          let same2 : by (value.1) ≡ by shared = held-same-more (key.1) (value.1) y held known1 ∙ same1 in
          let one : as_named names (others.1) (key.0) ≡ named_made (by shared) k = same-more (key.1) (others.1) yz (key.0) a.known ∙ a.makes in
          let two : as_named names (others.1) (value.0) ≡ named_made (by shared) v = same-more (value.1) (others.1) z (value.0) b.known ∙ b.makes ∙ ap (λ g. named_made g v) same1 in
          let rest : pairs_as_named names (others.1) (others.0) ≡ pairs_named_made (by shared) ps = c.makes ∙ ap (λ g. pairs_named_made g ps) same2 in
          let wide1 : is_wide names held v (key.1) ≡ named_wide (by shared) v = b.wide ∙ ap (λ g. named_wide g v) same1 in
          let wide2 : are_wide_pairs names held ps (value.1) ≡ pairs_named_wide (by shared) ps = c.wide ∙ ap (λ g. pairs_named_wide g ps) same2 in
          let big1 : is_big names held v (key.1) ≡ named_big (by shared) v = b.big ∙ ap (λ g. named_big g v) same1 in
          let big2 : are_big_pairs names held ps (value.1) ≡ pairs_named_big (by shared) ps = c.big ∙ ap (λ g. pairs_named_big g ps) same2 in
          record {
            makes = λ i. pairs_by_name.paired (one i) (two i) (rest i);
            known = (known-more (key.1) (others.1) yz (key.0) a.known, known-more (value.1) (others.1) z (value.0) b.known, c.known);
            wide = λ i. a.wide i || (wide1 i || wide2 i);
            big = λ i. (not (a.wide i) && (beyond-seen names (key.1) (key.0) ∙ ap named_beyond a.makes) i) || (a.big i || (big1 i || big2 i));
          }
