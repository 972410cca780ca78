-- The shared binaries that a written term makes: those of its items, and its tree knows no later ones.
use Rattle.std.proofs.Common.{◌≡◌, ℕ, ◌+◌, ◌≤◌, not, nat_lt, nat_le, if◌then◌else◌, Bool, true, false, List, [], ◌∷◌, ◌++◌, length, map, refl, sym, ◌∙◌, ap, subst, arith, slice_index_or, length-append, append_assoc}
use Rattle.std.proofs.lemmas.Bool.{leb-true}
use Rattle.std.proofs.lemmas.Bool.Decides.{nat_tests}
use Rattle.plain_term.specs.declared.item.Item.{Item}
use Rattle.plain_term.specs.declared.item.Item.TheVariants as item
use Rattle.plain_term.specs.Tree.{Tree, Trees, Pairs}
use Rattle.plain_term.specs.Tree.{Tree as tree}
use Rattle.plain_term.specs.Tree.{Trees as trees}
use Rattle.script_grammar.specs.Written.{Term, Terms, TermPairs}
use Rattle.script_grammar.specs.Written.Term.{Int, Atom, Pid, Held, Listed, Barred, Tuple, Map, Bin}
use Rattle.script_grammar.specs.Written.Terms.{end, ◌▹◌}
use Rattle.script_grammar.specs.Written.TermPairs.{stop, pair}
use Rattle.script_grammar.specs.Names.{items_of, listed_items, all_items, pairs_items}
use Rattle.plain_machine.specs.Made.{tree_of, trees_of_terms, trees_of_pairs, bin_tree, list_tree}
use Rattle.item_build.specs.Reading.{bins_of, bytes_in, long_bins}
use Rattle.plain_term.proofs.Known.{Knows, KnowsAll, KnowsPairs, all-knows-more, knows-more, in-order-has-only}

-- More than 64 is not at most 64.
pub long-flip : (n : ℕ) → nat_lt 64 n ≡ not (nat_le n 64)
long-flip n = by (nat_le n 64) refl
  where
    by : (b : Bool) → nat_le n 64 ≡ b → nat_lt 64 n ≡ not b
    by true e = let few : n ≤ 64 = leb-true n 64 e in grind (arith, nat_tests)
    by false e = grind (arith, nat_tests, e)

-- A binary that is short, or a new shared one.
abbrev pub binned : List ℕ → (shared : List (List ℕ)) → Bool → Tree × List (List ℕ)
binned bytes shared true = (tree.Bin bytes, shared)
binned bytes shared false = (tree.Shared (length shared + 1), shared ++ bytes ∷ [])

pub binned-is : (bytes : List ℕ) (shared : List (List ℕ)) → bin_tree bytes shared ≡ binned bytes shared (nat_le (length bytes) 64)
binned-is bytes shared = by (nat_le (length bytes) 64)
  where
    by : (b : Bool) → (if b then (tree.Bin bytes, shared) else (tree.Shared (length shared + 1), shared ++ bytes ∷ [])) ≡ binned bytes shared b
    by true = refl
    by false = refl

-- Items of bytes are no binaries, and have their bytes.

pub bytes-skipped : (bytes : List ℕ) (rest : List Item) → bins_of (map item.Byte bytes ++ rest) ≡ bins_of rest
bytes-skipped [] rest = refl
bytes-skipped (b ∷ bytes) rest = bytes-skipped bytes rest

pub bytes-taken : (bytes : List ℕ) (rest : List Item) → bytes_in (length bytes) (map item.Byte bytes ++ rest) ≡ bytes
bytes-taken [] rest = refl
bytes-taken (b ∷ bytes) rest = ap (λ z. b ∷ z) (bytes-taken bytes rest)

pub bytes-no-longs : (bytes : List ℕ) (rest : List Item) → long_bins (map item.Byte bytes ++ rest) ≡ long_bins rest
bytes-no-longs [] rest = refl
bytes-no-longs (b ∷ bytes) rest = omega (arith, bytes-no-longs bytes rest)

-- As many long binaries as their bytes.
pub longs-are : (xs : List Item) → length (bins_of xs) ≡ long_bins xs
longs-are [] = refl
longs-are (item.Bin n ∷ xs) = by (nat_lt 64 n) (longs-are xs)
  where
    by : (b : Bool) → length (bins_of xs) ≡ long_bins xs → length ((if b then bytes_in n xs ∷ [] else []) ++ bins_of xs) ≡ (if b then 1 else 0) + long_bins xs
    by true same = omega (arith, same)
    by false same = omega (arith, same)
longs-are (item.Int i ∷ xs) = omega (arith, longs-are xs)
longs-are (item.Atom k ∷ xs) = omega (arith, longs-are xs)
longs-are (item.Pid n ∷ xs) = omega (arith, longs-are xs)
longs-are (item.Nil ∷ xs) = omega (arith, longs-are xs)
longs-are (item.Cons ∷ xs) = omega (arith, longs-are xs)
longs-are (item.Tuple n ∷ xs) = omega (arith, longs-are xs)
longs-are (item.Map n ∷ xs) = omega (arith, longs-are xs)
longs-are (item.Byte b ∷ xs) = omega (arith, longs-are xs)
longs-are (item.Held r ∷ xs) = omega (arith, longs-are xs)

module _ (names : List (List ℕ)) (held : List Tree) where
  -- What a term makes stands before what the items behind it make.
  mutual
    pub made : (t : Term) (shared : List (List ℕ)) (rest : List Item) → shared ++ bins_of (items_of names t ++ rest) ≡ (tree_of names held t shared).1 ++ bins_of rest
    made (Int i) shared rest = refl
    made (Atom a) shared rest = refl
    made (Pid n) shared rest = refl
    made (Held r) shared rest = refl
    made (Listed ts) shared rest = made-listed ts shared (item.Nil ∷ []) rest
    made (Barred ts t) shared rest = made-listed ts shared (items_of names t) rest ∙ made t ((trees_of_terms names held ts shared).1) rest
    made (Tuple ts) shared rest = made-all ts shared rest
    made (Map qs) shared rest = made-pairs qs shared rest
    made (Bin bytes) shared rest =
        ap (λ z. shared ++ ((if z then bytes_in (length bytes) (map item.Byte bytes ++ rest) ∷ [] else []) ++ bins_of (map item.Byte bytes ++ rest))) (long-flip (length bytes))
        ∙ ap (λ z. shared ++ ((if not (nat_le (length bytes) 64) then bytes_in (length bytes) (map item.Byte bytes ++ rest) ∷ [] else []) ++ z)) (bytes-skipped bytes rest)
        ∙ ap (λ z. shared ++ ((if not (nat_le (length bytes) 64) then z ∷ [] else []) ++ bins_of rest)) (bytes-taken bytes rest)
        ∙ by (nat_le (length bytes) 64) ∙ ap (λ (z : Tree × List (List ℕ)). z.1 ++ bins_of rest) (sym (binned-is bytes shared))
      where
        by : (b : Bool) → shared ++ ((if not b then bytes ∷ [] else []) ++ bins_of rest) ≡ (binned bytes shared b).1 ++ bins_of rest
        by true = refl
        by false = sym (append_assoc shared (bytes ∷ []) (bins_of rest))

    pub made-listed : (ts : Terms) (shared : List (List ℕ)) (tail rest : List Item) → shared ++ bins_of (listed_items names ts tail ++ rest) ≡ (trees_of_terms names held ts shared).1
        ++ bins_of (tail ++ rest)
    made-listed end shared tail rest = refl
    made-listed (t ▹ ts) shared tail rest =
        ap (λ z. shared ++ bins_of z) (append_assoc (items_of names t) (listed_items names ts tail) rest)
        ∙ made t shared (listed_items names ts tail ++ rest) ∙ made-listed ts ((tree_of names held t shared).1) tail rest

    pub made-all : (ts : Terms) (shared : List (List ℕ)) (rest : List Item) → shared ++ bins_of (all_items names ts ++ rest) ≡ (trees_of_terms names held ts shared).1 ++ bins_of rest
    made-all end shared rest = refl
    made-all (t ▹ ts) shared rest =
        ap (λ z. shared ++ bins_of z) (append_assoc (items_of names t) (all_items names ts) rest)
        ∙ made t shared (all_items names ts ++ rest) ∙ made-all ts ((tree_of names held t shared).1) rest

    pub made-pairs : (qs : TermPairs) (shared : List (List ℕ)) (rest : List Item) → shared ++ bins_of (pairs_items names qs ++ rest) ≡ (trees_of_pairs names held qs shared).1 ++ bins_of rest
    made-pairs stop shared rest = refl
    made-pairs (pair k v qs) shared rest =
        let key : Tree × List (List ℕ) = tree_of names held k shared in
        ap (λ z. shared ++ bins_of z) (append_assoc (items_of names k) (items_of names v ++ pairs_items names qs) rest)
        ∙ made k shared ((items_of names v ++ pairs_items names qs) ++ rest)
        ∙ ap (λ z. key.1 ++ bins_of z) (append_assoc (items_of names v) (pairs_items names qs) rest)
        ∙ made v key.1 (pairs_items names qs ++ rest) ∙ made-pairs qs ((tree_of names held v key.1).1) rest

  -- The list grows.

  longer : (a b c d : List (List ℕ)) → a ++ b ≡ c ++ [] → length a ≤ length c
  longer a b c d e = omega (arith, ap length e, length-append a b, length-append c [])

  pub grows : (t : Term) (shared : List (List ℕ)) → length shared ≤ length ((tree_of names held t shared).1)
  grows t shared = longer shared (bins_of (items_of names t ++ [])) ((tree_of names held t shared).1) [] (made t shared [])

  pub all-grow : (ts : Terms) (shared : List (List ℕ)) → length shared ≤ length ((trees_of_terms names held ts shared).1)
  all-grow ts shared = longer shared (bins_of (all_items names ts ++ [])) ((trees_of_terms names held ts shared).1) [] (made-all ts shared [])

  pub pairs-grow : (qs : TermPairs) (shared : List (List ℕ)) → length shared ≤ length ((trees_of_pairs names held qs shared).1)
  pairs-grow qs shared = longer shared (bins_of (pairs_items names qs ++ [])) ((trees_of_pairs names held qs shared).1) [] (made-pairs qs shared [])

  list-knows : (n : ℕ) (ts : Trees) (t : Tree) → KnowsAll n ts → Knows n t → Knows n (list_tree ts t)
  list-knows n trees.end t a k = k
  list-knows n (trees.◌▹◌ h ts) t a k = (a.0, list-knows n ts t a.1 k)

  -- The tree of a term knows no later ones than those that are there, where the held trees do not.
  module _ (m : ℕ) (known : (r : ℕ) → Knows m (slice_index_or held r tree.Nil)) where
    mutual
      pub term-knows : (t : Term) (shared : List (List ℕ)) → m ≤ length shared → Knows (length ((tree_of names held t shared).1)) ((tree_of names held t shared).0)
      term-knows (Int i) shared few = tt
      term-knows (Atom a) shared few = tt
      term-knows (Pid n) shared few = tt
      term-knows (Held r) shared few = knows-more m (length shared) few (slice_index_or held r tree.Nil) (known r)
      term-knows (Listed ts) shared few = list-knows (length ((trees_of_terms names held ts shared).1)) ((trees_of_terms names held ts shared).0) tree.Nil (all-know ts shared few) tt
      term-knows (Barred ts t) shared few =
          let heads : Trees × List (List ℕ) = trees_of_terms names held ts shared in
          list-knows (length ((tree_of names held t heads.1).1)) heads.0 ((tree_of names held t heads.1).0)
          (all-knows-more (length heads.1) (length ((tree_of names held t heads.1).1)) (grows t heads.1) heads.0 (all-know ts shared few))
          (term-knows t heads.1 (omega (arith, few, all-grow ts shared)))
      term-knows (Tuple ts) shared few = all-know ts shared few
      term-knows (Map qs) shared few =
          let all : Pairs × List (List ℕ) = trees_of_pairs names held qs shared in
          in-order-has-only (λ k. Unit {0}) (λ id. id ≤ length all.1) names all.1 all.0 (pairs-known qs shared few)
      term-knows (Bin bytes) shared few =
          let P : Tree × List (List ℕ) → Type 0 = λ z. Knows (length z.1) z.0 in
          subst P (sym (binned-is bytes shared)) (by (nat_le (length bytes) 64))
        where
          by : (b : Bool) → Knows (length ((binned bytes shared b).1)) ((binned bytes shared b).0)
          by true = tt
          by false = omega (arith, length-append shared (bytes ∷ []))

      pub all-know : (ts : Terms) (shared : List (List ℕ)) → m ≤ length shared → KnowsAll (length ((trees_of_terms names held ts shared).1)) ((trees_of_terms names held ts shared).0)
      all-know end shared few = tt
      all-know (t ▹ ts) shared few =
          let first : Tree × List (List ℕ) = tree_of names held t shared in (
            knows-more (length first.1) (length ((trees_of_terms names held ts first.1).1)) (all-grow ts first.1) first.0 (term-knows t shared few),
            all-know ts first.1 (omega (arith, few, grows t shared)),
          )

      pub pairs-known : (qs : TermPairs) (shared : List (List ℕ)) → m ≤ length shared → KnowsPairs (length ((trees_of_pairs names held qs shared).1)) ((trees_of_pairs names held qs shared).0)
      pairs-known stop shared few = tt
      pairs-known (pair k v qs) shared few =
          let key : Tree × List (List ℕ) = tree_of names held k shared in
          let value : Tree × List (List ℕ) = tree_of names held v key.1 in
          let more : length value.1 ≤ length ((trees_of_pairs names held qs value.1).1) = pairs-grow qs value.1 in (
            knows-more (length key.1) (length ((trees_of_pairs names held qs value.1).1)) (omega (arith, grows v key.1, more)) key.0 (term-knows k shared few),
            knows-more (length value.1) (length ((trees_of_pairs names held qs value.1).1)) more value.0 (term-knows v key.1 (omega (arith, few, grows k shared))),
            pairs-known qs value.1 (omega (arith, few, grows k shared, grows v key.1)),
          )
