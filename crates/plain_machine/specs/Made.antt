-- The trees that written terms make.
use Rattle.std.specs.Prelude.{ℕ, ◌+◌, Bool, nat_le, nat_lt, List, [], ◌∷◌, ◌++◌, length, slice_index_or, if◌then◌else◌}
use Rattle.plain_term.specs.Tree.{Tree, Trees, Pairs, pairs_len}
use Rattle.plain_term.specs.Tree.{Tree as tree}
use Rattle.plain_term.specs.Tree.{Trees as trees}
use Rattle.plain_term.specs.Tree.{Pairs as pairs}
use Rattle.plain_term.specs.InOrder.{in_order}
use Rattle.term_tags.specs.declared.layouts.TheConstants.{MOST_KEYS}
use Rattle.script_grammar.specs.Written.{Term, Terms, TermPairs}
use Rattle.script_grammar.specs.Written.Term.{Int, Atom, Pid, Held, Listed, Barred, Tuple, Map, Bin}
use Rattle.script_grammar.specs.Written.Terms.{end, ◌▹◌}
use Rattle.script_grammar.specs.Written.TermPairs.{stop, pair}
use Rattle.script_grammar.specs.Names.{number_of}

-- There are more pairs than a map may have.
abbrev pub too_many : Pairs → Bool
too_many ps = nat_lt MOST_KEYS (pairs_len ps)

-- A binary of up to 64 bytes by its bytes, a longer one as a new shared one.
abbrev pub bin_tree : List ℕ → (shared : List (List ℕ)) → Tree × List (List ℕ)
bin_tree bytes shared = if nat_le (length bytes) 64 then (tree.Bin bytes, shared) else (tree.Shared (length shared + 1), shared ++ bytes ∷ [])

-- A list with these heads and this tail.
abbrev pub list_tree : Trees → Tree → Tree
list_tree trees.end tail = tail
list_tree (trees.◌▹◌ t ts) tail = tree.Cons t (list_tree ts tail)

abbrev mutual
  -- The tree of a term, and the byte lists of shared binaries with its own at their end. `held` has
  -- the trees of the registers.
  pub tree_of : (names : List (List ℕ)) (held : List Tree) → Term → (shared : List (List ℕ)) → Tree × List (List ℕ)
  tree_of names held (Int i) shared = (tree.Int i, shared)
  tree_of names held (Atom a) shared = (tree.Atom (number_of names a), shared)
  tree_of names held (Pid n) shared = (tree.Pid n, shared)
  tree_of names held (Held r) shared = (slice_index_or held r tree.Nil, shared)
  tree_of names held (Listed ts) shared = let heads : Trees × List (List ℕ) = trees_of_terms names held ts shared in
      (list_tree (heads.0) tree.Nil, heads.1)
  tree_of names held (Barred ts t) shared = let heads : Trees × List (List ℕ) = trees_of_terms names held ts shared in
      let last : Tree × List (List ℕ) = tree_of names held t (heads.1) in (list_tree (heads.0) (last.0), last.1)
  tree_of names held (Tuple ts) shared = let all : Trees × List (List ℕ) = trees_of_terms names held ts shared in (tree.Tuple (all.0), all.1)
  tree_of names held (Map ps) shared = let all : Pairs × List (List ℕ) = trees_of_pairs names held ps shared in
      (tree.Map (in_order names (all.1) (all.0)), all.1)
  tree_of names held (Bin bytes) shared = bin_tree bytes shared

  -- The trees of terms, from left to right.
  pub trees_of_terms : (names : List (List ℕ)) (held : List Tree) → Terms → (shared : List (List ℕ)) → Trees × List (List ℕ)
  trees_of_terms names held end shared = (trees.end, shared)
  trees_of_terms names held (t ▹ ts) shared = let first : Tree × List (List ℕ) = tree_of names held t shared in
      let others : Trees × List (List ℕ) = trees_of_terms names held ts (first.1) in (trees.◌▹◌ (first.0) (others.0), others.1)

  -- The trees of keys and values, in the order of writing.
  pub trees_of_pairs : (names : List (List ℕ)) (held : List Tree) → TermPairs → (shared : List (List ℕ)) → Pairs × List (List ℕ)
  trees_of_pairs names held stop shared = (pairs.stop, shared)
  trees_of_pairs names held (pair k v ps) shared = let key : Tree × List (List ℕ) = tree_of names held k shared in
      let value : Tree × List (List ℕ) = tree_of names held v (key.1) in
      let others : Pairs × List (List ℕ) = trees_of_pairs names held ps (value.1) in (pairs.pair (key.0) (value.0) (others.0), others.1)
