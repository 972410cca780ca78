-- Two terms that are found to be the same, part by part, within so many nodes.
use Rattle.std.specs.Prelude.{◌≡◌, ℕ, ◌+◌, ◌≤◌, Bool, List, length}
use Rattle.plain_term.specs.Tree.{Tree, Trees, Pairs, trees_len}
use Rattle.plain_term.specs.Tree.Tree.{Map}
use Rattle.plain_term.specs.Measures.{nodes, nodes_of_all, depth, greatest_depth}
use Rattle.term_words.specs.Role.{always}
use Rattle.term_words.specs.Stands.{Stands, RowStands}

-- The trees are one, and of `most` nodes so many are left behind it; it is no deeper than that.
pub record IsOne (shared : List (List ℕ)) (t u : Tree) (most left : ℕ) : Type 0 where
  pub same : t ≡ u
  pub few : nodes shared t + left ≤ most
  pub low : depth t + left ≤ most

-- So it is of all trees that the two words stand for.
pub record FindsOne (mem : List ℕ) (x y most left : ℕ) : Type 0 where
  pub each : (c : ℕ → ℕ → Bool) (shared : List (List ℕ)) (t u : Tree) → Stands c shared mem x t → Stands c shared mem y u → IsOne shared t u most left

-- So it is of two lists of trees.
pub record AreOne (shared : List (List ℕ)) (ts us : Trees) (most left : ℕ) : Type 0 where
  pub same : ts ≡ us
  pub few : nodes_of_all shared ts + left ≤ most
  pub low : greatest_depth ts + left ≤ most

-- So it is of all that n words from one place and n from another stand for.
pub record FindsRow (mem : List ℕ) (p q n most left : ℕ) : Type 0 where
  pub each : (c : ℕ → ℕ → Bool) (shared : List (List ℕ)) (ts us : Trees) → RowStands c shared mem p ts → RowStands c shared mem q us
      → trees_len ts ≡ n → trees_len us ≡ n → AreOne shared ts us most left

-- n words from one place and n from another stand for trees with one list of shared binaries.
pub record AreTwoRows (mem : List ℕ) (p q n : ℕ) : Type 0 where
  pub shared : List (List ℕ)
  pub firsts : Trees
  pub seconds : Trees
  pub first_stands : RowStands always shared mem p firsts
  pub second_stands : RowStands always shared mem q seconds
  pub first_len : trees_len firsts ≡ n
  pub second_len : trees_len seconds ≡ n
  pub first_within : p + n ≤ length mem
  pub second_within : q + n ≤ length mem

-- The words stand for maps with one list of shared binaries.
pub record AreMaps (mem : List ℕ) (x y : ℕ) : Type 0 where
  pub shared : List (List ℕ)
  pub first : Pairs
  pub second : Pairs
  pub first_stands : Stands always shared mem x (Map first)
  pub second_stands : Stands always shared mem y (Map second)

-- All maps that they stand for are one, and but for their own nodes so many are left.
pub record FindsMap (mem : List ℕ) (x y most left : ℕ) : Type 0 where
  pub each : (c : ℕ → ℕ → Bool) (shared : List (List ℕ)) (ps qs : Pairs) → Stands c shared mem x (Map ps) → Stands c shared mem y (Map qs)
      → IsOne shared (Map ps) (Map qs) (most + 1) left
