-- What a run over the cells at the front of a list passes.
use Rattle.std.specs.Prelude.{◌≡◌, ℕ, ◌+◌, ◌*◌, min, max, Bool, List}
use Rattle.plain_term.specs.Tree.{Tree}
use Rattle.plain_term.specs.Measures.{nodes, depth, flat}
use Rattle.term_words.specs.Stands.{Stands}

-- The tree is a list of so many heads of one node, no word and no depth, and then the tree that the word stands for.
pub record Passed (c : ℕ → ℕ → Bool) (shared : List (List ℕ)) (mem : List ℕ) (t : Tree) (word cells : ℕ) : Type 0 where
  pub rest : Tree
  pub standing : Stands c shared mem word rest
  pub nodes_are : nodes shared t ≡ 2 * cells + nodes shared rest
  pub flat_is : flat t ≡ 2 * cells + flat rest
  pub depth_is : depth t ≡ max (min 1 cells) (depth rest)

-- So it is of each tree that the first word stands for.
pub record PassesCells (mem : List ℕ) (first word cells : ℕ) : Type 0 where
  pub each : (c : ℕ → ℕ → Bool) (shared : List (List ℕ)) (t : Tree) → Stands c shared mem first t → Passed c shared mem t word cells
