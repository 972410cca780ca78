-- What a measure answers.
use Rattle.std.specs.Prelude.{◌≡◌, ℕ, ◌+◌, ◌≤◌, if◌then◌else◌, Bool, List, length, max}
use Rattle.plain_term.specs.Tree.{Tree, Trees}
use Rattle.plain_term.specs.Measures.{nodes, nodes_of_all, depth, flat, flat_of_all}
use Rattle.plain_term.specs.Beyond.{depth_limit, is_beyond}
use Rattle.term_words.specs.Stands.{Stands}
use Rattle.term_walk.specs.declared.levels.Rest.{Rest}
use Rattle.term_walk.specs.declared.measured.Measured.{Measured}
use Rattle.term_walk.specs.declared.measured.Measured.TheVariants.{Within, Beyond}
use Rattle.term_walk.specs.Left.{AreLeft, left_of, deepest}

-- The measures of a tree within the walk limit.
abbrev pub measured : List (List ℕ) → Tree → Measured
measured shared t = if is_beyond shared t then Beyond else Within (record { nodes = nodes shared t; flat = flat t })

-- The answer is that of each tree that the word stands for.
pub record Measures (mem : List ℕ) (w : ℕ) (result : Measured) : Type 0 where
  pub each : (c : ℕ → ℕ → Bool) (shared : List (List ℕ)) (t : Tree) → Stands c shared mem w t → result ≡ measured shared t

-- A walk over a tree is at a word: what was counted, with what the word and the words that are left stand for, is the whole
-- tree; it is no deeper than they are, or within the limit.
pub record Counting (c : ℕ → ℕ → Bool) (shared : List (List ℕ)) (mem : List ℕ) (t : Tree) (word : ℕ) (levels : List Rest) (seen words : ℕ) : Type 0 where
  pub now : Tree
  pub rests : List Trees
  pub standing : Stands c shared mem word now
  pub left : AreLeft c shared mem levels rests
  pub few : length levels ≤ depth_limit
  pub nodes_are : nodes shared t ≡ seen + (nodes shared now + nodes_of_all shared (left_of rests))
  pub flat_is : flat t ≡ words + (flat now + flat_of_all (left_of rests))
  pub depth_is : max depth_limit (depth t) ≡ max depth_limit (max (length levels + depth now) (deepest levels rests))

-- So it is for each tree that the first word stands for.
abbrev pub Counts : List ℕ → (first word : ℕ) → List Rest → (seen words : ℕ) → Type 0
Counts mem first word levels seen words =
    (c : ℕ → ℕ → Bool) (shared : List (List ℕ)) (t : Tree) → Stands c shared mem first t → Counting c shared mem t word levels seen words
