-- Words that stand for trees whose names are below a number.
use Rattle.std.specs.Prelude.{◌≡◌, ℕ, Bool, true, List, [], ◌∷◌}
use Rattle.plain_term.specs.Tree.{Tree}
use Rattle.term_words.specs.Stands.{Stands}
use Rattle.term_order.specs.Named.{is_named}

-- The word stands for the tree where the test allows it, and all names of the tree are below a number.
pub record HoldsTree (c : ℕ → ℕ → Bool) (shared : List (List ℕ)) (mem : List ℕ) (named w : ℕ) (t : Tree) : Type 0 where
  pub standing : Stands c shared mem w t
  pub names : is_named named t ≡ true

-- Each of the words holds its tree, in order.
abbrev pub HoldTrees : (ℕ → ℕ → Bool) → List (List ℕ) → List ℕ → ℕ → List ℕ → List Tree → Type 0
HoldTrees c shared mem named [] [] = Unit {0}
HoldTrees c shared mem named (w ∷ ws) (t ∷ ts) = HoldsTree c shared mem named w t × HoldTrees c shared mem named ws ts
HoldTrees c shared mem named [] (t ∷ ts) = ⊥
HoldTrees c shared mem named (w ∷ ws) [] = ⊥
