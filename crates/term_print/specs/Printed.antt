-- What printing asks for, and what it has done when a word's term was begun.
use Rattle.std.specs.Prelude.{◌≡◌, ℕ, ◌+◌, ◌≤◌, Bool, true, false, List, ◌++◌, length, Option, Some, None, Result}
use Rattle.plain_term.specs.Tree.{Tree, Trees}
use Rattle.plain_term.specs.Measures.{depth, nodes, nodes_of_all}
use Rattle.plain_term.specs.Beyond.{is_beyond}
use Rattle.plain_term.specs.Text.{text_as}
use Rattle.line_io.specs.Sink.{WritesTold}
use Rattle.term_words.specs.Role.{always}
use Rattle.term_words.specs.Stands.{Stands}
use Rattle.term_order.specs.Named.{is_named, are_named}
use Rattle.term_print.specs.declared.levels.Level.{Level}
use Rattle.term_print.specs.Left.{after_level, IsLeft, level_text, reach}

-- The word stands for a tree within the walk limit, and all its names are among the names.
pub record CanPrint (mem : List ℕ) (names : List (List ℕ)) (w : ℕ) : Type 0 where
  pub shared : List (List ℕ)
  pub tree : Tree
  pub standing : Stands always shared mem w tree
  pub within : is_beyond shared tree ≡ false
  pub named : is_named (length names) tree ≡ true

-- The word stands for a tree whose names are among the names.
pub record CanBegin (mem : List ℕ) (names : List (List ℕ)) (word : ℕ) : Type 0 where
  pub shared : List (List ℕ)
  pub now : Tree
  pub standing : Stands always shared mem word now
  pub named : is_named (length names) now ≡ true

-- The level has the parts of the tree, whose text is its own and then that of the level.
pub record LevelHasParts (c : ℕ → ℕ → Bool) (shared : List (List ℕ)) (mem : List ℕ) (names : List (List ℕ)) (tail : Bool)
    (now : Tree) (own : List ℕ) (l : Level) : Type 0 where
  pub parts : Trees
  pub left : IsLeft c shared mem l parts
  pub whole : text_as names shared tail now ≡ own ++ level_text names shared l parts
  pub fewer : nodes_of_all shared parts + 1 ≤ nodes shared now
  pub some : 1 ≤ depth now
  pub deep : reach l parts ≤ depth now
  pub named : is_named (length names) now ≡ true → are_named (length names) parts ≡ true

-- So it is, or the tree has no level, and its text is its own.
abbrev pub Opens : (ℕ → ℕ → Bool) → (shared : List (List ℕ)) (mem : List ℕ) (names : List (List ℕ)) → Bool → Tree → (own : List ℕ) → Option Level
    → Type 0
Opens c shared mem names tail now own None = text_as names shared tail now ≡ own
Opens c shared mem names tail now own (Some l) = LevelHasParts c shared mem names tail now own l

-- The mark and the tree's own text are written, and the level of its parts is on top of the others.
pub record BeginsText {K E : Type 0} (c : ℕ → ℕ → Bool) (shared : List (List ℕ)) (mem : List ℕ) (names : List (List ℕ)) (mark : List ℕ)
    (tail : Bool) (now : Tree) (old new : List Level) (wrote : K → List ℕ → Type 0) (faults : K → ℕ) (before after : K)
    (result : Result (Unit {0}) E) : Type 0 where
  pub own : List ℕ
  pub parts : Option Level
  pub opens : Opens c shared mem names tail now own parts
  pub levels : new ≡ after_level parts old
  pub written : WritesTold wrote faults before after (mark ++ own) result
