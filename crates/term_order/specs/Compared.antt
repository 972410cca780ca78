-- What a comparison asks for and answers.
use Rattle.std.specs.Prelude.{◌≡◌, ℕ, ◌+◌, ◌<◌, ◌≤◌, ◌||◌, if◌then◌else◌, Bool, true, false, List, length, max, Option, Some, None}
use Rattle.std.specs.declared.cmp.Ordering.{Ordering}
use Rattle.std.specs.declared.cmp.Ordering.TheVariants as ordering
use Rattle.plain_term.specs.Tree.{Tree, Trees, trees_append}
use Rattle.plain_term.specs.Measures.{depth}
use Rattle.plain_term.specs.Beyond.{depth_limit, is_beyond}
use Rattle.plain_term.specs.Order.{order}
use Rattle.term_words.specs.Role.{always}
use Rattle.term_words.specs.Stands.{Stands}
use Rattle.term_read.specs.Look.{IsSeen}
use Rattle.term_read.specs.declared.looks.Look.{Look}
use Rattle.term_walk.specs.declared.levels.Rest.{Rest}
use Rattle.term_walk.specs.Left.{AreLeft, left_of, deepest, walk_parts, GoesTo, WalkEnds}
use Rattle.term_order.specs.declared.compared.Compared.{Compared}
use Rattle.term_order.specs.declared.compared.Compared.TheVariants.{Less, Same, More, Beyond}
use Rattle.term_order.specs.Named.{is_named}

-- The words stand for trees with one list of shared binaries, and all their names are among the names.
pub record AreNamed (mem : List ℕ) (names : List (List ℕ)) (a b : ℕ) : Type 0 where
  pub shared : List (List ℕ)
  pub first : Tree
  pub second : Tree
  pub first_stands : Stands always shared mem a first
  pub second_stands : Stands always shared mem b second
  pub first_named : is_named (length names) first ≡ true
  pub second_named : is_named (length names) second ≡ true

-- The answer for an order.
abbrev pub answer_of : Ordering → Compared
answer_of ordering.Less = Less
answer_of ordering.Equal = Same
answer_of ordering.Greater = More

-- The order of two trees, if both are within the walk limit.
abbrev pub compared : (names shared : List (List ℕ)) → Tree → Tree → Compared
compared names shared t u = if is_beyond shared t || is_beyond shared u then Beyond else answer_of (order names shared t u)

-- The answer is that of the two trees, whichever they are.
pub record Compares (mem : List ℕ) (names : List (List ℕ)) (a b : ℕ) (result : Compared) : Type 0 where
  pub each : (c : ℕ → ℕ → Bool) (shared : List (List ℕ)) (t u : Tree) → Stands c shared mem a t → Stands c shared mem b u → result ≡ compared names shared t u

-- Both trees are within the walk limit.
pub record BothWithin (mem : List ℕ) (a b : ℕ) : Type 0 where
  pub first : (c : ℕ → ℕ → Bool) (shared : List (List ℕ)) (t : Tree) → Stands c shared mem a t → is_beyond shared t ≡ false
  pub second : (c : ℕ → ℕ → Bool) (shared : List (List ℕ)) (t : Tree) → Stands c shared mem b t → is_beyond shared t ≡ false

-- The order is that of the two trees.
pub record Orders (mem : List ℕ) (names : List (List ℕ)) (a b : ℕ) (result : Ordering) : Type 0 where
  pub each : (c : ℕ → ℕ → Bool) (shared : List (List ℕ)) (t u : Tree) → Stands c shared mem a t → Stands c shared mem b u → result ≡ order names shared t u

-- The order of a list of trees at its end and another, of which this word is next.
abbrev pub at_end : Option ℕ → Ordering
at_end (Some word) = ordering.Less
at_end None = ordering.Equal

-- Where a walk goes from a tree, as of `WalkGoes`, but for what is too deep.
abbrev pub IsStep : (ℕ → ℕ → Bool) → List (List ℕ) → List ℕ → List Rest → Tree → List Trees → Option ℕ → List Rest → Type 0
IsStep c shared mem old now rests (Some word) new =
    GoesTo c shared mem (trees_append (walk_parts now) (left_of rests)) (max (length old + depth now) (deepest old rests)) word new
IsStep c shared mem old now rests None new = WalkEnds (trees_append (walk_parts now) (left_of rests)) (max (length old + depth now) (deepest old rests))

-- So it is for all trees that the words stand for, and that are nowhere too deep.
pub record StepsOn (mem : List ℕ) (old : List Rest) (l : Look) (result : Option ℕ) (new : List Rest) : Type 0 where
  pub each : (c : ℕ → ℕ → Bool) (shared : List (List ℕ)) (w : ℕ) (now : Tree) (rests : List Trees) → Stands c shared mem w now → IsSeen c shared mem w now l
      → AreLeft c shared mem old rests
      → length old + depth now ≤ depth_limit → IsStep c shared mem old now rests result new

-- The parts of the word that is looked at lie deeper than so many levels.
pub record IsDeeper (most : ℕ) (mem : List ℕ) (old : List Rest) (l : Look) : Type 0 where
  pub each : (c : ℕ → ℕ → Bool) (shared : List (List ℕ)) (w : ℕ) (now : Tree) (rests : List Trees) → Stands c shared mem w now → IsSeen c shared mem w now l
      → AreLeft c shared mem old rests
      → most < length old + depth now
