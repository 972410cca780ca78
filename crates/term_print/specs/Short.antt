-- The text of a small term, gathered in one pass.
use Rattle.std.specs.Prelude.{◌≡◌, ℕ, ◌+◌, ◌<◌, ◌≤◌, Bool, true, false, List, [], ◌++◌, codes, length}
use Rattle.plain_term.specs.Tree.{Tree, Trees, trees_len}
use Rattle.plain_term.specs.Tree.Trees.{end, ◌▹◌}
use Rattle.plain_term.specs.Measures.{nodes, nodes_of_all}
use Rattle.plain_term.specs.Text.{more_terms, text_as}
use Rattle.term_words.specs.Role.{always}
use Rattle.term_words.specs.Stands.{RowStands, Stands}
use Rattle.term_read.specs.declared.looks.Look.{Look}
use Rattle.term_read.specs.declared.looks.Look.TheVariants as look
use Rattle.term_order.specs.Named.{are_named}

-- What stands before a part that others stand before.
abbrev pub comma_text : (more : Bool) → List ℕ
comma_text false = []
comma_text true = codes ","

-- The texts of terms divided by commas, where others stand before them or none.
abbrev pub parts_text : (names shared : List (List ℕ)) (more : Bool) → Trees → List ℕ
parts_text names shared more end = []
parts_text names shared more (t ▹ ts) = comma_text more ++ (text_as names shared false t ++ more_terms names shared ts)

-- The text of each tree that the word stands for was added, and of so many nodes these are left.
pub record GathersTerm (mem : List ℕ) (names : List (List ℕ)) (w : ℕ) (tail : Bool) (most : ℕ) (old new : List ℕ) (left : ℕ) : Type 0 where
  pub few : (c : ℕ → ℕ → Bool) (shared : List (List ℕ)) (t : Tree) → Stands c shared mem w t → nodes shared t + left ≤ most
  pub added : (c : ℕ → ℕ → Bool) (shared : List (List ℕ)) (t : Tree) → Stands c shared mem w t → new ≡ old ++ text_as names shared tail t

-- So it is of the trees that n words from a place on stand for.
pub record GathersRow (mem : List ℕ) (names : List (List ℕ)) (first n : ℕ) (more : Bool) (most : ℕ) (old new : List ℕ) (left : ℕ) : Type 0 where
  pub few : (c : ℕ → ℕ → Bool) (shared : List (List ℕ)) (ts : Trees) → RowStands c shared mem first ts → trees_len ts ≡ n → nodes_of_all shared ts + left ≤ most
  pub added : (c : ℕ → ℕ → Bool) (shared : List (List ℕ)) (ts : Trees) → RowStands c shared mem first ts → trees_len ts ≡ n
      → new ≡ old ++ parts_text names shared more ts

-- The n words from a place on stand for trees whose names are among the names.
pub record CanBeginRow (mem : List ℕ) (names : List (List ℕ)) (first n : ℕ) : Type 0 where
  pub shared : List (List ℕ)
  pub trees : Trees
  pub standing : RowStands always shared mem first trees
  pub count : trees_len trees ≡ n
  pub within : first + n ≤ length mem
  pub named : are_named (length names) trees ≡ true

-- The looks whose texts are gathered as they stand.
abbrev pub is_leaf : Look → Bool
is_leaf (look.Small i) = true
is_leaf (look.Atom k) = true
is_leaf _ = false

-- The name of a look at an atom is among the names.
abbrev pub HasLookName : (names : List (List ℕ)) → Look → Type 0
HasLookName names (look.Atom k) = k < length names
HasLookName names _ = Unit {0}
