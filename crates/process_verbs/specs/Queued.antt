-- The text of the messages that wait.
use Rattle.std.specs.Prelude.{ℕ, ◌≡◌, List, [], ◌∷◌, ◌++◌, codes, map, true, false}
use Rattle.plain_term.specs.Tree.{Tree}
use Rattle.plain_term.specs.Beyond.{is_beyond}
use Rattle.plain_term.specs.Text.{text}
use Rattle.plain_machine.specs.Texts.{divided}
use Rattle.term_words.specs.Role.{always}
use Rattle.term_words.specs.Stands.{Stands}
use Rattle.term_order.specs.Named.{is_named}

-- The word stands for the tree, which is within the walk limit and whose names are among so many.
pub record IsMessage (shared : List (List ℕ)) (mem : List ℕ) (named w : ℕ) (t : Tree) : Type 0 where
  pub standing : Stands always shared mem w t
  pub within : is_beyond shared t ≡ false
  pub named_below : is_named named t ≡ true

-- The words are those of these messages, in order.
abbrev pub AreMessages : (shared : List (List ℕ)) (mem : List ℕ) (named : ℕ) (words : List ℕ) → List Tree → Type 0
AreMessages shared mem named [] [] = Unit {0}
AreMessages shared mem named (w ∷ ws) (t ∷ ts) = IsMessage shared mem named w t × AreMessages shared mem named ws ts
AreMessages shared mem named [] (t ∷ ts) = ⊥
AreMessages shared mem named (w ∷ ws) [] = ⊥

-- Some trees are the messages.
pub record HaveMessages (mem : List ℕ) (named : ℕ) (words : List ℕ) : Type 0 where
  pub shared : List (List ℕ)
  pub trees : List Tree
  pub are : AreMessages shared mem named words trees

-- The texts of messages, divided by commas.
abbrev pub messages_text : (names shared : List (List ℕ)) → List Tree → List ℕ
messages_text names shared ts = divided (map (text names shared) ts)

-- The same in brackets: the whole text of a queue.
abbrev pub whole_text : (names shared : List (List ℕ)) → List Tree → List ℕ
whole_text names shared ts = codes "[" ++ (messages_text names shared ts ++ codes "]")
