-- What is gathered of a level before a step.
use Rattle.std.specs.Prelude.{◌≡◌, ℕ, ◌≤◌, Bool, true, List, ◌++◌, length}
use Rattle.plain_term.specs.Tree.{Trees}
use Rattle.plain_term.specs.Measures.{nodes_of_all}
use Rattle.term_words.specs.Role.{always}
use Rattle.term_order.specs.Named.{are_named}
use Rattle.term_print.specs.declared.levels.Level.{Level}
use Rattle.term_print.specs.Left.{IsLeft, level_text, reach}

-- The words that are left on the level stand for trees.
pub record CanGather (mem : List ℕ) (l : Level) : Type 0 where
  pub shared : List (List ℕ)
  pub ts : Trees
  pub left : IsLeft always shared mem l ts

-- The level's text is what was gathered, and then that of the other level, which has no more nodes, goes no deeper, and whose
-- names are among the names if its own are.
pub record Gathers (c : ℕ → ℕ → Bool) (shared : List (List ℕ)) (mem : List ℕ) (names : List (List ℕ)) (l m : Level) (came : List ℕ) (ts : Trees) : Type 0 where
  pub rest : Trees
  pub left : IsLeft c shared mem m rest
  pub whole : level_text names shared l ts ≡ came ++ level_text names shared m rest
  pub fewer : nodes_of_all shared rest ≤ nodes_of_all shared ts
  pub deep : reach m rest ≤ reach l ts
  pub named : are_named (length names) ts ≡ true → are_named (length names) rest ≡ true
