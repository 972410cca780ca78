-- What is promised of a parse.
use Rattle.std.specs.Prelude.{ℕ, ◌≡◌, ◌≤◌, List, length}
use Rattle.atom_names.specs.Names.{most_names}
use Rattle.plain_term.specs.declared.item.Item.{Item}
use Rattle.script_grammar.specs.declared.command.Command.{Command}
use Rattle.script_grammar.specs.Written.{Written}
use Rattle.script_grammar.specs.Grammar.{Says, IsBuilt}
use Rattle.script_grammar.specs.Names.{parsed_of, terms_of, all_items}

-- A line was read as a command: it says it, the verb and the forms are built, the command and the
-- names are its own, the items are those of its terms, and the names are not too many.
pub record ReadsLine (line : List ℕ) (names : List (List ℕ)) (c : Command) (after : List (List ℕ)) (code : List Item) (w : Written) : Type 0 where
  pub says : Says line w
  pub built : IsBuilt w
  pub parsed : parsed_of names w ≡ record { command = c; terms = terms_of w; names = after }
  pub items : code ≡ all_items after (terms_of w)
  pub fits : length after ≤ most_names
