-- What a line is read as, where names are known before it.
use Rattle.std.specs.Prelude.{ℕ, ◌≡◌, ◌<◌, ◌≤◌, List, length}
use Rattle.atom_names.specs.Names.{most_names}
use Rattle.script_grammar.specs.Written.{Written}
use Rattle.script_grammar.specs.Grammar.{Says, IsBuilt}
use Rattle.script_grammar.specs.Names.{Parsed, names_after, parsed_of}

-- The line says a built command, which with these names known before it comes to p.
pub record IsRead (names : List (List ℕ)) (line : List ℕ) (p : Parsed) : Type 0 where
  pub written : Written
  pub says : Says line written
  pub built : IsBuilt written
  pub is : p ≡ parsed_of names written
  pub few : length p.names ≤ most_names

-- The line says no built command.
abbrev pub SaysNoCommand : List ℕ → Type 0
SaysNoCommand line = (w : Written) → Says line w → IsBuilt w → ⊥

-- The line says a built command that would bring too many names.
pub record BringsTooMany (names : List (List ℕ)) (line : List ℕ) : Type 0 where
  pub written : Written
  pub says : Says line written
  pub built : IsBuilt written
  pub many : most_names < length (names_after names written)

-- What a line is read as: a command, or nothing that may be done.
pub data Reading : Type 0 where
  Means : Parsed → Reading
  NoSyntax : Reading
  NoAtoms : Reading

-- The line is read so, where these names are known before it.
abbrev pub IsReadAs : List (List ℕ) → List ℕ → Reading → Type 0
IsReadAs names line (Means p) = IsRead names line p
IsReadAs names line NoSyntax = SaysNoCommand line
IsReadAs names line NoAtoms = BringsTooMany names line
