-- The last command of the lines that were done, and what it is answered where it is a map line.
use Rattle.std.specs.Prelude.{ℕ, ◌≡◌, Bool, true, false, List, [], ◌∷◌, ◌++◌}
use Rattle.line_io.specs.Lines.{Line, text, long}
use Rattle.script_grammar.specs.declared.command.Command.{Command}
use Rattle.script_grammar.specs.Names.{Parsed}
use Rattle.script_grammar.specs.ReadAs.{IsRead, IsReadAs, Reading}
use Rattle.script_grammar.specs.ReadAs.Reading.{Means, NoSyntax, NoAtoms}
use Rattle.plain_machine.specs.State.{State}
use Rattle.plain_machine.specs.Maps.{is_map}
use Rattle.plain_machine.specs.May.{may_of_tight}
use Rattle.plain_machine.specs.Step.{step}
use Rattle.plain_machine.specs.Step.Outcome.{Mapped}
use Rattle.plain_machine.specs.Run.{Run, is_nothing}

-- What a line is read as is no command.
abbrev pub is_idle : Reading → Bool
is_idle (Means p) = is_nothing p.command
is_idle NoSyntax = true
is_idle NoAtoms = true

-- The line says no command, where these names are known before it: it is too long, has none, is no line of the language, or
-- would bring too many names.
abbrev pub SaysNothing : (names : List (List ℕ)) → Line → Type 0
SaysNothing names long = Unit {0}
SaysNothing names (text line) = (r : Reading) × IsReadAs names line r × (is_idle r ≡ true)

-- None of the lines says a command.
abbrev pub AreIdle : (names : List (List ℕ)) → List Line → Type 0
AreIdle names [] = Unit {0}
AreIdle names (line ∷ lines) = SaysNothing names line × AreIdle names lines

-- The line that ends the script, where one does.
abbrev pub AreEnding : (quits : Bool) → List Line → Type 0
AreEnding true lines = (line : Line) × (lines ≡ line ∷ [])
AreEnding false lines = lines ≡ []

-- The last command of these lines, an accepted `sys quit` aside: its line and what that is read as, the lines before it with
-- the state that they lead to, and the lines after it, which say none. Its reply is the first of `others`.
pub record LastCommand (words : ℕ) (first : State) (lines : List Line) (replies : List (List ℕ)) (quits : Bool) : Type 0 where
  pub before : List Line
  pub line : List ℕ
  pub idle : List Line
  pub ending : List Line
  pub earlier : List (List ℕ)
  pub others : List (List ℕ)
  pub mid : State
  pub said : Parsed
  pub lines_are : lines ≡ before ++ text line ∷ (idle ++ ending)
  pub replies_are : replies ≡ earlier ++ others
  pub run : Run may_of_tight words false first before earlier mid
  pub reads : IsRead mid.names line said
  pub nothing : AreIdle mid.names idle
  pub ends : AreEnding quits ending

-- The first of the replies is this text.
abbrev pub BeginWith : List ℕ → List (List ℕ) → Type 0
BeginWith x replies = (later : List (List ℕ)) × (replies ≡ x ∷ later)

-- Where the last command is an accepted map line, its reply is the text of the store as it is left.
abbrev pub TellsLast : (words : ℕ) (first : State) (lines : List Line) (replies : List (List ℕ)) (quits : Bool) (store : Command → List ℕ) → Type 0
TellsLast words first lines replies quits store = (l : LastCommand words first lines replies quits)
    → is_map l.said.command ≡ true → step l.mid l.said ≡ Mapped → BeginWith (store l.said.command) l.others
