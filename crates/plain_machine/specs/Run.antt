-- What a whole script is answered: each line by what it says, the steps of the machine in order.
use Rattle.std.specs.Prelude.{ℕ, ◌≡◌, ◌⊎◌, Bool, true, false, MatchBool, List, [], ◌∷◌, ◌++◌, codes, decimal}
use Rattle.line_io.specs.Lines.{Line, text, long}
use Rattle.script_grammar.specs.declared.command.Command.{Command}
use Rattle.script_grammar.specs.declared.command.Command.TheVariants.{Nothing, System}
use Rattle.script_grammar.specs.declared.command.SysVerb.TheVariants.{Quit}
use Rattle.script_grammar.specs.declared.refusal.Refusal.{Refusal}
use Rattle.script_grammar.specs.declared.refusal.Refusal.TheVariants.{NoProc, BadArg, Empty, Big, NoSpace, NoArea}
use Rattle.script_grammar.specs.declared.refusal.Refusal.TheVariants.{AreaThere, MapSize, Procs, Atoms, Syntax, Long}
use Rattle.script_grammar.specs.Names.{Parsed}
use Rattle.script_grammar.specs.ReadAs.{Reading, IsReadAs}
use Rattle.script_grammar.specs.ReadAs.Reading.{Means, NoSyntax, NoAtoms}
use Rattle.plain_machine.specs.State.{State}
use Rattle.plain_machine.specs.Tightness.{grow}
use Rattle.plain_machine.specs.Step.{Outcome, step}
use Rattle.plain_machine.specs.Step.Outcome.{Accepted, Refused, Mapped}
use Rattle.plain_machine.specs.Maps.{is_map, IsMapOf}

-- The table of the refusals: what each is answered by.
abbrev pub refusal_text : Refusal → List ℕ
refusal_text NoProc = codes "error noproc"
refusal_text BadArg = codes "error badarg"
refusal_text Empty = codes "error empty"
refusal_text Big = codes "error big"
refusal_text (NoSpace n) = codes "error nospace " ++ decimal n
refusal_text NoArea = codes "error noarea"
refusal_text AreaThere = codes "error areathere"
refusal_text MapSize = codes "error mapsize"
refusal_text Procs = codes "error procs"
refusal_text Atoms = codes "error atoms"
refusal_text Syntax = codes "error syntax"
refusal_text Long = codes "error long"

-- An accepted command of this kind ends the script.
abbrev pub is_quit : Command → Bool
is_quit (System Quit) = true
is_quit _ = false

-- A line without a command has this command.
abbrev pub is_nothing : Command → Bool
is_nothing Nothing = true
is_nothing _ = false

-- The line has one reply, leaves the state, and the script goes on.
pub record Refuses (r : Refusal) (s : State) (quits : Bool) (replies : List (List ℕ)) (new : State) : Type 0 where
  pub goes_on : quits ≡ false
  pub said : replies ≡ refusal_text r ∷ []
  pub same : new ≡ s

-- The line has no reply and leaves the state.
pub record Skips (s : State) (quits : Bool) (replies : List (List ℕ)) (new : State) : Type 0 where
  pub goes_on : quits ≡ false
  pub said : replies ≡ []
  pub same : new ≡ s

-- The command is accepted with this state and this reply.
pub record Accepts (next : State) (reply : List ℕ) (c : Command)
    (quits : Bool) (replies : List (List ℕ)) (new : State) : Type 0 where
  pub ends : quits ≡ is_quit c
  pub said : replies ≡ reply ∷ []
  pub is : new ≡ next

-- The command is answered by a map of the store, the state stays, and the script goes on.
pub record Maps (c : Command) (s : State) (quits : Bool) (replies : List (List ℕ)) (new : State) : Type 0 where
  pub goes_on : quits ≡ false
  pub map : List ℕ
  pub allowed : IsMapOf c s map
  pub said : replies ≡ map ∷ []
  pub same : new ≡ s

-- The reply and the state are those of the machine's step.
abbrev pub Gives : Outcome → State → Command → (quits : Bool) (replies : List (List ℕ)) (new : State) → Type 0
Gives (Accepted next reply) s c quits replies new = Accepts next reply c quits replies new
Gives (Refused r) s c quits replies new = Refuses r s quits replies new
Gives Mapped s c quits replies new = Maps c s quits replies new

-- The line is answered that there is no space, where that may be. A map line never is.
pub record LacksSpace (may : ℕ → State → Parsed → Bool) (words : ℕ) (s : State) (p : Parsed)
    (quits : Bool) (replies : List (List ℕ)) (new : State) : Type 0 where
  pub allowed : may words s p ≡ true
  pub no_map : is_map p.command ≡ false
  pub refuses : Refuses (NoSpace (grow s p)) s quits replies new

-- A parsed line: nothing, or the machine's step, which may be a map of the store, or no space.
abbrev pub CommandStep : (may : ℕ → State → Parsed → Bool) (words : ℕ) (s : State) (p : Parsed) (quits : Bool) (replies : List (List ℕ)) (new : State) → Type 0
CommandStep may words s p quits replies new = MatchBool (is_nothing p.command)
    (Skips s quits replies new)
    (Gives (step s p) s p.command quits replies new ⊎ LacksSpace may words s p quits replies new)

-- What follows from what a line is read as.
abbrev pub ReadingStep : (may : ℕ → State → Parsed → Bool) (words : ℕ) (s : State) → Reading → (quits : Bool) (replies : List (List ℕ)) (new : State) → Type 0
ReadingStep may words s (Means p) quits replies new = CommandStep may words s p quits replies new
ReadingStep may words s NoSyntax quits replies new = Refuses Syntax s quits replies new
ReadingStep may words s NoAtoms quits replies new = Refuses Atoms s quits replies new

-- A text is read and answered by its reading.
pub record TextStep (may : ℕ → State → Parsed → Bool) (words : ℕ) (s : State) (line : List ℕ) (quits : Bool) (replies : List (List ℕ))
    (new : State) : Type 0 where
  pub reading : Reading
  pub reads : IsReadAs s.names line reading
  pub follows : ReadingStep may words s reading quits replies new

-- One line: its replies, the state after it, and whether the script ends with it.
abbrev pub LineStep : (may : ℕ → State → Parsed → Bool) (words : ℕ) (s : State) → Line → (quits : Bool) (replies : List (List ℕ)) (new : State) → Type 0
LineStep may words s long quits replies new = Refuses Long s quits replies new
LineStep may words s (text line) quits replies new = TextStep may words s line quits replies new

-- Lines in order. `quits` says whether the last of them ends the script; no line follows one that does.
unfoldable pub Run : (may : ℕ → State → Parsed → Bool) (words : ℕ) (quits : Bool) (s : State) → List Line → (replies : List (List ℕ)) (new : State) → Type 0
Run may words quits s [] replies new = (quits ≡ false) × (replies ≡ []) × (new ≡ s)
Run may words quits s (line ∷ lines) replies new = (ends : Bool) × (first others : List (List ℕ)) × (mid : State)
    × LineStep may words s line ends first mid × (replies ≡ first ++ others)
    × MatchBool ends ((quits ≡ true) × (lines ≡ []) × (others ≡ []) × (new ≡ mid)) (Run may words quits mid lines others new)

-- The text of replies: each is followed by byte 10.
abbrev pub replies_text : List (List ℕ) → List ℕ
replies_text [] = []
replies_text (reply ∷ replies) = reply ++ (10 ∷ replies_text replies)
