-- The events of a run: what each line says and is answered, and the states before and after it.
use Rattle.std.specs.Prelude.{ℕ, ◌≡◌, ◌≤◌, ◌⊎◌, Bool, true, false, MatchBool, List, [], ◌∷◌, length, map, flat_map, Option, Some, None}
use Rattle.atom_names.specs.Names.{most_names}
use Rattle.line_io.specs.Lines.{Line, text, long}
use Rattle.script_grammar.specs.declared.refusal.Refusal.TheVariants.{NoSpace, Atoms, Syntax, Long}
use Rattle.script_grammar.specs.Written.{Written}
use Rattle.script_grammar.specs.Grammar.{Says, IsBuilt}
use Rattle.script_grammar.specs.Names.{Parsed, names_after, parsed_of}
use Rattle.script_grammar.specs.ReadAs.{SaysNoCommand, BringsTooMany}
use Rattle.plain_machine.specs.State.{State}
use Rattle.plain_machine.specs.Run.{CommandStep, Refuses, refusal_text}

-- One line of a run: what it says where it is a command that may be done, its replies, and the states before and after it.
-- A line that is too long, not in the grammar, or brings too many names says nothing that may be done.
pub record Event : Type 0 where
  pub line : Line
  pub said : Option Written
  pub before : State
  pub replies : List (List ℕ)
  pub after : State

-- The line says this built command, which brings not too many names, and the machine does it.
pub record SaysAndDoes (may : ℕ → State → Parsed → Bool) (words : ℕ) (quits : Bool) (e : Event) (line : List ℕ) (w : Written) : Type 0 where
  pub says : Says line w
  pub built : IsBuilt w
  pub few : length (names_after e.before.names w) ≤ most_names
  pub step : CommandStep may words e.before (parsed_of e.before.names w) quits e.replies e.after

-- The line says no built command, or one that would bring too many names, and is refused.
abbrev pub IsRefused : (quits : Bool) (e : Event) (line : List ℕ) → Type 0
IsRefused quits e line = (SaysNoCommand line × Refuses Syntax e.before quits e.replies e.after)
    ⊎ (BringsTooMany e.before.names line × Refuses Atoms e.before quits e.replies e.after)

-- What a line is answered that says this, or nothing that may be done.
abbrev pub IsAnswered : (may : ℕ → State → Parsed → Bool) (words : ℕ) (quits : Bool) (e : Event) → Line → Option Written → Type 0
IsAnswered may words quits e (text line) (Some w) = SaysAndDoes may words quits e line w
IsAnswered may words quits e (text line) None = IsRefused quits e line
IsAnswered may words quits e long (Some w) = ⊥
IsAnswered may words quits e long None = Refuses Long e.before quits e.replies e.after

-- The event is one of the machine. `quits` says whether the script ends with it.
abbrev pub IsEvent : (may : ℕ → State → Parsed → Bool) (words : ℕ) (quits : Bool) → Event → Type 0
IsEvent may words quits e = IsAnswered may words quits e e.line e.said

-- Events of the machine in order, each at the state that the one before leaves. No event follows one that ends the script.
unfoldable pub TellsEvents : (may : ℕ → State → Parsed → Bool) (words : ℕ) (quits : Bool) (s : State) → List Event → (new : State) → Type 0
TellsEvents may words quits s [] new = (quits ≡ false) × (new ≡ s)
TellsEvents may words quits s (e ∷ events) new = (ends : Bool) × (e.before ≡ s) × IsEvent may words ends e
    × MatchBool ends ((quits ≡ true) × (events ≡ []) × (new ≡ e.after)) (TellsEvents may words quits e.after events new)

-- The lines and the replies of events, in order.
abbrev pub lines_of : List Event → List Line
lines_of events = map (λ e. e.line) events

abbrev pub replies_of : List Event → List (List ℕ)
replies_of events = flat_map (λ e. e.replies) events

-- The reply says that there is no space, or that names are too many.
abbrev pub TellsNoRoom : List (List ℕ) → Type 0
TellsNoRoom replies = (replies ≡ refusal_text Atoms ∷ []) ⊎ ((n : ℕ) × (replies ≡ refusal_text (NoSpace n) ∷ []))

-- No line was answered so.
abbrev pub NoneShort : List Event → Type 0
NoneShort [] = Unit {0}
NoneShort (e ∷ events) = (TellsNoRoom e.replies → ⊥) × NoneShort events
