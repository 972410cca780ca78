-- What is true of runs, whatever the spaces may refuse.
use Rattle.std.specs.Prelude.{ℕ, ◌≡◌, ◌<◌, ◌≤◌, ◌⊎◌, decimal, Bool, true, false, List, [], ◌∷◌, ◌++◌, flat_map}
use Rattle.line_io.specs.Lines.{Line, text, long}
use Rattle.plain_term.specs.Tree.{Tree}
use Rattle.plain_term.specs.Beyond.{is_beyond}
use Rattle.plain_term.specs.Proper.{is_proper}
use Rattle.script_grammar.specs.Written.{Written}
use Rattle.script_grammar.specs.Names.{Parsed, parsed_of}
use Rattle.script_grammar.specs.ReadAs.{IsRead}
use Rattle.script_grammar.specs.declared.refusal.Refusal.{Refusal}
use Rattle.script_grammar.specs.declared.refusal.Refusal.TheVariants.{NoSpace}
use Rattle.plain_machine.specs.State.{Process as Live, State, is_live, live_numbers}
use Rattle.plain_machine.specs.Tightness.{grow, living_trees}
use Rattle.plain_machine.specs.Step.{is_printing, step}
use Rattle.plain_machine.specs.Step.Outcome.{Accepted}
use Rattle.plain_machine.specs.Run.{CommandStep, LineStep, Run, refusal_text}

-- A run over two lists of lines is the two runs one after the other.
abbrev pub RunsJoin : Type 0
RunsJoin = (may : ℕ → State → Parsed → Bool) (words : ℕ) (quits : Bool) (s mid new : State) (lines more : List Line) (replies others : List (List ℕ))
    → Run may words false s lines replies mid → Run may words quits mid more others new → Run may words quits s (lines ++ more) (replies ++ others) new

-- A line that is answered by the text of a refusal, whatever its cause, leaves the whole state, and the script goes on.
abbrev pub RefusalsLeave : Type 0
RefusalsLeave = (may : ℕ → State → Parsed → Bool) (words : ℕ) (s new : State) (line : Line) (r : Refusal) (quits : Bool)
    → LineStep may words s line quits (refusal_text r ∷ []) new → (new ≡ s) × (quits ≡ false)

-- A command that is answered that there is no space for n words: that may be, and it asks for n, if n is written as its number
-- is; or the machine itself accepts it and tells this very text, as where a name that is printed reads so.
abbrev pub IsLacking : (may : ℕ → State → Parsed → Bool) (words : ℕ) (s : State) (p : Parsed) (n : ℕ) → Type 0
IsLacking may words s p n = ((may words s p ≡ true) × (decimal n ≡ decimal (grow s p))) ⊎ (step s p ≡ Accepted s (refusal_text (NoSpace n)))

-- A line that is answered so says such a command.
pub record SaysLacking (may : ℕ → State → Parsed → Bool) (words : ℕ) (s : State) (line : List ℕ) (n : ℕ) : Type 0 where
  pub said : Parsed
  pub reads : IsRead s.names line said
  pub lacks : IsLacking may words s said n

-- No other line is: none that is too long, that says no command, or that brings too many names.
abbrev pub OnlyLacking : (may : ℕ → State → Parsed → Bool) (words : ℕ) (s : State) → Line → (n : ℕ) → Type 0
OnlyLacking may words s long n = ⊥
OnlyLacking may words s (text line) n = SaysLacking may words s line n

-- A line is answered that there is no space only where that may be.
abbrev pub LacksOnlyWhereMay : Type 0
LacksOnlyWhereMay = (may : ℕ → State → Parsed → Bool) (words : ℕ) (s new : State) (line : Line) (n : ℕ) (quits : Bool)
    → LineStep may words s line quits (refusal_text (NoSpace n) ∷ []) new → OnlyLacking may words s line n

-- So a line that says a command for which it may not be is never refused so: where it is answered by this text, the machine tells it.
abbrev pub NeverElse : Type 0
NeverElse = (may : ℕ → State → Parsed → Bool) (words : ℕ) (s new : State) (line : List ℕ) (p : Parsed) (n : ℕ) (quits : Bool)
    → IsRead s.names line p → may words s p ≡ false → LineStep may words s (text line) quits (refusal_text (NoSpace n) ∷ []) new
    → step s p ≡ Accepted s (refusal_text (NoSpace n))

-- The numbers rise from above a number on, and all stand below the next one.
abbrev pub AreNumbered : (low : ℕ) → List ℕ → (next : ℕ) → Type 0
AreNumbered low [] next = low < next
AreNumbered low (n ∷ ns) next = (low < n) × AreNumbered n ns next

-- The live processes stand by rising number, and the next number was given to none of them.
pub record IsNumbered (s : State) : Type 0 where
  pub numbered : AreNumbered 0 (live_numbers s) s.next

-- What a run leaves of the numbers: they stay so, the next number never falls, and a number that lives after the run
-- and not before it is one of those between: none is given twice.
pub record AreFresh (s new : State) : Type 0 where
  pub numbered : IsNumbered new
  pub rises : s.next ≤ new.next
  pub fresh : (n : ℕ) → is_live n new ≡ true → is_live n s ≡ false → (s.next ≤ n) × (n < new.next)

-- In each run from a state whose numbers rise, a line alone among them.
abbrev pub NumbersAreFresh : Type 0
NumbersAreFresh = (may : ℕ → State → Parsed → Bool) (words : ℕ) (quits : Bool) (s new : State) (lines : List Line) (replies : List (List ℕ))
    → IsNumbered s → Run may words quits s lines replies new → AreFresh s new

-- Each tree of a list is proper.
abbrev pub AreProper : (names shared : List (List ℕ)) → List Tree → Type 0
AreProper names shared [] = Unit {0}
AreProper names shared (t ∷ ts) = (is_proper names shared t ≡ true) × AreProper names shared ts

-- Each tree of a list is within the walk limit.
abbrev pub AreWithin : (shared : List (List ℕ)) → List Tree → Type 0
AreWithin shared [] = Unit {0}
AreWithin shared (t ∷ ts) = (is_beyond shared t ≡ false) × AreWithin shared ts

-- All trees that wait in queues, process by process.
abbrev pub queued_trees : State → List Tree
queued_trees s = flat_map (λ (q : Live). q.queue) s.processes

-- All trees that live are proper: those of registers, stacks, queues and literal areas. Those of queues are within the walk limit.
pub record HoldsProper (s : State) : Type 0 where
  pub proper : AreProper s.names s.shared (living_trees s)
  pub within : AreWithin s.shared (queued_trees s)

-- In each run from such a state all trees that live stay proper.
abbrev pub TreesStayProper : Type 0
TreesStayProper = (may : ℕ → State → Parsed → Bool) (words : ℕ) (quits : Bool) (s new : State) (lines : List Line) (replies : List (List ℕ))
    → HoldsProper s → Run may words quits s lines replies new → HoldsProper new

-- What is true of a line that prints: it brings no name, asks for no word, and leaves the state, whatever it is answered.
pub record OnlyPrints (s : State) (p : Parsed) : Type 0 where
  pub names : p.names ≡ s.names
  pub words : grow s p ≡ 0
  pub leaves : (may : ℕ → State → Parsed → Bool) (words : ℕ) (quits : Bool) (replies : List (List ℕ)) (new : State)
      → CommandStep may words s p quits replies new → new ≡ s

-- Each line that prints, built or not, in every state.
abbrev pub PrintingLeaves : Type 0
PrintingLeaves = (s : State) (w : Written) → is_printing (parsed_of s.names w).command ≡ true → OnlyPrints s (parsed_of s.names w)

-- Lines and their replies determine the state after them, whichever of them found no space.
abbrev pub RepliesDetermine : Type 0
RepliesDetermine = (may : ℕ → State → Parsed → Bool) (words : ℕ) (quits ends : Bool) (s new other : State) (lines : List Line) (replies : List (List ℕ))
    → Run may words quits s lines replies new → Run may words ends s lines replies other → new ≡ other
