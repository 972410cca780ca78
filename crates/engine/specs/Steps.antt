-- What one line leaves: of the machine, and of the sink.
use Rattle.std.specs.Prelude.{ℕ, ◌≡◌, ◌≤◌, Bool, true, false, List}
use Rattle.line_io.specs.Faults.{Rose}
use Rattle.line_io.specs.Lines.{Line, text, long}
use Rattle.line_io.specs.Sink.{Grew, GrewInPart}
use Rattle.script_grammar.specs.Names.{Parsed}
use Rattle.script_grammar.specs.ReadAs.{IsRead}
use Rattle.plain_machine.specs.May.{may_of_tight}
use Rattle.plain_machine.specs.State.{State}
use Rattle.plain_machine.specs.Run.{LineStep, replies_text}
use Rattle.engine.specs.Acts.{TellsMap}
use Rattle.engine.specs.Rules.{After, Output}
use Rattle.engine.specs.declared.machine.Stepped.{Stepped}
use Rattle.engine.specs.declared.machine.Stepped.TheVariants.{Next, Quit, SinkFault}

-- The sink's faults are as many as before.
abbrev pub IsQuiet : {K : Type 0} → Output K → Type 0
IsQuiet out = out.faults out.after ≡ out.faults out.before

-- What was written grew by exactly the text, with no fault.
abbrev pub WritesAll : {K : Type 0} → Output K → List ℕ → Type 0
WritesAll out x = Grew out.wrote out.before out.after x × IsQuiet out

-- What was written grew by a proper front of the text, and the count of faults rose.
abbrev pub WritesPart : {K : Type 0} → Output K → List ℕ → Type 0
WritesPart out x = GrewInPart out.wrote out.before out.after x × Rose (out.faults out.before) (out.faults out.after)

-- The whole text was written, or a proper front of it at a fault.
abbrev pub StepWrites : {K : Type 0} → Output K → List ℕ → Stepped → Type 0
StepWrites out x Next = WritesAll out x
StepWrites out x Quit = WritesAll out x
StepWrites out x SinkFault = WritesPart out x

-- Where nothing failed, the answer says whether the script ends.
abbrev pub TellsQuit : Stepped → Bool → Type 0
TellsQuit Next quits = quits ≡ false
TellsQuit Quit quits = quits ≡ true
TellsQuit SinkFault quits = Unit {0}

-- The line comes to this command, where these names are known before it.
abbrev pub ComesTo : (names : List (List ℕ)) → Line → Parsed → Type 0
ComesTo names long p = ⊥
ComesTo names (text line) p = IsRead names line p

-- One line: the machine's step, the state that is stood for after it, and what was written. The reply to a map line is
-- the text of the store.
pub record Steps (words : ℕ) (s : State) (line : Line) (after : After) {K : Type 0} (out : Output K) (result : Stepped) : Type 0 where
  pub quits : Bool
  pub replies : List (List ℕ)
  pub new : State
  pub follows : LineStep may_of_tight words s line quits replies new
  pub stands : after.stands new
  pub maps : (p : Parsed) → ComesTo s.names line p → TellsMap s p after.text replies
  pub writes : StepWrites out (replies_text replies) result
  pub tells : TellsQuit result quits
  pub later : out.faults out.before ≤ out.faults out.after
