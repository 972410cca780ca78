-- What serving a source leaves: of the machine, of what was written, and of what the source had.
use Rattle.std.specs.Prelude.{ℕ, ◌≡◌, ◌<◌, ◌≤◌, ◌⊎◌, Bool, true, false, Option, List, [], ◌∷◌, ◌++◌, length}
use Rattle.std.specs.Io.KnownBytes.{IsAtEnd}
use Rattle.line_io.specs.Faults.{Rose}
use Rattle.line_io.specs.Sink.{Grew}
use Rattle.line_io.specs.Source.{Gave}
use Rattle.line_io.specs.Lines.{Line, lines, is_too_much}
use Rattle.line_io.specs.Reader.{HasRead, IsEndOf, IsFaulted, lines_left, limits_of}
use Rattle.line_io.specs.declared.reader.Limits.{Limits}
use Rattle.line_io.specs.declared.reader.LineReader.{LineReader}
use Rattle.plain_machine.specs.May.{may_of_tight}
use Rattle.plain_machine.specs.State.{State, first_state}
use Rattle.plain_machine.specs.Run.{Run, LineStep, replies_text}
use Rattle.isolation.specs.Laws.{Isolates}
use Rattle.engine.specs.Last.{TellsLast}
use Rattle.engine.specs.Rules.{After, Rules, Input, Output}
use Rattle.engine.specs.Steps.{WritesAll}
use Rattle.engine.specs.declared.serving.Status.{Status}
use Rattle.engine.specs.declared.serving.Status.TheVariants.{Done, Usage, ReadFault, WriteFault, Memory, TooMuch}
use Rattle.engine.specs.declared.serving.Turn.{Turn}
use Rattle.engine.specs.declared.serving.Turn.TheVariants.{On, Stop}
use Rattle.engine.specs.declared.machine.Stepped.{Stepped}
use Rattle.engine.specs.declared.machine.Stepped.TheVariants.{Next, Quit, SinkFault}

-- The reader has read nothing and answered nothing.
pub record IsNew (r : LineReader) : Type 0 where
  pub fresh : (left : Option (List ℕ)) → HasRead r left [] []
  pub whole : lines_left r ≡ (limits_of r).lines
  pub no_fault : IsFaulted r → ⊥

-- How far a script was served: the bytes that were taken, and whether the input has ended after them; the lines that were
-- done, and those of the bytes that were not; the replies, the state after the last line, and whether that line ends the script.
pub record Course : Type 0 where
  pub bytes : List ℕ
  pub ended : Bool
  pub given : List Line
  pub rest : List Line
  pub replies : List (List ℕ)
  pub last : State
  pub quits : Bool

-- The lines that were done lead from the first state to the last with these replies.
abbrev pub CourseRuns : Rules → Course → Type 0
CourseRuns rules c = Run may_of_tight rules.words c.quits rules.first c.given c.replies c.last

-- Where they began at the first state, each process was alone: its own lines were answered as its view of them says.
abbrev pub AreIsolated : Rules → Course → Type 0
AreIsolated rules c = rules.first ≡ first_state → Isolates may_of_tight rules.words c.quits c.given c.replies c.last

-- The reply to the last line was not written whole; those before it were.
pub record Unwritten (rules : Rules) (c : Course) {K : Type 0} (out : Output K) : Type 0 where
  pub before : List Line
  pub line : Line
  pub earlier : List (List ℕ)
  pub final : List (List ℕ)
  pub mid : State
  pub lines_are : c.given ≡ before ++ line ∷ []
  pub replies_are : c.replies ≡ earlier ++ final
  pub run : Run may_of_tight rules.words false rules.first before earlier mid
  pub step : LineStep may_of_tight rules.words mid line c.quits final c.last
  pub part : List ℕ
  pub missing : List ℕ
  pub whole : replies_text final ≡ part ++ missing
  pub some : 0 < length missing
  pub grew : Grew out.wrote out.before out.after (replies_text earlier ++ part)

-- The script ended with the last line, or nothing is left and all lines were answered.
pub record EndsDone (limits : Limits) (left : Option (List ℕ)) (c : Course) : Type 0 where
  pub why : (c.quits ≡ true) ⊎ ((c.rest ≡ []) × (c.ended ≡ true) × IsAtEnd left × (is_too_much c.bytes limits ≡ false))

-- All lines were answered, and more came than is allowed.
pub record EndsTooMuch (limits : Limits) (c : Course) : Type 0 where
  pub all : c.rest ≡ []
  pub more : is_too_much c.bytes limits ≡ true
  pub goes_on : c.quits ≡ false

-- The lines that have their line end were answered, and reading failed before more came than is allowed.
pub record EndsUnread (limits : Limits) (c : Course) : Type 0 where
  pub whole_lines : lines c.bytes false limits ≡ c.given
  pub no_more : is_too_much c.bytes limits ≡ false
  pub goes_on : c.quits ≡ false

-- What each status says: the whole text was written but at `WriteFault`, and serving ended for this cause.
abbrev pub EndsBy : {K : Type 0} → Status → Rules → Option (List ℕ) → Course → Output K → Type 0
EndsBy Done rules left c out = WritesAll out (replies_text c.replies) × EndsDone rules.limits left c
EndsBy ReadFault rules left c out = WritesAll out (replies_text c.replies) × EndsUnread rules.limits c
EndsBy WriteFault rules left c out = Unwritten rules c out × Rose (out.faults out.before) (out.faults out.after)
EndsBy TooMuch rules left c out = WritesAll out (replies_text c.replies) × EndsTooMuch rules.limits c
EndsBy Usage rules left c out = ⊥
EndsBy Memory rules left c out = ⊥

-- A script was served: its course, which the machine's run follows, what is left of the machine, and what the status says. The
-- reply to the last command, where it is a map line, is the text of the store that is left.
pub record Served (rules : Rules) (source : Input) {K : Type 0} (out : Output K) (after : After) (status : Status) : Type 0 where
  pub course : Course
  pub took : Gave source.before source.after course.bytes
  pub told : IsEndOf course.ended source.after
  pub front : lines course.bytes course.ended rules.limits ≡ course.given ++ course.rest
  pub run : CourseRuns rules course
  pub isolated : AreIsolated rules course
  pub stands : after.stands course.last
  pub maps : TellsLast rules.words rules.first course.given course.replies course.quits after.text
  pub ends : EndsBy status rules source.after course out
  pub later : out.faults out.before ≤ out.faults out.after

-- The source's count of faults rose where the status says that reading failed, and else is as before.
abbrev pub TellsRead : Status → (before now : ℕ) → Type 0
TellsRead ReadFault before now = Rose before now
TellsRead _ before now = now ≡ before

-- The same of the sink and of writing.
abbrev pub TellsWrite : Status → (before now : ℕ) → Type 0
TellsWrite WriteFault before now = Rose before now
TellsWrite _ before now = now ≡ before

-- All lines that were read so far are done and answered, and serving goes on.
pub record Going (rules : Rules) (source : Input) {K : Type 0} (out : Output K) (reader : LineReader) (after : After) : Type 0 where
  pub bytes : List ℕ
  pub given : List Line
  pub replies : List (List ℕ)
  pub state : State
  pub took : Gave source.before source.after bytes
  pub has : HasRead reader source.after bytes given
  pub run : Run may_of_tight rules.words false rules.first given replies state
  pub stands : after.stands state
  pub maps : TellsLast rules.words rules.first given replies false after.text
  pub writes : WritesAll out (replies_text replies)

-- After a turn serving goes on, or it is over.
abbrev pub Turns : {K : Type 0} → Turn → Rules → Input → Output K → LineReader → After → Type 0
Turns On rules source out reader after = Going rules source out reader after
Turns (Stop status) rules source out reader after = Served rules source out after status

-- What a turn tells of reading.
abbrev pub TurnTellsRead : Turn → (before now : ℕ) → Type 0
TurnTellsRead On before now = now ≡ before
TurnTellsRead (Stop status) before now = TellsRead status before now

-- What a step makes of a turn.
abbrev pub turn_of : Stepped → Turn
turn_of Next = On
turn_of Quit = Stop Done
turn_of SinkFault = Stop WriteFault
