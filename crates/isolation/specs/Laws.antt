-- What is true of each process of each run from the first state.
use Rattle.std.specs.Prelude.{ℕ, ◌≡◌, ◌≤◌, ◌⊎◌, Bool, true, List, [], ◌∷◌, ◌++◌, length, flat_map, codes, decimal, Some}
use Rattle.line_io.specs.Lines.{Line}
use Rattle.script_grammar.specs.Written.Written.{OfSystem}
use Rattle.script_grammar.specs.declared.refusal.Refusal.TheVariants.{Procs, NoSpace}
use Rattle.script_grammar.specs.declared.word.SysWord.TheVariants.{Spawn}
use Rattle.script_grammar.specs.Names.{Parsed}
use Rattle.plain_machine.specs.State.{State, is_live, first_state}
use Rattle.plain_machine.specs.Run.{Run, refusal_text}
use Rattle.isolation.specs.Events.{Event, TellsEvents, NoneShort, lines_of, replies_of}
use Rattle.isolation.specs.Views.{Sight, births, own_replies, view_of}
use Rattle.isolation.specs.Views.Sight.{born}
use Rattle.isolation.specs.Solo.{solo_first, solo_after, solo}

-- Where no line was answered for want of space or of names, each process's own lines are answered as its view alone says.
abbrev pub AreAlone : List Event → Type 0
AreAlone events = NoneShort events → (p : ℕ) → own_replies p events ≡ solo p (view_of p events)

-- The event is the `spawn` that is answered by this number.
pub record IsSpawnOf (p : ℕ) (e : Event) : Type 0 where
  pub said : e.said ≡ Some (OfSystem Spawn tt)
  pub replies : e.replies ≡ (codes "ok " ++ decimal p) ∷ []

-- The one reply says that processes are too many, or that there is no space.
abbrev pub TellsNoProcess : List (List ℕ) → Type 0
TellsNoProcess replies = (replies ≡ refusal_text Procs ∷ []) ⊎ ((n : ℕ) × (replies ≡ refusal_text (NoSpace n) ∷ []))

-- A process comes to live only with the `spawn` that is answered by its number, which is the next one: so no event brings two. And each
-- `spawn` is refused since processes are too many or there is no space, or is answered by the next number and brings this process to live.
pub record BirthsAreSpawns (e : Event) : Type 0 where
  pub only : (p : ℕ) → (births p e ≡ []) ⊎ ((p ≡ e.before.next) × IsSpawnOf p e)
  pub each : e.said ≡ Some (OfSystem Spawn tt) → TellsNoProcess e.replies ⊎ (IsSpawnOf e.before.next e × (births e.before.next e ≡ born ∷ []))

abbrev pub AllBirthsAreSpawns : List Event → Type 0
AllBirthsAreSpawns [] = Unit {0}
AllBirthsAreSpawns (e ∷ events) = BirthsAreSpawns e × AllBirthsAreSpawns events

-- How often the process comes to live in the events.
abbrev pub births_in : List Event → ℕ → ℕ
births_in events p = length (flat_map (births p) events)

-- No process comes to live twice, and process 1, which lives from the start, does not come to live at all.
pub record AreBornOnce (events : List Event) : Type 0 where
  pub once : (p : ℕ) → births_in events p ≤ 1
  pub first : births_in events 1 ≡ 0

-- At most this process lives in the state; and so it is before each sight of a view on its machine, and after the last.
abbrev pub AtMost : ℕ → State → Type 0
AtMost p s = (n : ℕ) → is_live n s ≡ true → n ≡ p

abbrev pub LivesAlone : ℕ → State → List Sight → Type 0
LivesAlone p s [] = AtMost p s
LivesAlone p s (x ∷ view) = AtMost p s × LivesAlone p (solo_after p s x) view

-- The run from the first state has events, with these lines and replies. In them each process is answered as on a machine
-- where at most it lives.
pub record Isolates (may : ℕ → State → Parsed → Bool) (words : ℕ) (quits : Bool) (lines : List Line) (replies : List (List ℕ)) (new : State) : Type 0 where
  pub events : List Event
  pub told : TellsEvents may words quits first_state events new
  pub lines_are : lines_of events ≡ lines
  pub replies_are : replies_of events ≡ replies
  pub spawned : AllBirthsAreSpawns events
  pub born_once : AreBornOnce events
  pub solitary : (p : ℕ) → LivesAlone p (solo_first p) (view_of p events)
  pub alone : AreAlone events

abbrev pub RunsIsolate : Type 0
RunsIsolate = (may : ℕ → State → Parsed → Bool) (words : ℕ) (quits : Bool) (lines : List Line) (replies : List (List ℕ)) (new : State)
    → Run may words quits first_state lines replies new → Isolates may words quits lines replies new

-- These are the events of some run from the first state, in which no line was answered for want of space or of names.
pub record IsAmple (events : List Event) : Type 0 where
  pub may : ℕ → State → Parsed → Bool
  pub words : ℕ
  pub quits : Bool
  pub last : State
  pub told : TellsEvents may words quits first_state events last
  pub none_short : NoneShort events

-- Two runs that give a process the same view give it the same replies.
abbrev pub SameViewsSameReplies : Type 0
SameViewsSameReplies = (events others : List Event) (p : ℕ) → IsAmple events → IsAmple others
    → view_of p events ≡ view_of p others → own_replies p events ≡ own_replies p others
