-- What each kind of reply writes.
use Rattle.std.specs.Prelude.{ℕ, ◌≤◌, Bool, true, false, List, [], ◌∷◌, ◌++◌, codes, decimal, length, Result, Ok, Err}
use Rattle.script_grammar.specs.declared.command.Command.{Command}
use Rattle.script_grammar.specs.declared.command.Command.TheVariants.{Process, System}
use Rattle.script_grammar.specs.declared.command.Verb.{Verb}
use Rattle.script_grammar.specs.declared.command.Verb.TheVariants.{Print, Flat, Queue}
use Rattle.script_grammar.specs.declared.command.SysVerb.TheVariants.{Counts}
use Rattle.script_grammar.specs.declared.refusal.Refusal.{Refusal}
use Rattle.script_grammar.specs.Written.Terms.{end}
use Rattle.script_grammar.specs.Names.{HasRegisters}
use Rattle.plain_machine.specs.State.{State}
use Rattle.plain_machine.specs.Step.{Outcome, step, procs_text}
use Rattle.plain_machine.specs.Step.Outcome.{Accepted, Refused as IsRefused, Mapped}
use Rattle.plain_machine.specs.Maps.{IsMapOf}
use Rattle.plain_machine.specs.Run.{refusal_text}
use Rattle.space_api.specs.declared.space.Seat.{Seat}
use Rattle.space_api.specs.Calls.{said}
use Rattle.engine.specs.declared.reply.MapLine.{MapLine}
use Rattle.engine.specs.declared.reply.MapLine.TheVariants.{Counts as counts}
use Rattle.engine.specs.declared.reply.Telling.{Telling}
use Rattle.engine.specs.declared.reply.Telling.TheVariants.{Text, Compared, Flat as TellsFlat, Queue as TellsQueue}
use Rattle.engine.specs.Writing.{compares}
use Rattle.engine.specs.declared.reply.Reply.{Reply}
use Rattle.engine.specs.declared.reply.Reply.TheVariants.{Nothing, Done, Spawned, Numbers, Map, Told, Quit, Refused}

-- The command of a map line.
abbrev pub map_command : MapLine → Command
map_command counts = System Counts

-- The verb that tells it.
abbrev pub telling_verb : Telling → Verb
telling_verb (Text r) = Print r
telling_verb (Compared asked a b) = compares asked a b
telling_verb (TellsFlat r) = Flat r
telling_verb TellsQueue = Queue

-- What replies are read from: a state, the names, and the text of the store for each map line.
pub record Shown : Type 0 where
  pub state : State
  pub names : List (List ℕ)
  pub text : Command → List ℕ

-- The reply that an outcome has of itself: one for a map of the store has none.
abbrev pub outcome_text : Outcome → List ℕ
outcome_text (Accepted next reply) = reply
outcome_text (IsRefused r) = refusal_text r
outcome_text Mapped = []

-- The lines of a reply.
abbrev pub reply_lines : Reply → Shown → List (List ℕ)
reply_lines Nothing x = []
reply_lines Done x = codes "ok" ∷ []
reply_lines (Spawned n) x = (codes "ok " ++ decimal n) ∷ []
reply_lines Numbers x = procs_text x.state ∷ []
reply_lines (Map line) x = x.text (map_command line) ∷ []
reply_lines (Told seat telling) x = outcome_text (step x.state (said (Process seat.pid (telling_verb telling)) end x.names)) ∷ []
reply_lines Quit x = codes "ok" ∷ []
reply_lines (Refused e) x = refusal_text e ∷ []

-- The reply is made without a look at the space.
abbrev pub is_plain : Reply → Bool
is_plain Numbers = false
is_plain (Map line) = false
is_plain (Told seat telling) = false
is_plain _ = true

-- A map of the store is one that its line may be answered by.
abbrev pub AllowsMap : Reply → Shown → Type 0
AllowsMap (Map line) x = IsMapOf (map_command line) x.state (x.text (map_command line))
AllowsMap _ x = Unit {0}

-- A process of which something is told is seated and has the registers, and there are names for all atoms that are written.
abbrev pub CanReply : {S : Type 0} → (sits : S → Seat → Type 0) (named : S → ℕ) (space : S) (names : List (List ℕ)) → Reply → Type 0
CanReply sits named space names (Told seat telling) = sits space seat × HasRegisters (telling_verb telling) × (named space ≤ length names)
CanReply sits named space names (Map line) = named space ≤ length names
CanReply sits named space names _ = Unit {0}

-- The reply to a call's answer: a value is said in its way, a refusal is one.
abbrev pub reply_of : {A : Type 0} → (say : A → Reply) → Result A Refusal → Reply
reply_of say (Ok a) = say a
reply_of say (Err e) = Refused e

-- The script ends with this reply.
abbrev pub ends_script : Reply → Bool
ends_script Quit = true
ends_script _ = false
