-- What the whole program promises: the store that a run leaves, and what a run was.
use Rattle.std.specs.Prelude.{ℕ, ◌≡◌, ◌⊎◌, List, [], Option, Some, None, MatchOption}
use Rattle.script_grammar.specs.declared.command.Command.{Command}
use Rattle.script_grammar.specs.declared.command.Command.TheVariants.{System}
use Rattle.script_grammar.specs.declared.command.SysVerb.TheVariants.{Counts}
use Rattle.plain_machine.specs.State.{State, first_state}
use Rattle.store_image.specs.Image.{ImageStands}
use Rattle.store_image.specs.Counting.{image_counts}
use Rattle.space_api.specs.Calls.{Properly}
use Rattle.engine.specs.Acts.{StandsWith}
use Rattle.engine.specs.Rules.{After, Rules, Input, Output}
use Rattle.engine.specs.Serving.{Served}
use Rattle.engine.specs.declared.serving.Status.{Status}
use Rattle.engine.specs.declared.serving.Status.TheVariants.{Done, Usage, ReadFault, WriteFault, Memory, TooMuch}
use Rattle.process_verbs.specs.Listing.{command_text, image}
use Rattle.one_space.specs.Heap.{one_meaning}
use Rattle.one_space.specs.Space.{OneStands}
use Rattle.command_line.specs.declared.options.Options.{Options}
use Rattle.command_line.specs.declared.options.Refusal.{Refusal}
use Rattle.command_line.specs.declared.options.Refusal.TheVariants as refusal
use Rattle.machine_run.specs.Made.{Made}
use Rattle.machine_run.specs.declared.serving.TheConstants.{LIMITS}
use Rattle.machine_run.specs.declared.store.Store.{Store}
use Rattle.machine_run.specs.declared.store.Store.TheVariants.{Vacant, One}

-- The machine in the store stands for the state, names and all, and so does its image, over an arena of so many words; its text of
-- `counts` is that of the image. A vacant store stands for none.
abbrev pub StoreStands : (words : ℕ) → Store → State → Type 0
StoreStands words Vacant s = ⊥
StoreStands words (One m) s = StandsWith (Properly (OneStands m.space)) m.names s × ImageStands (image one_meaning m.space) s
    × ((image one_meaning m.space).words ≡ words)
    × (command_text one_meaning m.space m.names (System Counts) ≡ image_counts m.names (image one_meaning m.space))

-- The text of the store for each map line, which is that of the machine in it; a vacant store has none.
abbrev pub store_text : Store → Command → List ℕ
store_text Vacant c = []
store_text (One m) c = command_text one_meaning m.space m.names c

-- What a run leaves in the store.
abbrev pub left_in : (words : ℕ) → Store → After
left_in words store = record { stands = StoreStands words store; text = store_text store }

-- The first where a script was begun, the second where the run ended before its first line.
abbrev pub IfBegun : Status → (begun unopened : Type 0) → Type 0
IfBegun Done P Q = P
IfBegun Usage P Q = Q
IfBegun ReadFault P Q = P
IfBegun WriteFault P Q = P
IfBegun Memory P Q = Q
IfBegun TooMuch P Q = P

-- What a script is served by over an arena of so many words: from the first state on, to the limits of scripts.
abbrev pub rules_of : (words : ℕ) → Rules
rules_of words = record { words = words; first = first_state; limits = LIMITS }

-- A run by these options: the script that is read was served; or, where a number is asked for, nothing was read, and the
-- script of the number was made and done.
abbrev pub RunBy : {K : Type 0} → Options → (unread : Type 0) → Input → Output K → Store → Status → Type 0
RunBy o unread source out store status = MatchOption o.made_from
    (Served (rules_of o.arena) source out (left_in o.arena store) status)
    (λ n. unread × Made o.arena n out (StoreStands o.arena store) status)

-- A run by what the words ask for. Where they ask for nothing, none begins.
abbrev pub Ran : {K : Type 0} → Option Options → (unread : Type 0) → Input → Output K → Store → Status → Type 0
Ran None unread source out store status = ⊥
Ran (Some o) unread source out store status = RunBy o unread source out store status

-- The status of a run whose options could not be had.
abbrev pub refused_by : Refusal → Status
refused_by refusal.Usage = Usage
refused_by refusal.Memory = Memory

-- A script that was begun is served to its end, or to the end of what is allowed, where neither
-- reading nor writing failed.
abbrev pub IsComplete : Status → (read_failed write_failed : Type 0) → Type 0
IsComplete status read_failed write_failed = (read_failed → ⊥) → (write_failed → ⊥) → (status ≡ Usage → ⊥) → (status ≡ Memory → ⊥)
    → (status ≡ Done) ⊎ (status ≡ TooMuch)
