-- What one process sees of a run.
use Rattle.std.specs.Prelude.{ℕ, ◌==◌, Bool, true, false, ◌&&◌, not, if◌then◌else◌, List, [], ◌∷◌, ◌++◌, length, map, flat_map, drop, codes, Option, Some, None}
use Rattle.std.specs.Str.{bytes_eq}
use Rattle.plain_term.specs.Tree.{Tree}
use Rattle.script_grammar.specs.declared.word.Word.TheVariants.{Info, Heap}
use Rattle.script_grammar.specs.declared.word.SysWord.TheVariants.{Load, Purge, Counts, Dump}
use Rattle.script_grammar.specs.Written.{Written}
use Rattle.script_grammar.specs.Written.Written.{OfProcess, OfSystem}
use Rattle.plain_machine.specs.State.{Process, State, process_of, is_live}
use Rattle.isolation.specs.Named.NamedTree.{NamedTree, as_named}
use Rattle.isolation.specs.Events.{Event}

-- What a process may see: a line of its own, that it comes to live, a tree by name that another process puts into its queue,
-- a line that makes a literal area or takes one away.
pub data Sight : Type 0 where
  own : Written → Sight
  born : Sight
  message : NamedTree → Sight
  area : Written → Sight

-- The line is read as a command of this process.
abbrev pub is_own : ℕ → Option Written → Bool
is_own p (Some (OfProcess n w ops)) = n == p
is_own p _ = false

abbrev pub own_line : Option Written → List Sight
own_line (Some w) = own w ∷ []
own_line None = []

-- The process comes to live with this event: then the event is the `spawn` that is answered by its number.
abbrev pub births : ℕ → Event → List Sight
births p e = if not (is_live p e.before) && is_live p e.after then born ∷ [] else []

-- The queue of a process; where it does not live, there is nothing in it.
abbrev pub queue_in : Option Process → List Tree
queue_in None = []
queue_in (Some q) = q.queue

abbrev pub queue_of : ℕ → State → List Tree
queue_of p s = queue_in (process_of p s)

-- The trees by name that stand behind those that were in the queue before the event.
abbrev pub messages : ℕ → Event → List Sight
messages p e = map (λ t. message (as_named e.after.names e.after.shared t)) (drop (length (queue_of p e.before)) (queue_of p e.after))

-- The lines of literal areas.
abbrev pub is_area_line : Written → Bool
is_area_line (OfSystem Load ops) = true
is_area_line (OfSystem Purge ops) = true
is_area_line _ = false

-- The line is answered by `ok` alone, which says that it is accepted.
abbrev pub is_accepted : List (List ℕ) → Bool
is_accepted (reply ∷ []) = bytes_eq reply (codes "ok")
is_accepted _ = false

-- The line itself, where it is an accepted one of literal areas.
abbrev pub areas : Option Written → List (List ℕ) → List Sight
areas (Some w) replies = if is_area_line w && is_accepted replies then area w ∷ [] else []
areas None replies = []

-- What a process sees of an event: its own line, or what the event brings it.
abbrev pub sights : ℕ → Event → List Sight
sights p e = if is_own p e.said then own_line e.said else (births p e ++ (messages p e ++ areas e.said e.replies))

-- The view of a process: what it sees of all events, in order.
abbrev pub view_of : ℕ → List Event → List Sight
view_of p events = flat_map (sights p) events

-- The lines that are answered by a map of the store.
abbrev pub is_map_line : Written → Bool
is_map_line (OfProcess n Info ops) = true
is_map_line (OfProcess n Heap ops) = true
is_map_line (OfSystem Counts ops) = true
is_map_line (OfSystem Dump ops) = true
is_map_line _ = false

abbrev pub shows_map : Option Written → Bool
shows_map (Some w) = is_map_line w
shows_map None = false

-- The replies to the process's own lines, in order, map lines aside.
abbrev pub own_answers : ℕ → Event → List (List ℕ)
own_answers p e = if is_own p e.said && not (shows_map e.said) then e.replies else []

abbrev pub own_replies : ℕ → List Event → List (List ℕ)
own_replies p events = flat_map (own_answers p) events
