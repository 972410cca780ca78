-- The replies that a view alone determines: those of a machine on which at most the one process lives.
use Rattle.std.specs.Prelude.{ℕ, ◌==◌, if◌then◌else◌, List, [], ◌∷◌, ◌++◌}
use Rattle.script_grammar.specs.Written.{Written}
use Rattle.script_grammar.specs.Names.{parsed_of}
use Rattle.plain_machine.specs.State.{State, first_state, fresh_process, with_message}
use Rattle.plain_machine.specs.Step.{Outcome, step}
use Rattle.plain_machine.specs.Step.Outcome.{Accepted, Refused, Mapped}
use Rattle.plain_machine.specs.Run.{refusal_text}
use Rattle.isolation.specs.Named.NamedTree.{NamedTree}
use Rattle.isolation.specs.Named.Entering.{names_with, shared_with, entered}
use Rattle.isolation.specs.Views.{Sight, is_map_line}
use Rattle.isolation.specs.Views.Sight.{own, born, message, area}

-- Process 1 lives from the start, every other from its spawn.
abbrev pub solo_first : ℕ → State
solo_first p = if p == 1 then first_state else record first_state { processes = [] }

-- The tree by name stands last in the queue of the process; its names and byte lists are added where they are new.
abbrev pub with_received : ℕ → NamedTree → State → State
with_received p t s = with_message p (entered s.names s.shared t) (record s { names = names_with s.names t; shared = shared_with s.shared t })

-- What an outcome is answered; a map of the store is told apart.
abbrev pub answers_of : Outcome → List (List ℕ)
answers_of (Accepted next reply) = reply ∷ []
answers_of (Refused r) = refusal_text r ∷ []
answers_of Mapped = []

-- The state after an outcome.
abbrev pub left_by : State → Outcome → State
left_by s (Accepted next reply) = next
left_by s (Refused r) = s
left_by s Mapped = s

-- The machine's step at a line.
abbrev pub step_at : State → Written → Outcome
step_at s w = step s (parsed_of s.names w)

-- What is answered to a sight, and the state after it.
abbrev pub solo_answers : State → Sight → List (List ℕ)
solo_answers s (own w) = if is_map_line w then [] else answers_of (step_at s w)
solo_answers s _ = []

abbrev pub solo_after : ℕ → State → Sight → State
solo_after p s (own w) = left_by s (step_at s w)
solo_after p s born = record s { processes = fresh_process p ∷ [] }
solo_after p s (message t) = with_received p t s
solo_after p s (area w) = left_by s (step_at s w)

-- The replies to all sights from a state on, in order.
abbrev pub solo_from : ℕ → State → List Sight → List (List ℕ)
solo_from p s [] = []
solo_from p s (x ∷ view) = solo_answers s x ++ solo_from p (solo_after p s x) view

-- The replies that a view of a process determines.
abbrev pub solo : ℕ → List Sight → List (List ℕ)
solo p view = solo_from p (solo_first p) view
