-- The state of the plain machine: processes that hold trees by value, and what they share.
use Rattle.std.specs.Prelude.{ℕ, ◌≡◌, ◌+◌, ◌==◌, Bool, false, not, List, [], ◌∷◌, ◌++◌, map, get_or, set, replicate, if◌then◌else◌, Option}
use Rattle.std.specs.List.{find, filter, list_any}
use Rattle.plain_term.specs.Tree.{Tree}
use Rattle.plain_term.specs.Tree.Tree.{Nil}
use Rattle.script_grammar.specs.declared.limits.TheConstants.{REGISTERS}

-- A live process: its number, the trees of its registers, its stack from the last pushed, its
-- queue from the first to be received, and how many references it has made.
pub record Process : Type 0 where
  pub number : ℕ
  pub registers : List Tree
  pub stack : List Tree
  pub queue : List Tree
  pub refs : ℕ

-- A literal area: the number of its name, and its literals in order.
pub record Area : Type 0 where
  pub name : ℕ
  pub literals : List Tree

-- The whole state: the live processes by rising number, the bytes of each shared binary made so far
-- (the first has id 1), the literal areas, the names by number, the number of the next process,
-- and whether nothing has changed since the last sweep.
pub record State : Type 0 where
  pub processes : List Process
  pub shared : List (List ℕ)
  pub areas : List Area
  pub names : List (List ℕ)
  pub next : ℕ
  pub swept : Bool

-- A process that was just made: nil in each register, and nothing else.
abbrev pub fresh_process : ℕ → Process
fresh_process number = record { number = number; registers = replicate REGISTERS Nil; stack = []; queue = []; refs = 0 }

-- The first state: process 1 lives.
abbrev pub first_state : State
first_state = record { processes = fresh_process 1 ∷ []; shared = []; areas = []; names = []; next = 2; swept = false }

-- The names are those of the state, with more after them.
pub record HasNames (s : State) (names : List (List ℕ)) : Type 0 where
  pub more : List (List ℕ)
  pub are : names ≡ s.names ++ more

-- The live process with this number.
abbrev pub process_of : ℕ → State → Option Process
process_of number s = find (λ p. p.number == number) s.processes

-- Whether a process with this number lives.
abbrev pub is_live : ℕ → State → Bool
is_live number s = list_any (λ p. p.number == number) s.processes

-- The live numbers, rising.
abbrev pub live_numbers : State → List ℕ
live_numbers s = map (λ p. p.number) s.processes

-- The process stands in the place of the one with its number.
abbrev pub with_process : Process → State → State
with_process p s = record s { processes = map (λ q. if q.number == p.number then p else q) s.processes }

-- The tree stands last in the queue of the process, if it has this number.
abbrev pub with_queued : ℕ → Tree → Process → Process
with_queued n t q = if q.number == n then record q { queue = q.queue ++ t ∷ [] } else q

-- The tree stands last in the queue of the live process with this number; where none lives nothing changes.
abbrev pub with_message : ℕ → Tree → State → State
with_message n t s = record s { processes = map (with_queued n t) s.processes }

-- The process with this number is gone.
abbrev pub without_process : ℕ → State → State
without_process number s = record s { processes = filter (λ p. not (p.number == number)) s.processes }

-- A new process with the next number.
abbrev pub with_spawned : State → State
with_spawned s = record s { processes = s.processes ++ fresh_process s.next ∷ []; next = s.next + 1 }

-- The literal area with this name.
abbrev pub area_with : ℕ → State → Option Area
area_with name s = find (λ (a : Area). a.name == name) s.areas

-- An area with this name stands.
abbrev pub has_area : ℕ → State → Bool
has_area name s = list_any (λ (a : Area). a.name == name) s.areas

-- The area stands last.
abbrev pub with_area : Area → State → State
with_area a s = record s { areas = s.areas ++ a ∷ [] }

-- The area with this name is gone.
abbrev pub without_area : ℕ → State → State
without_area name s = record s { areas = filter (λ (a : Area). not (a.name == name)) s.areas }

-- The tree of a register.
abbrev pub register : ℕ → Process → Tree
register r p = get_or p.registers r Nil

-- The register holds the tree.
abbrev pub with_register : ℕ → Tree → Process → Process
with_register r t p = record p { registers = set p.registers r t }
