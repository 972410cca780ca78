-- What a memory of processes means.
use Rattle.std.specs.Prelude.{◌≡◌, ℕ, ◌<◌, ◌^◌, Bool, List, length, map, get_or}
use Rattle.plain_term.specs.Tree.{Tree}
use Rattle.plain_machine.specs.State.{Process, fresh_process}
use Rattle.script_grammar.specs.declared.command.Depth.{Depth}
use Rattle.term_order.specs.Held.{HoldTrees, HoldsTree}
use Rattle.store_image.specs.Image.{Image}
use Rattle.heaps_api.specs.declared.wanted.Want.{Want}
use Rattle.heaps_api.specs.declared.waiting.Waiting.{Waiting}

-- The meaning of a memory: what it stands for, what can be said of its words, and what its calls did, each in the memory's own words.
pub record Meaning (H : Type 0) : Type 1 where
  -- It stands for these processes, in the order of its rows, over these shared binaries; all names are below the number.
  pub stands : (named : ℕ) → H → (shared : List (List ℕ)) → List Process → Type 0
  -- The test of roles by which the words of the process with this row are read.
  pub test : (named : ℕ) (h : H) (shared : List (List ℕ)) (qs : List Process) → stands named h shared qs → (row : ℕ) → ℕ → ℕ → Bool
  -- Its words.
  pub mem : H → List ℕ
  -- The numbers of its rows.
  pub numbers : H → List ℕ
  -- It is laid out, its tables are large enough, and its counters are at most this.
  pub whole : (count : ℕ) → H → Type 0
  -- The objects that its records count are those that its processes reach.
  pub tidy : H → Type 0
  -- It has the words that are wanted.
  pub has_room : Want → H → Type 0
  -- Looking for what is wanted did this, and this was the answer.
  pub looked : Want → (old new : H) → Bool → Type 0
  -- No more was taken than what is wanted.
  pub took : Want → (old new : H) → Type 0
  -- What a call began that was refused later is as before.
  pub gave_back : (old new : H) → Type 0
  -- No word was taken, written or given back.
  pub idle : (old new : H) → Type 0
  -- The first message of the process with this row was taken, or there is none.
  pub received : (row : ℕ) → (old new : H) → Type 0
  -- The process with this row was ended, and its words given back.
  pub ended : (row : ℕ) → (old new : H) → Type 0
  -- The process with this row was collected to this depth, as a line asks.
  pub collected : (row : ℕ) → Depth → (old new : H) → Type 0
  -- Every process was collected, as a line asks.
  pub swept_all : (old new : H) → Type 0
  -- A copy was sent to the process with this row, and is apart from all else.
  pub sent : (row : ℕ) → (old new : H) → Type 0
  -- The cursor is one of a queue.
  pub waits : H → Waiting → Type 0
  -- The words of the messages from a cursor on.
  pub messages : H → Waiting → List ℕ
  -- The text of `counts`, with these names.
  pub counts_text : H → (names : List (List ℕ)) → List ℕ
  -- What a dump tells of it: so many shared binaries were made, this is the number of the next process, and whether all is swept.
  pub image : H → (serials next : ℕ) → (swept : Bool) → Image

-- A process for places that are not there.
abbrev pub no_process : Process
no_process = fresh_process 0

-- It stands for these processes: its rows have their numbers, and each has sixteen registers.
pub record Stood {H : Type 0} (m : Meaning H) (named : ℕ) (h : H) (shared : List (List ℕ)) (qs : List Process) : Type 0 where
  pub is : m.stands named h shared qs
  pub rows : m.numbers h ≡ map (λ (q : Process). q.number) qs
  pub registers : (row : ℕ) → row < length qs → length ((get_or qs row no_process).registers) ≡ 16

-- The word holds the tree where it stands, as a word of the process with this row.
abbrev pub HoldsThere : {H : Type 0} (m : Meaning H) (named : ℕ) (h : H) (shared : List (List ℕ)) (qs : List Process) → Stood m named h shared qs → (row : ℕ)
    → ℕ → Tree → Type 0
HoldsThere m named h shared qs x row w t = HoldsTree (m.test named h shared qs x.is row) shared (m.mem h) named w t

-- The words hold the trees where it stands, in order, as words of that process.
abbrev pub HoldAllThere : {H : Type 0} (m : Meaning H) (named : ℕ) (h : H) (shared : List (List ℕ)) (qs : List Process) → Stood m named h shared qs → (row : ℕ)
    → List ℕ → List Tree → Type 0
HoldAllThere m named h shared qs x row ws ts = HoldTrees (m.test named h shared qs x.is row) shared (m.mem h) named ws ts

-- It is whole by some count, and stands for some processes.
pub record Lives {H : Type 0} (m : Meaning H) (h : H) : Type 0 where
  pub count : ℕ
  pub whole : m.whole count h
  pub named : ℕ
  pub shared : List (List ℕ)
  pub processes : List Process
  pub stood : Stood m named h shared processes

-- A memory of which changing calls can be asked: its counters are not at their end.
pub record CanAsk {H : Type 0} (m : Meaning H) (h : H) : Type 0 where
  pub lives : Lives m h
  pub few : lives.count < 2 ^ 38
