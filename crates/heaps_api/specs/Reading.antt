-- What is read of a memory.
use Rattle.std.specs.Prelude.{◌≡◌, ℕ, ◌≤◌, true, List, [], length, get_or, flat_map}
use Rattle.plain_term.specs.Tree.{Tree}
use Rattle.plain_machine.specs.State.{Process, State}
use Rattle.heaps_api.specs.Meaning.{HoldAllThere, Meaning, Stood, no_process}

-- The trees of all messages that wait, process by process.
abbrev pub waiting_trees : List Process → List Tree
waiting_trees qs = flat_map (λ (q : Process). q.queue) qs

-- The words are those of the registers of the process with this row.
pub record AreRegisters {H : Type 0} (m : Meaning H) (row : ℕ) (h : H) (words : List ℕ) : Type 0 where
  pub count : length words ≡ 16
  pub hold : (named : ℕ) (shared : List (List ℕ)) (qs : List Process) (x : Stood m named h shared qs)
      → HoldAllThere m named h shared qs x row words (get_or qs row no_process).registers

-- The words are those of the messages that wait for the process with this row.
pub record AreWaiting {H : Type 0} (m : Meaning H) (row : ℕ) (h : H) (words : List ℕ) : Type 0 where
  pub hold : (named : ℕ) (shared : List (List ℕ)) (qs : List Process) (x : Stood m named h shared qs)
      → HoldAllThere m named h shared qs x row words (get_or qs row no_process).queue

-- The memory stands for the processes of a state without areas; and where that says that all is swept, it is tidy.
pub record StandsIn {H : Type 0} (m : Meaning H) (named : ℕ) (h : H) (s : State) : Type 0 where
  pub processes : Stood m named h s.shared s.processes
  pub areas : s.areas ≡ []
  pub tidy : s.swept ≡ true → m.tidy h

-- It stands for some, all of whose names are among so many.
pub record IsNamedBy {H : Type 0} (m : Meaning H) (h : H) (most : ℕ) : Type 0 where
  pub named : ℕ
  pub few : named ≤ most
  pub shared : List (List ℕ)
  pub processes : List Process
  pub stood : Stood m named h shared processes
