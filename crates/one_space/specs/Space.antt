-- The space over the heap: the states that it stands for, and how it is opened.
use Rattle.std.specs.Prelude.{◌≡◌, ℕ, ◌+◌, ◌/◌, ◌≤◌, [], ◌∷◌, replicate}
use Rattle.std.specs.Vec.{vec_len, vec_capacity}
use Rattle.plain_machine.specs.State.{State}
use Rattle.plain_machine.specs.declared.costs.TheConstants.{RECORD_COST}
use Rattle.plain_machine.specs.declared.limits.TheConstants.{MOST_PROCESSES}
use Rattle.process_verbs.specs.Verbs.{VerbsStand, memory_words}
use Rattle.process_verbs.specs.declared.verbs.Verbs.{Verbs}
use Rattle.two_halves.specs.Halves.{free_in}
use Rattle.two_halves.specs.declared.table.Proc.{Proc}
use Rattle.two_halves.specs.declared.halves.TheConstants.{UNUSED}
use Rattle.one_space.specs.Heap.{one_meaning}
use Rattle.one_space.specs.declared.heap.OneHeap.{OneHeap}

-- The space stands for the state.
abbrev pub OneStands : Verbs OneHeap → State → Type 0
OneStands b s = VerbsStand one_meaning b s

-- The words of the memory.
abbrev pub words_of : Verbs OneHeap → ℕ
words_of b = memory_words one_meaning b

-- All words of a half are free, but those that are never used.
abbrev pub AllFree : Verbs OneHeap → Type 0
AllFree b = free_in b.heaps.halves + UNUSED ≡ words_of b / 2

-- A heap of so many words in which the first process alone has a row: nil in each register, and nothing else; all tables are as large
-- as they will ever be.
pub record IsFirstHeap (words : ℕ) (h : OneHeap) : Type 0 where
  pub mem : h.halves.mem ≡ replicate words 0
  pub base : h.halves.base ≡ 0
  pub starts : h.halves.room.start ≡ UNUSED
  pub top : h.halves.room.top ≡ UNUSED
  pub end : h.halves.room.end ≡ words / 2
  pub head : h.halves.head ≡ 0
  pub linked : h.halves.linked ≡ 0
  pub bins : h.halves.bins.items ≡ []
  pub funs : h.halves.funs.items ≡ []
  pub sweeps : h.halves.sweeps ≡ 0
  pub row : Proc
  pub rows : h.halves.procs.items ≡ row ∷ []
  pub number : row.number ≡ 1
  pub registers : row.regs ≡ replicate 16 59
  pub flat : row.depth ≡ 0
  pub waiting : row.waiting ≡ 0
  pub none : row.refs ≡ 0
  pub places : MOST_PROCESSES ≤ vec_capacity h.halves.procs
  pub bins_room : words / 2 / RECORD_COST ≤ vec_capacity h.halves.bins
  pub funs_room : words / 2 / RECORD_COST ≤ vec_capacity h.halves.funs
  pub spare : vec_len h.spare + 1 ≡ MOST_PROCESSES
  pub boxes : MOST_PROCESSES ≤ vec_capacity h.spare
