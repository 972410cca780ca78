-- Messages that enter and leave queues.
use Rattle.std.specs.Prelude.{◌≡◌, ℕ, zero, suc, ◌+◌, ◌-◌, ◌/◌, ◌<◌, ◌≤◌, true, List, [], ◌∷◌, ◌++◌, Option, Some, None, length, get_or, set, slice_index, slice_set}
use Rattle.std.specs.Vec.{with_item}
use Rattle.plain_term.specs.Tree.{Tree}
use Rattle.plain_term.specs.Measures.{flat}
use Rattle.plain_machine.specs.State.{Process}
use Rattle.plain_machine.specs.declared.costs.TheConstants.{MESSAGE_COST}
use Rattle.term_words.specs.Object.{IsPointer}
use Rattle.term_words.specs.Reach.{Reach}
use Rattle.term_words.specs.Stands.{Stands}
use Rattle.two_halves.specs.Stack.{values}
use Rattle.two_halves.specs.Halves.{HalvesStand, IsLaid, free_in}
use Rattle.term_order.specs.Held.{HoldsTree}
use Rattle.two_halves.specs.Reached.{roots_of}
use Rattle.two_halves.specs.declared.table.Proc.{Proc}
use Rattle.two_halves.specs.declared.halves.Halves.{Halves}
use Rattle.two_halves.specs.declared.halves.TheConstants.{PLACE_WORDS}

-- A row with another queue.
abbrev pub with_queue : Proc → (queue last waiting : ℕ) → Proc
with_queue p queue last waiting = record {
  number = p.number;
  regs = p.regs;
  stack = p.stack;
  depth = p.depth;
  queue = queue;
  last = last;
  waiting = waiting;
  refs = p.refs;
}

-- A row without its first message.
abbrev pub shifted : List ℕ → Proc → Proc
shifted mem p = with_queue p (slice_index mem (p.queue + 1)) p.last (p.waiting - 1)

-- The half with another row.
abbrev pub with_row : Halves → ℕ → Proc → Halves
with_row h row p = record {
  mem = h.mem;
  base = h.base;
  room = h.room;
  procs = with_item h.procs row p;
  head = h.head;
  linked = h.linked;
  bins = h.bins;
  funs = h.funs;
  sweeps = h.sweeps;
}

-- The half in use is laid out and stands for some processes, of which one has the row.
pub record HasRow (h : Halves) (row : ℕ) : Type 0 where
  pub laid : IsLaid h
  pub named : ℕ
  pub shared : List (List ℕ)
  pub processes : List Process
  pub stands : HalvesStand named h shared processes
  pub within : row < length h.procs.items

-- The first message of the process has left its queue, and the word stands for it.
pub record HasLeftQueue (named : ℕ) (new : Halves) (shared : List (List ℕ)) (qs : List Process) (row w : ℕ) : Type 0 where
  pub process : Process
  pub is : (d : Process) → get_or qs row d ≡ process
  pub message : Tree
  pub rest : List Tree
  pub queue : process.queue ≡ message ∷ rest
  pub stands : HalvesStand named new shared (set qs row (record process { queue = rest }))
  pub held : HoldsTree stands.test shared new.mem named w message

-- A message was taken off the queue of the row: whatever processes the old half stood for, the first message has left, and nothing
-- but the row has changed.
pub record TakesMessage (old new : Halves) (row w : ℕ) : Type 0 where
  pub laid : IsLaid new
  pub same : (p : Proc) → p ≡ get_or old.procs.items row p → new ≡ with_row old row (shifted old.mem p)
  pub some : (d : Proc) → 1 ≤ (get_or old.procs.items row d).waiting
  pub leaves : (named : ℕ) (shared : List (List ℕ)) (qs : List Process) → HalvesStand named old shared qs → HasLeftQueue named new shared qs row w

-- Where no message waits nothing changes.
abbrev pub Receives : (old new : Halves) → (row : ℕ) → Option ℕ → Type 0
Receives old new row None = (new ≡ old) × ((d : Proc) → (get_or old.procs.items row d).waiting ≡ 0)
Receives old new row (Some w) = TakesMessage old new row w

-- A place follows the last one of a queue; the answer is the first place then.
abbrev pub PlaceFollows : (old new : List ℕ) → (queue last waiting place : ℕ) → (result : ℕ) → Type 0
PlaceFollows old new queue last zero place result = (new ≡ old) × (result ≡ place)
PlaceFollows old new queue last (suc n) place result = (new ≡ slice_set old (last + 1) place) × (result ≡ queue)

-- The half in use stands for some processes, of which one has the row, and the word stands for a tree that fits: a message of it
-- asks for no more words than are free.
pub record CanSend (h : Halves) (row w : ℕ) : Type 0 where
  pub has : HasRow h row
  pub tree : Tree
  pub held : HoldsTree has.stands.test has.shared h.mem has.named w tree
  pub fits : MESSAGE_COST + flat tree ≤ free_in h

-- The half in use stands for some processes, of which one has the row, and the word stands for a tree; a place is free.
pub record CanQueue (h : Halves) (row w : ℕ) : Type 0 where
  pub has : HasRow h row
  pub tree : Tree
  pub held : HoldsTree has.stands.test has.shared h.mem has.named w tree
  pub fits : PLACE_WORDS ≤ free_in h

-- The message is the last of the process with this row.
pub record HasEntered (named : ℕ) (new : Halves) (shared : List (List ℕ)) (qs : List Process) (row : ℕ) (t : Tree) : Type 0 where
  pub process : Process
  pub is : (d : Process) → get_or qs row d ≡ process
  pub stands : HalvesStand named new shared (set qs row (record process { queue = process.queue ++ t ∷ [] }))

-- A place with this word is the last of the queue of the row: no word with a role was written, the messages are those of before and
-- the word, and the roots are those of before, each in its order, with the word once among them.
pub record Queues (old new : Halves) (row w : ℕ) : Type 0 where
  pub laid : IsLaid new
  pub same_len : length new.mem ≡ length old.mem
  pub base : new.base ≡ old.base
  pub top : new.room.top ≡ old.room.top
  pub low : new.room.end + PLACE_WORDS ≡ old.room.end
  pub first : ℕ
  pub procs : (p : Proc) → p ≡ get_or old.procs.items row p → new.procs ≡ with_item old.procs row (with_queue p first new.room.end (p.waiting + 1))
  pub bins : new.bins ≡ old.bins
  pub funs : new.funs ≡ old.funs
  pub sweeps : new.sweeps ≡ old.sweeps
  pub enters : (named : ℕ) (shared : List (List ℕ)) (qs : List Process) (x : HalvesStand named old shared qs) (t : Tree)
      → HoldsTree x.test shared old.mem named w t → HasEntered named new shared qs row t
  pub words : (named : ℕ) (shared : List (List ℕ)) (qs : List Process) (x : HalvesStand named old shared qs) (a k : ℕ) → x.test a k ≡ true
      → slice_index new.mem a ≡ slice_index old.mem a
  pub messages : (p o : Proc) → p ≡ get_or new.procs.items row p → o ≡ get_or old.procs.items row o
      → values new.mem p.queue p.waiting ≡ values old.mem o.queue o.waiting ++ w ∷ []
  pub before : List ℕ
  pub after : List ℕ
  pub were : roots_of old ≡ before ++ after
  pub roots : roots_of new ≡ before ++ w ∷ after

-- The word is the last message of the row, whose queue alone has changed: the roots are those of before, each in its order, with the
-- word once among them; and what it reaches and what all that stood before reach have no object in common.
pub record IsAlone (old new : Halves) (row word : ℕ) : Type 0 where
  pub first : ℕ
  pub last : ℕ
  pub procs : (p : Proc) → p ≡ get_or old.procs.items row p → new.procs ≡ with_item old.procs row (with_queue p first last (p.waiting + 1))
  pub messages : (p o : Proc) → p ≡ get_or new.procs.items row p → o ≡ get_or old.procs.items row o
      → values new.mem p.queue p.waiting ≡ values old.mem o.queue o.waiting ++ word ∷ []
  pub before : List ℕ
  pub after : List ℕ
  pub were : roots_of old ≡ before ++ after
  pub roots : roots_of new ≡ before ++ word ∷ after
  pub apart : (v u : ℕ) → IsPointer v → IsPointer u → Reach new.mem (word ∷ []) v → Reach new.mem (roots_of old) u → v / 4 ≡ u / 4 → ⊥

-- A message was sent to the process with this row: a copy of the tree is the last message of its queue. Beside it nothing has
-- changed but the chain, the counts of records and the free words.
pub record Sends (old new : Halves) (row w : ℕ) : Type 0 where
  pub laid : IsLaid new
  pub same_len : length new.mem ≡ length old.mem
  pub base : new.base ≡ old.base
  pub bins : new.bins ≡ old.bins
  pub funs : new.funs ≡ old.funs
  pub sweeps : new.sweeps ≡ old.sweeps
  pub enters : (named : ℕ) (shared : List (List ℕ)) (qs : List Process) (x : HalvesStand named old shared qs) (t : Tree)
      → HoldsTree x.test shared old.mem named w t → HasEntered named new shared qs row t
  pub words : (named : ℕ) (shared : List (List ℕ)) (qs : List Process) (x : HalvesStand named old shared qs) (t : Tree) → Stands x.test shared old.mem w t
      → free_in new + (PLACE_WORDS + flat t) ≡ free_in old
  pub word : ℕ
  pub alone : IsAlone old new row word
