-- The half in use: how it is laid out, and the processes and records that stand in it.
use Rattle.std.specs.Prelude.{◌≡◌, ℕ, ◌+◌, ◌-◌, ◌*◌, ◌/◌, ◌%◌, ◌<◌, ◌≤◌, ◌⊎◌, Bool, true, List, [], ◌∷◌, ◌++◌, length, sum_by}
use Rattle.plain_machine.specs.State.{Process}
use Rattle.term_words.specs.Role.{NEXT, IsSingle, OfObject, OfRecord}
use Rattle.term_words.specs.Counted.{In, total}
use Rattle.term_order.specs.Held.{HoldTrees}
use Rattle.shared_rec.specs.Record.{owner_in}
use Rattle.off_heap_list.specs.Links.{Links}
use Rattle.record_move.specs.Copies.{record_words}
use Rattle.record_tables.specs.Listed.{RecordsStand}
use Rattle.two_halves.specs.Stack.{AreApart, IsLastPlace, IsStack, place_list, values}
use Rattle.two_halves.specs.declared.table.Proc.{Proc}
use Rattle.two_halves.specs.declared.halves.Halves.{Halves}
use Rattle.two_halves.specs.declared.halves.TheConstants.{UNUSED, PLACE_WORDS}

-- The words of a half.
abbrev pub half_of : Halves → ℕ
half_of h = length h.mem / 2

-- The first place of the half in use that an object may take.
abbrev pub front_of : Halves → ℕ
front_of h = h.base + UNUSED

-- The place after the half in use.
abbrev pub end_of : Halves → ℕ
end_of h = h.base + half_of h

-- The free words of the half in use.
abbrev pub free_in : Halves → ℕ
free_in h = h.room.end - h.room.top

-- The words of the half in use that are not free.
abbrev pub used_in : Halves → ℕ
used_in h = half_of h - free_in h

-- The stack and queue places of all processes.
abbrev pub places_in : List Proc → ℕ
places_in ps = sum_by (λ p. p.depth + p.waiting) ps

-- The places of a row's stack and of its queue.
abbrev pub places_of : List ℕ → Proc → List ℕ
places_of mem p = place_list mem p.stack p.depth ++ place_list mem p.queue p.waiting

-- The places of all rows.
abbrev pub all_places : List ℕ → List Proc → List ℕ
all_places mem [] = []
all_places mem (p ∷ ps) = places_of mem p ++ all_places mem ps

-- All records: those of binaries, and those of funs.
abbrev pub records_of : Halves → List ℕ
records_of h = h.bins.items ++ h.funs.items

-- The halves are of one size and one of them is in use: from its front on objects, at its end stack and queue places and
-- records, and between them the free words of the room, which starts at the front. All places and records together fit there.
pub record IsLaid (h : Halves) : Type 0 where
  pub even : length h.mem % 2 ≡ 0
  pub side : (h.base ≡ 0) ⊎ (h.base ≡ half_of h)
  pub starts : h.room.start ≡ front_of h
  pub front : front_of h ≤ h.room.top
  pub order : h.room.top ≤ h.room.end
  pub fits : h.room.end + (PLACE_WORDS * places_in h.procs.items + total (record_words h.mem) (records_of h)) ≤ end_of h

-- The row stands for the process; the places of its stack and its queue lie between these bounds.
pub record ProcStands (c : ℕ → ℕ → Bool) (shared : List (List ℕ)) (mem : List ℕ) (low limit named : ℕ) (p : Proc) (q : Process) : Type 0 where
  pub number : q.number ≡ p.number
  pub count : length p.regs ≡ 16
  pub registers : HoldTrees c shared mem named p.regs q.registers
  pub places : IsStack c mem low limit p.stack p.depth
  pub stack : HoldTrees c shared mem named (values mem p.stack p.depth) q.stack
  pub waits : IsStack c mem low limit p.queue p.waiting
  pub queue : HoldTrees c shared mem named (values mem p.queue p.waiting) q.queue
  pub last : IsLastPlace mem p.queue p.waiting p.last
  pub refs : q.refs ≡ p.refs

-- The rows stand for the processes, in order.
abbrev pub ProcsStand : (ℕ → ℕ → Bool) → List (List ℕ) → List ℕ → (low limit named : ℕ) → List Proc → List Process → Type 0
ProcsStand c shared mem low limit named [] [] = Unit {0}
ProcsStand c shared mem low limit named (p ∷ ps) (q ∷ qs) = ProcStands c shared mem low limit named p q
    × ProcsStand c shared mem low limit named ps qs
ProcsStand c shared mem low limit named [] (q ∷ qs) = ⊥
ProcsStand c shared mem low limit named (p ∷ ps) [] = ⊥

-- The half in use stands for these processes, by one test of one role a place: words of objects below the free words, words
-- of records above them. The chain has every holder and fun that stands, whether it is reached or not, and each record's
-- count is the number of those that name it. No two places of stacks and queues have a word in common. `named` is above all
-- atoms of the trees and all names of funs.
pub record HalvesStand (named : ℕ) (h : Halves) (shared : List (List ℕ)) (qs : List Process) : Type 0 where
  pub test : ℕ → ℕ → Bool
  pub single : IsSingle test
  pub lie : (a k : ℕ) → test a k ≡ true → ((front_of h ≤ a) × ((a < h.room.top) × OfObject k)) ⊎ ((h.room.end ≤ a) × ((a < end_of h) × OfRecord k))
  pub chained : List ℕ
  pub linked : length chained ≡ h.linked
  pub links : Links test h.mem h.head chained []
  pub inside : (p : ℕ) → In p chained → p + 6 ≤ h.room.top
  pub every : (p : ℕ) → test (p + 2) NEXT ≡ true → In p chained
  pub records : RecordsStand test h.mem shared h.bins.items h.funs.items
  pub fun_names : (v : ℕ) → In v h.funs.items → owner_in h.mem v / 256 < named
  pub processes : ProcsStand test shared h.mem h.room.end (end_of h) named h.procs.items qs
  pub apart : AreApart (all_places h.mem h.procs.items)

-- Some processes that the half in use stands for.
pub record Standing (h : Halves) : Type 0 where
  pub named : ℕ
  pub shared : List (List ℕ)
  pub processes : List Process
  pub stands : HalvesStand named h shared processes
