-- Records and objects that come into a half: what stands on the way, and after it.
use Rattle.std.specs.Prelude.{◌≡◌, ℕ, ◌+◌, ◌/◌, ◌<◌, ◌≤◌, ◌⊎◌, Bool, true, List, [], length}
use Rattle.std.specs.Vec.{vec_capacity}
use Rattle.plain_term.specs.Tree.{Tree}
use Rattle.plain_machine.specs.State.{Process}
use Rattle.term_words.specs.Role.{NEXT, IsSingle, OfObject, OfRecord}
use Rattle.term_words.specs.Object.{IsBinRecord, IsFunRecord}
use Rattle.term_words.specs.Stands.{Stands}
use Rattle.term_words.specs.Kept.{Keeps}
use Rattle.term_words.specs.Counted.{In}
use Rattle.shared_rec.specs.Record.{owner_in}
use Rattle.off_heap_list.specs.Links.{Links}
use Rattle.record_tables.specs.Listed.{NearlyStand}
use Rattle.two_halves.specs.Stack.{AreApart}
use Rattle.two_halves.specs.Halves.{HalvesStand, IsLaid, ProcsStand, all_places, end_of, front_of}
use Rattle.two_halves.specs.declared.halves.Halves.{Halves}

-- The half stands for the processes, and the word for a tree beside them.
pub record Gets (named : ℕ) (h : Halves) (shared : List (List ℕ)) (qs : List Process) (w : ℕ) (t : Tree) : Type 0 where
  pub stands : HalvesStand named h shared qs
  pub made : Stands stands.test shared h.mem w t

-- The half stands for some processes, and this is the number of the next shared binary.
pub record IsSerial (h : Halves) (serial : ℕ) : Type 0 where
  pub named : ℕ
  pub shared : List (List ℕ)
  pub processes : List Process
  pub stands : HalvesStand named h shared processes
  pub last : serial ≡ length shared + 1

-- The half stands for some processes, and a name is below the number above all names.
pub record IsNamedIn (h : Halves) (name : ℕ) : Type 0 where
  pub named : ℕ
  pub shared : List (List ℕ)
  pub processes : List Process
  pub stands : HalvesStand named h shared processes
  pub above : name < named

-- What else stays where something comes into a half: the processes with their roots, the size of the memory, which half is in
-- use, the capacity of the tables, and how many collections were made.
pub record Adds (old new : Halves) : Type 0 where
  pub laid : IsLaid new
  pub same_len : length new.mem ≡ length old.mem
  pub base : new.base ≡ old.base
  pub procs : new.procs ≡ old.procs
  pub bins : vec_capacity new.bins ≡ vec_capacity old.bins
  pub funs : vec_capacity new.funs ≡ vec_capacity old.funs
  pub sweeps : new.sweeps ≡ old.sweeps

-- The half stands for the processes, but that none may name the record at one place yet.
pub record Nearly (named : ℕ) (h : Halves) (shared : List (List ℕ)) (qs : List Process) (v : ℕ) : Type 0 where
  pub test : ℕ → ℕ → Bool
  pub single : IsSingle test
  pub lie : (a k : ℕ) → test a k ≡ true → ((front_of h ≤ a) × ((a < h.room.top) × OfObject k)) ⊎ ((h.room.end ≤ a) × ((a < end_of h) × OfRecord k))
  pub chained : List ℕ
  pub linked : length chained ≡ h.linked
  pub links : Links test h.mem h.head chained []
  pub inside : (p : ℕ) → In p chained → p + 6 ≤ h.room.top
  pub every : (p : ℕ) → test (p + 2) NEXT ≡ true → In p chained
  pub records : NearlyStand test h.mem shared h.bins.items h.funs.items v
  pub fun_names : (u : ℕ) → In u h.funs.items → owner_in h.mem u / 256 < named
  pub processes : ProcsStand test shared h.mem h.room.end (end_of h) named h.procs.items qs
  pub apart : AreApart (all_places h.mem h.procs.items)

-- So it does, with this binary in the record.
pub record HasBin (named : ℕ) (h : Halves) (shared : List (List ℕ)) (qs : List Process) (v serial : ℕ) (bytes : List ℕ) : Type 0 where
  pub near : Nearly named h shared qs v
  pub is : IsBinRecord near.test h.mem v serial bytes

-- So it does, with this fun in the record, and each tree that stood before stands by the new test.
pub record HasFun (named : ℕ) (old h : Halves) (shared : List (List ℕ)) (qs : List Process) (v name arity : ℕ) (c : ℕ → ℕ → Bool) : Type 0 where
  pub near : Nearly named h shared qs v
  pub is : IsFunRecord near.test h.mem v name arity
  pub kept : Keeps c near.test old.mem h.mem
