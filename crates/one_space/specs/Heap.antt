-- What two halves mean as a memory of processes.
use Rattle.std.specs.Prelude.{◌≡◌, ℕ, ◌+◌, ◌/◌, ◌≤◌, zero, suc, List, [], ◌∷◌, length, slice_index}
use Rattle.std.specs.Vec.{vec_len, vec_capacity}
use Rattle.plain_machine.specs.declared.costs.TheConstants.{RECORD_COST}
use Rattle.plain_machine.specs.declared.limits.TheConstants.{MOST_PROCESSES}
use Rattle.counts_text.specs.Told.{counts_told}
use Rattle.numbered_rows.specs.Numbers.{numbers as numbers_by}
use Rattle.two_halves.specs.Halves.{HalvesStand, IsLaid, free_in, half_of}
use Rattle.two_halves.specs.Stack.{values}
use Rattle.two_halves.specs.Reached.{AllReached, ChainReached}
use Rattle.two_halves.specs.Collecting.{MakesRoom}
use Rattle.two_halves.specs.Queues.{IsAlone}
use Rattle.two_halves.specs.declared.halves.TheConstants.{PLACE_WORDS}
use Rattle.two_halves.specs.declared.table.Proc.{Proc}
use Rattle.heaps_api.specs.Meaning.{Meaning}
use Rattle.heaps_api.specs.Wanted.{words_of_want}
use Rattle.heaps_api.specs.declared.wanted.Want.{Want}
use Rattle.heaps_api.specs.declared.wanted.Want.TheVariants as want
use Rattle.one_space.specs.Image.{image_of}
use Rattle.one_space.specs.declared.heap.OneHeap.{OneHeap}
use Rattle.one_space.specs.declared.heap.TheConstants.{SPAWN_WORDS}

-- The number of a row.
abbrev pub number_in : Proc → ℕ
number_in p = p.number

-- Each of the rows has made at most so many references.
abbrev pub HaveMade : ℕ → List Proc → Type 0
HaveMade most [] = Unit {0}
HaveMade most (p ∷ ps) = (p.refs ≤ most) × HaveMade most ps

-- The free words that are looked for: a process takes none, and what a half never uses is among what it counts for.
abbrev pub looked_for : Want → ℕ
looked_for (want.Words row n records) = n + records
looked_for (want.Message row size) = words_of_want (want.Message row size)
looked_for want.Process = SPAWN_WORDS

-- It is laid out, its tables have room for the most processes and the records of a half, with a box for each row, and no more
-- collections were made, nor references by a process, than the count says.
pub record AreWholeHalves (count : ℕ) (h : OneHeap) : Type 0 where
  pub laid : IsLaid h.halves
  pub places : MOST_PROCESSES ≤ vec_capacity h.halves.procs
  pub spares : vec_len h.spare + length h.halves.procs.items ≡ MOST_PROCESSES
  pub boxes : MOST_PROCESSES ≤ vec_capacity h.spare
  pub counted : h.halves.sweeps ≤ count
  pub made : HaveMade count h.halves.procs.items
  pub bins : half_of h.halves / RECORD_COST ≤ vec_capacity h.halves.bins
  pub funs : half_of h.halves / RECORD_COST ≤ vec_capacity h.halves.funs

-- No collection was made, and no more words were taken than are looked for.
pub record TakesAtMost (n : ℕ) (old new : OneHeap) : Type 0 where
  pub sweeps : new.halves.sweeps ≡ old.halves.sweeps
  pub few : free_in old.halves ≤ free_in new.halves + n

-- No collection was made, and the free words begin and end where they did.
pub record GivesBack (old new : OneHeap) : Type 0 where
  pub sweeps : new.halves.sweeps ≡ old.halves.sweeps
  pub room : new.halves.room ≡ old.halves.room

-- No more was taken than what is wanted; a process takes none.
abbrev pub TakesFor : Want → (old new : OneHeap) → Type 0
TakesFor (want.Words row n records) old new = TakesAtMost (looked_for (want.Words row n records)) old new
TakesFor (want.Message row size) old new = TakesAtMost (looked_for (want.Message row size)) old new
TakesFor want.Process old new = GivesBack old new

-- None is taken, copied or collected: no collection was made, no word of the memory changed, and the free words begin and end where they did.
pub record IsStill (old new : OneHeap) : Type 0 where
  pub sweeps : new.halves.sweeps ≡ old.halves.sweeps
  pub mem : new.halves.mem ≡ old.halves.mem
  pub room : new.halves.room ≡ old.halves.room

-- One collection was made, and every object is reachable after it.
pub record IsCollected (old new : OneHeap) : Type 0 where
  pub once : new.halves.sweeps ≡ old.halves.sweeps + 1
  pub reached : AllReached new.halves

-- The last message of the row is apart from all else.
pub record IsSent (row : ℕ) (old new : OneHeap) : Type 0 where
  pub sweeps : new.halves.sweeps ≡ old.halves.sweeps
  pub word : ℕ
  pub alone : IsAlone old.halves new.halves row word

-- So many places follow one another from a place on, each in the memory.
abbrev pub FollowPlaces : List ℕ → (place n : ℕ) → Type 0
FollowPlaces mem place zero = Unit {0}
FollowPlaces mem place (suc n) = (place + PLACE_WORDS ≤ length mem) × FollowPlaces mem (slice_index mem (place + 1)) n

-- The meaning of the memory.
abbrev pub one_meaning : Meaning OneHeap
one_meaning = record {
  stands = λ named h shared qs. HalvesStand named h.halves shared qs;
  test = λ named h shared qs x row. x.test;
  mem = λ h. h.halves.mem;
  numbers = λ h. numbers_by number_in h.halves.procs.items;
  whole = AreWholeHalves;
  tidy = λ h. ChainReached h.halves;
  has_room = λ w h. looked_for w ≤ free_in h.halves;
  looked = λ w old new found. MakesRoom (looked_for w) old.halves new.halves found;
  took = TakesFor;
  gave_back = GivesBack;
  idle = IsStill;
  received = λ row. IsStill;
  ended = λ row. IsStill;
  collected = λ row depth. IsCollected;
  swept_all = IsCollected;
  sent = IsSent;
  waits = λ h at. FollowPlaces h.halves.mem at.at at.count;
  messages = λ h at. values h.halves.mem at.at at.count;
  counts_text = λ h names. counts_told h.halves.mem names h.halves.bins.items h.halves.funs.items;
  image = λ h serials next swept. image_of h.halves serials next swept;
}
