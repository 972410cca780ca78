-- What a collection asks and promises, and when a call may answer that there is no space.
use Rattle.std.specs.Prelude.{◌≡◌, ℕ, ◌+◌, ◌*◌, ◌<◌, ◌≤◌, ◌⊎◌, Bool, false, List, [], ◌∷◌, length, nat_le}
use Rattle.std.specs.Vec.{vec_capacity}
use Rattle.plain_machine.specs.State.{Process, State}
use Rattle.plain_machine.specs.Tightness.{demand}
use Rattle.cheney.specs.declared.moving.Moving.{Moving}
use Rattle.two_halves.specs.Halves.{HalvesStand, IsLaid, Standing, free_in, used_in}
use Rattle.two_halves.specs.Reached.{AllReached, ChainReached, held_words, named_words}
use Rattle.two_halves.specs.declared.table.Proc.{Proc}
use Rattle.two_halves.specs.declared.halves.Halves.{Halves}
use Rattle.two_halves.specs.declared.halves.TheConstants.{UNUSED}

-- A collection to the words from one place up to another, in which nothing stays and all goes to the young room.
pub record IsBetween (from to : ℕ) (mv : Moving) : Type 0 where
  pub stay : mv.stay.spans.items ≡ []
  pub mature : mv.mature ≡ record { start = 0; end = 0 }
  pub aged : mv.aged ≡ record { start = from; top = from; end = from }
  pub young : mv.young ≡ record { start = from; top = from; end = to }

-- Rows of the same processes, with stacks as deep, as many messages that wait and as many references made.
abbrev pub AreSameRows : List Proc → List Proc → Type 0
AreSameRows [] [] = Unit {0}
AreSameRows (o ∷ os) (n ∷ ns) = (n.number ≡ o.number) × ((n.depth ≡ o.depth) × ((n.waiting ≡ o.waiting) × ((n.refs ≡ o.refs) × AreSameRows os ns)))
AreSameRows [] (n ∷ ns) = ⊥
AreSameRows (o ∷ os) [] = ⊥

-- The half in use is laid out and stands for some processes.
pub record CanCollect (h : Halves) : Type 0 where
  pub laid : IsLaid h
  pub standing : Standing h

-- A collection: whatever processes the old half stood for, the new one does, and the words in use are at most those that
-- they hold and those of the records that their trees name, and no more than there were, since each object and each record
-- is copied once; and every object in the new half is reachable, those of the chain among them.
pub record Collects (old new : Halves) : Type 0 where
  pub same_len : length new.mem ≡ length old.mem
  pub laid : IsLaid new
  pub rows : AreSameRows old.procs.items new.procs.items
  pub capacity : vec_capacity new.procs ≡ vec_capacity old.procs
  pub bins : vec_capacity new.bins ≡ vec_capacity old.bins
  pub funs : vec_capacity new.funs ≡ vec_capacity old.funs
  pub counted : new.sweeps ≡ old.sweeps + 1
  pub stands : (named : ℕ) (shared : List (List ℕ)) (qs : List Process) → HalvesStand named old shared qs → HalvesStand named new shared qs
  pub reached : AllReached new
  pub chained : ChainReached new
  pub once : used_in new ≤ used_in old
  pub bound : (named : ℕ) (shared : List (List ℕ)) (qs : List Process) → HalvesStand named old shared qs
      → used_in new ≤ UNUSED + (held_words qs + named_words shared qs)

-- A line that asks for so many words looks for n free ones: no more than it asks for where a process lives, else fewer by
-- those that a half never uses.
abbrev pub LooksFor : State → (asked n : ℕ) → Type 0
LooksFor s asked n = ((n ≤ asked) × (0 < length s.processes)) ⊎ (n + UNUSED ≤ asked)

-- Where n words are free nothing changes. Where they are not, one collection is made, and the answer says whether they are
-- then; where it is no, twice all that lives and is asked for exceeds the words of the memory.
pub record MakesRoom (n : ℕ) (old new : Halves) (result : Bool) : Type 0 where
  pub idle : n ≤ free_in old → new ≡ old
  pub collects : free_in old < n → Collects old new
  pub answer : result ≡ nat_le n (free_in new)
  pub stands : (named : ℕ) (shared : List (List ℕ)) (qs : List Process) → HalvesStand named old shared qs → HalvesStand named new shared qs
  pub laid : IsLaid new
  pub tight : (named : ℕ) (s : State) (asked : ℕ) → HalvesStand named old s.shared s.processes → s.areas ≡ [] → LooksFor s asked n
      → result ≡ false → length old.mem < 2 * (demand s + asked)
