-- A copy of a term within a half.
use Rattle.std.specs.Prelude.{◌≡◌, ℕ, ◌+◌, ◌/◌, ◌<◌, ◌≤◌, true, List, [], ◌∷◌, length, slice_index}
use Rattle.plain_term.specs.Tree.{Tree}
use Rattle.plain_term.specs.Measures.{flat}
use Rattle.plain_machine.specs.State.{Process}
use Rattle.term_words.specs.Object.{IsPointer}
use Rattle.term_words.specs.Kept.{Kept}
use Rattle.term_words.specs.Reach.{Reach}
use Rattle.term_words.specs.Stands.{Stands}
use Rattle.two_halves.specs.Halves.{HalvesStand, IsLaid, end_of}
use Rattle.two_halves.specs.declared.halves.Halves.{Halves}

-- The half in use is laid out and stands for some processes, and the word for a tree, for whose words there is room.
pub record CanCopyIn (h : Halves) (w : ℕ) : Type 0 where
  pub laid : IsLaid h
  pub named : ℕ
  pub shared : List (List ℕ)
  pub processes : List Process
  pub stands : HalvesStand named h shared processes
  pub tree : Tree
  pub made : Stands stands.test shared h.mem w tree
  pub fits : h.room.top + flat tree ≤ h.room.end

-- The half stands for the processes still, and the word for the tree beside them; all that stood before stands, and places have
-- their words; and what the word reaches lies in the words that were free.
pub record HasCopy (named : ℕ) (old new : Halves) (shared : List (List ℕ)) (qs : List Process) (x : HalvesStand named old shared qs)
    (result : ℕ) (t : Tree) : Type 0 where
  pub stands : HalvesStand named new shared qs
  pub made : Stands stands.test shared new.mem result t
  pub kept : Kept x.test stands.test old.mem new.mem
  pub bare : (q : ℕ) → old.room.end ≤ q → q < end_of old → ((k : ℕ) → x.test q k ≡ true → ⊥) → slice_index new.mem q ≡ slice_index old.mem q
  pub words : new.room.top ≡ old.room.top + flat t
  pub alone : (v : ℕ) → Reach new.mem (result ∷ []) v → IsPointer v → old.room.top ≤ v / 4

-- A copy of the tree of a word came into the half. The processes, the tables of records, the size of the memory, which half is in
-- use, and the count of collections are as before.
pub record CopiesIn (old new : Halves) (w result : ℕ) : Type 0 where
  pub laid : IsLaid new
  pub same_len : length new.mem ≡ length old.mem
  pub base : new.base ≡ old.base
  pub low : new.room.end ≡ old.room.end
  pub procs : new.procs ≡ old.procs
  pub bins : new.bins ≡ old.bins
  pub funs : new.funs ≡ old.funs
  pub sweeps : new.sweeps ≡ old.sweeps
  pub copies : (named : ℕ) (shared : List (List ℕ)) (qs : List Process) (x : HalvesStand named old shared qs) (t : Tree) → Stands x.test shared old.mem w t
      → HasCopy named old new shared qs x result t
