-- Records that move: each that an object of a chain names is copied once, and the objects name the copy.
use Rattle.std.specs.Prelude.{◌≡◌, ℕ, ◌+◌, ◌/◌, ◌<◌, ◌≤◌, ◌⊎◌, ◌↔◌, Bool, true, List, [], ◌∷◌, length, slice_index}
use Rattle.term_words.specs.Role.{COUNT, NAMES, RECORD_FIRST, IsSingle, OfRecord}
use Rattle.term_words.specs.Object.{IsBinRecord, IsFunRecord, IsRecord}
use Rattle.term_words.specs.Kept.{Keeps}
use Rattle.term_words.specs.Counted.{In, Distinct, total}
use Rattle.term_build.specs.Taken.{IsFree}
use Rattle.shared_rec.specs.Record.{record_roles, count_in}
use Rattle.off_heap_list.specs.Links.{name_place, named, Chain, naming, IsLink, Links}
use Rattle.record_move.specs.declared.moves.TheConstants.{MOVED}

-- The words of a record, by its first word.
abbrev pub record_words : List ℕ → (v : ℕ) → ℕ
record_words mem v = slice_index mem v / 16

-- Records can move: all objects that name one stand in the chain, the words from `low` up to `top` have no role, and they hold
-- the records that are named, each once.
pub record RecordsCanMove (c : ℕ → ℕ → Bool) (mem : List ℕ) (head : ℕ) (os : List ℕ) (low top : ℕ) : Type 0 where
  pub single : IsSingle c
  pub links : Links c mem head os []
  pub free : IsFree c low top
  pub order : low ≤ top
  pub inside : top ≤ length mem
  pub each : List ℕ
  pub all : (o : ℕ) → In o os → In (named mem o) each
  pub words : low + total (record_words mem) each ≤ top

-- The record of n words at place v was copied to place u, with its count, and shows that: its count word has the mark and u.
pub record IsRecordCopy (d : ℕ → ℕ → Bool) (start mem : List ℕ) (low top v n u : ℕ) : Type 0 where
  pub mark : count_in mem v ≡ MOVED + u
  pub from : low ≤ u
  pub below : u + n ≤ top
  pub words : (j : ℕ) → j < n → slice_index mem (u + j) ≡ slice_index start (v + j)
  pub roles : (j : ℕ) → j < n → d (u + j) (record_roles j) ≡ true

-- An object names the copy at the place.
pub record HasNamer (mem : List ℕ) (os : List ℕ) (u : ℕ) : Type 0 where
  pub o : ℕ
  pub inside : In o os
  pub names : named mem o ≡ u

-- All records that the chain's objects name were moved to the places from `low` up to `top`, each once, and the objects name
-- the copies. By a test that allows these words beside, every tree stands; counts are namings, and no copy has count 0. A copy
-- has its record's words, and the old record shows where it is by its count word; the count of one that no object names stays.
pub record RecordsMoved (c : ℕ → ℕ → Bool) (start mem : List ℕ) (head : ℕ) (os : List ℕ) (low top : ℕ) : Type 0 where
  pub test : ℕ → ℕ → Bool
  pub single : IsSingle test
  pub more : (a k : ℕ) → c a k ≡ true → test a k ≡ true
  pub comes : (a k : ℕ) → test a k ≡ true → (c a k ≡ true) ⊎ ((low ≤ a) × (a < top))
  pub order : low ≤ top
  pub trees : Keeps c test start mem
  pub chain : Chain mem head os
  pub once : Distinct os
  pub objects : (o : ℕ) → In o os → IsLink test mem o
  pub lies : (o n : ℕ) → In o os → IsRecord test mem (named mem o) n → (low ≤ named mem o) × (named mem o + n ≤ top)
  pub same_one : (o q : ℕ) → In o os → In q os → (named mem o ≡ named mem q ↔ named start o ≡ named start q)
  pub bins : (o serial : ℕ) (bytes : List ℕ) → In o os → IsBinRecord c start (named start o) serial bytes
      → IsBinRecord test mem (named mem o) serial bytes
  pub funs : (o name arity : ℕ) → In o os → IsFunRecord c start (named start o) name arity → IsFunRecord test mem (named mem o) name arity
  pub namers : (v n : ℕ) → IsRecord test mem v n → low ≤ v → v < top → HasNamer mem os v
  pub counts : (v n : ℕ) → IsRecord test mem v n → low ≤ v → v < top → (count_in mem v ≡ naming mem v os) × (1 ≤ count_in mem v)
  pub shown : (o : ℕ) → In o os → count_in mem (named start o) ≡ MOVED + named mem o
  pub copied : (o n j : ℕ) → In o os → IsRecord c start (named start o) n → j < n → slice_index mem (named mem o + j) ≡ slice_index start (named start o + j)
  pub unshown : (v n : ℕ) → IsRecord c start v n → (count_in mem v ≡ count_in start v) ⊎ ((o : ℕ) × (In o os × (named start o ≡ v)))
  pub few : (v n : ℕ) → IsRecord c start v n → count_in start v < MOVED
  pub roles : (a k : ℕ) → test a k ≡ true → (c a k ≡ true) ⊎ OfRecord k
  pub writes : (q : ℕ) → (q < low) ⊎ (top ≤ q) → (c q COUNT ≡ true → ⊥) → (c q NAMES ≡ true → ⊥) → slice_index mem q ≡ slice_index start q
  pub same_len : length mem ≡ length start

-- Some of the chain's objects name the copies already, those of a list name the old records still: what has moved so far.
pub record Moves (c : ℕ → ℕ → Bool) (start mem : List ℕ) (os rest : List ℕ) (low now top : ℕ) : Type 0 where
  pub test : ℕ → ℕ → Bool
  pub single : IsSingle test
  pub more : (a k : ℕ) → c a k ≡ true → test a k ≡ true
  pub comes : (a k : ℕ) → test a k ≡ true → (c a k ≡ true) ⊎ ((now ≤ a) × (a < top))
  pub roles : (a k : ℕ) → test a k ≡ true → (c a k ≡ true) ⊎ OfRecord k
  pub trees : Keeps c test start mem
  pub from : low ≤ now
  pub below : now ≤ top
  pub same_len : length mem ≡ length start
  pub writes : (q : ℕ) → (q < now) ⊎ (top ≤ q) → (c q COUNT ≡ true → ⊥) → (c q NAMES ≡ true → ⊥) → slice_index mem q ≡ slice_index start q
  pub once : Distinct rest
  pub among : (o : ℕ) → In o rest → In o os
  pub left : (o : ℕ) → In o rest → slice_index mem (name_place start o) ≡ named start o
  pub done : (o : ℕ) → In o os → (In o rest → ⊥) → count_in mem (named start o) ≡ MOVED + slice_index mem (name_place start o)
  pub records : (v n : ℕ) → IsRecord c start v n → (count_in mem v ≡ count_in start v) ⊎ ((u : ℕ) × IsRecordCopy test start mem now top v n u)
  pub one : (v n w m u : ℕ) → IsRecord c start v n → IsRecord c start w m → count_in mem v ≡ MOVED + u → count_in mem w ≡ MOVED + u → v ≡ w
  pub only : (a : ℕ) → now ≤ a → a < top → test a RECORD_FIRST ≡ true → (o : ℕ) × (In o os × (count_in mem (named start o) ≡ MOVED + a))
  pub each : List ℕ
  pub all : (o : ℕ) → In o rest → count_in mem (named start o) ≡ count_in start (named start o) → In (named start o) each
  pub words : low + total (record_words start) each ≤ now

-- No record's count is a mark.
pub record AreFew (c : ℕ → ℕ → Bool) (start : List ℕ) : Type 0 where
  pub few : (v n : ℕ) → IsRecord c start v n → count_in start v < MOVED

-- Some records have moved, and this object's is next.
pub record CanMoveOne (mem : List ℕ) (object now : ℕ) : Type 0 where
  pub test : ℕ → ℕ → Bool
  pub start : List ℕ
  pub head : ℕ
  pub os : List ℕ
  pub low : ℕ
  pub top : ℕ
  pub can : RecordsCanMove test start head os low top
  pub few : AreFew test start
  pub rest : List ℕ
  pub moves : Moves test start mem os (object ∷ rest) low now top

-- A chain of so many objects stands, and their records can move to the free words before a place.
pub record AllRecordsCanMove (mem : List ℕ) (head len top : ℕ) : Type 0 where
  pub test : ℕ → ℕ → Bool
  pub os : List ℕ
  pub low : ℕ
  pub number : length os ≡ len
  pub can : RecordsCanMove test mem head os low top

-- A test that the objects and the copies pass, and no old record does: that of a half, or of some blocks.
pub record LeavesOld (c : ℕ → ℕ → Bool) (os : List ℕ) (low top : ℕ) (d : ℕ → ℕ → Bool) : Type 0 where
  pub objects : (o a k : ℕ) → In o os → o ≤ a → a < o + 6 → d a k ≡ true
  pub copies : (a k : ℕ) → low ≤ a → a < top → d a k ≡ true
  pub none : (a : ℕ) → c a RECORD_FIRST ≡ true → d a RECORD_FIRST ≡ true → ⊥
