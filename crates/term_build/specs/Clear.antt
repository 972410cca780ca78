-- Rooms, and words whose objects keep off the free places of a room.
use Rattle.std.specs.Prelude.{◌≡◌, ℕ, ◌+◌, ◌<◌, ◌≤◌, ◌⊎◌, List, length, slice_index}
use Rattle.word_mem.specs.declared.ranges.Room.{Room}
use Rattle.plain_term.specs.Tree.{Tree, Trees}
use Rattle.term_words.specs.Role.{outside}
use Rattle.term_words.specs.Stands.{Stands, AllStand}
use Rattle.term_words.specs.Kept.{Keeps}

-- The room's places are in order and lie in the memory.
pub record IsRoom (room : Room) (mem : List ℕ) : Type 0 where
  pub start_first : room.start ≤ room.top
  pub top_next : room.top ≤ room.end
  pub inside : room.end ≤ length mem

-- The word stands for the tree, and none of its objects and records has a word at a free place of the room.
abbrev pub Clear : Room → List (List ℕ) → List ℕ → ℕ → Tree → Type 0
Clear room shared mem w t = Stands (outside room.top room.end) shared mem w t

-- Each of the words is clear of the room and stands for its tree, in order.
abbrev pub AllClear : Room → List (List ℕ) → List ℕ → List ℕ → Trees → Type 0
AllClear room shared mem ws ts = AllStand (outside room.top room.end) shared mem ws ts

-- Every word that was clear of the room stands for its tree still, and is clear of the room still.
abbrev pub KeepsClear : Room → Room → List ℕ → List ℕ → Type 0
KeepsClear old new mem mem' = Keeps (outside old.top old.end) (outside new.top new.end) mem mem'

-- The first n free words of the room are taken; all words but these are as before.
pub record Uses (n : ℕ) (old new : Room) (mem mem' : List ℕ) : Type 0 where
  pub same_start : new.start ≡ old.start
  pub moved : new.top ≡ old.top + n
  pub same_end : new.end ≡ old.end
  pub same_len : length mem' ≡ length mem
  pub others : (q : ℕ) → (q < old.top) ⊎ (old.top + n ≤ q) → slice_index mem' q ≡ slice_index mem q
