-- What the words of terms that are made one after the other stand for.
use Rattle.std.specs.Prelude.{◌≡◌, ℕ, ◌<◌, ◌≤◌, true, List, [], ◌∷◌, length, replicate, slice_index, slice_index_or, Option, IfSome}
use Rattle.word_mem.specs.declared.ranges.Room.{Room}
use Rattle.plain_term.specs.Tree.{Tree}
use Rattle.plain_term.specs.Bytes.{shared_bytes}
use Rattle.term_build.specs.Clear.{IsRoom, Clear, KeepsClear}
use Rattle.term_order.specs.Named.{is_named}

-- The bytes of the shared binaries, each of so many equal bytes.
abbrev pub shared_of : List (ℕ × ℕ) → List (List ℕ)
shared_of [] = []
shared_of (p ∷ rolls) = replicate p.0 p.1 ∷ shared_of rolls

-- Shared binary `id` is so many times this byte, at most 1,024 times.
pub record IsRoll (shared : List (List ℕ)) (id len byte : ℕ) : Type 0 where
  pub from_one : 0 < id
  pub known : id ≤ length shared
  pub bytes : shared_bytes shared id ≡ replicate len byte
  pub few : len ≤ 1024

-- The word is clear of the room, and the tree that it stands for has no name but these.
pub record IsGood (shared names : List (List ℕ)) (room : Room) (mem : List ℕ) (w : ℕ) : Type 0 where
  pub tree : Tree
  pub clear : Clear room shared mem w tree
  pub named : is_named (length names) tree ≡ true

-- So is each of these words.
pub record AreGood (shared names : List (List ℕ)) (room : Room) (mem ws : List ℕ) : Type 0 where
  pub each : (i : ℕ) → i < length ws → IsGood shared names room mem (slice_index ws i)

-- So are the words of each of these pairs.
pub record ArePairs (shared names : List (List ℕ)) (room : Room) (mem : List ℕ) (pairs : List (ℕ × ℕ)) : Type 0 where
  pub each : (i : ℕ) → i < length pairs
      → IsGood shared names room mem (slice_index_or pairs i (0, 0)).0 × IsGood shared names room mem (slice_index_or pairs i (0, 0)).1

-- The words are good, and the room is one of the memory.
pub record IsBench (shared names : List (List ℕ)) (room : Room) (mem ws : List ℕ) : Type 0 where
  pub place : IsRoom room mem
  pub good : AreGood shared names room mem ws

-- What was clear of the room is so still, and a word that was made is good.
pub record Makes (shared names : List (List ℕ)) (old new : Room) (mem mem' : List ℕ) (made : Option ℕ) : Type 0 where
  pub place : IsRoom new mem'
  pub kept : KeepsClear old new mem mem'
  pub good : IfSome made (λ w. IsGood shared names new mem' w)

-- The words stand for terms whose names are among these.
pub record AreTerms (names : List (List ℕ)) (mem ws : List ℕ) : Type 0 where
  pub shared : List (List ℕ)
  pub room : Room
  pub good : AreGood shared names room mem ws
