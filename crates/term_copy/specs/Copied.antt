-- What a copy of a tree asks and promises.
use Rattle.std.specs.Prelude.{◌≡◌, ℕ, ◌+◌, ◌/◌, ◌^◌, ◌<◌, ◌≤◌, ◌⊎◌, Bool, true, false, List, [], ◌∷◌, ◌++◌, length, slice_index}
use Rattle.plain_term.specs.Tree.{Tree}
use Rattle.plain_term.specs.Measures.{flat}
use Rattle.word_mem.specs.declared.ranges.Room.{Room}
use Rattle.term_words.specs.Role.{NEXT, COUNT, IsSingle, OfObject}
use Rattle.term_words.specs.Object.{IsPointer, IsRecord, object_words}
use Rattle.term_words.specs.Stands.{Stands}
use Rattle.term_words.specs.Kept.{Kept}
use Rattle.term_words.specs.Reach.{Reach, first_traced}
use Rattle.term_words.specs.Counted.{In, Distinct}
use Rattle.term_build.specs.Taken.{IsFree}
use Rattle.shared_rec.specs.Record.{count_in}
use Rattle.off_heap_list.specs.Links.{naming, next_in, IsLink, Links}
use Rattle.object_rows.specs.Row.{AreObjects, links_in}

-- What is constant while a tree is copied: the memory that it begins with, the free places of the room, from `top` up to
-- `limit`, which places stay, a test that says where the words of the tree lie, and the word that stands for the tree.
pub record Task : Type 0 where
  pub start : List ℕ
  pub top : ℕ
  pub limit : ℕ
  pub stay : ℕ → Bool
  pub test : ℕ → ℕ → Bool
  pub shared : List (List ℕ)
  pub word : ℕ
  pub tree : Tree

-- The word stands for a tree, by a test of one role a place and clear of the free words of the room; these hold its flat
-- words; and each record's count is below 2^23.
pub record CanCopy (mem : List ℕ) (room : Room) (w : ℕ) : Type 0 where
  pub test : ℕ → ℕ → Bool
  pub shared : List (List ℕ)
  pub tree : Tree
  pub single : IsSingle test
  pub standing : Stands test shared mem w tree
  pub clear : IsFree test room.top room.end
  pub fits : room.top + flat tree ≤ room.end
  pub counts : (v n : ℕ) → IsRecord test mem v n → count_in mem v < 2 ^ 23

-- What stays and stands points to nothing that does not stay.
abbrev pub IsClosed : Task → Type 0
IsClosed p = (v k : ℕ) (u : Tree) → Stands p.test p.shared p.start v u → IsPointer v → p.stay (v / 4) ≡ true → first_traced p.start v ≤ k
    → k < object_words p.start v → IsPointer (slice_index p.start (v / 4 + k)) → p.stay (slice_index p.start (v / 4 + k) / 4) ≡ true

-- At the place is a traced word of one of these objects that points to a place from one on, before another.
pub record PointsInto (mem : List ℕ) (ws : List ℕ) (from to q : ℕ) : Type 0 where
  pub object : ℕ
  pub among : In object ws
  pub index : ℕ
  pub traced : first_traced mem object ≤ index
  pub below : index < object_words mem object
  pub place : q ≡ object / 4 + index
  pub pointer : IsPointer (slice_index mem q)
  pub low : from ≤ slice_index mem q / 4
  pub high : slice_index mem q / 4 < to

-- The new word stands for the tree, by a test that gives the new words the roles of objects and is as before elsewhere. From
-- the first place that was free up to `top` lie new objects side by side, as many words as the tree is flat where nothing
-- stays. The new word reaches each of them; no two traced words of these point to one of them, and none to the object of the
-- new word. Each new holder and fun has `next` 0 and is counted by its record; all words but these counts are as before.
pub record CopiesTree (p : Task) (new : List ℕ) (top result : ℕ) : Type 0 where
  pub test : ℕ → ℕ → Bool
  pub more : (a k : ℕ) → p.test a k ≡ true → test a k ≡ true
  pub within : (a k : ℕ) → test a k ≡ true → (p.test a k ≡ true) ⊎ ((p.top ≤ a) × ((a < top) × OfObject k))
  pub single : IsSingle test
  pub kept : Kept p.test test p.start new
  pub made : Stands test p.shared new result p.tree
  pub same_len : length new ≡ length p.start
  pub others : (q : ℕ) → (q < p.top) ⊎ (top ≤ q) → (p.test q COUNT ≡ true → ⊥) → slice_index new q ≡ slice_index p.start q
  pub used : top ≤ p.top + flat p.tree
  pub exact : ((q : ℕ) → p.stay q ≡ false) → top ≡ p.top + flat p.tree
  pub tiles : List ℕ
  pub row : AreObjects new p.top tiles top
  pub reached : (x : ℕ) → In x tiles → Reach new (result ∷ []) x
  pub apart : (q r : ℕ) → PointsInto new tiles p.top top q → PointsInto new tiles p.top top r → slice_index new q / 4 ≡ slice_index new r / 4 → q ≡ r
  pub rooted : (q : ℕ) → PointsInto new tiles p.top top q → IsPointer result → slice_index new q / 4 ≡ result / 4 → ⊥
  pub alone : IsClosed p → (x : ℕ) → Reach new (result ∷ []) x → IsPointer x → ((p.top ≤ x / 4) × (x / 4 + object_words new x ≤ top)) ⊎ (p.stay (x / 4) ≡ true)
  pub nexts : (a : ℕ) → test a NEXT ≡ true → (p.test a NEXT ≡ true) ⊎ ((q : ℕ) × (In q (links_in new tiles) × (a ≡ q + 2)))
  pub once : Distinct (links_in new tiles)
  pub inside : (q : ℕ) → In q (links_in new tiles) → (p.top ≤ q) × (q + 6 ≤ top)
  pub cleared : (q : ℕ) → In q (links_in new tiles) → next_in new q ≡ 0
  pub copied : (q : ℕ) → In q (links_in new tiles) → (a : ℕ) × (p.test a NEXT ≡ true)
  pub each : 0 < p.top → (q : ℕ) → In q (links_in new tiles) → IsLink test new q
  pub counts : (v n : ℕ) → IsRecord p.test p.start v n → count_in new v ≡ count_in p.start v + naming new v (links_in new tiles)
  pub records : (v n : ℕ) → IsRecord test new v n → IsRecord p.test p.start v n
  pub links : 0 < p.top → (head : ℕ) (os further : List ℕ) → Links p.test p.start head os further
      → Links test new head os (links_in new tiles ++ further)
