-- A copy on the way: the objects that were copied, which of their words were gone through, and what one step does.
use Rattle.std.specs.Prelude.{◌≡◌, ℕ, ◌+◌, ◌*◌, ◌/◌, ◌%◌, ◌^◌, ◌<◌, ◌≤◌, ◌⊎◌, if◌then◌else◌, Bool, true, false, List, [], ◌∷◌, length, slice_index}
use Rattle.plain_term.specs.Tree.{Tree, Trees, trees_len}
use Rattle.plain_term.specs.Tree.Trees.{end, ◌▹◌}
use Rattle.plain_term.specs.Measures.{flat, flat_of_all}
use Rattle.word_mem.specs.declared.ranges.Room.{Room}
use Rattle.term_words.specs.Role.{COUNT, IsSingle}
use Rattle.term_words.specs.Object.{IsPointer, IsRecord, object_words}
use Rattle.term_words.specs.Stands.{Stands}
use Rattle.term_words.specs.Reach.{first_traced, parts_of}
use Rattle.term_build.specs.Taken.{IsFree}
use Rattle.shared_rec.specs.Record.{count_in}
use Rattle.off_heap_list.specs.Links.{names_it, named}
use Rattle.object_rows.specs.Row.{is_link}
use Rattle.term_copy.specs.Copied.{Task}

-- The tree stands clear of the free words, and these hold its flat words.
pub record ReadyToCopy (p : Task) : Type 0 where
  pub single : IsSingle p.test
  pub standing : Stands p.test p.shared p.start p.word p.tree
  pub clear : IsFree p.test p.top p.limit
  pub fits : p.top + flat p.tree ≤ p.limit

-- A copied object: its place, the pointer to the object that it was copied from, and the tree of both.
pub record Item : Type 0 where
  pub place : ℕ
  pub word : ℕ
  pub tree : Tree

-- It is one of these.
abbrev pub Among : Item → List Item → Type 0
Among x [] = ⊥
Among x (y ∷ ys) = (x ≡ y) ⊎ Among x ys

-- They lie from one place up to another, side by side.
abbrev pub Spread : List ℕ → (from : ℕ) → List Item → (to : ℕ) → Type 0
Spread old from [] to = from ≡ to
Spread old from (x ∷ xs) to = (x.place ≡ from) × Spread old (from + object_words old x.word) xs to

-- The flat words of all their parts.
abbrev pub flat_of_parts : List Item → ℕ
flat_of_parts [] = 0
flat_of_parts (x ∷ xs) = flat_of_all (parts_of x.tree) + flat_of_parts xs

-- How many of them are holders and funs that name the record.
abbrev pub tally : List ℕ → (v : ℕ) → List Item → ℕ
tally old v [] = 0
tally old v (x ∷ xs) = (if is_link old x.word then names_it (named old (x.word / 4)) v else 0) + tally old v xs

-- The word points to an object that is copied.
pub record Goes (p : Task) (w : ℕ) : Type 0 where
  pub pointer : IsPointer w
  pub goes : p.stay (w / 4) ≡ false

-- The word x is what the word w has become: the pointer to a copy of its object, or the same word where none is copied.
abbrev pub IsCopiedWord : Task → List Item → (w x : ℕ) → Type 0
IsCopiedWord p xs w x = ((Goes p w → ⊥) × (x ≡ w)) ⊎ (Goes p w × ((z : Item) × (Among z xs × ((z.word ≡ w) × (x ≡ z.place * 4 + w % 4)))))

-- The copy has the words of its original, but for 0 in place of a word `next`; its traced words below a mark have been
-- replaced by their images.
pub record HasCopiedWords (p : Task) (mem : List ℕ) (mark : ℕ) (xs : List Item) (x : Item) : Type 0 where
  pub plain : (j q : ℕ) → j < first_traced p.start x.word → j < object_words p.start x.word → q ≡ x.place + j
      → (is_link p.start x.word ≡ true → j ≡ 2 → ⊥) → slice_index mem q ≡ slice_index p.start (x.word / 4 + j)
  pub next : is_link p.start x.word ≡ true → slice_index mem (x.place + 2) ≡ 0
  pub waits : (j q : ℕ) → first_traced p.start x.word ≤ j → j < object_words p.start x.word → q ≡ x.place + j → mark ≤ q
      → slice_index mem q ≡ slice_index p.start (x.word / 4 + j)
  pub done : (j q : ℕ) → first_traced p.start x.word ≤ j → j < object_words p.start x.word → q ≡ x.place + j → q < mark
      → IsCopiedWord p xs (slice_index p.start (x.word / 4 + j)) (slice_index mem q)

-- At the place is a traced word of a copy, below a mark, in place of one that points to an object that is copied.
pub record IsLed (p : Task) (mark : ℕ) (xs : List Item) (q : ℕ) : Type 0 where
  pub item : Item
  pub among : Among item xs
  pub index : ℕ
  pub traced : first_traced p.start item.word ≤ index
  pub below : index < object_words p.start item.word
  pub place : q ≡ item.place + index
  pub past : q < mark
  pub goes : Goes p (slice_index p.start (item.word / 4 + index))

-- An object of the tree that is copied.
pub record IsOf (p : Task) (x : Item) : Type 0 where
  pub goes : Goes p x.word
  pub standing : Stands p.test p.shared p.start x.word x.tree

-- Copies lie up to `top`; the traced words below a mark have been gone through, and the parts of the objects from place `at`
-- on are all left; beside these, words of a tree or trees of so many flat words are. Some copies are known by name. The
-- pointers to copies rise with their places, behind the first copy.
pub record Copying (p : Task) (known : List Item) (mem : List ℕ) (mark at top owed : ℕ) : Type 0 where
  pub ready : ReadyToCopy p
  pub items : List Item
  pub after : List Item
  pub has : (x : Item) → Among x known → Among x items
  pub marked : mark ≤ at
  pub row : Spread p.start p.top items top
  pub further : Spread p.start at after top
  pub among : (x : Item) → Among x after → Among x items
  pub stands : (x : Item) → Among x items → IsOf p x
  pub copies : (x : Item) → Among x items → HasCopiedWords p mem mark items x
  pub rises : (q r : ℕ) → IsLed p mark items q → IsLed p mark items r → q < r → slice_index mem q / 4 < slice_index mem r / 4
  pub beyond : (q : ℕ) → IsLed p mark items q → p.top < slice_index mem q / 4
  pub same_len : length mem ≡ length p.start
  pub others : (q : ℕ) → (q < p.top) ⊎ (top ≤ q) → (p.test q COUNT ≡ true → ⊥) → slice_index mem q ≡ slice_index p.start q
  pub counts : (v n : ℕ) → IsRecord p.test p.start v n → count_in mem v ≡ count_in p.start v + tally p.start v items
  pub used : top + (owed + flat_of_parts after) ≤ p.top + flat p.tree
  pub exact : ((q : ℕ) → p.stay q ≡ false) → top + (owed + flat_of_parts after) ≡ p.top + flat p.tree

-- A traced word before the copy was replaced and points to it.
pub record IsLedTo (p : Task) (mem : List ℕ) (mark : ℕ) (xs : List Item) (x : Item) : Type 0 where
  pub from : ℕ
  pub led : IsLed p mark xs from
  pub there : slice_index mem from / 4 ≡ x.place
  pub before : from < x.place

-- A word leads to each copy, but for the first one, the root's.
abbrev pub AllAreLed : Task → List ℕ → (mark : ℕ) → List Item → Type 0
AllAreLed p mem mark xs = (x : Item) → Among x xs → (x.place ≡ p.top) ⊎ IsLedTo p mem mark xs x

-- A copy on the way where a word leads to each object that was copied.
pub record Leading (p : Task) (known : List Item) (mem : List ℕ) (mark at top owed : ℕ) : Type 0 where
  pub on : Copying p known mem mark at top owed
  pub led : AllAreLed p mem mark on.items

-- The words from place q on stand for the trees in order, in the memory that the copy began with.
abbrev pub Pends : Task → List ℕ → ℕ → Trees → Type 0
Pends p mem q end = Unit {0}
Pends p mem q (t ▹ ts) = Stands p.test p.shared p.start (slice_index mem q) t × Pends p mem (q + 1) ts

-- The words from a mark up to place `at`, the last of a copy, are left, and stand for these trees.
pub record Scanning (p : Task) (known : List Item) (mem : List ℕ) (mark at top : ℕ) (rest : Trees) : Type 0 where
  pub on : Copying p known mem mark at top (flat_of_all rest)
  pub led : AllAreLed p mem mark on.items
  pub pends : Pends p mem mark rest
  pub ends : mark + trees_len rest ≡ at
  pub item : Item
  pub among : Among item on.items
  pub traced : item.place + first_traced p.start item.word ≤ mark
  pub whole : item.place + object_words p.start item.word ≡ at

-- An object was copied to the words from a place on; x points there. A copied holder or fun has `next` 0, and its record
-- counts one more.
pub record Took (old new : List ℕ) (w to x : ℕ) : Type 0 where
  pub same_len : length new ≡ length old
  pub word : x ≡ to * 4 + w % 4
  pub same : (j q : ℕ) → j < object_words old w → q ≡ to + j → (is_link old w ≡ true → j ≡ 2 → ⊥) → slice_index new q ≡ slice_index old (w / 4 + j)
  pub next : is_link old w ≡ true → slice_index new (to + 2) ≡ 0
  pub count : is_link old w ≡ true → count_in new (named old (w / 4)) ≡ count_in old (named old (w / 4)) + 1
  pub rest : (q : ℕ) → (q < to) ⊎ (to + object_words old w ≤ q) → (is_link old w ≡ true → q ≡ named old (w / 4) + 2 → ⊥) → slice_index new q ≡ slice_index old q

-- The place lies beside n words.
abbrev pub LiesBeside : (a n q : ℕ) → Type 0
LiesBeside a n q = (q < a) ⊎ (a + n ≤ q)

-- A holder or fun has six words, and its record, whose count is no word of it nor of its copy, can count one more.
pub record CanCount (mem : List ℕ) (top w : ℕ) : Type 0 where
  pub size : 6 ≤ object_words mem w
  pub within : named mem (w / 4) + 4 ≤ length mem
  pub few : count_in mem (named mem (w / 4)) < 2 ^ 24
  pub here : LiesBeside (w / 4) (object_words mem w) (named mem (w / 4) + 2)
  pub there : LiesBeside top (object_words mem w) (named mem (w / 4) + 2)

-- The object can be copied to the free words from a place on, up to a limit.
pub record CanTake (mem : List ℕ) (top limit w : ℕ) : Type 0 where
  pub pointer : IsPointer w
  pub within : w / 4 + object_words mem w ≤ length mem
  pub fits : top + object_words mem w ≤ limit
  pub inside : limit ≤ length mem
  pub apart : (w / 4 + object_words mem w ≤ top) ⊎ (top + object_words mem w ≤ w / 4)
  pub link : is_link mem w ≡ true → CanCount mem top w

-- The room's free places reach to the limit, and no record's count will be too large.
pub record CopyHasRoom (p : Task) (limit : ℕ) : Type 0 where
  pub same : limit ≡ p.limit
  pub inside : p.limit ≤ length p.start
  pub counts : (v n : ℕ) → IsRecord p.test p.start v n → count_in p.start v < 2 ^ 23

-- The room has another first free place, no earlier one.
pub record Advances (old new : Room) : Type 0 where
  pub start : new.start ≡ old.start
  pub end : new.end ≡ old.end
  pub top : old.top ≤ new.top
  pub inside : new.top ≤ new.end

-- These places stay in the copy.
abbrev pub IsStay : Task → (ℕ → Bool) → Type 0
IsStay p stay = (q : ℕ) → stay q ≡ p.stay q

-- The object that the pointer leads to is copied next: it stands for a tree whose flat words are left beside others.
pub record CanPart (mem : List ℕ) (room : Room) (w : ℕ) : Type 0 where
  pub task : Task
  pub known : List Item
  pub mark : ℕ
  pub at : ℕ
  pub owed : ℕ
  pub tree : Tree
  pub on : Copying task known mem mark at room.top (flat tree + owed)
  pub standing : Stands task.test task.shared task.start w tree
  pub goes : Goes task w
  pub has : CopyHasRoom task room.end

-- A step of the copy has come to an image of the word, behind those that were written; the image leads to a copy to which no
-- other word does.
pub record HasImage (p : Task) (known : List Item) (mem : List ℕ) (mark at top owed w x : ℕ) : Type 0 where
  pub on : Copying p known mem mark at top owed
  pub image : IsCopiedWord p on.items w x
  pub later : (q : ℕ) → IsLed p mark on.items q → slice_index mem q / 4 < x / 4
  pub led : (z : Item) → Among z on.items → (z.place ≡ x / 4) ⊎ ((z.place ≡ p.top) ⊎ IsLedTo p mem mark on.items z)

-- The words from a place up to another are gone through next.
pub record CanScanRest (mem : List ℕ) (room : Room) (stay : ℕ → Bool) (mark at : ℕ) (rest : Trees) : Type 0 where
  pub task : Task
  pub known : List Item
  pub on : Scanning task known mem mark at room.top rest
  pub has : CopyHasRoom task room.end
  pub same_stay : IsStay task stay

-- The first of these words is.
pub record CanWord (mem : List ℕ) (room : Room) (stay : ℕ → Bool) (mark : ℕ) : Type 0 where
  pub at : ℕ
  pub tree : Tree
  pub rest : Trees
  pub can : CanScanRest mem room stay mark at (tree ▹ rest)

-- Some words up to a place are.
pub record CanWords (mem : List ℕ) (room : Room) (stay : ℕ → Bool) (mark at : ℕ) : Type 0 where
  pub rest : Trees
  pub can : CanScanRest mem room stay mark at rest

-- The object at a place is gone through next.
pub record CanScanObject (mem : List ℕ) (room : Room) (stay : ℕ → Bool) (at : ℕ) : Type 0 where
  pub task : Task
  pub known : List Item
  pub on : Leading task known mem at at room.top 0
  pub some : at < room.top
  pub has : CopyHasRoom task room.end
  pub same_stay : IsStay task stay

-- The root has an image by the copies that are known, the first copy where it is copied, and the parts of all copies are left.
-- Where the root is not copied, nothing is.
pub record Begun (p : Task) (mem : List ℕ) (at top result : ℕ) : Type 0 where
  pub known : List Item
  pub image : IsCopiedWord p known p.word result
  pub first : Goes p p.word → result / 4 ≡ p.top
  pub on : Copying p known mem at at top 0
  pub led : AllAreLed p mem at on.items
  pub past : p.top ≤ at
  pub none : (Goes p p.word → ⊥) → top ≡ p.top
