-- Words of the terms that items are read as, and what building leaves of a memory.
use Rattle.std.specs.Prelude.{◌≡◌, ℕ, zero, suc, ◌+◌, ◌-◌, ◌*◌, ◌^◌, ◌<◌, ◌≤◌, ◌⊎◌, ◌==◌, Bool, true, false, List, [], ◌∷◌, ◌++◌, length, drop, slice_index, slice_index_or, Option, Some, None, Result, Ok, Err}
use Rattle.std.specs.List.{list_any}
use Rattle.word_mem.specs.declared.ranges.Room.{Room}
use Rattle.plain_term.specs.declared.item.Item.{Item}
use Rattle.plain_term.specs.declared.item.Item.TheVariants.{Int, Atom, Pid, Held}
use Rattle.plain_term.specs.Tree.{Tree}
use Rattle.plain_term.specs.Tree.Tree.{Nil, Shared}
use Rattle.plain_term.specs.Tree.Trees.{end}
use Rattle.plain_term.specs.Measures.{magnitude}
use Rattle.term_tags.specs.declared.kinds.TheConstants.{ATOMS, PIDS}
use Rattle.term_tags.specs.Words.{boxed_word}
use Rattle.term_tags.specs.declared.layouts.TheConstants.{MOST_PARTS}
use Rattle.term_order.specs.Named.{is_named}
use Rattle.term_words.specs.Role.{NEXT, RECORD_FIRST, Idle, IsSingle, OfObject, OfRecord, always}
use Rattle.term_words.specs.Object.{IsBinRecord}
use Rattle.plain_term.specs.Bytes.{shared_bytes}
use Rattle.term_words.specs.Kept.{Kept}
use Rattle.term_words.specs.Stands.{Stands}
use Rattle.term_build.specs.Taken.{IsFree}
use Rattle.term_build.specs.Grows.{Grows}
use Rattle.term_build.specs.Clear.{IsRoom, Uses}
use Rattle.shared_rec.specs.Record.{count_in}
use Rattle.off_heap_list.specs.Links.{Links}
use Rattle.item_build.specs.declared.bins.Making.{Making}
use Rattle.item_build.specs.declared.building.BuildStop.{BuildStop}
use Rattle.item_build.specs.declared.putting.TheConstants.{WIDE}
use Rattle.item_build.specs.Reading.{IsItem, bins_of, is_big_item, is_byte, is_long, own_words, parts_after, tree_with}

-- The held words stand for these trees, in order.
pub record HeldStand (c : ℕ → ℕ → Bool) (shared : List (List ℕ)) (mem held : List ℕ) (trees : List Tree) : Type 0 where
  pub each : (r : ℕ) → r < length held → Stands c shared mem (slice_index held r) (slice_index_or trees r Nil)

-- So it is by some test without a role for the free words of the room, over as many shared binaries as there are, and all names of
-- the trees are among the names.
pub record HasHeld (names : List (List ℕ)) (serial : ℕ) (room : Room) (mem held : List ℕ) : Type 0 where
  pub test : ℕ → ℕ → Bool
  pub shared : List (List ℕ)
  pub trees : List Tree
  pub serials : length shared ≡ serial
  pub free : IsFree test room.top room.end
  pub standing : HeldStand test shared mem held trees
  pub named : (r : ℕ) → r < length held → is_named (length names) (slice_index_or trees r Nil) ≡ true

-- The places of n holders of six words from a place on, the last one first.
abbrev pub holders_from : (top n : ℕ) → List ℕ
holders_from top zero = []
holders_from top (suc n) = (top + 6 * n) ∷ holders_from top n

-- At place p lies the holder of the shared binary with this id, and its record counts it alone.
pub record IsNewBin (c : ℕ → ℕ → Bool) (shared : List (List ℕ)) (mem : List ℕ) (p id : ℕ) : Type 0 where
  pub holder : Stands c shared mem (boxed_word p) (Shared id)
  pub counted : count_in mem (slice_index mem (p + 3)) ≡ 1

-- Roles grew: those of objects at the front of the room, those of records at its end. Of n new shared binaries the holders lie side by
-- side from the room's first free word on, ids rising from above `serial`; each holder leads to the one before it, and the first one
-- to what was the chain's first object. No other word `next`, and no other record, came to stand.
pub record Laid (c d : ℕ → ℕ → Bool) (shared : List (List ℕ)) (old new : Room) (mem mem' : List ℕ) (head head' serial n : ℕ) : Type 0 where
  pub more : (a k : ℕ) → c a k ≡ true → d a k ≡ true
  pub within : (a k : ℕ) → d a k ≡ true → (c a k ≡ true)
      ⊎ (((old.top ≤ a) × ((a < new.top) × OfObject k)) ⊎ ((new.end ≤ a) × ((a < old.end) × OfRecord k)))
  pub single : IsSingle c → IsSingle d
  pub kept : Kept c d mem mem'
  pub bins : (i : ℕ) → i < n → IsNewBin d shared mem' (old.top + 6 * i) (serial + suc i)
  pub nexts : (a : ℕ) → d a NEXT ≡ true → (c a NEXT ≡ true) ⊎ ((i : ℕ) × ((i < n) × (a ≡ old.top + 6 * i + 2)))
  pub records : (v : ℕ) → d v RECORD_FIRST ≡ true → (c v RECORD_FIRST ≡ true) ⊎ ((i : ℕ) × ((i < n) × (v ≡ slice_index mem' (old.top + 6 * i + 3))))
  pub links : (os further : List ℕ) → IsSingle c → Links c mem head os further → Links d mem' head' (holders_from old.top n ++ os) further

-- A record of the shared binary with this id lies at place v, and no object names it yet.
pub record Waits (c : ℕ → ℕ → Bool) (shared : List (List ℕ)) (mem : List ℕ) (v id : ℕ) : Type 0 where
  pub standing : IsBinRecord c mem v id (shared_bytes shared id)
  pub count : count_in mem v ≡ 0
  pub idle : Idle c (v + 2)

-- The row begins with the places of such records: those of the n shared binaries after so many, in order.
pub record RecordsWait (c : ℕ → ℕ → Bool) (shared : List (List ℕ)) (mem row : List ℕ) (serial n : ℕ) : Type 0 where
  pub known : serial + n ≤ length shared
  pub each : (i : ℕ) → i < n → Waits c shared mem (slice_index row i) (serial + suc i)

-- So it is by some test without a role for the free words of the room.
pub record HasRecords (room : Room) (mem row : List ℕ) (serial n : ℕ) : Type 0 where
  pub test : ℕ → ℕ → Bool
  pub shared : List (List ℕ)
  pub free : IsFree test room.top room.end
  pub waiting : RecordsWait test shared mem row serial n

-- The held words stand, and by the same test so do the records of the long binaries among the items.
pub record FindsParts (names : List (List ℕ)) (serial : ℕ) (room : Room) (mem held row : List ℕ) (n : ℕ) (code : List Item) : Type 0 where
  pub parts : HasHeld names serial room mem held
  pub waiting : RecordsWait parts.test (parts.shared ++ bins_of code) mem row serial n

-- Roles of records grew at the end of the room: those of n new shared binaries, whose places the row begins with. A chain stands still.
pub record Recorded (c d : ℕ → ℕ → Bool) (shared : List (List ℕ)) (old new : Room) (mem mem' row : List ℕ) (serial n : ℕ) : Type 0 where
  pub more : (a k : ℕ) → c a k ≡ true → d a k ≡ true
  pub within : (a k : ℕ) → d a k ≡ true → (c a k ≡ true) ⊎ ((new.end ≤ a) × ((a < old.end) × OfRecord k))
  pub single : IsSingle c → IsSingle d
  pub kept : Kept c d mem mem'
  pub each : (i : ℕ) → i < n → Waits d shared mem' (slice_index row i) (serial + suc i)
  pub fresh : (i : ℕ) → i < n → (new.end ≤ slice_index row i) × (slice_index row i + 4 ≤ old.end)
  pub records : (v : ℕ) → d v RECORD_FIRST ≡ true → (c v RECORD_FIRST ≡ true) ⊎ ((i : ℕ) × ((i < n) × (v ≡ slice_index row i)))
  pub links : (head : ℕ) (os further : List ℕ) → Links c mem head os further → Links d mem' head os further

-- By some test they are.
pub record RecordedBins (c : ℕ → ℕ → Bool) (shared : List (List ℕ)) (old new : Room) (mem mem' row : List ℕ) (serial n : ℕ) : Type 0 where
  pub test : ℕ → ℕ → Bool
  pub laid : Recorded c test shared old new mem mem' row serial n

-- Roles of objects grew between two places. Of the first n records that the row tells, the holders lie side by side from the first
-- place on, ids rising from above `serial`; each holder leads to the one before it, and the first one to what was the chain's first
-- object. No other word `next` came to stand.
pub record LaidOver (c d : ℕ → ℕ → Bool) (shared : List (List ℕ)) (top to : ℕ) (mem mem' row : List ℕ) (head head' serial n : ℕ) : Type 0 where
  pub more : (a k : ℕ) → c a k ≡ true → d a k ≡ true
  pub within : (a k : ℕ) → d a k ≡ true → (c a k ≡ true) ⊎ ((top ≤ a) × ((a < to) × OfObject k))
  pub single : IsSingle c → IsSingle d
  pub kept : Kept c d mem mem'
  pub bins : (i : ℕ) → i < n → IsNewBin d shared mem' (top + 6 * i) (serial + suc i)
  pub names : (i : ℕ) → i < n → slice_index mem' (top + 6 * i + 3) ≡ slice_index row i
  pub nexts : (a : ℕ) → d a NEXT ≡ true → (c a NEXT ≡ true) ⊎ ((i : ℕ) × ((i < n) × (a ≡ top + 6 * i + 2)))
  pub links : (os further : List ℕ) → IsSingle c → Links c mem head os further → Links d mem' head' (holders_from top n ++ os) further

-- By some test they are.
pub record OverBins (c : ℕ → ℕ → Bool) (shared : List (List ℕ)) (top to : ℕ) (mem mem' row : List ℕ) (was is : Making) (n : ℕ) : Type 0 where
  pub test : ℕ → ℕ → Bool
  pub laid : LaidOver c test shared top to mem mem' row was.head is.head was.serial n

-- The room has its first free word at another place, and all words are as before but its free ones and the counts of the first n
-- records that the row tells.
pub record LeavesBut (row : List ℕ) (n : ℕ) (old new : Room) (mem mem' : List ℕ) : Type 0 where
  pub same_start : new.start ≡ old.start
  pub front : old.top ≤ new.top
  pub order : new.top ≤ new.end
  pub same_end : new.end ≡ old.end
  pub same_len : length mem' ≡ length mem
  pub others : (q : ℕ) → (q < old.top) ⊎ (old.end ≤ q) → ((i : ℕ) → i < n → q ≡ slice_index row i + 2 → ⊥) → slice_index mem' q ≡ slice_index mem q

-- The word stands for the tree by a test that grew over such records.
pub record MadeOver (c : ℕ → ℕ → Bool) (shared : List (List ℕ)) (old new : Room) (mem mem' row : List ℕ) (was is : Making) (n w : ℕ) (t : Tree) : Type 0 where
  pub test : ℕ → ℕ → Bool
  pub laid : LaidOver c test shared old.top new.top mem mem' row was.head is.head was.serial n
  pub made : Stands test shared mem' w t

-- The room has its free words between these places, and all words but the free ones of the room before are as before.
pub record LeavesRoom (old new : Room) (mem mem' : List ℕ) : Type 0 where
  pub same_start : new.start ≡ old.start
  pub front : old.top ≤ new.top
  pub order : new.top ≤ new.end
  pub back : new.end ≤ old.end
  pub same_len : length mem' ≡ length mem
  pub others : (q : ℕ) → (q < old.top) ⊎ (old.end ≤ q) → slice_index mem' q ≡ slice_index mem q

-- The word stands for the tree by a test that grew so.
pub record MadeTree (c : ℕ → ℕ → Bool) (shared : List (List ℕ)) (old new : Room) (mem mem' : List ℕ) (was is : Making) (n w : ℕ) (t : Tree) : Type 0 where
  pub test : ℕ → ℕ → Bool
  pub laid : Laid c test shared old new mem mem' was.head is.head was.serial n
  pub made : Stands test shared mem' w t

-- Holders of all long binaries among the items stand side by side below this place, the last one last, and have the last ids.
pub record BinsStand (c : ℕ → ℕ → Bool) (shared : List (List ℕ)) (mem : List ℕ) (bins many : ℕ) : Type 0 where
  pub low : 6 * many ≤ bins
  pub each : (j : ℕ) → j < many → Stands c shared mem (boxed_word (bins - 6 * suc j)) (Shared (length shared - j))

-- The holder of an item that is a long binary, with so many behind it, stands at this place.
pub record HolderStands (c : ℕ → ℕ → Bool) (shared : List (List ℕ)) (mem : List ℕ) (bin : ℕ) (x : Item) (later : ℕ) : Type 0 where
  pub stands : is_long x ≡ true → Stands c shared mem (boxed_word bin) (Shared (length shared - later))

-- Held words and holders stand by some test without a role for the first n free words of the room.
pub record CanRead (names : List (List ℕ)) (n : ℕ) (room : Room) (mem held : List ℕ) (bins many : ℕ) : Type 0 where
  pub test : ℕ → ℕ → Bool
  pub shared : List (List ℕ)
  pub trees : List Tree
  pub free : IsFree test room.top (room.top + n)
  pub standing : HeldStand test shared mem held trees
  pub holders : BinsStand test shared mem bins many
  pub named : (r : ℕ) → r < length held → is_named (length names) (slice_index_or trees r Nil) ≡ true

-- Some of the first n free words of the room are taken, and all words but these are as before.
pub record UsesSome (n : ℕ) (old new : Room) (mem mem' : List ℕ) : Type 0 where
  pub used : ℕ
  pub few : used ≤ n
  pub uses : Uses used old new mem mem'

-- All words but the first n free words of the room are as before.
pub record Spares (n : ℕ) (room : Room) (mem mem' : List ℕ) : Type 0 where
  pub same_len : length mem' ≡ length mem
  pub others : (q : ℕ) → (q < room.top) ⊎ (room.top + n ≤ q) → slice_index mem' q ≡ slice_index mem q

-- What was built over such records is what the items come to: a word that stands for their tree, or the same reason for none.
abbrev pub BuildsOver : (ℕ → ℕ → Bool) → List (List ℕ) → (old new : Room) (mem mem' row : List ℕ) (was is : Making) (n : ℕ) → Result ℕ BuildStop
    → Result Tree BuildStop
    → Type 0
BuildsOver c shared old new mem mem' row was is n (Ok w) (Ok t) = MadeOver c shared old new mem mem' row was is n w t
BuildsOver c shared old new mem mem' row was is n (Err e) (Err f) = e ≡ f
BuildsOver c shared old new mem mem' row was is n (Ok w) (Err f) = ⊥
BuildsOver c shared old new mem mem' row was is n (Err e) (Ok t) = ⊥

-- What was built is what the items come to: a word that stands for their tree, or the same reason for none.
abbrev pub BuildsTerm : (ℕ → ℕ → Bool) → List (List ℕ) → (old new : Room) (mem mem' : List ℕ) (was is : Making) (n : ℕ) → Result ℕ BuildStop
    → Result Tree BuildStop
    → Type 0
BuildsTerm c shared old new mem mem' was is n (Ok w) (Ok t) = MadeTree c shared old new mem mem' was is n w t
BuildsTerm c shared old new mem mem' was is n (Err e) (Err f) = e ≡ f
BuildsTerm c shared old new mem mem' was is n (Ok w) (Err f) = ⊥
BuildsTerm c shared old new mem mem' was is n (Err e) (Ok t) = ⊥

-- The word stands for the tree; that of a wide term is no word of a term.
abbrev pub IsMark : (ℕ → ℕ → Bool) → List (List ℕ) → List ℕ → ℕ → Option Tree → Type 0
IsMark c shared mem w None = w ≡ WIDE
IsMark c shared mem w (Some t) = Stands c shared mem w t

-- So does each of the words, in order.
unfoldable pub AreMarks : (ℕ → ℕ → Bool) → List (List ℕ) → List ℕ → List ℕ → List (Option Tree) → Type 0
AreMarks c shared mem [] [] = Unit {0}
AreMarks c shared mem (w ∷ ws) (m ∷ ms) = IsMark c shared mem w m × AreMarks c shared mem ws ms
AreMarks c shared mem [] (m ∷ ms) = ⊥
AreMarks c shared mem (w ∷ ws) [] = ⊥

-- All names of the trees that are there are below n.
abbrev pub MarksNamed : (n : ℕ) → List (Option Tree) → Type 0
MarksNamed n [] = Unit {0}
MarksNamed n (None ∷ ms) = MarksNamed n ms
MarksNamed n (Some t ∷ ms) = (is_named n t ≡ true) × MarksNamed n ms

-- Some word is that of a wide term.
abbrev pub holds_wide : List ℕ → Bool
holds_wide ws = list_any (λ w. w == WIDE) ws

-- The word stands for a tree, or for a wide term.
pub record HasMark (mem : List ℕ) (w : ℕ) : Type 0 where
  pub shared : List (List ℕ)
  pub mark : Option Tree
  pub standing : IsMark always shared mem w mark

-- So does each of the words.
pub record HasMarks (mem ws : List ℕ) : Type 0 where
  pub shared : List (List ℕ)
  pub marks : List (Option Tree)
  pub standing : AreMarks always shared mem ws marks

-- An item can be put before terms, of which these are the words: its parts are among them, the room has its own words, and
-- all names of the terms are below `names`.
pub record CanPut (names held : ℕ) (room : Room) (mem ws : List ℕ) (x : Item) : Type 0 where
  pub item : IsItem names held x
  pub parts : parts_after x ≤ length ws
  pub few : parts_after x ≤ MOST_PARTS
  pub places : IsRoom room mem
  pub words : room.top + own_words x ≤ room.end
  pub shared : List (List ℕ)
  pub marks : List (Option Tree)
  pub standing : AreMarks always shared mem ws marks
  pub named : MarksNamed names marks

-- The item is no map with a big key, where these are the words of its parts.
pub record HasNoBigKey (mem ws : List ℕ) (x : Item) : Type 0 where
  pub each : (c : ℕ → ℕ → Bool) (shared : List (List ℕ)) (ms : List (Option Tree)) → AreMarks c shared mem ws ms → is_big_item shared x ms ≡ false

-- Roles grew in the n words from place `top` on, and by them the word stands for the tree or for a wide term.
pub record MarkBuilt (c : ℕ → ℕ → Bool) (top n : ℕ) (old new : List ℕ) (shared : List (List ℕ)) (w : ℕ) (m : Option Tree) : Type 0 where
  pub test : ℕ → ℕ → Bool
  pub grows : Grows c test top n old new
  pub made : IsMark test shared new w m

-- The same of words, in order.
pub record MarksBuilt (c : ℕ → ℕ → Bool) (top n : ℕ) (old new : List ℕ) (shared : List (List ℕ)) (ws : List ℕ) (ms : List (Option Tree)) : Type 0 where
  pub test : ℕ → ℕ → Bool
  pub grows : Grows c test top n old new
  pub made : AreMarks test shared new ws ms

-- An item was put, and the words from this place on stand for these terms; or it has a big key.
abbrev pub Puts : (ℕ → ℕ → Bool) → List (List ℕ) → (old new : Room) (mem mem' : List ℕ) → Option ℕ → List ℕ → (big : Bool) → List (Option Tree) → Type 0
Puts c shared old new mem mem' None row big ms = big ≡ true
Puts c shared old new mem mem' (Some sp) row big ms = (big ≡ false) × MarksBuilt c old.top (new.top - old.top) mem mem' shared (drop sp row) ms

-- All items were put, and the word stands for the one term; or one has a big key.
abbrev pub PutsAll : (ℕ → ℕ → Bool) → List (List ℕ) → (old new : Room) (mem mem' : List ℕ) → Option ℕ → (big : Bool) → List (Option Tree) → Type 0
PutsAll c shared old new mem mem' None big ms = big ≡ true
PutsAll c shared old new mem mem' (Some w) big ms = (big ≡ false) × MarksBuilt c old.top (new.top - old.top) mem mem' shared (w ∷ []) ms

-- The number in an item fits a word.
abbrev pub FitsWord : (held : ℕ) → Item → Type 0
FitsWord held (Int i) = magnitude i < 2 ^ 127
FitsWord held (Atom k) = k < ATOMS
FitsWord held (Pid n) = n < PIDS
FitsWord held (Held r) = r < held
FitsWord held _ = Unit {0}

-- The word stands for an item without parts, whatever the memory.
pub record IsLeaf (held : List ℕ) (x : Item) (w : ℕ) : Type 0 where
  pub parts : parts_after x ≡ 0
  pub term : is_byte x ≡ false
  pub small : (shared : List (List ℕ)) (ms : List (Option Tree)) → is_big_item shared x ms ≡ false
  pub stands : (c : ℕ → ℕ → Bool) (names shared : List (List ℕ)) (mem : List ℕ) (trees : List Tree) (xs : List Item) → HeldStand c shared mem held trees
      → IsMark c shared mem w (tree_with names shared trees x xs end)
