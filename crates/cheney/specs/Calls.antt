-- What the calls of a collection ask and promise.
use Rattle.std.specs.Prelude.{◌≡◌, ℕ, ◌+◌, ◌/◌, ◌%◌, ◌<◌, ◌⊎◌, ◌||◌, Bool, true, false, List, slice_index, Some}
use Rattle.term_words.specs.Object.{IsPointer, object_words}
use Rattle.term_tags.specs.Table.{layout_for}
use Rattle.term_tags.specs.declared.layouts.Layout.{Layout}
use Rattle.cheney.specs.declared.moving.Moving.{Moving}
use Rattle.cheney.specs.Spans.{in_span}
use Rattle.cheney.specs.Ranges.{stays}
use Rattle.cheney.specs.Plan.{Plan, Reached, Leaves, IsOutside}
use Rattle.cheney.specs.Moved.{moved, forward, IsImage, Shows, Copies}
use Rattle.cheney.specs.Zones.{Marks, IsTracedPlace, mark, scanned_at, object_at, at_objects}
use Rattle.cheney.specs.Rooms.{top_of, RoomGrows, Runs}

-- A collection runs, and its roots reach the word.
pub record CanMove (mem : List ℕ) (mv : Moving) (w : ℕ) : Type 0 where
  pub plan : Plan
  pub marks : Marks
  pub runs : Runs plan mem mv marks
  pub reached : Reached plan w

-- The word names nothing that moves, and is its own answer.
pub record Stayed (mem mem2 : List ℕ) (mv mv2 : Moving) (w x : ℕ) : Type 0 where
  pub word : x ≡ w
  pub mem_same : mem2 ≡ mem
  pub mv_same : mv2 ≡ mv
  pub stays : IsPointer w → stays mv.stay (w / 4) ≡ true

-- The object was moved before, and the answer is read from it.
pub record Found (mem mem2 : List ℕ) (mv mv2 : Moving) (w x : ℕ) : Type 0 where
  pub word : x ≡ forward mem w
  pub mem_same : mem2 ≡ mem
  pub mv_same : mv2 ≡ mv
  pub pointer : IsPointer w
  pub leaves : stays mv.stay (w / 4) ≡ false
  pub gone : moved mem w ≡ true

-- The object is moved in this call.
pub record Copied (mem mem2 : List ℕ) (mv mv2 : Moving) (w x : ℕ) : Type 0 where
  pub pointer : IsPointer w
  pub leaves : stays mv.stay (w / 4) ≡ false
  pub here : moved mem w ≡ false
  pub copies : Copies mem mem2 w (top_of mv (in_span mv.mature (w / 4))) (object_words mem w) x
  pub grows : RoomGrows mv mv2 (in_span mv.mature (w / 4)) (object_words mem w)

-- The word names a cons that neither stays nor was moved, with this head and this tail.
pub record IsFresh (mem : List ℕ) (mv : Moving) (w head tail : ℕ) : Type 0 where
  pub tag : w % 4 ≡ 1
  pub leaves : stays mv.stay (w / 4) ≡ false
  pub head_is : head ≡ slice_index mem (w / 4)
  pub tail_is : tail ≡ slice_index mem (w / 4 + 1)
  pub here : head ≡ 0 → ⊥

-- What becomes of a word.
abbrev pub Went : List ℕ → List ℕ → Moving → Moving → ℕ → ℕ → Type 0
Went mem mem2 mv mv2 w x = Stayed mem mem2 mv mv2 w x ⊎ (Found mem mem2 mv mv2 w x ⊎ Copied mem mem2 mv mv2 w x)

-- No place.
abbrev pub nowhere : ℕ → Bool
nowhere q = false

-- One of two tests passes.
abbrev pub either : (ℕ → Bool) → (ℕ → Bool) → ℕ → Bool
either s t q = s q || t q

-- What was moved stays moved, to the same place; words outside the rooms, the moved objects and the places that were written
-- beside them stay.
pub record Later (p : Plan) (written : ℕ → Bool) (mem mem2 : List ℕ) : Type 0 where
  pub gone : (v : ℕ) → Reached p v → Leaves p v → moved mem v ≡ true → moved mem2 v ≡ true
  pub same : (v : ℕ) → Reached p v → Leaves p v → moved mem v ≡ true → forward mem2 v ≡ forward mem v
  pub elsewhere : (q : ℕ) → written q ≡ false → IsOutside p q → ((v : ℕ) → Reached p v → Leaves p v → Shows v q → ⊥)
      → slice_index mem2 q ≡ slice_index mem q

-- The collection runs on, and the answer is what the word has become.
pub record Evacuated (p : Plan) (mem mem2 : List ℕ) (mv2 : Moving) (k : Marks) (w x : ℕ) : Type 0 where
  pub runs : Runs p mem2 mv2 k
  pub later : Later p nowhere mem mem2
  pub image : IsImage p mem2 w x

-- A collection runs, and a whole object of the room, which is not scanned, lies at the place.
pub record CanOpen (mem : List ℕ) (mv : Moving) (room : Bool) (place : ℕ) : Type 0 where
  pub plan : Plan
  pub marks : Marks
  pub runs : Runs plan mem mv marks
  pub scanned : scanned_at marks room ≡ place
  pub object : object_at marks room ≡ place
  pub below : place < top_of mv room

-- The collection runs on.
pub record RunsOn (p : Plan) (mem mem2 : List ℕ) (mv2 : Moving) (k : Marks) : Type 0 where
  pub runs : Runs p mem2 mv2 k
  pub later : Later p nowhere mem mem2

-- A collection runs, and nothing of its rooms is scanned.
pub record CanScan (mem : List ℕ) (mv : Moving) : Type 0 where
  pub plan : Plan
  pub runs : Runs plan mem mv (at_objects mv.aged.start mv.young.start)

-- A collection runs, and a word of the room that is not scanned lies at the place: the word of a traced part.
pub record CanStep (mem : List ℕ) (mv : Moving) (room : Bool) (place : ℕ) : Type 0 where
  pub plan : Plan
  pub marks : Marks
  pub runs : Runs plan mem mv marks
  pub scanned : scanned_at marks room ≡ place
  pub part : IsTracedPlace plan mem marks room place

-- Each collection whose next word to scan, a traced part's, lies at the place has come one word further.
abbrev pub ScansWord : (mem mem2 : List ℕ) (mv mv2 : Moving) (at : ℕ) → Type 0
ScansWord mem mem2 mv mv2 at = (p : Plan) (k : Marks) (b : Bool) → Runs p mem mv k → scanned_at k b ≡ at → IsTracedPlace p mem k b at
    → RunsOn p mem mem2 mv2 (mark k b (at + 1) (object_at k b))

-- Its next word is again one of that object, unless the object ends there.
abbrev pub GoesOnWithin : (mem mem2 : List ℕ) (mv : Moving) (at : ℕ) → Type 0
GoesOnWithin mem mem2 mv at = (p : Plan) (k : Marks) (b : Bool) → Runs p mem mv k → scanned_at k b ≡ at → IsTracedPlace p mem k b at
    → at + 1 < object_at k b → IsTracedPlace p mem2 (mark k b (at + 1) (object_at k b)) b (at + 1)

-- Each collection whose next whole object of the room lies at the place has come to a whole object at another one.
abbrev pub ScansObjects : (mem mem2 : List ℕ) (mv mv2 : Moving) (room : Bool) (place next : ℕ) → Type 0
ScansObjects mem mem2 mv mv2 room place next = (p : Plan) (k : Marks) → Runs p mem mv k → scanned_at k room ≡ place → object_at k room ≡ place
    → place < top_of mv room → RunsOn p mem mem2 mv2 (mark k room next next)

-- A cons that was copied a moment ago lies at the place of the room, with this head and this tail, and is not scanned.
pub record IsFreshCons (mem : List ℕ) (mv : Moving) (room : Bool) (place head tail : ℕ) : Type 0 where
  pub head_is : head ≡ slice_index mem place
  pub tail_is : tail ≡ slice_index mem (place + 1)
  pub no_header : head % 4 ≡ 0 → ⊥
  pub below : place < top_of mv room

-- The first traced word and the size of an object, by the word that it begins with: a word that is no header is the head of a cons.
pub record Shape (word from words : ℕ) : Type 0 where
  pub cons : (word % 4 ≡ 0 → ⊥) → (from ≡ 0) × (words ≡ 2)
  pub boxed : word % 4 ≡ 0 → (l : Layout) → layout_for word ≡ Some l → (from ≡ l.first) × (words ≡ 1 + word / 64)
