-- The state of a collection between two of its steps.
use Rattle.std.specs.Prelude.{◌≡◌, ℕ, ◌+◌, ◌*◌, ◌/◌, ◌%◌, ◌<◌, ◌≤◌, ◌⊎◌, Bool, true, false, List, [], ◌∷◌, length, slice_index}
use Rattle.term_words.specs.Role.{RECORD}
use Rattle.term_words.specs.Object.{IsPointer}
use Rattle.term_words.specs.Counted.{In, total}
use Rattle.cheney.specs.Plan.{Plan, Reached, Leaves, IsIn, size, first}
use Rattle.cheney.specs.Moved.{moved, forward, IsImage, Shows}

-- How far a room is scanned: each word below `scanned` is done, and `object` is the place of the next whole object.
pub record Marks : Type 0 where
  pub aged_scanned : ℕ
  pub aged_object : ℕ
  pub young_scanned : ℕ
  pub young_object : ℕ

-- The mark `scanned` of a room.
abbrev pub scanned_at : Marks → Bool → ℕ
scanned_at k true = k.aged_scanned
scanned_at k false = k.young_scanned

-- The mark `object` of a room.
abbrev pub object_at : Marks → Bool → ℕ
object_at k true = k.aged_object
object_at k false = k.young_object

-- The marks with both of a room set.
abbrev pub mark : Marks → Bool → ℕ → ℕ → Marks
mark k true s o = record { aged_scanned = s; aged_object = o; young_scanned = k.young_scanned; young_object = k.young_object }
mark k false s o = record { aged_scanned = k.aged_scanned; aged_object = k.aged_object; young_scanned = s; young_object = o }

-- Both rooms are scanned up to a whole object.
abbrev pub at_objects : ℕ → ℕ → Marks
at_objects aged young = record { aged_scanned = aged; aged_object = aged; young_scanned = young; young_object = young }

-- A reached object was moved to a place of the room, which says so.
pub record IsCopy (p : Plan) (m : List ℕ) (room : Bool) (v place : ℕ) : Type 0 where
  pub reached : Reached p v
  pub leaves : Leaves p v
  pub goes : p.mature (v / 4) ≡ room
  pub gone : moved m v ≡ true
  pub word : forward m v ≡ place * 4 + v % 4

-- The words from one place up to another are whole copies of these objects, without a gap.
abbrev pub Row : Plan → List ℕ → Bool → ℕ → List ℕ → ℕ → Type 0
Row p m room place [] top = place ≡ top
Row p m room place (v ∷ vs) top = IsCopy p m room v place × Row p m room (place + size p v) vs top

-- What the copy of a moved object holds: below `scanned` the images of its traced words, else the object's words.
pub record Gone (p : Plan) (m : List ℕ) (top scanned : Bool → ℕ) (v x : ℕ) : Type 0 where
  pub tag : x % 4 ≡ v % 4
  pub from : p.low (p.mature (v / 4)) ≤ x / 4
  pub below : x / 4 + size p v ≤ top (p.mature (v / 4))
  pub raw : (j q : ℕ) → j < size p v → q ≡ x / 4 + j → (scanned (p.mature (v / 4)) ≤ q) ⊎ (j < first p v) → slice_index m q ≡ slice_index p.start (v / 4 + j)
  pub image : (j q : ℕ) → first p v ≤ j → j < size p v → q ≡ x / 4 + j → q < scanned (p.mature (v / 4))
      → IsImage p m (slice_index p.start (v / 4 + j)) (slice_index m q)

-- A row of whole copies, of some list of objects.
pub record IsRowOfCopies (p : Plan) (m : List ℕ) (room : Bool) (place top : ℕ) : Type 0 where
  pub each : List ℕ
  pub row : Row p m room place each top

-- The objects of this room that were not moved yet fit, each once.
pub record StillFits (p : Plan) (m : List ℕ) (room : Bool) (place : ℕ) : Type 0 where
  pub each : List ℕ
  pub all : (w : ℕ) → Reached p w → Leaves p w → p.mature (w / 4) ≡ room → moved m w ≡ false → In w each
  pub words : place + total (size p) each ≤ p.high room

-- The word at the place shows where a reached object went.
pub record IsShown (p : Plan) (m : List ℕ) (a : ℕ) : Type 0 where
  pub v : ℕ
  pub reached : Reached p v
  pub leaves : Leaves p v
  pub gone : moved m v ≡ true
  pub shows : Shows v a

-- The state: what was moved has its whole copy in its room, and all other words of what the roots reach are as they were.
pub record Invariant (p : Plan) (m : List ℕ) (top : Bool → ℕ) (k : Marks) : Type 0 where
  pub same_len : length m ≡ length p.start
  pub begins : (b : Bool) → p.low b ≤ scanned_at k b
  pub inner : (b : Bool) → scanned_at k b ≤ object_at k b
  pub outer : (b : Bool) → object_at k b ≤ top b
  pub ends : (b : Bool) → top b ≤ p.high b
  pub still : (v q : ℕ) → Reached p v → IsPointer v → p.stay (v / 4) ≡ true → IsIn p v q → slice_index m q ≡ slice_index p.start q
  pub waiting : (v q : ℕ) → Reached p v → Leaves p v → moved m v ≡ false → IsIn p v q → slice_index m q ≡ slice_index p.start q
  pub tails : (v q : ℕ) → Reached p v → Leaves p v → v % 4 ≡ 2 → IsIn p v q → v / 4 < q → slice_index m q ≡ slice_index p.start q
  pub records : (a r : ℕ) → RECORD ≤ r → p.test a r ≡ true → slice_index m a ≡ slice_index p.start a
  pub touched : (a r : ℕ) → p.test a r ≡ true → (slice_index m a ≡ slice_index p.start a) ⊎ IsShown p m a
  pub gone : (v : ℕ) → Reached p v → Leaves p v → moved m v ≡ true → Gone p m top (scanned_at k) v (forward m v)
  pub apart : (v w : ℕ) → Reached p v → Leaves p v → moved m v ≡ true → Reached p w → Leaves p w → moved m w ≡ true → p.mature (v / 4) ≡ p.mature (w / 4)
      → (v ≡ w) ⊎ ((forward m v / 4 + size p v ≤ forward m w / 4) ⊎ (forward m w / 4 + size p w ≤ forward m v / 4))
  pub whole : (b : Bool) → IsRowOfCopies p m b (p.low b) (top b)
  pub left : (b : Bool) → IsRowOfCopies p m b (object_at k b) (top b)
  pub fits : (b : Bool) → StillFits p m b (top b)

-- The place is that of a traced word in the copy of a moved object that ends at the mark `object`.
pub record IsTracedPlace (p : Plan) (m : List ℕ) (k : Marks) (room : Bool) (place : ℕ) : Type 0 where
  pub v : ℕ
  pub from : ℕ
  pub copy : IsCopy p m room v from
  pub ends : from + size p v ≡ object_at k room
  pub traced : from + first p v ≤ place
  pub below : place < object_at k room
