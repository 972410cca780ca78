-- The collection after one that has ended: the roles that the words of the new memory have, and when it can begin.
use Rattle.std.specs.Prelude.{◌≡◌, ℕ, ◌+◌, ◌/◌, ◌<◌, ◌≤◌, ◌⊎◌, Bool, true, false, List, length}
use Rattle.term_words.specs.Object.{IsPointer}
use Rattle.term_words.specs.Role.{COUNT, RECORD, IsSingle}
use Rattle.term_words.specs.Tiled.{Tiled}
use Rattle.cheney.specs.declared.moving.Moving.{Moving}
use Rattle.term_words.specs.Counted.{In}
use Rattle.cheney.specs.Plan.{Plan, Reached, Leaves, RoomFits, IsIn, IsOutside, size}
use Rattle.cheney.specs.Moved.{forward}
use Rattle.cheney.specs.Zones.{at_objects}
use Rattle.cheney.specs.Rooms.{Runs, top_of}
use Rattle.cheney.specs.Collected.{AreImages, Collected, FollowsMoves, RootsMoved}

-- A whole collection has ended, and the words are the new roots: what it has done is known, and another may follow.
pub record Ended (p : Plan) (m : List ℕ) (mv : Moving) (ws : List ℕ) : Type 0 where
  pub runs : Runs p m mv (at_objects mv.aged.top mv.young.top)
  pub moved : RootsMoved p m
  pub images : AreImages p m ws
  pub collected : Collected p m (top_of mv)

-- The place is that of a word of a moved object, and the word had the role at its old place.
pub record IsCarried (p : Plan) (m : List ℕ) (a k : ℕ) : Type 0 where
  pub v : ℕ
  pub j : ℕ
  pub reached : Reached p v
  pub leaves : Leaves p v
  pub below : j < size p v
  pub place : a ≡ forward m v / 4 + j
  pub role : p.test (v / 4 + j) k ≡ true

-- The test keeps the roles of the reached objects that stay, and of all records; what else it keeps is free.
pub record Remains (p : Plan) (s : ℕ → ℕ → Bool) : Type 0 where
  pub stays : (v q k : ℕ) → Reached p v → IsPointer v → p.stay (v / 4) ≡ true → IsIn p v q → p.test q k ≡ true → s q k ≡ true
  pub counts : (a : ℕ) → p.test a COUNT ≡ true → s a COUNT ≡ true
  pub records : (a k : ℕ) → RECORD ≤ k → p.test a k ≡ true → s a k ≡ true

-- A test of the new memory, one role a place, under which all that was reached stands: it allows the roles that moved
-- with their words, those that s keeps, and no other.
pub record HasRoles (p : Plan) (m : List ℕ) (s : ℕ → ℕ → Bool) : Type 0 where
  pub test : ℕ → ℕ → Bool
  pub single : IsSingle test
  pub follows : FollowsMoves p m test
  pub kept : (a k : ℕ) → p.test a k ≡ true → s a k ≡ true → test a k ≡ true
  pub comes : (a k : ℕ) → test a k ≡ true → IsCarried p m a k ⊎ ((p.test a k ≡ true) × (s a k ≡ true))

-- The words in use in a room are whole objects side by side, read by their first words in the new memory: the copies of
-- all reached objects that go there, and of no other.
pub record IsTiled (p : Plan) (m : List ℕ) (b : Bool) (top : ℕ) : Type 0 where
  pub tiles : List ℕ
  pub row : Tiled m (p.low b) tiles top
  pub all : (v : ℕ) → Reached p v → Leaves p v → p.mature (v / 4) ≡ b → In (forward m v) tiles
  pub only : (x : ℕ) → In x tiles → (v : ℕ) × (Reached p v × (Leaves p v × ((p.mature (v / 4) ≡ b) × (x ≡ forward m v))))

-- A second plan has the memory and the new roots that a collection has ended with, and the same stays.
pub record Succeeds (p q : Plan) (m : List ℕ) : Type 0 where
  pub memory : q.start ≡ m
  pub images : AreImages p m q.roots
  pub stay : (a : ℕ) → q.stay a ≡ p.stay a

-- It goes on with these roles and the same trees: the rooms in use hold nothing that stays, they and what s keeps are
-- clear of the new rooms, and these are apart and hold what goes there.
pub record CollectionGoesOn (p q : Plan) (m : List ℕ) (top : Bool → ℕ) (s : ℕ → ℕ → Bool) (r : HasRoles p m s) : Type 0 where
  pub succeeds : Succeeds p q m
  pub shared : q.shared ≡ p.shared
  pub trees : q.trees ≡ p.trees
  pub test : q.test ≡ r.test
  pub moving : (a : ℕ) (b : Bool) → p.low b ≤ a → a < top b → p.stay a ≡ false
  pub kept_clear : (a k : ℕ) → s a k ≡ true → IsOutside q a
  pub used_clear : (a : ℕ) (b : Bool) → p.low b ≤ a → a < top b → IsOutside q a
  pub rooms : (q.high true ≤ q.low false) ⊎ (q.high false ≤ q.low true)
  pub order : (b : Bool) → q.low b ≤ q.high b
  pub inside : (b : Bool) → q.high b ≤ length m
  pub fits : (b : Bool) → RoomFits q b
