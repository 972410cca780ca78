-- What is constant while a collection runs.
use Rattle.std.specs.Prelude.{◌≡◌, ℕ, ◌+◌, ◌/◌, ◌%◌, ◌<◌, ◌≤◌, ◌⊎◌, Bool, true, false, List, length, slice_index}
use Rattle.plain_term.specs.Tree.{Trees}
use Rattle.term_words.specs.Object.{IsPointer, object_words}
use Rattle.term_words.specs.Reach.{Reach, first_traced}
use Rattle.term_words.specs.Stands.{AllStand}
use Rattle.term_words.specs.Role.{IsSingle}
use Rattle.term_words.specs.Counted.{In, total}

-- The memory that a collection begins with, the roots, the trees that they stand for, a test that says where the words of
-- these trees lie, which places stay, which go to the aged room, and both rooms: `true` is the aged one, `false` the young one.
pub record Plan : Type 0 where
  pub start : List ℕ
  pub roots : List ℕ
  pub shared : List (List ℕ)
  pub trees : Trees
  pub test : ℕ → ℕ → Bool
  pub stay : ℕ → Bool
  pub mature : ℕ → Bool
  pub low : Bool → ℕ
  pub high : Bool → ℕ

-- The roots reach the word.
abbrev pub Reached : Plan → ℕ → Type 0
Reached p w = Reach p.start p.roots w

-- The words of the object that a pointer leads to, when the collection begins.
unfoldable pub size : Plan → ℕ → ℕ
size p w = object_words p.start w

-- The first traced word of that object.
unfoldable pub first : Plan → ℕ → ℕ
first p w = first_traced p.start w

-- The word points to an object that the collection moves.
pub record Leaves (p : Plan) (w : ℕ) : Type 0 where
  pub pointer : IsPointer w
  pub leaves : p.stay (w / 4) ≡ false

-- The place lies in the object that the word points to.
pub record IsIn (p : Plan) (w q : ℕ) : Type 0 where
  pub from : w / 4 ≤ q
  pub below : q < w / 4 + size p w

-- The place lies in neither room.
abbrev pub IsOutside : Plan → ℕ → Type 0
IsOutside p q = (b : Bool) → (q < p.low b) ⊎ (p.high b ≤ q)

-- No cons that leaves has its tail at the place: what stays does not begin inside an object.
abbrev pub IsNoTail : Plan → ℕ → Type 0
IsNoTail p q = (v : ℕ) → Reached p v → v % 4 ≡ 1 → q ≡ v / 4 + 1 → p.stay (v / 4) ≡ true

-- The object lies between two places, and all its places pass the test.
pub record LiesBetween (p : Plan) (s : ℕ → Bool) (from to w : ℕ) : Type 0 where
  pub above : from ≤ w / 4
  pub below : w / 4 + size p w ≤ to
  pub passes : (q : ℕ) → IsIn p w q → s q ≡ true

-- The room holds the objects that go there, each once.
pub record RoomFits (p : Plan) (room : Bool) : Type 0 where
  pub each : List ℕ
  pub all : (w : ℕ) → Reached p w → Leaves p w → p.mature (w / 4) ≡ room → In w each
  pub words : p.low room + total (size p) each ≤ p.high room

-- A collection can begin: the roots stand, the objects and records that they reach are one or apart, and clear of the
-- rooms; what stays points to nothing that moves; the rooms are apart, and each holds the objects that go there, once.
pub record Ready (p : Plan) : Type 0 where
  pub standing : AllStand p.test p.shared p.start p.roots p.trees
  pub single : IsSingle p.test
  pub clear : (a k : ℕ) → p.test a k ≡ true → IsOutside p a
  pub closed : (v k : ℕ) → Reached p v → IsPointer v → p.stay (v / 4) ≡ true → first p v ≤ k → k < size p v → Leaves p (slice_index p.start (v / 4 + k)) → ⊥
  pub rooms : (p.high true ≤ p.low false) ⊎ (p.high false ≤ p.low true)
  pub order : (b : Bool) → p.low b ≤ p.high b
  pub inside : (b : Bool) → p.high b ≤ length p.start
  pub fits : (b : Bool) → RoomFits p b
