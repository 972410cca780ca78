-- What a collection has done once all is scanned.
use Rattle.std.specs.Prelude.{◌≡◌, ℕ, ◌+◌, ◌-◌, ◌/◌, ◌%◌, ◌<◌, ◌≤◌, ◌⊎◌, Bool, true, false, List, [], ◌∷◌, length, slice_index}
use Rattle.plain_term.specs.Tree.{Tree}
use Rattle.plain_term.specs.Measures.{flat_of_all}
use Rattle.term_words.specs.Role.{COUNT, FIRST, FURTHER, RECORD}
use Rattle.term_words.specs.Object.{IsPointer}
use Rattle.term_words.specs.Reach.{Reach}
use Rattle.term_words.specs.Stands.{Stands, stands, AllStand}
use Rattle.cheney.specs.declared.moving.Moving.{Moving}
use Rattle.cheney.specs.Rooms.{RoomsAgree}
use Rattle.term_words.specs.Counted.{In}
use Rattle.cheney.specs.Plan.{Plan, Ready, Reached, Leaves, IsIn, IsNoTail, size, first}
use Rattle.cheney.specs.Moved.{moved, forward, IsImage}
use Rattle.cheney.specs.Zones.{Row, IsShown}

-- The words in use in both rooms.
abbrev pub used : Plan → (Bool → ℕ) → ℕ
used p top = (top true - p.low true) + (top false - p.low false)

-- The object lies whole at its new place: its untraced words are the same, and its traced words are mapped.
pub record IsMoved (p : Plan) (m : List ℕ) (top : Bool → ℕ) (v x : ℕ) : Type 0 where
  pub tag : x % 4 ≡ v % 4
  pub from : p.low (p.mature (v / 4)) ≤ x / 4
  pub below : x / 4 + size p v ≤ top (p.mature (v / 4))
  pub same : (j q : ℕ) → j < first p v → j < size p v → q ≡ x / 4 + j → slice_index m q ≡ slice_index p.start (v / 4 + j)
  pub mapped : (j q : ℕ) → first p v ≤ j → j < size p v → q ≡ x / 4 + j → IsImage p m (slice_index p.start (v / 4 + j)) (slice_index m q)

-- The room is a row of whole copies: of each reached object that goes there, and of no other.
pub record IsFilled (p : Plan) (m : List ℕ) (b : Bool) (top : ℕ) : Type 0 where
  pub each : List ℕ
  pub row : Row p m b (p.low b) each top
  pub all : (v : ℕ) → Reached p v → Leaves p v → p.mature (v / 4) ≡ b → In v each

-- The test allows each word of a moved object at its new place what the plan's test allows it at the old one, and allows
-- what stays, and the records, no less.
pub record FollowsMoves (p : Plan) (m : List ℕ) (d : ℕ → ℕ → Bool) : Type 0 where
  pub moves : (v j q k : ℕ) → Reached p v → Leaves p v → j < size p v → q ≡ forward m v / 4 + j → p.test (v / 4 + j) k ≡ true → d q k ≡ true
  pub stays : (v q k : ℕ) → Reached p v → IsPointer v → p.stay (v / 4) ≡ true → IsIn p v q → p.test q k ≡ true → d q k ≡ true
  pub counts : (a : ℕ) → p.test a COUNT ≡ true → d a COUNT ≡ true
  pub records : (a k : ℕ) → RECORD ≤ k → p.test a k ≡ true → d a k ≡ true

-- Each root was moved, where it points to what moves.
pub record RootsMoved (p : Plan) (m : List ℕ) : Type 0 where
  pub each : (j : ℕ) → j < length p.roots → Leaves p (slice_index p.roots j) → moved m (slice_index p.roots j) ≡ true

-- The words are what the roots have become, in order.
pub record AreImages (p : Plan) (m : List ℕ) (ws : List ℕ) : Type 0 where
  pub count : length ws ≡ length p.roots
  pub each : (j : ℕ) → j < length p.roots → IsImage p m (slice_index p.roots j) (slice_index ws j)

-- The words of the second list are what those of the first have become, one by one.
unfoldable pub AllImages : Plan → List ℕ → List ℕ → List ℕ → Type 0
AllImages p m [] [] = Unit {0}
AllImages p m (v ∷ vs) (x ∷ xs) = IsImage p m v x × AllImages p m vs xs
AllImages p m [] (x ∷ xs) = ⊥
AllImages p m (v ∷ vs) [] = ⊥

-- The word at the place of a boxed object, such as one of a chain, is as it was, or the object was reached and moved.
abbrev pub IsLeftOrMoved : Plan → List ℕ → ℕ → Type 0
IsLeftOrMoved p m v = ((slice_index m (v / 4) ≡ slice_index p.start (v / 4)) × (moved m v ≡ false)) ⊎ (Reached p v × (Leaves p v × (moved m v ≡ true)))

-- The whole collection. The forwarding words are a map, one to one, that is defined on exactly the objects outside `stay`
-- that the roots reach; the objects of `mature` lie in the aged room, all others in the young one, each once and whole;
-- what each word has become stands for the tree that it stood for; and what stays, reached or not, has a role and no list
-- place that moves reaches into, each word whose role is neither FIRST nor FURTHER, the records among them, and all words
-- of a moved boxed object but the first are as they were. A header that stands where the test says shows whether its object
-- was reached. A word with a role that is not as it was shows where a reached object went.
pub record Collected (p : Plan) (m : List ℕ) (top : Bool → ℕ) : Type 0 where
  pub same_len : length m ≡ length p.start
  pub complete : (v : ℕ) → Reached p v → Leaves p v → moved m v ≡ true
  pub copies : (v : ℕ) → Reached p v → Leaves p v → IsMoved p m top v (forward m v)
  pub one_to_one : (v w : ℕ) → Reached p v → Leaves p v → Reached p w → Leaves p w
      → (v ≡ w) ⊎ ((forward m v / 4 + size p v ≤ forward m w / 4) ⊎ (forward m w / 4 + size p w ≤ forward m v / 4))
  pub filled : (b : Bool) → IsFilled p m b (top b)
  pub ends : (b : Bool) → top b ≤ p.high b
  pub words : used p top ≤ flat_of_all p.trees
  pub trees : (d : ℕ → ℕ → Bool) → FollowsMoves p m d → (w x : ℕ) (t : Tree) → Reached p w → IsImage p m w x → Stands p.test p.shared p.start w t
      → Stands d p.shared m x t
  pub roots : (d : ℕ → ℕ → Bool) → FollowsMoves p m d → (ws : List ℕ) → AreImages p m ws → AllStand d p.shared m ws p.trees
  pub standing : (w x : ℕ) (t : Tree) → Reached p w → IsImage p m w x → Stands p.test p.shared p.start w t → stands p.shared m x t
  pub still : (v q : ℕ) → Reached p v → IsPointer v → p.stay (v / 4) ≡ true → IsIn p v q → slice_index m q ≡ slice_index p.start q
  pub tails : (v q : ℕ) → Reached p v → Leaves p v → v % 4 ≡ 2 → IsIn p v q → v / 4 < q → slice_index m q ≡ slice_index p.start q
  pub records : (a k : ℕ) → RECORD ≤ k → p.test a k ≡ true → slice_index m a ≡ slice_index p.start a
  pub untouched : (a k : ℕ) → p.test a k ≡ true → (k ≡ FIRST → ⊥) → (k ≡ FURTHER → ⊥) → slice_index m a ≡ slice_index p.start a
  pub unmoved : (a k : ℕ) → p.test a k ≡ true → p.stay a ≡ true → IsNoTail p a → slice_index m a ≡ slice_index p.start a
  pub headers : (v : ℕ) → v % 4 ≡ 2 → p.test (v / 4) FIRST ≡ true → slice_index p.start (v / 4) % 4 ≡ 0 → IsLeftOrMoved p m v
  pub touched : (a k : ℕ) → p.test a k ≡ true → (slice_index m a ≡ slice_index p.start a) ⊎ IsShown p m a

-- What the new roots reach is exactly what the words that the roots reached have become: another collection may follow.
pub record Composes (p : Plan) (m : List ℕ) : Type 0 where
  pub fresh : (ws : List ℕ) → AreImages p m ws → (x : ℕ) → Reach m ws x → (v : ℕ) × (Reached p v × IsImage p m v x)
  pub reached : (ws : List ℕ) → AreImages p m ws → (v x : ℕ) → Reached p v → IsImage p m v x → Reach m ws x

-- The memory has the same words in the used places of both rooms, and where the plan's test allows any role.
pub record IsBeside (p : Plan) (old new : List ℕ) (top : Bool → ℕ) : Type 0 where
  pub same_len : length new ≡ length old
  pub rooms : (b : Bool) (q : ℕ) → p.low b ≤ q → q < top b → slice_index new q ≡ slice_index old q
  pub words : (a k : ℕ) → p.test a k ≡ true → slice_index new a ≡ slice_index old a

-- A collection by this plan can begin from these roots, with two empty rooms.
pub record CanStart (p : Plan) (mem : List ℕ) (mv : Moving) (ws : List ℕ) : Type 0 where
  pub memory : p.start ≡ mem
  pub words : p.roots ≡ ws
  pub ready : Ready p
  pub agrees : RoomsAgree p mv
  pub aged_empty : mv.aged.top ≡ mv.aged.start
  pub young_empty : mv.young.top ≡ mv.young.start

-- A collection can begin from these roots.
pub record CanCollectRow (mem : List ℕ) (mv : Moving) (ws : List ℕ) : Type 0 where
  pub plan : Plan
  pub begins : CanStart plan mem mv ws
