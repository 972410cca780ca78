-- What moving the roots asks and promises.
use Rattle.std.specs.Prelude.{◌≡◌, ℕ, ◌+◌, ◌-◌, ◌*◌, ◌<◌, ◌≤◌, ◌⊎◌, true, Bool, List, [], ◌∷◌, length, slice_index}
use Rattle.cheney.specs.declared.moving.Moving.{Moving}
use Rattle.term_words.specs.Counted.{In}
use Rattle.cheney.specs.Plan.{IsOutside, Plan, Reached}
use Rattle.cheney.specs.Moved.{IsImage}
use Rattle.cheney.specs.Zones.{Marks}
use Rattle.cheney.specs.Rooms.{Runs}
use Rattle.cheney.specs.Collected.{AllImages}
use Rattle.two_halves.specs.Stack.{AreApart, IsLastPlace, IsStack, place_list, values}
use Rattle.two_halves.specs.Halves.{all_places, places_in, places_of}
use Rattle.two_halves.specs.Reached.{roots_in}
use Rattle.two_halves.specs.declared.table.Proc.{Proc}
use Rattle.two_halves.specs.declared.halves.TheConstants.{PLACE_WORDS}

-- The word at the place is in no room and has no role: no call of a collection reads or writes it.
pub record IsAside (p : Plan) (q : ℕ) : Type 0 where
  pub outside : IsOutside p q
  pub free : (k : ℕ) → p.test q k ≡ true → ⊥

-- The collection runs on; what words have become stays; and what lies aside is as before, but for the words from one place
-- up to another.
pub record GoesAlong (p : Plan) (mem mem2 : List ℕ) (mv2 : Moving) (k : Marks) (from to : ℕ) : Type 0 where
  pub runs : Runs p mem2 mv2 k
  pub images : (w x : ℕ) → Reached p w → IsImage p mem w x → IsImage p mem2 w x
  pub aside : (q : ℕ) → IsAside p q → (q < from) ⊎ (to ≤ q) → slice_index mem2 q ≡ slice_index mem q

-- A collection runs, its roots reach the value of the stack place, and the two words from `to` on lie aside.
pub record PlaceMoves (p : Plan) (mem : List ℕ) (mv : Moving) (k : Marks) (place to : ℕ) : Type 0 where
  pub runs : Runs p mem mv k
  pub reached : Reached p (slice_index mem place)
  pub first : IsAside p to
  pub second : IsAside p (to + 1)

-- The new place holds what the value has become, and names the place that follows; the answer is the place below the old one.
pub record PlaceMoved (p : Plan) (mem mem2 : List ℕ) (mv2 : Moving) (k : Marks) (place to below : ℕ) : Type 0 where
  pub goes : GoesAlong p mem mem2 mv2 k to (to + PLACE_WORDS)
  pub image : IsImage p mem2 (slice_index mem place) (slice_index mem2 to)
  pub next : slice_index mem2 (to + 1) ≡ to + PLACE_WORDS
  pub below_is : below ≡ slice_index mem (place + 1)

-- A collection runs, and so many words from `to` on are free for places, aside and apart from the words between `low` and
-- `limit`, which lie in no room and hold the old places.
pub record HasPlaces (p : Plan) (mem : List ℕ) (mv : Moving) (k : Marks) (low limit to n : ℕ) : Type 0 where
  pub runs : Runs p mem mv k
  pub old : (q : ℕ) → low ≤ q → q < limit → IsOutside p q
  pub new : (q : ℕ) → to ≤ q → q < to + n → IsAside p q
  pub apart : (limit ≤ to) ⊎ (to + n ≤ low)
  pub old_inside : limit ≤ length mem
  pub new_inside : to + n ≤ length mem

-- The places of this stack may move: their values are reached.
pub record StackMoves (p : Plan) (mem : List ℕ) (mv : Moving) (k : Marks) (low limit from depth to : ℕ) : Type 0 where
  pub room : HasPlaces p mem mv k low limit to (PLACE_WORDS * depth)
  pub places : IsStack p.test mem low limit from depth
  pub reached : (w : ℕ) → In w (values mem from depth) → Reached p w

-- The stack has moved: its places lie side by side from `to` on, with what the values have become.
pub record StackMoved (p : Plan) (mem mem2 : List ℕ) (mv2 : Moving) (k : Marks) (from depth to : ℕ) : Type 0 where
  pub goes : GoesAlong p mem mem2 mv2 k to (to + PLACE_WORDS * depth)
  pub places : IsStack p.test mem2 to (to + PLACE_WORDS * depth) to depth
  pub last : (q : ℕ) → q ≡ to + PLACE_WORDS * (depth - 1) → IsLastPlace mem2 to depth q
  pub apart : AreApart (place_list mem2 to depth)
  pub images : AllImages p mem2 (values mem from depth) (values mem2 to depth)

-- The places of some stack may move.
pub record CanMoveStack (mem : List ℕ) (mv : Moving) (from depth to : ℕ) : Type 0 where
  pub plan : Plan
  pub marks : Marks
  pub low : ℕ
  pub limit : ℕ
  pub moves : StackMoves plan mem mv marks low limit from depth to

-- The new row has what the registers and the values of the old one have become.
pub record IsMovedRow (p : Plan) (start mem : List ℕ) (low limit : ℕ) (old new : Proc) : Type 0 where
  pub number : new.number ≡ old.number
  pub depth : new.depth ≡ old.depth
  pub waiting : new.waiting ≡ old.waiting
  pub refs : new.refs ≡ old.refs
  pub registers : AllImages p mem old.regs new.regs
  pub places : IsStack p.test mem low limit new.stack new.depth
  pub values_are : AllImages p mem (values start old.stack old.depth) (values mem new.stack new.depth)
  pub waits : IsStack p.test mem low limit new.queue new.waiting
  pub messages_are : AllImages p mem (values start old.queue old.waiting) (values mem new.queue new.waiting)
  pub last : IsLastPlace mem new.queue new.waiting new.last
  pub apart : AreApart (places_of mem new)

-- Row by row.
abbrev pub AreMovedRows : Plan → (start mem : List ℕ) → (low limit : ℕ) → List Proc → List Proc → Type 0
AreMovedRows p start mem low limit [] [] = Unit {0}
AreMovedRows p start mem low limit (o ∷ os) (n ∷ ns) = IsMovedRow p start mem low limit o n × AreMovedRows p start mem low limit os ns
AreMovedRows p start mem low limit [] (n ∷ ns) = ⊥
AreMovedRows p start mem low limit (o ∷ os) [] = ⊥

-- What a row names may move, its stack to the words from `to` on, and its queue to those behind.
pub record RowMoves (p : Plan) (mem : List ℕ) (mv : Moving) (k : Marks) (low limit : ℕ) (row : Proc) (to : ℕ) : Type 0 where
  pub stack : StackMoves p mem mv k low limit row.stack row.depth to
  pub queue : StackMoves p mem mv k low limit row.queue row.waiting (to + PLACE_WORDS * row.depth)
  pub reached : (w : ℕ) → In w row.regs → Reached p w

-- It has moved.
pub record RowMoved (p : Plan) (mem mem2 : List ℕ) (mv2 : Moving) (k : Marks) (old new : Proc) (to : ℕ) : Type 0 where
  pub goes : GoesAlong p mem mem2 mv2 k to (to + PLACE_WORDS * (old.depth + old.waiting))
  pub is : IsMovedRow p mem mem2 to (to + PLACE_WORDS * (old.depth + old.waiting)) old new

-- What some row names may move.
pub record CanMoveRow (mem : List ℕ) (mv : Moving) (row : Proc) (to : ℕ) : Type 0 where
  pub plan : Plan
  pub marks : Marks
  pub low : ℕ
  pub limit : ℕ
  pub moves : RowMoves plan mem mv marks low limit row to

-- Each row has its places between these bounds.
abbrev pub HaveStacks : (ℕ → ℕ → Bool) → List ℕ → (low limit : ℕ) → List Proc → Type 0
HaveStacks c mem low limit [] = Unit {0}
HaveStacks c mem low limit (p ∷ ps) = IsStack c mem low limit p.stack p.depth × (IsStack c mem low limit p.queue p.waiting × HaveStacks c mem low limit ps)

-- What all rows name may move, the places to the words up to `end`.
pub record RowsMove (p : Plan) (mem : List ℕ) (mv : Moving) (k : Marks) (low limit : ℕ) (rows : List Proc) (end : ℕ) : Type 0 where
  pub fits : PLACE_WORDS * places_in rows ≤ end
  pub room : HasPlaces p mem mv k low limit (end - PLACE_WORDS * places_in rows) (PLACE_WORDS * places_in rows)
  pub stacks : HaveStacks p.test mem low limit rows
  pub reached : (w : ℕ) → In w (roots_in mem rows) → Reached p w

-- It has moved.
pub record RowsMoved (p : Plan) (mem mem2 : List ℕ) (mv2 : Moving) (k : Marks) (olds news : List Proc) (end : ℕ) : Type 0 where
  pub goes : GoesAlong p mem mem2 mv2 k (end - PLACE_WORDS * places_in olds) end
  pub are : AreMovedRows p mem mem2 (end - PLACE_WORDS * places_in olds) end olds news
  pub apart : AreApart (all_places mem2 news)

-- What some rows name may move.
pub record CanMoveRows (mem : List ℕ) (mv : Moving) (rows : List Proc) (end : ℕ) : Type 0 where
  pub plan : Plan
  pub marks : Marks
  pub low : ℕ
  pub limit : ℕ
  pub moves : RowsMove plan mem mv marks low limit rows end
