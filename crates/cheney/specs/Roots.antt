-- Roots: the words of a row, such as registers, and words that stand in the memory itself, such as the values of a stack.
use Rattle.std.specs.Prelude.{◌≡◌, ℕ, zero, suc, ◌+◌, ◌*◌, ◌<◌, ◌==◌, ◌||◌, Bool, true, false, List, [], ◌∷◌, length, slice_index}
use Rattle.cheney.specs.declared.moving.Moving.{Moving}
use Rattle.term_words.specs.Counted.{In}
use Rattle.cheney.specs.Plan.{IsOutside, Plan, Reached}
use Rattle.cheney.specs.Moved.{IsImage}
use Rattle.cheney.specs.Zones.{Marks}
use Rattle.cheney.specs.Rooms.{Runs}
use Rattle.cheney.specs.Calls.{Later, nowhere}
use Rattle.cheney.specs.Collected.{AllImages}

-- A collection runs, and its roots reach each word of the row.
pub record CanMoveAll (mem : List ℕ) (mv : Moving) (ws : List ℕ) : Type 0 where
  pub plan : Plan
  pub marks : Marks
  pub runs : Runs plan mem mv marks
  pub reached : (w : ℕ) → In w ws → Reached plan w

-- The collection runs on, and the words of the first row have become those of the second, one by one.
pub record AllEvacuated (p : Plan) (mem mem2 : List ℕ) (mv2 : Moving) (k : Marks) (ws xs : List ℕ) : Type 0 where
  pub runs : Runs p mem2 mv2 k
  pub later : Later p nowhere mem mem2
  pub images : AllImages p mem2 ws xs

-- The place lies in the memory and in neither room, and no word of an object or a record lies there.
pub record IsFreePlace (p : Plan) (place : ℕ) : Type 0 where
  pub inside : place < length p.start
  pub outside : IsOutside p place
  pub none : (k : ℕ) → p.test place k ≡ true → ⊥

-- A collection runs, and its roots reach the word at a free place.
pub record CanMoveAt (mem : List ℕ) (mv : Moving) (place : ℕ) : Type 0 where
  pub plan : Plan
  pub marks : Marks
  pub runs : Runs plan mem mv marks
  pub free : IsFreePlace plan place
  pub reached : Reached plan (slice_index mem place)

-- It is this place.
abbrev pub is_at : ℕ → ℕ → Bool
is_at place q = place == q

-- The collection runs on, and the word at the place is what the one there before has become.
pub record EvacuatedAt (p : Plan) (mem mem2 : List ℕ) (mv2 : Moving) (k : Marks) (place : ℕ) : Type 0 where
  pub runs : Runs p mem2 mv2 k
  pub later : Later p (is_at place) mem mem2
  pub image : IsImage p mem2 (slice_index mem place) (slice_index mem2 place)

-- It is one of n places, of which each is a step behind the one before.
unfoldable pub in_places : (from step n : ℕ) → ℕ → Bool
in_places from step zero q = false
in_places from step (suc n) q = is_at from q || in_places (from + step) step n q

-- The words at these places.
unfoldable pub words_at : List ℕ → (from step n : ℕ) → List ℕ
words_at mem from step zero = []
words_at mem from step (suc n) = slice_index mem from ∷ words_at mem (from + step) step n

-- The places are free, and the roots reach the words there.
pub record AreRoots (p : Plan) (mem : List ℕ) (from step n : ℕ) : Type 0 where
  pub free : (j : ℕ) → j < n → IsFreePlace p (from + j * step)
  pub reached : (j : ℕ) → j < n → Reached p (slice_index mem (from + j * step))

-- A collection runs, and words at such places are roots.
pub record CanMovePlaces (mem : List ℕ) (mv : Moving) (from step n : ℕ) : Type 0 where
  pub plan : Plan
  pub marks : Marks
  pub runs : Runs plan mem mv marks
  pub roots : AreRoots plan mem from step n

-- The collection runs on, and the words at these places are what those there before have become, one by one.
pub record PlacesEvacuated (p : Plan) (mem mem2 : List ℕ) (mv2 : Moving) (k : Marks) (from step n : ℕ) : Type 0 where
  pub runs : Runs p mem2 mv2 k
  pub later : Later p (in_places from step n) mem mem2
  pub images : AllImages p mem2 (words_at mem from step n) (words_at mem2 from step n)
