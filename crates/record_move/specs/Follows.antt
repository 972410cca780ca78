-- What a caller of a collection says of its chain.
use Rattle.std.specs.Prelude.{◌≡◌, ℕ, ◌+◌, ◌<◌, ◌≤◌, ◌⊎◌, Bool, true, List, [], ◌∷◌, length}
use Rattle.term_tags.specs.Words.{boxed_word}
use Rattle.term_words.specs.Object.{IsRecord}
use Rattle.term_words.specs.Counted.{In, total}
use Rattle.off_heap_list.specs.Links.{named}
use Rattle.record_move.specs.Copies.{record_words}
use Rattle.cheney.specs.Plan.{Plan, Reached}

-- The chain can be swept after the collection: no word of its objects keeps its role, as where their space is left; further
-- objects keep theirs, and stay where they are reached; and no room begins at place 0.
pub record Sweepable (p : Plan) (s : ℕ → ℕ → Bool) (os further : List ℕ) : Type 0 where
  pub left : (o a k : ℕ) → In o os → o ≤ a → a < o + 6 → s a k ≡ true → ⊥
  pub kept : (o a k : ℕ) → In o further → o ≤ a → a < o + 6 → p.test a k ≡ true → s a k ≡ true
  pub still : (o : ℕ) → In o further → Reached p (boxed_word o) → p.stay o ≡ true
  pub rooms : (b : Bool) → 0 < p.low b

-- The first of the objects, 0 for none.
abbrev pub first_object : List ℕ → ℕ
first_object [] = 0
first_object (o ∷ os) = o

-- The words from `low` up to `high` are free after the collection, and hold the records that the reached objects of the chain
-- name, each once.
pub record RecordsHaveRoom (p : Plan) (s : ℕ → ℕ → Bool) (top : Bool → ℕ) (os : List ℕ) (low high : ℕ) : Type 0 where
  pub rooms : (b : Bool) → (top b ≤ low) ⊎ (high ≤ p.low b)
  pub clear : (a k : ℕ) → s a k ≡ true → (a < low) ⊎ (high ≤ a)
  pub order : low ≤ high
  pub inside : high ≤ length p.start
  pub each : List ℕ
  pub all : (o : ℕ) → In o os → Reached p (boxed_word o) → In (named p.start o) each
  pub records : (v : ℕ) → In v each → (n : ℕ) × IsRecord p.test p.start v n
  pub words : low + total (record_words p.start) each ≤ high
