-- What keeps trees standing while the memory changes.
use Rattle.std.specs.Prelude.{◌≡◌, ℕ, ◌≤◌, Bool, true, List, length, slice_index}
use Rattle.plain_term.specs.Tree.{Tree}
use Rattle.term_words.specs.Role.{NEXT, FIRST, FURTHER, NAMES, IsContent, IsInSight}
use Rattle.term_words.specs.Stands.{Stands}
use Rattle.term_words.specs.Object.{IsBinRecord, IsFunRecord}

-- Every tree that stands in `old` by the one test stands in `new` by the other.
pub record Keeps (c d : ℕ → ℕ → Bool) (old new : List ℕ) : Type 0 where
  pub each : (shared : List (List ℕ)) (w : ℕ) (t : Tree) → Stands c shared old w t → Stands d shared new w t

-- The memory is no shorter, the test allows no less, and the content is the same.
pub record Kept (c d : ℕ → ℕ → Bool) (old new : List ℕ) : Type 0 where
  pub longer : length old ≤ length new
  pub weaker : (a k : ℕ) → c a k ≡ true → d a k ≡ true
  pub same : (a k : ℕ) → IsContent k → c a k ≡ true → slice_index new a ≡ slice_index old a

-- Two memories agree in what an owner sees: the second test allows no less of it, and its content is the same.
pub record AgreeInSight (c d : ℕ → ℕ → Bool) (own common : ℕ → Bool) (old new : List ℕ) : Type 0 where
  pub longer : length old ≤ length new
  pub roles : (a k : ℕ) → IsInSight own common a k → c a k ≡ true → d a k ≡ true
  pub words : (a k : ℕ) → IsInSight own common a k → IsContent k → c a k ≡ true → slice_index new a ≡ slice_index old a

-- The words of objects are the same; what names a record names one with the same content, though
-- perhaps at another place.
pub record Carried (c d : ℕ → ℕ → Bool) (old new : List ℕ) : Type 0 where
  pub longer : length old ≤ length new
  pub nexts : (a : ℕ) → c a NEXT ≡ true → d a NEXT ≡ true
  pub firsts : (a : ℕ) → c a FIRST ≡ true → d a FIRST ≡ true
  pub first_same : (a : ℕ) → c a FIRST ≡ true → slice_index new a ≡ slice_index old a
  pub others : (a : ℕ) → c a FURTHER ≡ true → d a FURTHER ≡ true
  pub other_same : (a : ℕ) → c a FURTHER ≡ true → slice_index new a ≡ slice_index old a
  pub names : (a : ℕ) → c a NAMES ≡ true → d a NAMES ≡ true
  pub bins : (a serial : ℕ) (bytes : List ℕ) → c a NAMES ≡ true → IsBinRecord c old (slice_index old a) serial bytes
      → IsBinRecord d new (slice_index new a) serial bytes
  pub funs : (a name arity : ℕ) → c a NAMES ≡ true → IsFunRecord c old (slice_index old a) name arity → IsFunRecord d new (slice_index new a) name arity
