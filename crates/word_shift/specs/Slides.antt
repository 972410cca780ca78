-- Both passes of a slide or a purge: words are relocated where they stand, and then each used word moves.
use Rattle.std.specs.Prelude.{◌≡◌, ℕ, ◌+◌, ◌/◌, ◌<◌, ◌≤◌, Bool, true, List, length, slice_index}
use Rattle.term_words.specs.Object.{IsPointer, IsRecord, object_words}
use Rattle.term_words.specs.Reach.{Reach, IsNamed}
use Rattle.word_shift.specs.Shifted.{ObjectShifted}

-- Each used word stands at its new place, with its roles by the second test.
pub record UsedMoved (g : ℕ → ℕ) (used : ℕ → Bool) (c d : ℕ → ℕ → Bool) (mid new : List ℕ) : Type 0 where
  pub inside : (a : ℕ) → used a ≡ true → g a < length new
  pub moved : (a : ℕ) → used a ≡ true → slice_index new (g a) ≡ slice_index mid a
  pub roles : (a k : ℕ) → used a ≡ true → c a k ≡ true → d (g a) k ≡ true

-- These n words from a place on are used, and all move by one shift.
pub record MovesWhole (g : ℕ → ℕ) (used : ℕ → Bool) (p n : ℕ) : Type 0 where
  pub whole : (q : ℕ) → p ≤ q → q < p + n → used q ≡ true
  pub shift : (j q : ℕ) → j < n → q ≡ p + j → g q ≡ g p + j

-- In `mid` each object that the roots reach is relocated where it stood, and each record that one of them names is as it was; in
-- `new` each used word stands at its new place. Each of these objects and records is used, and moves by one shift.
pub record Slides (g : ℕ → ℕ) (used : ℕ → Bool) (c d : ℕ → ℕ → Bool) (old mid new roots : List ℕ) : Type 0 where
  pub relocated : (w : ℕ) → Reach old roots w → IsPointer w → ObjectShifted g old mid w
  pub objects : (w : ℕ) → Reach old roots w → IsPointer w → MovesWhole g used (w / 4) (object_words old w)
  pub kept : (v n q : ℕ) → IsNamed c old roots v → IsRecord c old v n → v ≤ q → q < v + n → slice_index mid q ≡ slice_index old q
  pub records : (v n : ℕ) → IsNamed c old roots v → IsRecord c old v n → MovesWhole g used v n
  pub words : UsedMoved g used c d mid new

-- No two used places come to one, and the second test allows at a place only what the first one allows at the used place that came there.
pub record RolesMoved (g : ℕ → ℕ) (used : ℕ → Bool) (c d : ℕ → ℕ → Bool) : Type 0 where
  pub once : (a b : ℕ) → used a ≡ true → used b ≡ true → g a ≡ g b → a ≡ b
  pub only : (q k : ℕ) → d q k ≡ true → (a : ℕ) × ((used a ≡ true) × ((q ≡ g a) × (c a k ≡ true)))
