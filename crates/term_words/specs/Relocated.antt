-- Objects and records that lie at new places. What the roots reach is looked at, and nothing else: `f` says what each
-- word has become, `g` where each record lies.
use Rattle.std.specs.Prelude.{◌≡◌, ℕ, ◌+◌, ◌/◌, ◌%◌, ◌<◌, ◌≤◌, ◌⊎◌, Bool, true, List, length, slice_index}
use Rattle.term_words.specs.Role.{FIRST, FURTHER, NAMES}
use Rattle.term_words.specs.Object.{IsPointer, IsRecord, object_words}
use Rattle.term_words.specs.Reach.{Reach, IsNamed, first_traced}

-- The object that w led to lies where f w leads: roles are kept, traced words and the word that names a record are mapped,
-- all other content is the same.
pub record IsMovedTo (c d : ℕ → ℕ → Bool) (old new : List ℕ) (f g : ℕ → ℕ) (w : ℕ) : Type 0 where
  pub tag : f w % 4 ≡ w % 4
  pub within : f w / 4 + object_words old w ≤ length new
  pub roles : (j q k : ℕ) → j < object_words old w → q ≡ f w / 4 + j → c (w / 4 + j) k ≡ true → d q k ≡ true
  pub traced : (j q : ℕ) → first_traced old w ≤ j → j < object_words old w → q ≡ f w / 4 + j → slice_index new q ≡ f (slice_index old (w / 4 + j))
  pub names : (j q : ℕ) → j < object_words old w → q ≡ f w / 4 + j → c (w / 4 + j) NAMES ≡ true → slice_index new q ≡ g (slice_index old (w / 4 + j))
  pub same : (j q : ℕ) → j < first_traced old w → j < object_words old w → q ≡ f w / 4 + j → (c (w / 4 + j) FIRST ≡ true) ⊎ (c (w / 4 + j) FURTHER ≡ true)
      → slice_index new q ≡ slice_index old (w / 4 + j)

-- The record of n words at place v has a copy at place u: all words but its count, word 2, with their roles.
pub record IsCopiedTo (c d : ℕ → ℕ → Bool) (old new : List ℕ) (v u n : ℕ) : Type 0 where
  pub within : u + n ≤ length new
  pub roles : (j q k : ℕ) → j < n → q ≡ u + j → c (v + j) k ≡ true → d q k ≡ true
  pub same : (j q : ℕ) → j < n → (j ≡ 2 → ⊥) → q ≡ u + j → slice_index new q ≡ slice_index old (v + j)

-- Each object that the roots reach was moved so, each record that one of them names has its copy, and all other words are
-- their own images. By a test of one role a place, that is: where the first test gives a traced word the role NAMES too, as
-- `always` does, the word's image by f would have to be its image by g.
pub record Relocated (c d : ℕ → ℕ → Bool) (old new roots : List ℕ) (f g : ℕ → ℕ) : Type 0 where
  pub immediates : (w : ℕ) → Reach old roots w → (IsPointer w → ⊥) → f w ≡ w
  pub objects : (w : ℕ) → Reach old roots w → IsPointer w → IsMovedTo c d old new f g w
  pub records : (v n : ℕ) → IsNamed c old roots v → IsRecord c old v n → IsCopiedTo c d old new v (g v) n
