-- How the roles of places grow while objects are built.
use Rattle.std.specs.Prelude.{◌≡◌, ℕ, ◌+◌, ◌<◌, ◌≤◌, ◌⊎◌, Bool, true, List}
use Rattle.plain_term.specs.Tree.{Tree}
use Rattle.term_words.specs.Role.{NEXT, FIRST, FURTHER, IsSingle, OfObject}
use Rattle.term_words.specs.Stands.{Stands}
use Rattle.term_words.specs.Kept.{Keeps}

-- The roles of the words of an object that names no record: the first, and all others.
abbrev pub IsPlain : ℕ → Type 0
IsPlain k = (k ≡ FIRST) ⊎ (k ≡ FURTHER)

-- The test d allows no less than c and no new role but plain ones in the n words from place `top` on, one role a
-- place stays one, and every tree that stood by c in the old memory stands by d in the new one.
pub record Grows (c d : ℕ → ℕ → Bool) (top n : ℕ) (old new : List ℕ) : Type 0 where
  pub more : (a k : ℕ) → c a k ≡ true → d a k ≡ true
  pub within : (a k : ℕ) → d a k ≡ true → (c a k ≡ true) ⊎ ((top ≤ a) × (a < top + n))
  pub objects : (a k : ℕ) → d a k ≡ true → (c a k ≡ true) ⊎ IsPlain k
  pub single : IsSingle c → IsSingle d
  pub kept : Keeps c d old new

-- Some test grew so in the n words from place `top` on, and by it the word stands for the tree.
pub record Built (c : ℕ → ℕ → Bool) (top n : ℕ) (old new : List ℕ) (shared : List (List ℕ)) (w : ℕ) (t : Tree) : Type 0 where
  pub test : ℕ → ℕ → Bool
  pub grows : Grows c test top n old new
  pub made : Stands test shared new w t

-- The same of a holder or a fun: its words have the roles of objects, and its word 2 is `next`.
pub record GrowsLink (c d : ℕ → ℕ → Bool) (top n : ℕ) (old new : List ℕ) : Type 0 where
  pub more : (a k : ℕ) → c a k ≡ true → d a k ≡ true
  pub within : (a k : ℕ) → d a k ≡ true → (c a k ≡ true) ⊎ ((top ≤ a) × (a < top + n))
  pub objects : (a k : ℕ) → d a k ≡ true → (c a k ≡ true) ⊎ OfObject k
  pub next : (a : ℕ) → d a NEXT ≡ true → (c a NEXT ≡ true) ⊎ (a ≡ top + 2)
  pub single : IsSingle c → IsSingle d
  pub kept : Keeps c d old new

-- Some test grew so, and by it the word stands for the tree.
pub record BuiltLink (c : ℕ → ℕ → Bool) (top n : ℕ) (old new : List ℕ) (shared : List (List ℕ)) (w : ℕ) (t : Tree) : Type 0 where
  pub test : ℕ → ℕ → Bool
  pub grows : GrowsLink c test top n old new
  pub made : Stands test shared new w t
