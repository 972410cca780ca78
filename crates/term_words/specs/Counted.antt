-- Lists without repetition of objects and of other things that take words, and places that are counted.
use Rattle.std.specs.Prelude.{◌≡◌, ℕ, zero, suc, ◌+◌, ◌-◌, ◌*◌, ◌/◌, ◌<◌, ◌≤◌, ◌⊎◌, if◌then◌else◌, Bool, true, List, [], ◌∷◌, slice_index}
use Rattle.plain_term.specs.Tree.{Tree}
use Rattle.plain_term.specs.Measures.{flat}
use Rattle.term_words.specs.Object.{IsPointer, IsRecord, object_words}
use Rattle.term_words.specs.Stands.{Stands}
use Rattle.term_words.specs.Reach.{Reach, first_traced}

-- The word is in the list.
abbrev pub In : ℕ → List ℕ → Type 0
In w [] = ⊥
In w (v ∷ vs) = (w ≡ v) ⊎ In w vs

-- No word stands twice in the list.
abbrev pub Distinct : List ℕ → Type 0
Distinct [] = Unit {0}
Distinct (v ∷ vs) = (In v vs → ⊥) × Distinct vs

-- The sizes of what a list names, together.
abbrev pub total : (ℕ → ℕ) → List ℕ → ℕ
total size [] = 0
total size (v ∷ vs) = size v + total size vs

-- What n words from a place on owe together, where it is said what each word owes.
abbrev pub owed_row : (owed : ℕ → ℕ) → List ℕ → (at n : ℕ) → ℕ
owed_row owed mem at zero = 0
owed_row owed mem at (suc n) = owed (slice_index mem at) + owed_row owed mem (at + 1) n

-- The words of an object, and what its traced words owe.
abbrev pub words_and_owed : (owed : ℕ → ℕ) → List ℕ → ℕ → ℕ
words_and_owed owed mem v = object_words mem v + owed_row owed mem (v / 4 + first_traced mem v) (object_words mem v - first_traced mem v)

-- A word that refers to a place of a set owes the flat words of its tree, and no other word owes any; what stands at these
-- places refers to these alone.
pub record OwesReferences (c : ℕ → ℕ → Bool) (shared : List (List ℕ)) (mem : List ℕ) (s : ℕ → Bool) (owed : ℕ → ℕ) : Type 0 where
  pub closed : (v k : ℕ) (t : Tree) → Stands c shared mem v t → IsPointer v → s (v / 4) ≡ true → first_traced mem v ≤ k → k < object_words mem v
      → IsPointer (slice_index mem (v / 4 + k)) → s (slice_index mem (v / 4 + k) / 4) ≡ true
  pub into : (v : ℕ) (t : Tree) → Stands c shared mem v t → IsPointer v → s (v / 4) ≡ true → owed v ≡ flat t
  pub others : (v : ℕ) → (IsPointer v → s (v / 4) ≡ true → ⊥) → owed v ≡ 0

-- The objects that the roots reach, each once.
pub record Listed (mem roots : List ℕ) : Type 0 where
  pub each : List ℕ
  pub once : Distinct each
  pub all : (v : ℕ) → Reach mem roots v → IsPointer v → In v each
  pub only : (v : ℕ) → In v each → IsPointer v × Reach mem roots v

-- How many of n places, counted from a place on, pass the test.
unfoldable pub count : (ℕ → Bool) → ℕ → ℕ → ℕ
count s from zero = 0
count s from (suc n) = (if s from then 1 else 0) + count s (from + 1) n

-- What a list names, by place and size, takes a word at least each, is one or apart, and lies at those of n places from
-- a place on that pass the test.
pub record ArePacked (at size : ℕ → ℕ) (s : ℕ → Bool) (from n : ℕ) (vs : List ℕ) : Type 0 where
  pub once : Distinct vs
  pub apart : (v w : ℕ) → In v vs → In w vs → (v ≡ w) ⊎ ((at v + size v ≤ at w) ⊎ (at w + size w ≤ at v))
  pub some : (v : ℕ) → In v vs → 0 < size v
  pub inside : (v : ℕ) → In v vs → (from ≤ at v) × (at v + size v ≤ from + n)
  pub passes : (v q : ℕ) → In v vs → at v ≤ q → q < at v + size v → s q ≡ true

-- A tile, an object's pointer or 4 times the place of a record, names what stands by the test.
abbrev pub TileStands : (ℕ → ℕ → Bool) → List (List ℕ) → List ℕ → ℕ → Type 0
TileStands c shared mem w = (IsPointer w × ((t : Tree) × Stands c shared mem w t)) ⊎ ((v n : ℕ) × ((w ≡ v * 4) × IsRecord c mem v n))
