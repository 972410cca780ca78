-- What a list of roots reaches.
use Rattle.std.specs.Prelude.{◌≡◌, ℕ, ◌+◌, ◌/◌, ◌%◌, ◌<◌, ◌≤◌, ◌==◌, if◌then◌else◌, Bool, true, List, length, slice_index, Option, Some, None}
use Rattle.plain_term.specs.Tree.{Tree, Trees, keys_of, values_of}
use Rattle.plain_term.specs.Tree.Tree.{Cons, Tuple, Map, Part, Fun}
use Rattle.plain_term.specs.Tree.Trees.{end, ◌▹◌}
use Rattle.term_tags.specs.Table.{layout_for}
use Rattle.term_tags.specs.declared.layouts.Layout.{Layout}
use Rattle.term_words.specs.Role.{NAMES}
use Rattle.term_words.specs.Object.{IsPointer, IsRecord, object_words}

-- The first traced word of a layout, or the end of an object that has none.
abbrev pub first_of : Option Layout → ℕ → ℕ
first_of None n = n
first_of (Some l) n = l.first

-- The first traced word of the object that a pointer leads to, counted from the object's place: both words of a cons are
-- traced, of another object those that the table of layouts says.
abbrev pub first_traced : List ℕ → ℕ → ℕ
first_traced mem w = if w % 4 == 1 then 0 else first_of (layout_for (slice_index mem (w / 4))) (object_words mem w)

-- The trees of the traced words of a tree's object, in order.
abbrev pub parts_of : Tree → Trees
parts_of (Cons h t) = h ▹ t ▹ end
parts_of (Tuple ts) = ts
parts_of (Map ps) = Tuple (keys_of ps) ▹ values_of ps
parts_of (Part base offset len) = base ▹ end
parts_of (Fun name arity creator env) = env
parts_of _ = end

-- The words that the roots reach: each root, and with a pointer the traced words of its object.
pub data Reach (mem roots : List ℕ) : ℕ → Type 0 where
  root : (i w : ℕ) → i < length roots → w ≡ slice_index roots i → Reach mem roots w
  part : (v k w : ℕ) → Reach mem roots v → IsPointer v → first_traced mem v ≤ k → k < object_words mem v → w ≡ slice_index mem (v / 4 + k) → Reach mem roots w

-- An object that the roots reach names the record at the place.
pub record IsNamed (c : ℕ → ℕ → Bool) (mem roots : List ℕ) (v : ℕ) : Type 0 where
  pub w : ℕ
  pub j : ℕ
  pub reached : Reach mem roots w
  pub pointer : IsPointer w
  pub below : j < object_words mem w
  pub role : c (w / 4 + j) NAMES ≡ true
  pub names : v ≡ slice_index mem (w / 4 + j)

-- Each word of the objects that the roots reach, and of the records that these name, that has a role by the first test has
-- it by the second one.
pub record PassTest (c d : ℕ → ℕ → Bool) (mem roots : List ℕ) : Type 0 where
  pub objects : (w q k : ℕ) → Reach mem roots w → IsPointer w → w / 4 ≤ q → q < w / 4 + object_words mem w → c q k ≡ true → d q k ≡ true
  pub records : (v n q k : ℕ) → IsNamed c mem roots v → IsRecord c mem v n → v ≤ q → q < v + n → c q k ≡ true → d q k ≡ true
