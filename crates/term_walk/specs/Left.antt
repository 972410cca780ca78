-- What is left of a walk: on each level words that stand for trees. A list of levels begins with the deepest one, which is
-- walked first.
use Rattle.std.specs.Prelude.{◌≡◌, ℕ, ◌+◌, ◌-◌, ◌^◌, ◌<◌, ◌≤◌, ◌==◌, if◌then◌else◌, Bool, List, [], ◌∷◌, length, slice_index, max, Option, Some, None}
use Rattle.plain_term.specs.Tree.{Tree, Trees, trees_len, trees_append, keys_of, values_of}
use Rattle.plain_term.specs.Tree.Tree.{Cons, Tuple, Map, Fun}
use Rattle.plain_term.specs.Tree.Trees.{end, ◌▹◌}
use Rattle.plain_term.specs.Measures.{depth, greatest_depth}
use Rattle.plain_term.specs.Beyond.{depth_limit}
use Rattle.term_words.specs.Role.{always}
use Rattle.term_words.specs.Stands.{Stands, RowStands}
use Rattle.term_read.specs.Look.{IsSeen}
use Rattle.term_read.specs.declared.looks.Row.{Row}
use Rattle.term_read.specs.declared.looks.Look.{Look}
use Rattle.term_read.specs.declared.looks.Look.TheVariants as look
use Rattle.term_walk.specs.declared.levels.Rest.{Rest}
use Rattle.term_walk.specs.declared.levels.Rest.TheVariants as rest
use Rattle.term_walk.specs.declared.levels.Further.{Further}
use Rattle.term_walk.specs.declared.levels.Further.TheVariants as further

-- The row ends where a memory can end.
abbrev pub IsShort : Row → Type 0
IsShort row = row.first + row.len ≤ 2 ^ 24

-- So do all rows that are left.
abbrev pub RestIsShort : Rest → Type 0
RestIsShort (rest.Row row) = IsShort row
RestIsShort (rest.Rows row next) = IsShort row × IsShort next
RestIsShort (rest.Tail place) = Unit {0}

-- A row without its first word.
abbrev pub row_after : Row → Row
row_after row = record { first = row.first + 1; len = row.len - 1 }

-- The place of a row's first word, and what is left after it.
abbrev pub row_taken : Row → Option (ℕ × Option Rest)
row_taken row = if row.len == 0 then None else Some (row.first, Some (rest.Row (row_after row)))

-- The place of the first word that is left, and what is left after it.
abbrev pub rest_taken : Rest → Option (ℕ × Option Rest)
rest_taken (rest.Row row) = row_taken row
rest_taken (rest.Rows row next) = if row.len == 0 then row_taken next else Some (row.first, Some (rest.Rows (row_after row) next))
rest_taken (rest.Tail place) = Some (place, None)

-- What is left of an object before its first part is seen, but of a cons.
abbrev pub rest_in : Look → Option Rest
rest_in (look.Tuple row) = Some (rest.Row row)
rest_in (look.Map rows) = Some (rest.Rows (record { first = rows.keys; len = rows.len }) (record { first = rows.values; len = rows.len }))
rest_in (look.Fun parts) = Some (rest.Row parts.env)
rest_in _ = None

-- The words of the row stand for these trees in order.
pub record RowStandsFor (c : ℕ → ℕ → Bool) (shared : List (List ℕ)) (mem : List ℕ) (row : Row) (ts : Trees) : Type 0 where
  pub count : row.len ≡ trees_len ts
  pub within : row.first + row.len ≤ length mem
  pub standing : RowStands c shared mem row.first ts

-- The word at the place stands for the one tree.
pub record IsTail (c : ℕ → ℕ → Bool) (shared : List (List ℕ)) (mem : List ℕ) (place : ℕ) (ts : Trees) : Type 0 where
  pub tree : Tree
  pub one : ts ≡ tree ▹ end
  pub within : place < length mem
  pub standing : Stands c shared mem (slice_index mem place) tree

-- The words of the two rows stand for these trees in order.
pub record AreRows (c : ℕ → ℕ → Bool) (shared : List (List ℕ)) (mem : List ℕ) (row next : Row) (ts : Trees) : Type 0 where
  pub firsts : Trees
  pub others : Trees
  pub both : ts ≡ trees_append firsts others
  pub row_is : RowStandsFor c shared mem row firsts
  pub next_is : RowStandsFor c shared mem next others

-- The words that are left on one level stand for these trees in order.
abbrev pub RestIsLeft : (ℕ → ℕ → Bool) → List (List ℕ) → List ℕ → Rest → Trees → Type 0
RestIsLeft c shared mem (rest.Row row) ts = RowStandsFor c shared mem row ts
RestIsLeft c shared mem (rest.Rows row next) ts = AreRows c shared mem row next ts
RestIsLeft c shared mem (rest.Tail place) ts = IsTail c shared mem place ts

-- The words that are left stand for these trees, level by level.
abbrev pub AreLeft : (ℕ → ℕ → Bool) → List (List ℕ) → List ℕ → List Rest → List Trees → Type 0
AreLeft c shared mem [] [] = Unit {0}
AreLeft c shared mem (l ∷ ls) (ts ∷ rests) = RestIsLeft c shared mem l ts × AreLeft c shared mem ls rests
AreLeft c shared mem [] (ts ∷ rests) = ⊥
AreLeft c shared mem (l ∷ ls) [] = ⊥

-- All trees that are left, in the order of the walk.
abbrev pub left_of : List Trees → Trees
left_of [] = end
left_of (ts ∷ rests) = trees_append ts (left_of rests)

-- The tail of a list is no deeper than the list; all else is one level deeper than its object.
abbrev pub inside : Rest → ℕ
inside (rest.Row row) = 1
inside (rest.Rows row next) = 1
inside (rest.Tail place) = 0

-- How deep the trees go that are left, each from its level on.
abbrev pub deepest : List Rest → List Trees → ℕ
deepest [] rests = 0
deepest (l ∷ ls) [] = 0
deepest (l ∷ ls) (ts ∷ rests) = max (length ls + (inside l + greatest_depth ts)) (deepest ls rests)

-- The parts of a tree, in the order of the walk: of a map the keys, then the values.
abbrev pub walk_parts : Tree → Trees
walk_parts (Cons h t) = h ▹ (t ▹ end)
walk_parts (Tuple ts) = ts
walk_parts (Map ps) = trees_append (keys_of ps) (values_of ps)
walk_parts (Fun name arity creator env) = env
walk_parts _ = end

-- The words that are left stand for trees.
pub record HasLeft (mem : List ℕ) (levels : List Rest) : Type 0 where
  pub shared : List (List ℕ)
  pub rests : List Trees
  pub few : length levels ≤ depth_limit
  pub left : AreLeft always shared mem levels rests

-- The look is one at a word that stands for a tree, and so do the words that are left.
pub record CanGo (mem : List ℕ) (levels : List Rest) (l : Look) : Type 0 where
  pub shared : List (List ℕ)
  pub word : ℕ
  pub now : Tree
  pub rests : List Trees
  pub standing : Stands always shared mem word now
  pub seen : IsSeen always shared mem word now l
  pub few : length levels ≤ depth_limit
  pub left : AreLeft always shared mem levels rests

-- The walk goes on at a word: it and the words that are left then stand for these trees, as deep as before.
pub record GoesTo (c : ℕ → ℕ → Bool) (shared : List (List ℕ)) (mem : List ℕ) (ts : Trees) (deep : ℕ) (word : ℕ) (levels : List Rest) : Type 0 where
  pub now : Tree
  pub rests : List Trees
  pub standing : Stands c shared mem word now
  pub left : AreLeft c shared mem levels rests
  pub order : ts ≡ now ▹ left_of rests
  pub few : length levels ≤ depth_limit
  pub depths : max depth_limit deep ≡ max depth_limit (max (length levels + depth now) (deepest levels rests))

-- Nothing is left of these trees, and none was too deep.
pub record WalkEnds (ts : Trees) (deep : ℕ) : Type 0 where
  pub none : ts ≡ end
  pub shallow : deep ≤ depth_limit

-- Where a walk of so many levels goes from a tree: to its parts, and then to what was left.
abbrev pub WalkGoes : (most : ℕ) → (ℕ → ℕ → Bool) → List (List ℕ) → List ℕ → List Rest → Tree → List Trees → Further → List Rest → Type 0
WalkGoes most c shared mem old now rests (further.Word word) new =
    GoesTo c shared mem (trees_append (walk_parts now) (left_of rests)) (max (length old + depth now) (deepest old rests)) word new
WalkGoes most c shared mem old now rests further.End new =
    WalkEnds (trees_append (walk_parts now) (left_of rests)) (max (length old + depth now) (deepest old rests))
WalkGoes most c shared mem old now rests further.TooDeep new = most < length old + depth now

-- The first word that is left, if there is one, and what is left after it.
abbrev pub GoesNext : (ℕ → ℕ → Bool) → List (List ℕ) → List ℕ → List Rest → List Trees → Option ℕ → List Rest → Type 0
GoesNext c shared mem old rests (Some word) new = GoesTo c shared mem (left_of rests) (deepest old rests) word new
GoesNext c shared mem old rests None new = WalkEnds (left_of rests) (deepest old rests)

-- So it is for all trees that the words stand for.
pub record Yields (mem : List ℕ) (old : List Rest) (result : Option ℕ) (new : List Rest) : Type 0 where
  pub each : (c : ℕ → ℕ → Bool) (shared : List (List ℕ)) (rests : List Trees) → length old ≤ depth_limit → AreLeft c shared mem old rests
      → GoesNext c shared mem old rests result new
