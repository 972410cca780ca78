-- What is left to write of objects that were begun. A list of levels begins with the innermost one, which is written first.
use Rattle.std.specs.Prelude.{◌≡◌, ℕ, ◌+◌, ◌-◌, ◌^◌, ◌<◌, ◌≤◌, ◌==◌, if◌then◌else◌, Bool, true, false, List, [], ◌∷◌, ◌++◌, length, slice_index, codes, max, Option, Some, None}
use Rattle.plain_term.specs.Tree.{Tree, Trees, Pairs, pairs_len}
use Rattle.plain_term.specs.Tree.Trees.{end, ◌▹◌}
use Rattle.plain_term.specs.Tree.Pairs.{stop, pair}
use Rattle.plain_term.specs.Measures.{depth, greatest_depth}
use Rattle.plain_term.specs.Text.{text_as}
use Rattle.term_words.specs.Stands.{Stands, KeysStand, ValuesStand}
use Rattle.term_read.specs.declared.looks.Row.{Row}
use Rattle.term_read.specs.declared.looks.PairRows.{PairRows}
use Rattle.term_read.specs.declared.looks.Look.{Look}
use Rattle.term_read.specs.declared.looks.Look.TheVariants as look
use Rattle.term_walk.specs.Left.{RowStandsFor, IsShort, IsTail, row_after}
use Rattle.term_print.specs.declared.levels.Mark.{Mark}
use Rattle.term_print.specs.declared.levels.Mark.TheVariants.{Nothing, Comma, Arrow}
use Rattle.term_print.specs.declared.levels.Level.{Level}
use Rattle.term_print.specs.declared.levels.Level.TheVariants as level
use Rattle.term_print.specs.declared.levels.Part.{Part}
use Rattle.term_print.specs.declared.levels.Step.{Step}
use Rattle.term_print.specs.declared.levels.Step.TheVariants as step

-- The text of a mark.
abbrev pub mark_text : Mark → List ℕ
mark_text Nothing = []
mark_text Comma = codes ","
mark_text Arrow = codes "=>"

-- The end of a tuple or a map, and of the list whose last tail it is.
abbrev pub closing_text : (last : Bool) → List ℕ
closing_text false = codes "}"
closing_text true = codes "}]"

-- All places of the words that are left can be counted on.
abbrev pub IsCountable : Level → Type 0
IsCountable (level.List place) = place < 2 ^ 24
IsCountable (level.Tail place) = Unit {0}
IsCountable (level.Parts row mark last) = IsShort row
IsCountable (level.Pairs rows mark last) = (rows.keys + rows.len ≤ 2 ^ 24) × (rows.values + rows.len ≤ 2 ^ 24)

-- Pairs without the first.
abbrev pub pairs_after : PairRows → PairRows
pairs_after rows = record { keys = rows.keys + 1; values = rows.values + 1; len = rows.len - 1 }

-- The first word of a row, and the others after commas.
abbrev pub part_taken : Row → Mark → (last : Bool) → Part
part_taken row mark last = record { mark = mark; place = row.first; tail = false; more = Some (level.Parts (row_after row) Comma last) }

-- The first key, with its value left after an arrow; or the value, with the other pairs left after commas.
abbrev pub pair_taken : PairRows → Mark → (last : Bool) → Part
pair_taken rows Nothing last = record { mark = Nothing; place = rows.keys; tail = false; more = Some (level.Pairs rows Arrow last) }
pair_taken rows Comma last = record { mark = Comma; place = rows.keys; tail = false; more = Some (level.Pairs rows Arrow last) }
pair_taken rows Arrow last = record { mark = Arrow; place = rows.values; tail = false; more = Some (level.Pairs (pairs_after rows) Comma last) }

-- What a level writes next.
abbrev pub level_taken : Level → Step
level_taken (level.List place) = step.Part (record { mark = Nothing; place = place; tail = false; more = Some (level.Tail (place + 1)) })
level_taken (level.Tail place) = step.Part (record { mark = Nothing; place = place; tail = true; more = None })
level_taken (level.Parts row mark last) = if row.len == 0 then step.End last else step.Part (part_taken row mark last)
level_taken (level.Pairs rows mark last) = if rows.len == 0 then step.End last else step.Part (pair_taken rows mark last)

-- The level of the parts of a look's tree, if it has parts that are written; a fun's environment is not.
abbrev pub level_in : Look → (tail : Bool) → Option Level
level_in (look.Cons place) tail = Some (level.List place)
level_in (look.Tuple row) tail = Some (level.Parts row Nothing tail)
level_in (look.Map rows) tail = Some (level.Pairs rows Nothing tail)
level_in _ tail = None

-- The levels with one more on top, if there is one.
abbrev pub after_level : Option Level → List Level → List Level
after_level None ls = ls
after_level (Some l) ls = l ∷ ls

-- The trees of pairs in the order in which they are written.
abbrev pub in_turn : Pairs → Trees
in_turn stop = end
in_turn (pair k v ps) = k ▹ (v ▹ in_turn ps)

-- The trees of pairs that are left; after an arrow the first key was written.
abbrev pub unwritten : Mark → Pairs → Trees
unwritten Arrow stop = end
unwritten Arrow (pair k v ps) = v ▹ in_turn ps
unwritten Nothing ps = in_turn ps
unwritten Comma ps = in_turn ps

-- The words at the place and behind it stand for the two trees.
pub record AreTwo (c : ℕ → ℕ → Bool) (shared : List (List ℕ)) (mem : List ℕ) (place : ℕ) (ts : Trees) : Type 0 where
  pub head : Tree
  pub tail : Tree
  pub two : ts ≡ head ▹ (tail ▹ end)
  pub within : place + 2 ≤ length mem
  pub head_stands : Stands c shared mem (slice_index mem place) head
  pub tail_stands : Stands c shared mem (slice_index mem (place + 1)) tail

-- The words of the two rows stand for the keys and values of pairs, of which these trees are left.
pub record PairsAreLeft (c : ℕ → ℕ → Bool) (shared : List (List ℕ)) (mem : List ℕ) (rows : PairRows) (mark : Mark) (ts : Trees) : Type 0 where
  pub pairs : Pairs
  pub left : ts ≡ unwritten mark pairs
  pub count : rows.len ≡ pairs_len pairs
  pub keys_within : rows.keys + rows.len ≤ length mem
  pub values_within : rows.values + rows.len ≤ length mem
  pub keys_stand : KeysStand c shared mem rows.keys pairs
  pub values_stand : ValuesStand c shared mem rows.values pairs

-- The words that are left on a level stand for these trees, in the order in which they are written.
abbrev pub IsLeft : (ℕ → ℕ → Bool) → List (List ℕ) → List ℕ → Level → Trees → Type 0
IsLeft c shared mem (level.List place) ts = AreTwo c shared mem place ts
IsLeft c shared mem (level.Tail place) ts = IsTail c shared mem place ts
IsLeft c shared mem (level.Parts row mark last) ts = RowStandsFor c shared mem row ts
IsLeft c shared mem (level.Pairs rows mark last) ts = PairsAreLeft c shared mem rows mark ts

-- What is written before the part behind this one: of pairs an arrow and a comma in turn, else a comma.
abbrev pub mark_after : (in_pairs : Bool) → Mark → Mark
mark_after false mark = Comma
mark_after true Nothing = Arrow
mark_after true Comma = Arrow
mark_after true Arrow = Comma

-- The texts of trees, each after its mark.
abbrev pub row_text : (names shared : List (List ℕ)) (in_pairs : Bool) → Mark → Trees → List ℕ
row_text names shared in_pairs mark end = []
row_text names shared in_pairs mark (t ▹ ts) =
    mark_text mark ++ (text_as names shared false t ++ row_text names shared in_pairs (mark_after in_pairs mark) ts)

-- The text of a list's tail.
abbrev pub tail_text : (names shared : List (List ℕ)) → Trees → List ℕ
tail_text names shared end = []
tail_text names shared (t ▹ ts) = text_as names shared true t

-- The text of a list behind its bracket or comma.
abbrev pub list_text : (names shared : List (List ℕ)) → Trees → List ℕ
list_text names shared end = []
list_text names shared (t ▹ ts) = text_as names shared false t ++ tail_text names shared ts

-- The text that is left on a level whose words stand for these trees.
abbrev pub level_text : (names shared : List (List ℕ)) → Level → Trees → List ℕ
level_text names shared (level.List place) ts = list_text names shared ts
level_text names shared (level.Tail place) ts = tail_text names shared ts
level_text names shared (level.Parts row mark last) ts = row_text names shared false mark ts ++ closing_text last
level_text names shared (level.Pairs rows mark last) ts = row_text names shared true mark ts ++ closing_text last

-- How many levels deep the trees of a level go, from it on: the head of a list is one level deeper than its tail.
abbrev pub reach : Level → Trees → ℕ
reach (level.List place) end = 0
reach (level.List place) (t ▹ ts) = max (1 + depth t) (greatest_depth ts)
reach (level.Tail place) ts = greatest_depth ts
reach (level.Parts row mark last) ts = 1 + greatest_depth ts
reach (level.Pairs rows mark last) ts = 1 + greatest_depth ts
