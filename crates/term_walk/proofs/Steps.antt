-- Where a walk goes, from what is left of it.
use Rattle.std.proofs.Common.{◌≡◌, ℕ, ◌+◌, ◌/◌, ◌^◌, ◌<◌, ◌≤◌, ◌⊎◌, if◌then◌else◌, nat_eq, max, Bool, true, false, List, [], ◌∷◌, ◌++◌, length, reverse, get_or, refl, sym, ◌∙◌, ap, ap₂, subst, arith, inl, inr, Option, Some, None}
use Rattle.std.proofs.lemmas.Bool.{eqb-true}
use Rattle.std.proofs.lemmas.Bool.Decides.{nat_tests}
use Rattle.std.proofs.lemmas.List.{reverse-append, length-reverse}
use Rattle.plain_term.specs.Tree.{Tree, Trees, Pairs, trees_len, trees_append, keys_of, values_of}
use Rattle.plain_term.specs.Tree.Tree.{Int, Atom, Pid, Ref, Nil, Cons, Tuple, Map, Bin, Shared, Part, Fun}
use Rattle.plain_term.specs.Tree.Trees.{end, ◌▹◌}
use Rattle.plain_term.specs.Tree.Pairs.{stop, pair}
use Rattle.plain_term.specs.Measures.{depth, greatest_depth, greatest_depth_of_pairs}
use Rattle.plain_term.specs.Beyond.{depth_limit}
use Rattle.term_words.specs.Role.{always}
use Rattle.term_words.specs.Stands.{Stands, RowStands}
use Rattle.term_words.proofs.ByKind.Pairs.{keys-row, values-row, keys-len, values-len}
use Rattle.term_read.specs.Look.{IsSeen}
use Rattle.term_read.specs.declared.looks.Row.{Row}
use Rattle.term_read.specs.declared.looks.Look.{Look}
use Rattle.term_read.specs.declared.looks.Look.TheVariants as look
use Rattle.term_walk.specs.declared.levels.Rest.{Rest}
use Rattle.term_walk.specs.declared.levels.Rest.TheVariants as rest
use Rattle.term_walk.specs.declared.levels.Further.TheVariants as further
use Rattle.term_walk.specs.Left.{RestIsShort, row_after, row_taken, rest_taken, rest_in, RowStandsFor, IsTail, AreRows, RestIsLeft, AreLeft, left_of, inside, deepest, walk_parts, HasLeft, CanGo, GoesTo, WalkEnds, WalkGoes, Yields}

-- A choice is one of its two arms.

pub chosen : {A : Type 0} (b : Bool) (x y z : A) → (if b then x else y) ≡ z → ((b ≡ true) × (x ≡ z)) ⊎ ((b ≡ false) × (y ≡ z))
chosen true x y z e = inl (refl, e)
chosen false x y z e = inr (refl, e)

-- A row without words stands for no tree, one with words for its first tree and the row after it.

len-end : (ts : Trees) → trees_len ts ≡ 0 → ts ≡ end
len-end end e = refl
len-end (t ▹ ts) e = absurd (omega (arith, e))

pub not-zero : (n : ℕ) → nat_eq n 0 ≡ false → 0 < n
not-zero n e = grind (arith, nat_tests)

pub row-end : (c : ℕ → ℕ → Bool) (shared : List (List ℕ)) (mem : List ℕ) (row : Row) (ts : Trees) → RowStandsFor c shared mem row ts → row.len ≡ 0 → ts ≡ end
row-end c shared mem row ts r zero = len-end ts (sym r.count ∙ zero)

record RowTook (c : ℕ → ℕ → Bool) (shared : List (List ℕ)) (mem : List ℕ) (row : Row) (ts : Trees) : Type 0 where
  now : Tree
  after : Trees
  order : ts ≡ now ▹ after
  within : row.first < length mem
  standing : Stands c shared mem (get_or mem row.first 0) now
  left : RowStandsFor c shared mem (row_after row) after

row-took : (c : ℕ → ℕ → Bool) (shared : List (List ℕ)) (mem : List ℕ) (row : Row) (ts : Trees) → RowStandsFor c shared mem row ts → 0 < row.len → RowTook c shared mem row ts
unfolding RowStands
row-took c shared mem row end r some = absurd (omega (arith, r.count))
row-took c shared mem row (t ▹ ts) r some = record {
  now = t;
  after = ts;
  order = refl;
  within = omega (arith, r.within);
  standing = r.standing.0;
  left = record { count = omega (arith, r.count); within = omega (arith, r.within); standing = r.standing.1 };
}

-- The rest of a level is at its end, or has a first word.

none-some : {A : Type 0} (x : A) → Some x ≡ None → ⊥
none-some x e = cc

row-none : (row : Row) → row_taken row ≡ None → row.len ≡ 0
row-none row e = elim (chosen (nat_eq row.len 0) None (Some (row.first, Some (rest.Row (row_after row)))) None e) [ inl t ↦ eqb-true row.len 0 t.0 | inr f ↦ absurd (none-some _ f.1) ]

take-none : (c : ℕ → ℕ → Bool) (shared : List (List ℕ)) (mem : List ℕ) (l : Rest) (ts : Trees) → RestIsLeft c shared mem l ts → rest_taken l ≡ None → (ts ≡ end) × (inside l ≡ 1)
take-none c shared mem (rest.Row row) ts r e = (row-end c shared mem row ts r (row-none row e), refl)
take-none c shared mem (rest.Rows row next) ts r e = elim (chosen (nat_eq row.len 0) (row_taken next) (Some (row.first, Some (rest.Rows (row_after row) next))) None e) [
  | inl t ↦ (r.both ∙ ap₂ trees_append (row-end c shared mem row r.firsts r.row_is (eqb-true row.len 0 t.0)) (row-end c shared mem next r.others r.next_is (row-none next t.1)), refl)
  | inr f ↦ absurd (none-some _ f.1)
]
take-none c shared mem (rest.Tail place) ts r e = absurd (none-some _ e)

-- What is left on a level behind a word.
abbrev MoreLeft : (ℕ → ℕ → Bool) → List (List ℕ) → List ℕ → Rest → Option Rest → Trees → Type 0
MoreLeft c shared mem l None after = (after ≡ end) × (inside l ≡ 0)
MoreLeft c shared mem l (Some m) after = RestIsLeft c shared mem m after × (inside l ≡ 1) × (inside m ≡ 1)

record Took (c : ℕ → ℕ → Bool) (shared : List (List ℕ)) (mem : List ℕ) (l : Rest) (place : ℕ) (more : Option Rest) (ts : Trees) : Type 0 where
  now : Tree
  after : Trees
  order : ts ≡ now ▹ after
  within : place < length mem
  standing : Stands c shared mem (get_or mem place 0) now
  left : MoreLeft c shared mem l more after

took-as : (c : ℕ → ℕ → Bool) (shared : List (List ℕ)) (mem : List ℕ) (l : Rest) (got want : ℕ × Option Rest) (ts : Trees) → Some got ≡ Some want → Took c shared mem l got.0 got.1 ts
    → Took c shared mem l want.0 want.1 ts
took-as c shared mem l got want ts e t =
    let same : got ≡ want = cc in
    let P : ℕ × Option Rest → Type 0 = λ z. Took c shared mem l z.0 z.1 ts in
    subst P same t

row-took-as : (c : ℕ → ℕ → Bool) (shared : List (List ℕ)) (mem : List ℕ) (row : Row) (ts : Trees) → RowStandsFor c shared mem row ts → 0 < row.len
    → Took c shared mem (rest.Row row) row.first (Some (rest.Row (row_after row))) ts
row-took-as c shared mem row ts r some =
    let t : RowTook c shared mem row ts = row-took c shared mem row ts r some in
    record { now = t.now; after = t.after; order = t.order; within = t.within; standing = t.standing; left = (t.left, refl, refl) }

-- The second row of two is taken from where the first is at its end.
second-took : (c : ℕ → ℕ → Bool) (shared : List (List ℕ)) (mem : List ℕ) (row next : Row) (ts : Trees) → AreRows c shared mem row next ts → row.len ≡ 0 → 0 < next.len
    → Took c shared mem (rest.Rows row next) next.first (Some (rest.Row (row_after next))) ts
second-took c shared mem row next ts r none some =
    let t : RowTook c shared mem next r.others = row-took c shared mem next r.others r.next_is some in
    record {
      now = t.now;
      after = t.after;
      order = r.both ∙ ap (λ z. trees_append z r.others) (row-end c shared mem row r.firsts r.row_is none) ∙ t.order;
      within = t.within;
      standing = t.standing;
      left = (t.left, refl, refl);
    }

first-took : (c : ℕ → ℕ → Bool) (shared : List (List ℕ)) (mem : List ℕ) (row next : Row) (ts : Trees) → AreRows c shared mem row next ts → 0 < row.len
    → Took c shared mem (rest.Rows row next) row.first (Some (rest.Rows (row_after row) next)) ts
first-took c shared mem row next ts r some =
    let t : RowTook c shared mem row r.firsts = row-took c shared mem row r.firsts r.row_is some in
    record {
      now = t.now;
      after = trees_append t.after r.others;
      order = r.both ∙ ap (λ z. trees_append z r.others) t.order;
      within = t.within;
      standing = t.standing;
      left = (record { firsts = t.after; others = r.others; both = refl; row_is = t.left; next_is = r.next_is }, refl, refl);
    }

tail-took : (c : ℕ → ℕ → Bool) (shared : List (List ℕ)) (mem : List ℕ) (place : ℕ) (ts : Trees) → IsTail c shared mem place ts → Took c shared mem (rest.Tail place) place None ts
tail-took c shared mem place ts r = record { now = r.tree; after = end; order = r.one; within = r.within; standing = r.standing; left = (refl, refl) }

take-some : (c : ℕ → ℕ → Bool) (shared : List (List ℕ)) (mem : List ℕ) (l : Rest) (got : ℕ × Option Rest) (ts : Trees) → RestIsLeft c shared mem l ts → rest_taken l ≡ Some got
    → Took c shared mem l got.0 got.1 ts
take-some c shared mem (rest.Row row) got ts r e = elim (chosen (nat_eq row.len 0) None (Some (row.first, Some (rest.Row (row_after row)))) (Some got) e) [
  | inl t ↦ absurd (none-some got (sym t.1))
  | inr f ↦ took-as c shared mem (rest.Row row) (row.first, Some (rest.Row (row_after row))) got ts f.1 (row-took-as c shared mem row ts r (not-zero row.len f.0))
]
take-some c shared mem (rest.Rows row next) got ts r e = elim (chosen (nat_eq row.len 0) (row_taken next) (Some (row.first, Some (rest.Rows (row_after row) next))) (Some got) e) [
  | inl t ↦ elim (chosen (nat_eq next.len 0) None (Some (next.first, Some (rest.Row (row_after next)))) (Some got) t.1) [
    | inl u ↦ absurd (none-some got (sym u.1))
    | inr f ↦ took-as c shared mem (rest.Rows row next) (next.first, Some (rest.Row (row_after next))) got ts f.1
        (second-took c shared mem row next ts r (eqb-true row.len 0 t.0) (not-zero next.len f.0))
  ]
  | inr f ↦ took-as c shared mem (rest.Rows row next) (row.first, Some (rest.Rows (row_after row) next)) got ts f.1 (first-took c shared mem row next ts r (not-zero row.len f.0))
]
take-some c shared mem (rest.Tail place) got ts r e = took-as c shared mem (rest.Tail place) (place, None) got ts e (tail-took c shared mem place ts r)

-- The rows that are left end where the memory can end.
short-left : (c : ℕ → ℕ → Bool) (shared : List (List ℕ)) (mem : List ℕ) (l : Rest) (ts : Trees) → length mem ≤ 2 ^ 24 → RestIsLeft c shared mem l ts → RestIsShort l
short-left c shared mem (rest.Row row) ts most r = omega (arith, r.within)
short-left c shared mem (rest.Rows row next) ts most r = (omega (arith, r.row_is.within), omega (arith, r.next_is.within))
short-left c shared mem (rest.Tail place) ts most r = tt

-- Levels at their end are let go.

pub record Skipped (c : ℕ → ℕ → Bool) (shared : List (List ℕ)) (mem : List ℕ) (old levels : List Rest) (before : List Trees) : Type 0 where
  pub rests : List Trees
  pub left : AreLeft c shared mem levels rests
  pub same : left_of before ≡ left_of rests
  pub few : length levels ≤ length old
  pub depths : max depth_limit (deepest old before) ≡ max depth_limit (deepest levels rests)

pub record Skips (mem : List ℕ) (old levels : List Rest) : Type 0 where
  pub each : (c : ℕ → ℕ → Bool) (shared : List (List ℕ)) (rests : List Trees) → length old ≤ depth_limit → AreLeft c shared mem old rests → Skipped c shared mem old levels rests

pub skips-none : (mem : List ℕ) (old : List Rest) → Skips mem old old
skips-none mem old = record { each = λ c shared rests few left. record { rests = rests; left = left; same = refl; few = omega arith; depths = refl } }

-- A level of a list of levels that stands.
record TopLeft (c : ℕ → ℕ → Bool) (shared : List (List ℕ)) (mem : List ℕ) (l : Rest) (ls : List Rest) (rests : List Trees) : Type 0 where
  top : Trees
  others : List Trees
  cons : rests ≡ top ∷ others
  is_left : RestIsLeft c shared mem l top
  are_left : AreLeft c shared mem ls others

top-left : (c : ℕ → ℕ → Bool) (shared : List (List ℕ)) (mem : List ℕ) (l : Rest) (ls : List Rest) (rests : List Trees) → AreLeft c shared mem (l ∷ ls) rests → TopLeft c shared mem l ls rests
top-left c shared mem l ls [] bad = absurd bad
top-left c shared mem l ls (ts ∷ rests) (one, all) = record { top = ts; others = rests; cons = refl; is_left = one; are_left = all }

skip-one : (c : ℕ → ℕ → Bool) (shared : List (List ℕ)) (mem : List ℕ) (old : List Rest) (l : Rest) (ls : List Rest) (before : List Trees) → length old ≤ depth_limit → rest_taken l ≡ None
    → Skipped c shared mem old (l ∷ ls) before → Skipped c shared mem old ls before
skip-one c shared mem old l ls before most none s =
    let t : TopLeft c shared mem l ls s.rests = top-left c shared mem l ls s.rests s.left in
    let (empty, one) = take-none c shared mem l t.top t.is_left none in
    let flat : greatest_depth t.top ≡ 0 = ap greatest_depth empty in
    let deep : deepest (l ∷ ls) s.rests ≡ max (length ls + (inside l + greatest_depth t.top)) (deepest ls t.others) = ap (deepest (l ∷ ls)) t.cons in
    record {
      rests = t.others;
      left = t.are_left;
      same = s.same ∙ ap left_of t.cons ∙ ap (λ z. trees_append z (left_of t.others)) empty;
      few = omega (arith, s.few);
      depths = omega (arith, s.depths, s.few, deep, flat, one);
    }

pub skips-one : (mem : List ℕ) (old : List Rest) (l : Rest) (ls : List Rest) → rest_taken l ≡ None → Skips mem old (l ∷ ls) → Skips mem old ls
skips-one mem old l ls none s = record { each = λ c shared rests few left. skip-one c shared mem old l ls rests few none (s.each c shared rests few left) }

-- The same trees, as deep, begin with the word.
goes-same : (c : ℕ → ℕ → Bool) (shared : List (List ℕ)) (mem : List ℕ) (ts us : Trees) (deep deep2 : ℕ) (word : ℕ) (levels : List Rest) → us ≡ ts → max depth_limit deep2 ≡ max depth_limit deep
    → GoesTo c shared mem ts deep word levels → GoesTo c shared mem us deep2 word levels
goes-same c shared mem ts us deep deep2 word levels e d g = record { now = g.now; rests = g.rests; standing = g.standing; left = g.left; order = e ∙ g.order; few = g.few; depths = d ∙ g.depths }

ends-same : (ts us : Trees) (deep deep2 : ℕ) → us ≡ ts → max depth_limit deep2 ≡ max depth_limit deep → WalkEnds ts deep → WalkEnds us deep2
ends-same ts us deep deep2 e d g = record { none = e ∙ g.none; shallow = omega (arith, d, g.shallow) }

-- The list of levels after a word was taken.
abbrev pub after_word : Option Rest → List Rest → List Rest
after_word None ls = ls
after_word (Some m) ls = m ∷ ls

more-left : (c : ℕ → ℕ → Bool) (shared : List (List ℕ)) (mem : List ℕ) (l : Rest) (ls : List Rest) (more : Option Rest) (ts : Trees) (others : List Trees) (word : ℕ) (now : Tree) (after : Trees)
    → length ls + 1 ≤ depth_limit → Stands c shared mem word now → AreLeft c shared mem ls others → ts ≡ now ▹ after → MoreLeft c shared mem l more after
    → GoesTo c shared mem (trees_append ts (left_of others)) (max (length ls + (inside l + greatest_depth ts)) (deepest ls others)) word (after_word more ls)
more-left c shared mem l ls None ts others word now after few s left order (none, low) =
    let one : ts ≡ now ▹ end = order ∙ ap (λ z. now ▹ z) none in
    let deep : greatest_depth ts ≡ max (depth now) 0 = ap greatest_depth one in
    record { now = now; rests = others; standing = s; left = left; order = ap (λ z. trees_append z (left_of others)) one; few = omega arith; depths = omega (arith, deep, low) }
more-left c shared mem l ls (Some m) ts others word now after few s left order (is, high, same) =
    let deep : greatest_depth ts ≡ max (depth now) (greatest_depth after) = ap greatest_depth order in
    record {
      now = now;
      rests = after ∷ others;
      standing = s;
      left = (is, left);
      order = ap (λ z. trees_append z (left_of others)) order;
      few = omega arith;
      depths = omega (arith, deep, high, same);
    }

next-some : (c : ℕ → ℕ → Bool) (shared : List (List ℕ)) (mem : List ℕ) (old : List Rest) (l : Rest) (ls : List Rest) (got : ℕ × Option Rest) (before : List Trees) → length old ≤ depth_limit
    → rest_taken l ≡ Some got → Skipped c shared mem old (l ∷ ls) before → GoesTo c shared mem (left_of before) (deepest old before) (get_or mem got.0 0) (after_word got.1 ls)
next-some c shared mem old l ls got before most e s =
    let t : TopLeft c shared mem l ls s.rests = top-left c shared mem l ls s.rests s.left in
    let k : Took c shared mem l got.0 got.1 t.top = take-some c shared mem l got t.top t.is_left e in
    let deep : deepest (l ∷ ls) s.rests ≡ max (length ls + (inside l + greatest_depth t.top)) (deepest ls t.others) = ap (deepest (l ∷ ls)) t.cons in
    goes-same c shared mem (trees_append t.top (left_of t.others)) (left_of before) (max (length ls + (inside l + greatest_depth t.top)) (deepest ls t.others)) (deepest old before)
    (get_or mem got.0 0) (after_word got.1 ls) (s.same ∙ ap left_of t.cons) (s.depths ∙ ap (max depth_limit) deep)
    (more-left c shared mem l ls got.1 t.top t.others (get_or mem got.0 0) k.now k.after (omega (arith, s.few)) k.standing t.are_left k.order k.left)

pub yields-some : (mem : List ℕ) (old : List Rest) (l : Rest) (ls : List Rest) (got : ℕ × Option Rest) → rest_taken l ≡ Some got → Skips mem old (l ∷ ls)
    → Yields mem old (Some (get_or mem got.0 0)) (after_word got.1 ls)
yields-some mem old l ls got e s = record { each = λ c shared rests few left. next-some c shared mem old l ls got rests few e (s.each c shared rests few left) }

next-none : (c : ℕ → ℕ → Bool) (shared : List (List ℕ)) (mem : List ℕ) (rests : List Trees) → AreLeft c shared mem [] rests → (left_of rests ≡ end) × (deepest [] rests ≡ 0)
next-none c shared mem [] left = (refl, refl)
next-none c shared mem (ts ∷ rests) bad = absurd bad

skip-end : (c : ℕ → ℕ → Bool) (shared : List (List ℕ)) (mem : List ℕ) (old : List Rest) (before : List Trees) → Skipped c shared mem old [] before → WalkEnds (left_of before) (deepest old before)
skip-end c shared mem old before s =
    let (none, flat) = next-none c shared mem s.rests s.left in
    record { none = s.same ∙ none; shallow = omega (arith, s.depths, flat) }

pub yields-none : (mem : List ℕ) (old new : List Rest) → new ≡ [] → Skips mem old new → Yields mem old None new
yields-none mem old new e s =
    let P : List Rest → Type 0 = λ z. Skips mem old z in
    let here : Skips mem old [] = subst P e s in
    record { each = λ c shared rests few left. skip-end c shared mem old rests (here.each c shared rests few left) }

-- The levels as a stack keeps them: the deepest one last.

pub popped : {A : Type 0} (xs ys : List A) (l : A) → xs ≡ ys ++ l ∷ [] → reverse xs ≡ l ∷ reverse ys
popped xs ys l e = ap reverse e ∙ reverse-append ys (l ∷ [])

pub skips-popped : (mem : List ℕ) (old xs ys : List Rest) (l : Rest) → xs ≡ ys ++ l ∷ [] → Skips mem old (reverse xs) → Skips mem old (l ∷ reverse ys)
skips-popped mem old xs ys l e s = let P : List Rest → Type 0 = λ z. Skips mem old z in subst P (popped xs ys l e) s

pub yields-more : (mem : List ℕ) (old : List Rest) (l : Rest) (ls new : List Rest) (place x : ℕ) (more : Option Rest) (m : Rest) → rest_taken l ≡ Some (place, more) → more ≡ Some m → new ≡ ls ++ m
    ∷ []
    → x ≡ get_or mem place 0 → Skips mem old (l ∷ reverse ls) → Yields mem old (Some x) (reverse new)
yields-more mem old l ls new place x more m e is add word s =
    let P : Option Rest → Type 0 = λ z. Yields mem old (Some (get_or mem place 0)) (after_word z (reverse ls)) in
    let Q : List Rest → Type 0 = λ z. Yields mem old (Some (get_or mem place 0)) z in
    let R : ℕ → Type 0 = λ z. Yields mem old (Some z) (reverse new) in
    subst R (sym word) (subst Q (sym (popped new ls m add)) (subst P is (yields-some mem old l (reverse ls) (place, more) e s)))

pub yields-last : (mem : List ℕ) (old : List Rest) (l : Rest) (ls new : List Rest) (place x : ℕ) (more : Option Rest) → rest_taken l ≡ Some (place, more) → more ≡ None → new ≡ ls
    → x ≡ get_or mem place 0 → Skips mem old (l ∷ reverse ls) → Yields mem old (Some x) (reverse new)
yields-last mem old l ls new place x more e is same word s =
    let P : Option Rest → Type 0 = λ z. Yields mem old (Some (get_or mem place 0)) (after_word z (reverse ls)) in
    let Q : List Rest → Type 0 = λ z. Yields mem old (Some (get_or mem place 0)) (reverse z) in
    let R : ℕ → Type 0 = λ z. Yields mem old (Some z) (reverse new) in
    subst R (sym word) (subst Q (sym same) (subst P is (yields-some mem old l (reverse ls) (place, more) e s)))

-- What a call of `take` asks for, where words are left.

left-top : (mem : List ℕ) (old : List Rest) (l : Rest) (ls : List Rest) → (h : HasLeft mem old) → Skips mem old (l ∷ ls)
    → (c : ℕ → ℕ → Bool) × (shared : List (List ℕ)) × (ts : Trees) × RestIsLeft c shared mem l ts
left-top mem old l ls h s =
    let k : Skipped always h.shared mem old (l ∷ ls) h.rests = s.each always h.shared h.rests h.few h.left in
    let t : TopLeft always h.shared mem l ls k.rests = top-left always h.shared mem l ls k.rests k.left in
    (always, h.shared, t.top, t.is_left)

pub top-short : (mem : List ℕ) (old : List Rest) (l : Rest) (ls : List Rest) → length mem ≤ 2 ^ 24 → HasLeft mem old → Skips mem old (l ∷ ls) → RestIsShort l
top-short mem old l ls most h s = let (c, shared, ts, is) = left-top mem old l ls h s in short-left c shared mem l ts most is

pub top-within : (mem : List ℕ) (old : List Rest) (l : Rest) (ls : List Rest) (got : ℕ × Option Rest) → HasLeft mem old → Skips mem old (l ∷ ls) → rest_taken l ≡ Some got → got.0 < length mem
top-within mem old l ls got h s e = let (c, shared, ts, is) = left-top mem old l ls h s in (take-some c shared mem l got ts is e).within

-- The parts of a tree that a word stands for, by the look at it.

greatest-append : (ts us : Trees) → greatest_depth (trees_append ts us) ≡ max (greatest_depth ts) (greatest_depth us)
greatest-append end us = omega arith
greatest-append (t ▹ ts) us = omega (arith, greatest-append ts us)

pub greatest-rows : (ps : Pairs) → greatest_depth_of_pairs ps ≡ max (greatest_depth (keys_of ps)) (greatest_depth (values_of ps))
greatest-rows stop = refl
greatest-rows (pair k v ps) = omega (arith, greatest-rows ps)

greatest-pairs : (ps : Pairs) → 1 + greatest_depth_of_pairs ps ≡ 1 + greatest_depth (trees_append (keys_of ps) (values_of ps))
greatest-pairs ps = omega (arith, greatest-rows ps, greatest-append (keys_of ps) (values_of ps))

abbrev pub PartedBy : (ℕ → ℕ → Bool) → List (List ℕ) → List ℕ → Tree → Option Rest → Type 0
PartedBy c shared mem now None = (walk_parts now ≡ end) × (depth now ≡ 0)
PartedBy c shared mem now (Some r) = RestIsLeft c shared mem r (walk_parts now) × (depth now ≡ 1 + greatest_depth (walk_parts now)) × (inside r ≡ 1)

abbrev pub Parted : (ℕ → ℕ → Bool) → List (List ℕ) → List ℕ → Tree → Look → Type 0
Parted c shared mem now (look.Cons place) =
    (h : Tree) × (t : Tree) × (now ≡ Cons h t) × (place + 2 ≤ length mem) × Stands c shared mem (get_or mem place 0) h × Stands c shared mem (get_or mem (place + 1) 0) t
Parted c shared mem now l = PartedBy c shared mem now (rest_in l)

pub parted : (c : ℕ → ℕ → Bool) (shared : List (List ℕ)) (mem : List ℕ) (w : ℕ) (now : Tree) (l : Look) → IsSeen c shared mem w now l → Parted c shared mem now l
parted c shared mem w (Int i) l (inl (small, e)) = subst (Parted c shared mem (Int i)) (sym e) (refl, refl)
parted c shared mem w (Int i) l (inr (d, has, e)) = subst (Parted c shared mem (Int i)) (sym e) (refl, refl)
parted c shared mem w (Atom k) l e = subst (Parted c shared mem (Atom k)) (sym e) (refl, refl)
parted c shared mem w (Pid n) l e = subst (Parted c shared mem (Pid n)) (sym e) (refl, refl)
parted c shared mem w (Ref n k) l e = subst (Parted c shared mem (Ref n k)) (sym e) (refl, refl)
parted c shared mem w Nil l e = subst (Parted c shared mem Nil) (sym e) (refl, refl)
parted c shared mem w (Cons h t) l (e, within, sh, st) = subst (Parted c shared mem (Cons h t)) (sym e) (h, t, refl, within, sh, st)
parted c shared mem w (Tuple ts) l (e, within, row) = subst (Parted c shared mem (Tuple ts)) (sym e) (record { count = refl; within = within; standing = row }, refl, refl)
parted c shared mem w (Map ps) l (e, keys, values, ks, vs) = subst (Parted c shared mem (Map ps)) (sym e) (
  record {
    firsts = keys_of ps;
    others = values_of ps;
    both = refl;
    row_is = record { count = sym (keys-len ps); within = keys; standing = keys-row c shared mem (get_or mem (w / 4 + 2) 0 / 4 + 1) ps ks };
    next_is = record { count = sym (values-len ps); within = values; standing = values-row c shared mem (w / 4 + 3) ps vs };
  },
  greatest-pairs ps,
  refl,
)
parted c shared mem w (Fun name arity creator env) l (e, within, row) =
    subst (Parted c shared mem (Fun name arity creator env)) (sym e) (record { count = refl; within = within; standing = row }, refl, refl)
parted c shared mem w (Bin bytes) l (e, from) = subst (Parted c shared mem (Bin bytes)) (sym e) (refl, refl)
parted c shared mem w (Shared id) l (e, from) = subst (Parted c shared mem (Shared id)) (sym e) (refl, refl)
parted c shared mem w (Part base offset len) l (v, e, sb, size, from) = subst (Parted c shared mem (Part base offset len)) (sym e) (refl, refl)

parted-some : (c : ℕ → ℕ → Bool) (shared : List (List ℕ)) (mem : List ℕ) (now : Tree) (l : Look) (r : Rest) → rest_in l ≡ Some r → Parted c shared mem now l → PartedBy c shared mem now (Some r)
parted-some c shared mem now (look.Cons place) r e p = absurd (none-some r (sym e))
parted-some c shared mem now l r e p = subst (PartedBy c shared mem now) e p

parted-none : (c : ℕ → ℕ → Bool) (shared : List (List ℕ)) (mem : List ℕ) (now : Tree) (l : Look) → ((place : ℕ) → l ≡ look.Cons place → ⊥) → rest_in l ≡ None → Parted c shared mem now l
    → PartedBy c shared mem now None
parted-none c shared mem now (look.Cons place) other e p = absurd (other place refl)
parted-none c shared mem now l other e p = subst (PartedBy c shared mem now) e p

-- A cons leads to its head.

from-cons : (most : ℕ) (c : ℕ → ℕ → Bool) (shared : List (List ℕ)) (mem : List ℕ) (old : List Rest) (rests : List Trees) (place : ℕ) (h t : Tree) → length old + 1 ≤ depth_limit
    → AreLeft c shared mem old rests
    → place + 2 ≤ length mem → Stands c shared mem (get_or mem place 0) h → Stands c shared mem (get_or mem (place + 1) 0) t
    → WalkGoes most c shared mem old (Cons h t) rests (further.Word (get_or mem place 0)) (rest.Tail (place + 1) ∷ old)
from-cons most c shared mem old rests place h t few left within sh st = record {
  now = h;
  rests = (t ▹ end) ∷ rests;
  standing = sh;
  left = (record { tree = t; one = refl; within = omega arith; standing = st }, left);
  order = refl;
  few = omega arith;
  depths = omega arith;
}

pub goes-cons : (most : ℕ) (c : ℕ → ℕ → Bool) (shared : List (List ℕ)) (mem : List ℕ) (old : List Rest) (w : ℕ) (now : Tree) (rests : List Trees) (l : Look) (place : ℕ) → length old + 1 ≤ depth_limit
    → l ≡ look.Cons place → IsSeen c shared mem w now l → AreLeft c shared mem old rests → WalkGoes most c shared mem old now rests (further.Word (get_or mem place 0)) (rest.Tail (place + 1) ∷ old)
goes-cons most c shared mem old w now rests l place few e seen left =
    let (h, t, is, within, sh, st) = subst (Parted c shared mem now) e (parted c shared mem w now l seen) in
    let P : Tree → Type 0 = λ z. WalkGoes most c shared mem old z rests (further.Word (get_or mem place 0)) (rest.Tail (place + 1) ∷ old) in
    subst P (sym is) (from-cons most c shared mem old rests place h t few left within sh st)

pub deep-cons : (most : ℕ) (c : ℕ → ℕ → Bool) (shared : List (List ℕ)) (mem : List ℕ) (old : List Rest) (w : ℕ) (now : Tree) (l : Look) (place : ℕ) → length old ≡ most
    → l ≡ look.Cons place → IsSeen c shared mem w now l → most < length old + depth now
deep-cons most c shared mem old w now l place full e seen =
    let (h, t, is, within, sh, st) = subst (Parted c shared mem now) e (parted c shared mem w now l seen) in
    let deep : depth now ≡ max (1 + depth h) (depth t) = ap depth is in
    omega (arith, deep, full)

-- Any other object leads to its rows.

pub goes-rows : (most : ℕ) (c : ℕ → ℕ → Bool) (shared : List (List ℕ)) (mem : List ℕ) (old : List Rest) (w : ℕ) (now : Tree) (rests : List Trees) (l : Look) (r : Rest) (word : ℕ) (new : List Rest)
    → length old + 1 ≤ depth_limit → rest_in l ≡ Some r → IsSeen c shared mem w now l → AreLeft c shared mem old rests → Yields mem (r ∷ old) (Some word) new
    → WalkGoes most c shared mem old now rests (further.Word word) new
goes-rows most c shared mem old w now rests l r word new few e seen left y =
    let (is, deep, one) = parted-some c shared mem now l r e (parted c shared mem w now l seen) in
    let same : length old + depth now ≡ length old + (inside r + greatest_depth (walk_parts now)) = omega (arith, deep, one) in
    goes-same c shared mem (trees_append (walk_parts now) (left_of rests)) (trees_append (walk_parts now) (left_of rests))
    (max (length old + (inside r + greatest_depth (walk_parts now))) (deepest old rests)) (max (length old + depth now) (deepest old rests)) word new refl
    (ap (λ z. max depth_limit (max z (deepest old rests))) same) (y.each c shared (walk_parts now ∷ rests) (omega arith) (is, left))

pub ends-rows : (most : ℕ) (c : ℕ → ℕ → Bool) (shared : List (List ℕ)) (mem : List ℕ) (old : List Rest) (w : ℕ) (now : Tree) (rests : List Trees) (l : Look) (r : Rest) (new : List Rest)
    → length old + 1 ≤ depth_limit → rest_in l ≡ Some r → IsSeen c shared mem w now l → AreLeft c shared mem old rests → Yields mem (r ∷ old) None new
    → WalkGoes most c shared mem old now rests further.End new
ends-rows most c shared mem old w now rests l r new few e seen left y =
    let (is, deep, one) = parted-some c shared mem now l r e (parted c shared mem w now l seen) in
    let same : length old + depth now ≡ length old + (inside r + greatest_depth (walk_parts now)) = omega (arith, deep, one) in
    ends-same (trees_append (walk_parts now) (left_of rests)) (trees_append (walk_parts now) (left_of rests))
    (max (length old + (inside r + greatest_depth (walk_parts now))) (deepest old rests)) (max (length old + depth now) (deepest old rests)) refl
    (ap (λ z. max depth_limit (max z (deepest old rests))) same) (y.each c shared (walk_parts now ∷ rests) (omega arith) (is, left))

pub deep-rows : (most : ℕ) (c : ℕ → ℕ → Bool) (shared : List (List ℕ)) (mem : List ℕ) (old : List Rest) (w : ℕ) (now : Tree) (l : Look) (r : Rest) → length old ≡ most
    → rest_in l ≡ Some r → IsSeen c shared mem w now l → most < length old + depth now
deep-rows most c shared mem old w now l r full e seen =
    let (is, deep, one) = parted-some c shared mem now l r e (parted c shared mem w now l seen) in
    omega (arith, deep, full)

-- A word without parts leads to what was left.

pub goes-on : (most : ℕ) (c : ℕ → ℕ → Bool) (shared : List (List ℕ)) (mem : List ℕ) (old : List Rest) (w : ℕ) (now : Tree) (rests : List Trees) (l : Look) (word : ℕ) (new : List Rest)
    → length old ≤ depth_limit → ((place : ℕ) → l ≡ look.Cons place → ⊥) → rest_in l ≡ None → IsSeen c shared mem w now l → AreLeft c shared mem old rests → Yields mem old (Some word) new
    → WalkGoes most c shared mem old now rests (further.Word word) new
goes-on most c shared mem old w now rests l word new few other e seen left y =
    let (none, flat) = parted-none c shared mem now l other e (parted c shared mem w now l seen) in
    goes-same c shared mem (left_of rests) (trees_append (walk_parts now) (left_of rests)) (deepest old rests) (max (length old + depth now) (deepest old rests)) word new
    (ap (λ z. trees_append z (left_of rests)) none) (omega (arith, flat)) (y.each c shared rests few left)

pub ends-on : (most : ℕ) (c : ℕ → ℕ → Bool) (shared : List (List ℕ)) (mem : List ℕ) (old : List Rest) (w : ℕ) (now : Tree) (rests : List Trees) (l : Look) (new : List Rest)
    → length old ≤ depth_limit → ((place : ℕ) → l ≡ look.Cons place → ⊥) → rest_in l ≡ None → IsSeen c shared mem w now l → AreLeft c shared mem old rests → Yields mem old None new
    → WalkGoes most c shared mem old now rests further.End new
ends-on most c shared mem old w now rests l new few other e seen left y =
    let (none, flat) = parted-none c shared mem now l other e (parted c shared mem w now l seen) in
    ends-same (left_of rests) (trees_append (walk_parts now) (left_of rests)) (deepest old rests) (max (length old + depth now) (deepest old rests))
    (ap (λ z. trees_append z (left_of rests)) none) (omega (arith, flat)) (y.each c shared rests few left)

-- What the calls of a walk ask for.

pub cons-within : (mem : List ℕ) (old : List Rest) (l : Look) (place : ℕ) → CanGo mem old l → l ≡ look.Cons place → place + 2 ≤ length mem
cons-within mem old l place g e =
    let (h, t, is, within, sh, st) = subst (Parted always g.shared mem g.now) e (parted always g.shared mem g.word g.now l g.seen) in
    within

pub rows-left : (mem : List ℕ) (old : List Rest) (l : Look) (r : Rest) → length old + 1 ≤ depth_limit → CanGo mem old l → rest_in l ≡ Some r → HasLeft mem (r ∷ old)
rows-left mem old l r few g e =
    let (is, deep, one) = parted-some always g.shared mem g.now l r e (parted always g.shared mem g.word g.now l g.seen) in
    record { shared = g.shared; rests = walk_parts g.now ∷ g.rests; few = omega (arith, few); left = (is, g.left) }

pub same-left : (mem : List ℕ) (old : List Rest) (l : Look) → CanGo mem old l → HasLeft mem old
same-left mem old l g = record { shared = g.shared; rests = g.rests; few = g.few; left = g.left }

-- A stack that is not full has room for one level more.

pub differs : (n most : ℕ) → false ≡ nat_eq n most → n ≤ most → n + 1 ≤ most
differs n most e few = grind (arith, nat_tests)

pub room-left : (most : ℕ) (items : List Rest) → most ≤ depth_limit → false ≡ nat_eq (length items) most → length items ≤ most → length (reverse items) + 1 ≤ depth_limit
room-left most items low e few = omega (arith, differs (length items) most e few, length-reverse items)

-- One that is full has all its levels.
pub all-taken : (most : ℕ) (items : List Rest) → true ≡ nat_eq (length items) most → length (reverse items) ≡ most
all-taken most items e = length-reverse items ∙ same (length items) most e
  where
    same : (a b : ℕ) → true ≡ nat_eq a b → a ≡ b
    same a b e = grind (arith, nat_tests)

-- The levels once the rows of an object are among them: on a level of their own, or none where it has none.
abbrev pub Entered : Look → List Rest → List Rest → Type 0
Entered l old new = ((r : Rest) × (rest_in l ≡ Some r) × (new ≡ r ∷ old) × (length old + 1 ≤ depth_limit))
    ⊎ ((rest_in l ≡ None) × (new ≡ old) × ((place : ℕ) → l ≡ look.Cons place → ⊥))

pub entered-left : (mem : List ℕ) (old new : List Rest) (l : Look) → CanGo mem old l → Entered l old new → HasLeft mem new
entered-left mem old new l g (inl (r, e, is, few)) = let P : List Rest → Type 0 = λ z. HasLeft mem z in subst P (sym is) (rows-left mem old l r few g e)
entered-left mem old new l g (inr (e, is, other)) = let P : List Rest → Type 0 = λ z. HasLeft mem z in subst P (sym is) (same-left mem old l g)

pub entered-goes : (most : ℕ) (c : ℕ → ℕ → Bool) (shared : List (List ℕ)) (mem : List ℕ) (old levels new : List Rest) (w : ℕ) (now : Tree) (rests : List Trees) (l : Look) (word : ℕ)
    → length old ≤ depth_limit
    → Entered l old levels → Yields mem levels (Some word) new → IsSeen c shared mem w now l → AreLeft c shared mem old rests → WalkGoes most c shared mem old now rests (further.Word word) new
entered-goes most c shared mem old levels new w now rests l word low (inl (r, e, is, few)) y seen left =
    let P : List Rest → Type 0 = λ z. Yields mem z (Some word) new in
    goes-rows most c shared mem old w now rests l r word new few e seen left (subst P is y)
entered-goes most c shared mem old levels new w now rests l word low (inr (e, is, other)) y seen left =
    let P : List Rest → Type 0 = λ z. Yields mem z (Some word) new in
    goes-on most c shared mem old w now rests l word new low other e seen left (subst P is y)

pub entered-ends : (most : ℕ) (c : ℕ → ℕ → Bool) (shared : List (List ℕ)) (mem : List ℕ) (old levels new : List Rest) (w : ℕ) (now : Tree) (rests : List Trees) (l : Look) → length old ≤ depth_limit
    → Entered l old levels → Yields mem levels None new → IsSeen c shared mem w now l → AreLeft c shared mem old rests → WalkGoes most c shared mem old now rests further.End new
entered-ends most c shared mem old levels new w now rests l low (inl (r, e, is, few)) y seen left =
    let P : List Rest → Type 0 = λ z. Yields mem z None new in
    ends-rows most c shared mem old w now rests l r new few e seen left (subst P is y)
entered-ends most c shared mem old levels new w now rests l low (inr (e, is, other)) y seen left =
    let P : List Rest → Type 0 = λ z. Yields mem z None new in
    ends-on most c shared mem old w now rests l new low other e seen left (subst P is y)

pub cons-goes : (most : ℕ) (c : ℕ → ℕ → Bool) (shared : List (List ℕ)) (mem : List ℕ) (old new : List Rest) (w : ℕ) (now : Tree) (rests : List Trees) (l : Look) (place word : ℕ)
    → length old + 1 ≤ depth_limit
    → l ≡ look.Cons place → new ≡ rest.Tail (place + 1) ∷ old → word ≡ get_or mem place 0 → IsSeen c shared mem w now l → AreLeft c shared mem old rests
    → WalkGoes most c shared mem old now rests (further.Word word) new
cons-goes most c shared mem old new w now rests l place word few e is at seen left =
    let P : List Rest → Type 0 = λ z. WalkGoes most c shared mem old now rests (further.Word (get_or mem place 0)) z in
    let Q : ℕ → Type 0 = λ z. WalkGoes most c shared mem old now rests (further.Word z) new in
    subst Q (sym at) (subst P (sym is) (goes-cons most c shared mem old w now rests l place few e seen left))
