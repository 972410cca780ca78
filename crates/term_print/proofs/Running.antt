-- What is gathered of a list.
use Rattle.std.proofs.Common.{◌≡◌, ℕ, ◌+◌, ◌<◌, ◌≤◌, Bool, true, false, List, [], ◌++◌, codes, length, get_or, refl, sym, ap, ◌∙◌, subst, arith, append_assoc, ℤ}
use Rattle.std.proofs.lemmas.Bool.{and_parts}
use Rattle.std.specs.Fmt.{signed_decimal}
use Rattle.plain_term.specs.Tree.{Tree, Trees}
use Rattle.plain_term.specs.Tree.Trees.{end, ◌▹◌}
use Rattle.plain_term.specs.Text.{text_as}
use Rattle.term_words.specs.Role.{always}
use Rattle.term_words.specs.Stands.{Stands, RowStands}
use Rattle.term_read.specs.declared.looks.Row.{Row}
use Rattle.term_walk.specs.Left.{RowStandsFor, row_after}
use Rattle.term_read.specs.Look.{Sees}
use Rattle.term_read.specs.declared.looks.Look.TheVariants as look
use Rattle.term_order.specs.Named.{is_named, are_named}
use Rattle.term_print.specs.declared.levels.Mark.{Mark}
use Rattle.term_print.specs.declared.levels.Mark.TheVariants.{Comma}
use Rattle.term_print.specs.declared.levels.Level.{Level}
use Rattle.term_print.specs.declared.levels.Level.TheVariants as level
use Rattle.term_print.specs.Left.{AreTwo, IsLeft, mark_text, closing_text, row_text, level_text, list_text}
use Rattle.term_print.specs.Printed.{LevelHasParts}
use Rattle.term_print.specs.Runs.{CanGather, Gathers}
use Rattle.term_print.proofs.Opening.{opens}
use Rattle.term_print.proofs.Taking.{regroup}

-- Nothing is gathered.
pub gathers-none : (c : ℕ → ℕ → Bool) (shared : List (List ℕ)) (mem : List ℕ) (names : List (List ℕ)) (l m : Level) (came : List ℕ) (ts : Trees) → l ≡ m → came ≡ [] → IsLeft c shared mem l ts
    → Gathers c shared mem names l m came ts
gathers-none c shared mem names l m came ts e none left =
    let P : Level → Type 0 = λ z. Gathers c shared mem names l z came ts in
    let Q : List ℕ → Type 0 = λ z. Gathers c shared mem names l l z ts in
    subst P e (subst Q (sym none) (record { rest = ts; left = left; whole = refl; fewer = omega arith; deep = omega arith; named = λ p. p }))

-- More is gathered.
pub gathers-more : (c : ℕ → ℕ → Bool) (shared : List (List ℕ)) (mem : List ℕ) (names : List (List ℕ)) (l m n : Level) (came x all : List ℕ) (ts : Trees) → all ≡ came ++ x
    → (g : Gathers c shared mem names l m came ts) → Gathers c shared mem names m n x g.rest → Gathers c shared mem names l n all ts
gathers-more c shared mem names l m n came x all ts e g h =
    let P : List ℕ → Type 0 = λ z. Gathers c shared mem names l n z ts in
    subst P (sym e) (record {
      rest = h.rest;
      left = h.left;
      whole = g.whole ∙ ap (λ z. came ++ z) h.whole ∙ sym (append_assoc came x (level_text names shared n h.rest));
      fewer = omega (arith, g.fewer, h.fewer);
      deep = omega (arith, g.deep, h.deep);
      named = λ p. h.named (g.named p);
    })

-- A place with a small integer, and a place behind it.

two-gathered : (c : ℕ → ℕ → Bool) (shared : List (List ℕ)) (mem : List ℕ) (names : List (List ℕ)) (place next : ℕ) (i : ℤ) (h t : Tree) → text_as names shared false h ≡ signed_decimal i
    → LevelHasParts c shared mem names true t (codes ",") (level.List next) → Gathers c shared mem names (level.List place) (level.List next) (signed_decimal i ++ codes ",") (h ▹ (t ▹ end))
two-gathered c shared mem names place next i h t e o = record {
  rest = o.parts;
  left = o.left;
  whole = ap (λ z. z ++ text_as names shared true t) e ∙ ap (λ z. signed_decimal i ++ z) o.whole ∙ sym (append_assoc (signed_decimal i) (codes ",") (list_text names shared o.parts));
  fewer = omega (arith, o.fewer);
  deep = omega (arith, o.deep);
  named = λ p. o.named (and_parts (is_named (length names) t) true (and_parts (is_named (length names) h) (are_named (length names) (t ▹ end)) p).1).0;
}

pub cell-gathered : (c : ℕ → ℕ → Bool) (shared : List (List ℕ)) (mem : List ℕ) (names : List (List ℕ)) (place next v w : ℕ) (i : ℤ) (ts : Trees) → v ≡ get_or mem place 0 → w ≡ get_or mem (place + 1) 0
    → Sees mem v (look.Small i) → Sees mem w (look.Cons next) → AreTwo c shared mem place ts → Gathers c shared mem names (level.List place) (level.List next) (signed_decimal i ++ codes ",") ts
cell-gathered c shared mem names place next v w i ts ev ew small cons r =
    let P : Trees → Type 0 = λ z. Gathers c shared mem names (level.List place) (level.List next) (signed_decimal i ++ codes ",") z in
    let Q : Tree → ℕ → Type 0 = λ t z. Stands c shared mem z t in
    let head = opens c shared mem names v false r.head (look.Small i) (small.each c shared r.head (subst (Q r.head) (sym ev) r.head_stands)) in
    let tail = opens c shared mem names w true r.tail (look.Cons next) (cons.each c shared r.tail (subst (Q r.tail) (sym ew) r.tail_stands)) in
    subst P (sym r.two) (two-gathered c shared mem names place next i r.head r.tail head tail)

-- A place with a small integer, of which its tail is left.
pub last-gathered : (c : ℕ → ℕ → Bool) (shared : List (List ℕ)) (mem : List ℕ) (names : List (List ℕ)) (place v : ℕ) (i : ℤ) (ts : Trees) → v ≡ get_or mem place 0
    → Sees mem v (look.Small i) → AreTwo c shared mem place ts → Gathers c shared mem names (level.List place) (level.Tail (place + 1)) (signed_decimal i) ts
last-gathered c shared mem names place v i ts ev small r =
    let P : Trees → Type 0 = λ z. Gathers c shared mem names (level.List place) (level.Tail (place + 1)) (signed_decimal i) z in
    let Q : Tree → ℕ → Type 0 = λ t z. Stands c shared mem z t in
    let head = opens c shared mem names v false r.head (look.Small i) (small.each c shared r.head (subst (Q r.head) (sym ev) r.head_stands)) in
    subst P (sym r.two) (record {
      rest = r.tail ▹ end;
      left = record { tree = r.tail; one = refl; within = omega (arith, r.within); standing = r.tail_stands };
      whole = ap (λ z. z ++ text_as names shared true r.tail) head;
      fewer = omega arith;
      deep = omega arith;
      named = λ p. (and_parts (is_named (length names) r.head) (are_named (length names) (r.tail ▹ end)) p).1;
    })

-- The first part of a tuple is a small integer, and the others come after commas.
pub part-gathered : (c : ℕ → ℕ → Bool) (shared : List (List ℕ)) (mem : List ℕ) (names : List (List ℕ)) (row : Row) (mark : Mark) (last : Bool) (v : ℕ) (i : ℤ) (ts : Trees)
    → v ≡ get_or mem row.first 0 → Sees mem v (look.Small i) → 0 < row.len → RowStandsFor c shared mem row ts
    → Gathers c shared mem names (level.Parts row mark last) (level.Parts (row_after row) Comma last) (mark_text mark ++ signed_decimal i) ts
unfolding RowStands
part-gathered c shared mem names row mark last v i end ev small some r = absurd (omega (arith, r.count))
part-gathered c shared mem names row mark last v i (t ▹ ts) ev small some r =
    let Q : Tree → ℕ → Type 0 = λ t z. Stands c shared mem z t in
    let head = opens c shared mem names v false t (look.Small i) (small.each c shared t (subst (Q t) (sym ev) r.standing.0)) in
    let after : List ℕ = row_text names shared false Comma ts ++ closing_text last in
    record {
      rest = ts;
      left = record { count = omega (arith, r.count); within = omega (arith, r.within); standing = r.standing.1 };
      whole = regroup (mark_text mark) (text_as names shared false t) (row_text names shared false Comma ts) (closing_text last)
          ∙ ap (λ z. mark_text mark ++ (z ++ after)) head ∙ sym (append_assoc (mark_text mark) (signed_decimal i) after);
      fewer = omega arith;
      deep = omega arith;
      named = λ p. (and_parts (is_named (length names) t) (are_named (length names) ts) p).1;
    }

-- What a look at a list asks for.

pub gather-within : (mem : List ℕ) (place : ℕ) → CanGather mem (level.List place) → place + 2 ≤ length mem
gather-within mem place h = h.left.within

pub gathers-can : (mem : List ℕ) (l m : Level) (came : List ℕ) → CanGather mem l
    → ((c : ℕ → ℕ → Bool) (shared names : List (List ℕ)) (ts : Trees) → IsLeft c shared mem l ts → Gathers c shared mem names l m came ts) → CanGather mem m
gathers-can mem l m came h g = let here = g always h.shared [] h.ts h.left in record { shared = h.shared; ts = here.rest; left = here.left }

pub parts-within : (mem : List ℕ) (row : Row) (mark : Mark) (last : Bool) → CanGather mem (level.Parts row mark last) → row.first + row.len ≤ length mem
parts-within mem row mark last h = h.left.within
