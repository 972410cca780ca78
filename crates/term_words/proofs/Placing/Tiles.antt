-- Rows of whole objects and records.
use Rattle.std.proofs.Common.{◌≡◌, ℕ, ◌+◌, ◌-◌, ◌*◌, ◌/◌, ◌%◌, ◌<◌, ◌≤◌, ◌⊎◌, Bool, true, false, List, [], ◌∷◌, ◌++◌, map, length, get_or, refl, sym, ◌∙◌, ap, subst, arith, inl, inr, ℤ, pos, negsuc, Some, nat_le, ◌==◌, if◌then◌else◌}
use Rattle.std.proofs.lemmas.Bool.Decides.{nat_tests}
use Rattle.plain_term.specs.Measures.{bin_words}
use Rattle.plain_term.specs.Tree.{Tree, trees_len, pairs_len}
use Rattle.plain_term.specs.Tree.Tree.{Int, Ref, Tuple, Map, Bin, Shared, Part, Fun}
use Rattle.term_tags.specs.Table.{layout_for, layout_at, row_layout}
use Rattle.term_tags.specs.declared.layouts.Layout.{Layout}
use Rattle.term_words.specs.Object.{IsInt, IsRecord, IsPointer, object_words}
use Rattle.term_words.specs.Stands.{Stands}
use Rattle.term_words.specs.Tiled.{IsTile, IsTileAt, MoveAsOne, Tiled, tile_words}
use Rattle.term_words.specs.Counted.{In}
use Rattle.term_words.proofs.Placing.Apart.{head-no-header, words-cons, words-header}
use Rattle.term_words.proofs.Reaching.Reached.{layout-parts}
use Rattle.term_words.proofs.Placing.Roles.{object-some}
use Rattle.term_words.proofs.ByKind.Shapes.{told}

-- One row after another.
pub tiled-append : (mem : List ℕ) (a b e : ℕ) (xs ys : List ℕ) → Tiled mem a xs b → Tiled mem b ys e → Tiled mem a (xs ++ ys) e
tiled-append mem a b e [] ys same more = let P : ℕ → Type 0 = λ x. Tiled mem x ys e in subst P (sym same) more
tiled-append mem a b e (x ∷ xs) ys (place, is, rest) more = (place, is, tiled-append mem (a + tile_words mem x) b e xs ys rest more)

-- A tile has a word.

object-tile : (mem : List ℕ) (w : ℕ) → (w % 4 ≡ 0 → ⊥) → tile_words mem w ≡ object_words mem w
object-tile mem w some = let other : (w % 4 == 0) ≡ false = grind (arith, nat_tests, some) in rw other refl

record-tile : (mem : List ℕ) (w : ℕ) → w % 4 ≡ 0 → tile_words mem w ≡ get_or mem (w / 4) 0 / 16
record-tile mem w none = let other : (w % 4 == 0) ≡ true = grind (arith, nat_tests) in rw other refl

tile-some : (mem : List ℕ) (w : ℕ) → IsTile mem w → 0 < tile_words mem w
tile-some mem w (inl (tag, head)) = omega (arith, object-tile mem w (λ z. omega arith), object-some mem w)
tile-some mem w (inr (inl (tag, layout))) = omega (arith, object-tile mem w (λ z. omega arith), object-some mem w)
tile-some mem w (inr (inr (tag, header))) = omega (arith, record-tile mem w tag, header)

pub tiled-order : (mem : List ℕ) (a b : ℕ) (ws : List ℕ) → Tiled mem a ws b → a ≤ b
tiled-order mem a b [] same = omega arith
tiled-order mem a b (w ∷ ws) (place, is, rest) = omega (arith, tiled-order mem (a + tile_words mem w) b ws rest)

-- A row is one still where its words are the same.
pub tiled-same : (old new : List ℕ) (a b : ℕ) (ws : List ℕ) → ((q : ℕ) → a ≤ q → q < b → get_or new q 0 ≡ get_or old q 0) → Tiled old a ws b → Tiled new a ws b
tiled-same old new a b [] same row = row
tiled-same old new a b (w ∷ ws) same (place, is, rest) =
    let some : 0 < tile_words old w = tile-some old w is in
    let order : a + tile_words old w ≤ b = tiled-order old (a + tile_words old w) b ws rest in
    let word : get_or old (w / 4) 0 ≡ get_or new (w / 4) 0 = sym (same (w / 4) (omega arith) (omega arith)) in
    let words : ℕ → ℕ = λ h. if w % 4 == 0 then h / 16 else (if w % 4 == 1 then 2 else 1 + h / 64) in
    let size : tile_words old w ≡ tile_words new w = ap words word in
    let P : ℕ → Type 0 = λ h. ((w % 4 ≡ 1) × (h % 4 ≡ 0 → ⊥)) ⊎ (((w % 4 ≡ 2) × ((l : Layout) × (layout_for h ≡ Some l))) ⊎ ((w % 4 ≡ 0) × (((4 ≤ h / 16) × (h % 16 ≡ 6)) ⊎ (h ≡ 71)))) in
    let Q : ℕ → Type 0 = λ n. Tiled new (a + n) ws b in
    (place, subst P word is, subst Q size (tiled-same old new (a + tile_words old w) b ws (λ q from below. same q (omega arith) below) rest))

-- Tiles that move by one shift.

tile-moved : (old new : List ℕ) (w x at : ℕ) → x ≡ at * 4 + w % 4 → IsTileAt old new w at → IsTile old w → IsTile new x × (tile_words new x ≡ tile_words old w)
tile-moved old new w x at e r (inl (tag, head)) =
    let place : x / 4 ≡ at = omega (arith, e) in
    let same : get_or new (x / 4) 0 ≡ get_or new at 0 = ap (λ q. get_or new q 0) place in
    let one : x % 4 ≡ 1 = omega (arith, e, tag) in (
      inl (one, (λ z. head (omega (arith, z, same, r.cons tag)))),
      object-tile new x (λ z. omega (arith, one, z)) ∙ words-cons new x one ∙ sym (words-cons old w tag) ∙ sym (object-tile old w (λ z. omega (arith, tag, z))),
    )
tile-moved old new w x at e r (inr (inl (tag, (l, layout)))) =
    let place : x / 4 ≡ at = omega (arith, e) in
    let same : get_or new (x / 4) 0 ≡ get_or old (w / 4) 0 = ap (λ q. get_or new q 0) place ∙ r.others (λ z. omega (arith, tag, z)) in
    let two : x % 4 ≡ 2 = omega (arith, e, tag) in (
      inr (inl (two, (l, ap layout_for same ∙ layout))),
      object-tile new x (λ z. omega (arith, two, z)) ∙ words-header new x two ∙ ap (λ h. 1 + h / 64) same ∙ sym (words-header old w tag)
          ∙ sym (object-tile old w (λ z. omega (arith, tag, z))),
    )
tile-moved old new w x at e r (inr (inr (tag, header))) =
    let place : x / 4 ≡ at = omega (arith, e) in
    let same : get_or new (x / 4) 0 ≡ get_or old (w / 4) 0 = ap (λ q. get_or new q 0) place ∙ r.others (λ z. omega (arith, tag, z)) in
    let none : x % 4 ≡ 0 = omega (arith, e, tag) in
    let P : ℕ → Type 0 = λ h. ((4 ≤ h / 16) × (h % 16 ≡ 6)) ⊎ (h ≡ 71) in (
      inr (inr (none, subst P (sym same) header)),
      record-tile new x none ∙ ap (λ h. h / 16) same ∙ sym (record-tile old w tag),
    )

moved-from : (old new : List ℕ) (f g : ℕ → ℕ) (from a to : ℕ) (ws : List ℕ) → ((q : ℕ) → from ≤ q → q ≤ to → g q ≡ g from + (q - from)) → from ≤ a
    → ((w : ℕ) → In w ws → f w ≡ g (w / 4) * 4 + w % 4) → ((w : ℕ) → In w ws → IsTileAt old new w (g (w / 4))) → Tiled old a ws to → Tiled new (g a) (map f ws) (g to)
moved-from old new f g from a to [] shift low words read same = ap g same
moved-from old new f g from a to (w ∷ ws) shift low words read (place, is, rest) =
    let (tile, size) = tile-moved old new w (f w) (g (w / 4)) (words w (inl refl)) (read w (inl refl)) is in
    let there : g (w / 4) ≡ g a = ap g place in
    let high : a + tile_words old w ≤ to = tiled-order old (a + tile_words old w) to ws rest in
    let next : g (a + tile_words old w) ≡ g a + tile_words new (f w) =
    omega (arith, shift (a + tile_words old w) (omega (arith, low)) high, shift a low (omega (arith, high)), size, low) in
    let P : ℕ → Type 0 = λ q. Tiled new q (map f ws) (g to) in (
      omega (arith, words w (inl refl), there),
      tile,
      subst P next (moved-from old new f g from (a + tile_words old w) to ws shift (omega (arith, low)) (λ v i. words v (inr i)) (λ v i. read v (inr i)) rest),
    )

-- A row that moves as a block is one at its new places.
pub tiled-moved : (old new : List ℕ) (f g : ℕ → ℕ) (from to : ℕ) (ws : List ℕ) → MoveAsOne old new f g from to ws → Tiled old from ws to → Tiled new (g from) (map f ws) (g to)
tiled-moved old new f g from to ws m row = moved-from old new f g from from to ws m.shift (omega arith) m.words m.read row

-- The header of a standing object has a layout.

row-some : (arity least most first : ℕ) → least ≤ arity → arity ≤ most → (l : Layout) × (row_layout arity least most first ≡ Some l)
row-some arity least most first low high =
    let a : nat_le least arity ≡ true = grind (arith, nat_tests) in
    let b : nat_le arity most ≡ true = grind (arith, nat_tests) in
    (record { words = 1 + arity; first = first; count = 1 + arity - first }, rw (a, b) refl)

header-layout : (h subtag arity least most first : ℕ) → h ≡ arity * 64 + subtag * 4 → subtag < 16 → layout_at subtag arity ≡ row_layout arity least most first → least ≤ arity → arity ≤ most
    → (l : Layout) × (layout_for h ≡ Some l)
header-layout h subtag arity least most first header small row low high =
    let (l, e) = row-some arity least most first low high in
    (l, layout-parts h arity subtag small header ∙ row ∙ e)

int-layout : (c : ℕ → ℕ → Bool) (mem : List ℕ) (w : ℕ) (i : ℤ) → IsInt c mem w i → w % 4 ≡ 2 → (l : Layout) × (layout_for (get_or mem (w / 4) 0) ≡ Some l)
int-layout c mem w i (inl s) tag = absurd (omega arith)
int-layout c mem w (pos n) (inr (inl o)) tag = header-layout (get_or mem (w / 4) 0) 2 1 1 2 2 o.boxed.header (omega arith) refl (omega arith) (omega arith)
int-layout c mem w (negsuc n) (inr (inl o)) tag = header-layout (get_or mem (w / 4) 0) 3 1 1 2 2 o.boxed.header (omega arith) refl (omega arith) (omega arith)
int-layout c mem w (pos n) (inr (inr o)) tag = header-layout (get_or mem (w / 4) 0) 2 2 1 2 3 o.boxed.header (omega arith) refl (omega arith) (omega arith)
int-layout c mem w (negsuc n) (inr (inr o)) tag = header-layout (get_or mem (w / 4) 0) 3 2 1 2 3 o.boxed.header (omega arith) refl (omega arith) (omega arith)

pub has-layout : (c : ℕ → ℕ → Bool) (shared : List (List ℕ)) (mem : List ℕ) (w : ℕ) (t : Tree) → Stands c shared mem w t → w % 4 ≡ 2 → (l : Layout) × (layout_for (get_or mem (w / 4) 0) ≡ Some l)
unfolding Stands
has-layout c shared mem w (Int i) s tag = int-layout c mem w i s tag
has-layout c shared mem w (Ref n k) s tag = header-layout (get_or mem (w / 4) 0) 4 2 2 2 3 s.boxed.header (omega arith) refl (omega arith) (omega arith)
has-layout c shared mem w (Tuple ts) (o, row) tag = header-layout (get_or mem (w / 4) 0) 0 (trees_len ts) 0 65536 1 o.boxed.header (omega arith) refl (omega arith) o.range
has-layout c shared mem w (Map ps) (o, ks, vs) tag = header-layout (get_or mem (w / 4) 0) 15 (pairs_len ps + 2) 2 34 2 o.boxed.header (omega arith) refl (omega arith) (omega (arith, o.range))
has-layout c shared mem w (Bin bytes) s tag =
    header-layout (get_or mem (w / 4) 0) 9 (1 + bin_words (length bytes)) 1 9 (1 + (1 + bin_words (length bytes))) s.boxed.header (omega arith) refl (omega arith) (omega (arith, s.range))
has-layout c shared mem w (Shared id) s tag = header-layout (get_or mem (w / 4) 0) 8 5 5 5 6 s.holder.header (omega arith) refl (omega arith) (omega arith)
has-layout c shared mem w (Part base offset len) (o, is, sb) tag = header-layout (get_or mem (w / 4) 0) 10 4 4 4 4 o.boxed.header (omega arith) refl (omega arith) (omega arith)
has-layout c shared mem w (Fun name arity creator env) (o, row) tag =
    header-layout (get_or mem (w / 4) 0) 5 (trees_len env + 5) 5 69 6 o.header (omega arith) refl (omega arith) (omega (arith, o.range))
has-layout c shared mem w t s tag = absurd (omega (arith, told c shared mem w t s))

-- A standing object, and a record, is a row of one.

pub tiled-object : (c : ℕ → ℕ → Bool) (shared : List (List ℕ)) (mem : List ℕ) (w : ℕ) (t : Tree) → Stands c shared mem w t → IsPointer w → Tiled mem (w / 4) (w ∷ []) (w / 4 + object_words mem w)
tiled-object c shared mem w t s (inl tag) = (refl, inl (tag, head-no-header c shared mem w t s tag), ap (λ n. w / 4 + n) (object-tile mem w (λ z. omega arith)))
tiled-object c shared mem w t s (inr tag) = (refl, inr (inl (tag, has-layout c shared mem w t s tag)), ap (λ n. w / 4 + n) (object-tile mem w (λ z. omega arith)))

one-record : (mem : List ℕ) (v w h n : ℕ) → w / 4 ≡ v → w % 4 ≡ 0 → get_or mem v 0 ≡ h → ((4 ≤ h / 16) × (h % 16 ≡ 6)) ⊎ (h ≡ 71) → h / 16 ≡ n → Tiled mem v (w ∷ []) (v + n)
one-record mem v w h n place tag header is size =
    let there : get_or mem (w / 4) 0 ≡ h = ap (λ x. get_or mem x 0) place ∙ header in
    let P : ℕ → Type 0 = λ x. ((4 ≤ x / 16) × (x % 16 ≡ 6)) ⊎ (x ≡ 71) in
    (place, inr (inr (tag, subst P (sym there) is)), ap (λ x. v + x) (record-tile mem w tag ∙ ap (λ x. x / 16) there ∙ size))

pub tiled-record : (c : ℕ → ℕ → Bool) (mem : List ℕ) (v n : ℕ) → IsRecord c mem v n → Tiled mem v (v * 4 ∷ []) (v + n)
tiled-record c mem v n (inl (serial, bytes, o, words)) =
    one-record mem v (v * 4) ((4 + bin_words (length bytes)) * 16 + 6) n (omega arith) (omega arith) o.header (inl (omega arith, omega arith)) (omega arith)
tiled-record c mem v n (inr (name, arity, o, words)) = one-record mem v (v * 4) 71 n (omega arith) (omega arith) o.header (inr refl) (omega arith)
