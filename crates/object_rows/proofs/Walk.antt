-- A row is walked object by object: what was seen of its holders and funs, and what is left.
use Rattle.std.proofs.Common.{◌≡◌, ℕ, ◌+◌, ◌*◌, ◌/◌, ◌%◌, ◌<◌, ◌≤◌, ◌==◌, ◌&&◌, if◌then◌else◌, true, false, List, [], ◌∷◌, ◌++◌, length, get_or, refl, sym, ◌∙◌, ap, subst, arith, inl, inr}
use Rattle.term_tags.specs.Table.{layout_for}
use Rattle.term_words.specs.Object.{IsPointer, object_words}
use Rattle.term_words.specs.Counted.{In}
use Rattle.term_words.specs.Tiled.{IsRecordHeader, IsTile, Tiled, tile_words}
use Rattle.term_words.proofs.Placing.Roles.{object-some}
use Rattle.term_words.proofs.Placing.Tiles.{tiled-order}
use Rattle.object_rows.specs.Row.{AreObjects, is_link, is_link_header, links_in}
use Rattle.object_rows.proofs.Rows.{tile-object, Next, next-by, small, large, six, ends, links-step, links-skip, one-more, in-split, in-here, in-front, length-last, no-more, ended-row, layout-tag}

-- The row up to a place was walked: these holders and funs were seen.
pub record Walked (old : List ℕ) (at to : ℕ) (ws seen : List ℕ) : Type 0 where
  pub rest : List ℕ
  pub are : AreObjects old at rest to
  pub whole : seen ++ links_in old rest ≡ links_in old ws
  pub low : (p : ℕ) → In p seen → p + 6 ≤ at
  pub few : length seen * 6 ≤ at

pub walk-begins : (old : List ℕ) (from to : ℕ) (ws : List ℕ) → AreObjects old from ws to → Walked old from to ws []
walk-begins old from to ws are = record { rest = ws; are = are; whole = refl; low = λ p i. absurd i; few = omega arith }

pub walk-ends : (old : List ℕ) (at to : ℕ) (ws seen : List ℕ) → Walked old at to ws seen → to ≤ at → seen ≡ links_in old ws
walk-ends old at to ws seen g over =
    let none : g.rest ≡ [] = ended-row old at g.rest to g.are over in
    sym (no-more seen) ∙ ap (λ ys. seen ++ links_in old ys) (sym none) ∙ g.whole

module _ (old : List ℕ) (at to : ℕ) (ws seen : List ℕ) (g : Walked old at to ws seen) (some : at < to) where
  x : Next old at g.rest to
  x = next-by old at g.rest to g.are some

  passes : (next : ℕ) → next ≡ at + object_words old x.w → is_link old x.w ≡ false → Walked old next to ws seen
  passes next e none =
      let P : ℕ → Type 0 = λ a. AreObjects old a x.later to in
      record {
        rest = x.later;
        are = subst P (sym e) x.are;
        whole = ap (λ ys. seen ++ ys) (sym (links-skip old at g.rest to x none)) ∙ g.whole;
        low = λ p i. omega (arith, g.low p i, e);
        few = omega (arith, g.few, e);
      }

  pub walk-small : (get_or old at 0 % 4 ≡ 0 → ⊥) → Walked old (at + 2) to ws seen
  walk-small t = (let (size, none) = small old at g.rest to x t in passes (at + 2) (omega (arith, size)) none)

  pub walk-large : get_or old at 0 % 4 ≡ 0 → is_link_header (get_or old at 0) ≡ false → Walked old (at + (1 + get_or old at 0 / 64)) to ws seen
  walk-large t none = (let (size, link) = large old at g.rest to x t in passes (at + (1 + get_or old at 0 / 64)) (omega (arith, size)) (link ∙ none))

  -- What is left lies within the row.
  pub walk-small-ends : (get_or old at 0 % 4 ≡ 0 → ⊥) → at + 2 ≤ to
  walk-small-ends t = omega (arith, ends old at g.rest to x, (small old at g.rest to x t).0)

  pub walk-large-ends : get_or old at 0 % 4 ≡ 0 → at + (1 + get_or old at 0 / 64) ≤ to
  walk-large-ends t = omega (arith, ends old at g.rest to x, (large old at g.rest to x t).0)

  -- A holder or fun has six words at least, and is one of the row's.
  module _ (t : get_or old at 0 % 4 ≡ 0) (l : is_link_header (get_or old at 0) ≡ true) where
    pub walk-six : 6 ≤ 1 + get_or old at 0 / 64
    walk-six = six old at g.rest to x t l

    step : links_in old g.rest ≡ at ∷ links_in old x.later
    step = links-step old at g.rest to x ((large old at g.rest to x t).1 ∙ l)

    all : seen ++ at ∷ links_in old x.later ≡ links_in old ws
    all = ap (λ ys. seen ++ ys) (sym step) ∙ g.whole

    pub walk-among : In at (links_in old ws)
    walk-among = (let R : List ℕ → Type 0 = λ ys. In at ys in subst R all (in-here at seen (links_in old x.later)))

    pub walk-seen : (p : ℕ) → In p seen → In p (links_in old ws)
    walk-seen p i = (let R : List ℕ → Type 0 = λ ys. In p ys in subst R all (in-front p seen (at ∷ links_in old x.later) i))

    pub walk-link : Walked old (at + (1 + get_or old at 0 / 64)) to ws (seen ++ at ∷ [])
    walk-link =
        let P : ℕ → Type 0 = λ a. AreObjects old a x.later to in
        let e : at + (1 + get_or old at 0 / 64) ≡ at + object_words old x.w = omega (arith, (large old at g.rest to x t).0) in
        record {
          rest = x.later;
          are = subst P (sym e) x.are;
          whole = sym (one-more seen at (links_in old x.later)) ∙ all;
          low = λ p i. elim (in-split p at seen i) [ inl j ↦ omega (arith, g.low p j, walk-six) | inr same ↦ omega (arith, same, walk-six) ];
          few = omega (arith, g.few, walk-six, length-last seen at);
        }

-- A row that was walked up to a place has its seen ones among all.
pub seen-among : (old : List ℕ) (at to : ℕ) (ws seen : List ℕ) → Walked old at to ws seen → (p : ℕ) → In p seen → In p (links_in old ws)
seen-among old at to ws seen g p i = (let R : List ℕ → Type 0 = λ ys. In p ys in subst R g.whole (in-front p seen (links_in old g.rest) i))

-- The objects of a row are known by its words.

cons-no-header : (mem : List ℕ) (w : ℕ) → IsTile mem w → w % 4 ≡ 1 → get_or mem (w / 4) 0 % 4 ≡ 0 → ⊥
cons-no-header mem w (inl (t, h)) tag = h
cons-no-header mem w (inr (inl (t, l))) tag = absurd (omega (arith, t, tag))
cons-no-header mem w (inr (inr (t, h))) tag = absurd (omega (arith, t, tag))

boxed-header : (mem : List ℕ) (w : ℕ) → IsTile mem w → w % 4 ≡ 2 → get_or mem (w / 4) 0 % 4 ≡ 0
boxed-header mem w (inl (t, h)) tag = absurd (omega (arith, t, tag))
boxed-header mem w (inr (inl (t, (l, e)))) tag = layout-tag (get_or mem (w / 4) 0) l e
boxed-header mem w (inr (inr (t, h))) tag = absurd (omega (arith, t, tag))

same-pointer : (mem : List ℕ) (w v : ℕ) → IsPointer w → IsPointer v → IsTile mem w → IsTile mem v → w / 4 ≡ v / 4 → w ≡ v
same-pointer mem w v (inl a) (inl b) s t e = omega (arith, a, b, e)
same-pointer mem w v (inr a) (inr b) s t e = omega (arith, a, b, e)
same-pointer mem w v (inl a) (inr b) s t e =
    let P : ℕ → Type 0 = λ q. get_or mem q 0 % 4 ≡ 0 in absurd (cons-no-header mem w s a (subst P (sym e) (boxed-header mem v t b)))
same-pointer mem w v (inr a) (inl b) s t e = (let P : ℕ → Type 0 = λ q. get_or mem q 0 % 4 ≡ 0 in absurd (cons-no-header mem v t b (subst P e (boxed-header mem w s a))))

pub objects-one : (mem : List ℕ) (a : ℕ) (ws vs : List ℕ) (b : ℕ) → AreObjects mem a ws b → AreObjects mem a vs b → ws ≡ vs
objects-one mem a [] [] b x y = refl
objects-one mem a [] (v ∷ vs) b x y = sym (ended-row mem a (v ∷ vs) b y (omega (arith, x.row)))
objects-one mem a (w ∷ ws) [] b x y = ended-row mem a (w ∷ ws) b x (omega (arith, y.row))
objects-one mem a (w ∷ ws) (v ∷ vs) b x y =
    let (place-w, tile-w, rest-w) = x.row in
    let (place-v, tile-v, rest-v) = y.row in
    let same : w ≡ v = same-pointer mem w v (x.objects w (inl refl)) (y.objects v (inl refl)) tile-w tile-v (omega (arith, place-w, place-v)) in
    let P : ℕ → Type 0 = λ u. Tiled mem (a + tile_words mem u) vs b in
    let rest : ws ≡ vs = objects-one mem (a + tile_words mem w) ws vs b (record { row = rest-w; objects = λ u i. x.objects u (inr i) })
    (record { row = subst P (sym same) rest-v; objects = λ u i. y.objects u (inr i) }) in
    ap (λ u. u ∷ ws) same ∙ ap (λ us. v ∷ us) rest

-- A row whose words are the same.

tile-same : (old new : List ℕ) (w : ℕ) → get_or new (w / 4) 0 ≡ get_or old (w / 4) 0 → IsTile old w → IsTile new w
tile-same old new w e (inl (t, h)) = inl (t, (λ z. h (ap (λ x. x % 4) (sym e) ∙ z)))
tile-same old new w e (inr (inl (t, (l, is)))) = inr (inl (t, (l, ap layout_for e ∙ is)))
tile-same old new w e (inr (inr (t, h))) = inr (inr (t, subst IsRecordHeader (sym e) h))

pub row-stays : (old new : List ℕ) (from : ℕ) (ws : List ℕ) (to : ℕ) → AreObjects old from ws to → ((q : ℕ) → from ≤ q → q < to → get_or new q 0 ≡ get_or old q 0)
    → AreObjects new from ws to × (links_in new ws ≡ links_in old ws)
row-stays old new from [] to r same = (record { row = r.row; objects = r.objects }, refl)
row-stays old new from (w ∷ ws) to r same =
    let (place, is, rest) = r.row in
    let y : IsPointer w = r.objects w (inl refl) in
    let some : 0 < tile_words old w = omega (arith, tile-object old w y, object-some old w) in
    let order : from + tile_words old w ≤ to = tiled-order old (from + tile_words old w) to ws rest in
    let here : get_or new (w / 4) 0 ≡ get_or old (w / 4) 0 = same (w / 4) (omega (arith, place)) (omega (arith, place, some, order)) in
    let size : tile_words new w ≡ tile_words old w = ap (λ h. if w % 4 == 0 then h / 16 else (if w % 4 == 1 then 2 else 1 + h / 64)) here in
    let link : is_link new w ≡ is_link old w = ap (λ h. (w % 4 == 2) && is_link_header h) here in
    let (later, links) = row-stays old new (from + tile_words old w) ws to (record { row = rest; objects = λ v i. r.objects v (inr i) }) (λ q low high. same q (omega (arith, low)) high) in
    let P : ℕ → Type 0 = λ n. Tiled new (from + n) ws to in (
      record { row = (place, tile-same old new w here is, subst P (sym size) later.row); objects = r.objects },
      ap (λ b. if b then w / 4 ∷ links_in new ws else links_in new ws) link ∙ ap (λ xs. if is_link old w then w / 4 ∷ xs else xs) links,
    )
