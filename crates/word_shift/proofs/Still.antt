-- A row of objects that was relocated is one still, and an object is read alike where its tag or its header stands.
use Rattle.std.proofs.Common.{◌≡◌, ℕ, ◌+◌, ◌/◌, ◌%◌, ◌≤◌, ◌⊎◌, ◌==◌, ◌&&◌, if◌then◌else◌, Bool, true, false, List, [], ◌∷◌, map, map-id, get_or, refl, sym, ◌∙◌, ap, subst, arith, inl, inr, Option, Some, None}
use Rattle.std.proofs.lemmas.Option.{none-some}
use Rattle.term_tags.specs.Table.{layout_for, layout_at, row_layout}
use Rattle.term_tags.specs.declared.layouts.Layout.{Layout}
use Rattle.term_words.specs.Object.{IsPointer}
use Rattle.term_words.specs.Counted.{In}
use Rattle.term_words.specs.Tiled.{IsTile, IsTileAt, MoveAsOne, Tiled, tile_words}
use Rattle.term_words.proofs.Placing.Roles.{object-some}
use Rattle.term_words.proofs.Placing.Tiles.{tiled-moved}
use Rattle.term_words.proofs.Reaching.Reached.{cons-traced}
use Rattle.object_rows.specs.Row.{AreObjects, is_link, is_link_header, links_in}
use Rattle.word_shift.specs.Shifted.{word_image, ObjectShifted, RowShifted}
use Rattle.word_shift.proofs.Objects.{name-near, row-first, traced-boxed}
use Rattle.word_shift.proofs.Sliding.{image-other, image-pointer}

-- No first word of an object with a header is traced.

pick : (b : Bool) (x y : Option Layout) (l : Layout) → (x ≡ Some l → 1 ≤ l.first) → (y ≡ Some l → 1 ≤ l.first) → (if b then x else y) ≡ Some l → 1 ≤ l.first
pick true x y l f g e = f e
pick false x y l f g e = g e

row-some : (a least most f : ℕ) (l : Layout) → 1 ≤ f → row_layout a least most f ≡ Some l → 1 ≤ l.first
row-some a least most f l some e = omega (arith, row-first a least most f l e, some)

layout-some : (s a : ℕ) (l : Layout) → layout_at s a ≡ Some l → 1 ≤ l.first
layout-some s a l =
    pick (s == 0) _ _ l (row-some a _ _ 1 l (omega arith))
    (pick (s == 2) _ _ l (row-some a _ _ (1 + a) l (omega arith))
    (pick (s == 3) _ _ l (row-some a _ _ (1 + a) l (omega arith))
    (pick (s == 4) _ _ l (row-some a _ _ 3 l (omega arith))
    (pick (s == 5) _ _ l (row-some a _ _ 6 l (omega arith))
    (pick (s == 8) _ _ l (row-some a _ _ 6 l (omega arith))
    (pick (s == 9) _ _ l (row-some a _ _ (1 + a) l (omega arith))
    (pick (s == 10) _ _ l (row-some a _ _ 4 l (omega arith))
    (pick (s == 15) _ _ l (row-some a _ _ 2 l (omega arith)) (λ e. absurd (none-some l e))))))))))

header-some : (h : ℕ) (l : Layout) → layout_for h ≡ Some l → 1 ≤ l.first
header-some h l = pick (h % 4 == 0) (layout_at (h / 4 % 16) (h / 64)) None l (layout-some (h / 4 % 16) (h / 64) l) (λ e. absurd (none-some l e))

pub image-tag : (g : ℕ → ℕ) (w : ℕ) → word_image g w % 4 ≡ w % 4
image-tag g w =
    let which : IsPointer w ⊎ (IsPointer w → ⊥) = grind arith in
    elim which [ inl y ↦ omega (arith, image-pointer g w y) | inr n ↦ ap (λ x. x % 4) (image-other g w n) ]

-- An object of a row is a tile.
pub row-tile : (mem : List ℕ) (from to : ℕ) (ws : List ℕ) → Tiled mem from ws to → (w : ℕ) → In w ws → IsTile mem w
row-tile mem from to [] row w i = absurd i
row-tile mem from to (v ∷ vs) (place, tile, rest) w (inl e) = (let P : ℕ → Type 0 = λ x. IsTile mem x in subst P (sym e) tile)
row-tile mem from to (v ∷ vs) (place, tile, rest) w (inr i) = row-tile mem (from + tile_words mem v) to vs rest w i

pub tile-layout : (mem : List ℕ) (w : ℕ) → w % 4 ≡ 2 → IsTile mem w → (l : Layout) × (layout_for (get_or mem (w / 4) 0) ≡ Some l)
tile-layout mem w tag (inl (t, h)) = absurd (omega (arith, tag, t))
tile-layout mem w tag (inr (inl (t, le))) = le
tile-layout mem w tag (inr (inr (t, h))) = absurd (omega (arith, tag, t))

-- What a relocated object is read by: the tag of a cons's first word, the header of any other object.
pub shifted-read : (g : ℕ → ℕ) (old new : List ℕ) (w : ℕ) → IsPointer w → IsTile old w → ObjectShifted g old new w → IsTileAt old new w (w / 4)
shifted-read g old new w y tile s = record {
  cons = λ t.
      ap (λ x. x % 4) (s.traced (w / 4) (omega (arith, cons-traced old w t)) (omega (arith, object-some old w)))
      ∙ image-tag g (get_or old (w / 4) 0);
  others = λ n.
      let tag : w % 4 ≡ 2 = omega (arith, y, n) in
      let (l, e) = tile-layout old w tag tile in
      s.others (w / 4) (omega arith) (omega (arith, traced-boxed old w l tag e, header-some (get_or old (w / 4) 0) l e)) (omega (arith, object-some old w)) (inr (inl (omega arith)))
      (inr (inl (omega (arith, name-near old (w / 4)))));
}

-- A holder or a fun is one where that stands.
pub link-read : (old new : List ℕ) (w x at : ℕ) → x / 4 ≡ at → x % 4 ≡ w % 4 → IsTileAt old new w at → is_link new x ≡ is_link old w
link-read old new w x at place tag r =
    let which : (w % 4 ≡ 1) ⊎ (w % 4 ≡ 1 → ⊥) = grind arith in
    elim which as (λ _. is_link new x ≡ is_link old w) [
      | inl t ↦ (let u : x % 4 ≡ 1 = omega (arith, t, tag) in rw (u, t) refl)
      | inr n ↦
          let same : get_or new (x / 4) 0 ≡ get_or old (w / 4) 0 = ap (λ q. get_or new q 0) place ∙ r.others n in
          ap (λ t. (t == 2) && is_link_header (get_or new (x / 4) 0)) tag ∙ ap (λ h. (w % 4 == 2) && is_link_header h) same
    ]

-- The holders and funs among images of pointers.

pick-map : (b : Bool) (g : ℕ → ℕ) (a c : ℕ) (xs ys : List ℕ) → a ≡ g c → xs ≡ map g ys → (if b then a ∷ xs else xs) ≡ map g (if b then c ∷ ys else ys)
pick-map true g a c xs ys e r = ap (λ z. z ∷ xs) e ∙ ap (λ zs. g c ∷ zs) r
pick-map false g a c xs ys e r = r

pub links-mapped : (old new : List ℕ) (f g : ℕ → ℕ) (ws : List ℕ) → ((w : ℕ) → In w ws → is_link new (f w) ≡ is_link old w) → ((w : ℕ) → In w ws → f w / 4 ≡ g (w / 4))
    → links_in new (map f ws) ≡ map g (links_in old ws)
links-mapped old new f g [] same place = refl
links-mapped old new f g (w ∷ ws) same place =
    let rest : links_in new (map f ws) ≡ map g (links_in old ws) = links-mapped old new f g ws (λ v i. same v (inr i)) (λ v i. place v (inr i)) in
    ap (λ b. if b then f w / 4 ∷ links_in new (map f ws) else links_in new (map f ws)) (same w (inl refl))
    ∙ pick-map (is_link old w) g (f w / 4) (w / 4) (links_in new (map f ws)) (links_in old ws) (place w (inl refl)) rest

-- A row is one still once it was relocated, with the same objects, holders and funs.
pub row-shifted-row : (g : ℕ → ℕ) (old new : List ℕ) (from to : ℕ) (ws : List ℕ) → AreObjects old from ws to → RowShifted g old new from to ws
    → AreObjects new from ws to × (links_in new ws ≡ links_in old ws)
row-shifted-row g old new from to ws are s =
    let read : (w : ℕ) → In w ws → IsTileAt old new w (w / 4) = λ w i.
    shifted-read g old new w (are.objects w i) (row-tile old from to ws are.row w i) (s.each w i) in
    let move : MoveAsOne old new (λ w. w) (λ q. q) from to ws = record { shift = λ q low high. omega (arith, low); words = λ w i. omega arith; read = read } in
    let P : List ℕ → Type 0 = λ vs. Tiled new from vs to in
    let links : links_in new (map (λ w. w) ws) ≡ map (λ q. q) (links_in old ws) =
    links-mapped old new (λ w. w) (λ q. q) ws (λ w i. link-read old new w w (w / 4) refl refl (read w i)) (λ w i. refl) in (
      record { row = subst P (map-id ws) (tiled-moved old new (λ w. w) (λ q. q) from to ws move are.row); objects = are.objects },
      sym (ap (links_in new) (map-id ws)) ∙ (links ∙ map-id (links_in old ws)),
    )
