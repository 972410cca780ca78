-- A row is relocated object by object: the objects before the cursor are relocated, from it on all is as at the start.
use Rattle.std.proofs.Common.{◌≡◌, ℕ, ◌+◌, ◌/◌, ◌%◌, ◌<◌, ◌≤◌, ◌⊎◌, ◌==◌, ◌&&◌, if◌then◌else◌, Bool, true, List, [], ◌∷◌, ◌++◌, length, get_or, refl, sym, ◌∙◌, ap, subst, arith, inl, inr, Some}
use Rattle.term_tags.specs.Words.{head_word}
use Rattle.term_tags.specs.declared.layouts.TheConstants.{HOLDER}
use Rattle.term_tags.specs.declared.layouts.Layout.{Layout}
use Rattle.term_tags.specs.Table.{layout_for}
use Rattle.term_words.specs.Object.{IsPointer, object_words}
use Rattle.term_words.specs.Reach.{first_of, first_traced}
use Rattle.term_words.specs.Counted.{In}
use Rattle.term_words.specs.Tiled.{IsTile, IsRecordHeader}
use Rattle.term_words.proofs.Placing.Roles.{object-some}
use Rattle.term_words.proofs.Placing.Tiles.{tiled-order}
use Rattle.off_heap_list.specs.Links.{name_place}
use Rattle.object_rows.specs.Row.{AreObjects, is_link, is_link_header}
use Rattle.object_rows.proofs.Rows.{Next, ended-row, ends, in-split, large, next-by, no-more, one-more, six, small}
use Rattle.word_shift.specs.Shifted.{word_image, CanRelocate, FitsBeside, IsShifted, ObjectShifted, RelocatesObject, RowShifted, StaysBeside}
use Rattle.word_shift.proofs.Ranges.{fits-narrower}
use Rattle.word_shift.proofs.Objects.{name-near, not-both}

-- An object is read alike where its first word is the same.

pub tile-by : (old now : List ℕ) (w : ℕ) → get_or now (w / 4) 0 ≡ get_or old (w / 4) 0 → IsTile old w → IsTile now w
tile-by old now w e =
    let P : ℕ → Type 0 = λ h. ((w % 4 ≡ 1) × (h % 4 ≡ 0 → ⊥)) ⊎ (((w % 4 ≡ 2) × ((l : Layout) × (layout_for h ≡ Some l))) ⊎ ((w % 4 ≡ 0) × IsRecordHeader h)) in
    subst P (sym e)

pub words-by : (old now : List ℕ) (w : ℕ) → get_or now (w / 4) 0 ≡ get_or old (w / 4) 0 → object_words now w ≡ object_words old w
words-by old now w e = ap (λ h. if w % 4 == 1 then 2 else 1 + h / 64) e

pub first-by : (old now : List ℕ) (w : ℕ) → get_or now (w / 4) 0 ≡ get_or old (w / 4) 0 → first_traced now w ≡ first_traced old w
first-by old now w e = ap (λ h. if w % 4 == 1 then 0 else first_of (layout_for h) (if w % 4 == 1 then 2 else 1 + h / 64)) e

pub link-by : (old now : List ℕ) (w : ℕ) → get_or now (w / 4) 0 ≡ get_or old (w / 4) 0 → is_link now w ≡ is_link old w
link-by old now w e = ap (λ h. (w % 4 == 2) && is_link_header h) e

pub name-by : (old now : List ℕ) (p : ℕ) → get_or now p 0 ≡ get_or old p 0 → name_place now p ≡ name_place old p
name-by old now p e = ap (λ h. if h == head_word HOLDER 5 then p + 3 else p + 1) e

-- What was relocated over a memory that was the same there.
pub shift-within : (g : ℕ → ℕ) (old now new : List ℕ) (p first first-old size size-old name name-old : ℕ) (leads leads-old : Bool) → first ≡ first-old → size ≡ size-old → name ≡ name-old
    → leads ≡ leads-old → (leads-old ≡ true → 6 ≤ size-old) → (name-old ≡ p + 3) ⊎ (name-old ≡ p + 1)
    → ((q : ℕ) → p ≤ q → q < p + size-old → get_or now q 0 ≡ get_or old q 0) → IsShifted g now new p first size leads name
    → IsShifted g old new p first-old size-old leads-old name-old
shift-within g old now new p first first-old size size-old name name-old leads leads-old ef es en el long near same s = record {
  traced = λ q low high. s.traced q (omega (arith, low, ef)) (omega (arith, high, es)) ∙ ap (word_image g) (same q (omega (arith, low)) high);
  next = λ l. (let six-words : 6 ≤ size-old = long l in s.next (el ∙ l) ∙ ap g (same (p + 2) (omega arith) (omega (arith, six-words))));
  names = λ l.
      let six-words : 6 ≤ size-old = long l in
      ap (λ a. get_or new a 0) (sym en) ∙ (s.names (el ∙ l) ∙ (ap (λ a. g (get_or now a 0)) en ∙ ap g (same name-old (omega (arith, near)) (omega (arith, near, six-words)))));
  others = λ q low below high x y.
      s.others q low (omega (arith, below, ef)) (omega (arith, high, es)) (elim x [ inl f ↦ inl (el ∙ f) | inr z ↦ inr z ])
      (elim y [ inl f ↦ inl (el ∙ f) | inr z ↦ inr (grind (arith, z, en)) ])
      ∙ same q low high;
}

-- What was relocated stays so while other words are written.
pub shift-stays : (g : ℕ → ℕ) (old now new : List ℕ) (p first size name : ℕ) (leads : Bool) → (leads ≡ true → 6 ≤ size) → (name ≡ p + 3) ⊎ (name ≡ p + 1)
    → ((q : ℕ) → p ≤ q → q < p + size → get_or new q 0 ≡ get_or now q 0) → IsShifted g old now p first size leads name → IsShifted g old new p first size leads name
shift-stays g old now new p first size name leads long near same s = record {
  traced = λ q low high. same q (omega (arith, low)) high ∙ s.traced q low high;
  next = λ l. (let six-words : 6 ≤ size = long l in same (p + 2) (omega arith) (omega (arith, six-words)) ∙ s.next l);
  names = λ l. (let six-words : 6 ≤ size = long l in same name (omega (arith, near)) (omega (arith, near, six-words)) ∙ s.names l);
  others = λ q low below high x y. same q low high ∙ s.others q low below high x y;
}

-- The row up to a place was relocated.
pub record Relocating (g : ℕ → ℕ) (old now : List ℕ) (from at to : ℕ) (ws : List ℕ) : Type 0 where
  pub before : List ℕ
  pub rest : List ℕ
  pub is : ws ≡ before ++ rest
  pub are : AreObjects old at rest to
  pub order : from ≤ at
  pub beside : StaysBeside old now from at
  pub each : (w : ℕ) → In w before → ObjectShifted g old now w
  pub low : (w : ℕ) → In w before → w / 4 + object_words old w ≤ at
  pub long : (w : ℕ) → In w before → is_link old w ≡ true → 6 ≤ object_words old w

pub relocating-begins : (g : ℕ → ℕ) (mem : List ℕ) (from to : ℕ) (ws : List ℕ) → AreObjects mem from ws to → Relocating g mem mem from from to ws
relocating-begins g mem from to ws are = record {
  before = [];
  rest = ws;
  is = refl;
  are = are;
  order = omega arith;
  beside = record { same_len = refl; same = λ q out. refl };
  each = λ w i. absurd i;
  low = λ w i. absurd i;
  long = λ w i. absurd i;
}

pub link-long : (old : List ℕ) (at : ℕ) (rest : List ℕ) (to : ℕ) (x : Next old at rest to) → is_link old x.w ≡ true → 6 ≤ object_words old x.w
link-long old at rest to x l =
    let which : (get_or old at 0 % 4 ≡ 0) ⊎ (get_or old at 0 % 4 ≡ 0 → ⊥) = grind arith in
    elim which [
      | inl t ↦ (let (size, link) = large old at rest to x t in omega (arith, size, six old at rest to x t (sym link ∙ l)))
      | inr n ↦ absurd (not-both (is_link old x.w) l (small old at rest to x n).1)
    ]

module _ (g : ℕ → ℕ) (old now : List ℕ) (from at to : ℕ) (ws : List ℕ) (r : Relocating g old now from at to ws) where
  pub relocating-ends : to ≤ at → RowShifted g old now from to ws
  relocating-ends over =
      let none : r.rest ≡ [] = ended-row old at r.rest to r.are over in
      let all : ws ≡ r.before = r.is ∙ (ap (λ ys. r.before ++ ys) none ∙ no-more r.before) in
      let order : at ≤ to = tiled-order old at to r.rest r.are.row in
      let P : List ℕ → Type 0 = λ vs. (w : ℕ) → In w vs → ObjectShifted g old now w in
      record { beside = record { same_len = r.beside.same_len; same = λ q out. r.beside.same q (grind (arith, out, over, order)) }; each = subst P (sym all) r.each }

  module _ (some : at < to) where
    x : Next old at r.rest to
    x = next-by old at r.rest to r.are some

    ahead : (q : ℕ) → at ≤ q → get_or now q 0 ≡ get_or old q 0
    ahead q low = r.beside.same q (inr low)

    header : get_or now (x.w / 4) 0 ≡ get_or old (x.w / 4) 0
    header = ahead (x.w / 4) (omega (arith, x.place))

    pub relocating-alike : (fits : List ℕ → Type 0) (to-of : List ℕ → ℕ → ℕ) → FitsBeside fits to-of old from to → (a : ℕ) → to-of now a ≡ to-of old a
    relocating-alike fits to-of f = f.alike now r.beside.same_len (λ q out. r.beside.same q (grind (arith, out, some)))

    pub relocating-can : (fits : List ℕ → Type 0) (to-of : List ℕ → ℕ → ℕ) → FitsBeside fits to-of old from to → to ≤ length old → CanRelocate fits to-of now at
    relocating-can fits to-of f inside =
        let size : object_words now x.w ≡ object_words old x.w = words-by old now x.w header in
        let end : at + object_words old x.w ≤ to = ends old at r.rest to x in
        record {
          w = x.w;
          pointer = x.pointer;
          tile = tile-by old now x.w header x.tile;
          place = x.place;
          inside = omega (arith, size, end, inside, r.beside.same_len);
          fit = fits-narrower fits to-of old now from to from at at (at + object_words now x.w) f r.beside (omega arith) (omega (arith, some)) r.order (omega (arith, size, end));
        }

    -- The next object was relocated.
    module _ (new : List ℕ) (next : ℕ) (told : (w : ℕ) → IsPointer w → IsTile now w → w / 4 ≡ at → RelocatesObject g now new w next) where
      one : RelocatesObject g now new x.w next
      one = told x.w x.pointer (tile-by old now x.w header x.tile) x.place

      size : object_words now x.w ≡ object_words old x.w
      size = words-by old now x.w header

      end-at : next ≡ at + object_words old x.w
      end-at = omega (arith, one.ends, size, x.place)

      pub relocating-goes : at < next
      relocating-goes = omega (arith, end-at, object-some old x.w)

      pub relocating-step : Relocating g old new from next to ws
      relocating-step =
          let P : ℕ → Type 0 = λ a. AreObjects old a x.later to in
          let Q : ℕ → Type 0 = λ w. ObjectShifted g old new w in
          let R : ℕ → Type 0 = λ w. is_link old w ≡ true → 6 ≤ object_words old w in
          let S : ℕ → Type 0 = λ w. w / 4 + object_words old w ≤ next in
          record {
            before = r.before ++ x.w ∷ [];
            rest = x.later;
            is = r.is ∙ (ap (λ ys. r.before ++ ys) x.is ∙ one-more r.before x.w x.later);
            are = subst P (sym end-at) x.are;
            order = omega (arith, r.order, relocating-goes);
            beside = record {
              same_len = one.beside.same_len ∙ r.beside.same_len;
              same = λ q out. one.beside.same q (grind (arith, out, r.order, end-at, size, x.place)) ∙ r.beside.same q (grind (arith, out, relocating-goes));
            };
            each = λ w i. elim (in-split w x.w r.before i) [
              | inl j ↦
                  let low : w / 4 + object_words old w ≤ at = r.low w j in
                  shift-stays g old now new (w / 4) (first_traced old w) (object_words old w) (name_place old (w / 4)) (is_link old w) (r.long w j) (name-near old (w / 4))
                  (λ q a b. one.beside.same q (inl (omega (arith, b, low, x.place)))) (r.each w j)
              | inr e ↦ subst Q (sym e)
                  (shift-within g old now new (x.w / 4) (first_traced now x.w) (first_traced old x.w) (object_words now x.w)
                  (object_words old x.w) (name_place now (x.w / 4)) (name_place old (x.w / 4))
                  (is_link now x.w) (is_link old x.w) (first-by old now x.w header) size (name-by old now (x.w / 4) header) (link-by old now x.w header)
                  (link-long old at r.rest to x) (name-near old (x.w / 4)) (λ q low high. ahead q (omega (arith, low, x.place))) one.shifted)
            ];
            low = λ w i. elim (in-split w x.w r.before i) [
              | inl j ↦ (let low : w / 4 + object_words old w ≤ at = r.low w j in omega (arith, low, relocating-goes))
              | inr e ↦ subst S (sym e) (omega (arith, end-at, x.place))
            ];
            long = λ w i. elim (in-split w x.w r.before i) [ inl j ↦ r.long w j | inr e ↦ subst R (sym e) (link-long old at r.rest to x) ];
          }
