-- One object is relocated: its name and `next` first, then its traced words.
use Rattle.std.proofs.Common.{◌≡◌, ℕ, ◌+◌, ◌-◌, ◌/◌, ◌%◌, ◌<◌, ◌≤◌, ◌⊎◌, ◌==◌, ◌&&◌, if◌then◌else◌, nat_le, Bool, true, false, List, [], ◌∷◌, get_or, refl, sym, ◌∙◌, ap, subst, arith, inl, inr, Some, None}
use Rattle.std.proofs.lemmas.Bool.{cases_Bool}
use Rattle.std.proofs.lemmas.Bool.Decides.{nat_tests}
use Rattle.std.proofs.lemmas.Option.{none-some}
use Rattle.term_tags.specs.Words.{head_word}
use Rattle.term_tags.specs.declared.layouts.TheConstants.{HOLDER}
use Rattle.term_tags.specs.Table.{layout_for, layout_at, row_layout}
use Rattle.term_tags.specs.declared.layouts.Layout.{Layout}
use Rattle.term_words.specs.Object.{IsPointer, object_words}
use Rattle.term_words.specs.Reach.{first_of, first_traced}
use Rattle.term_words.specs.Tiled.{IsTile}
use Rattle.term_words.proofs.Reaching.Reached.{cons-traced}
use Rattle.off_heap_list.specs.Links.{name_place}
use Rattle.object_rows.specs.Row.{is_link, is_link_header}
use Rattle.object_rows.proofs.Rows.{Next, layout-tag, large, six, small}
use Rattle.word_shift.specs.Shifted.{word_image, IsShifted, RelocatesObject, StaysBeside, WordsShifted}

pub not-both : (b : Bool) → b ≡ true → b ≡ false → ⊥
not-both true t f = absurd (cc)
not-both false t f = absurd (cc)

-- The word that names a record is word 3 or word 1.
pub name-near : (mem : List ℕ) (at : ℕ) → (name_place mem at ≡ at + 3) ⊎ (name_place mem at ≡ at + 1)
name-near mem at = elim (cases_Bool (get_or mem at 0 == head_word HOLDER 5)) [ inl t ↦ (rw t (inl refl)) | inr f ↦ (rw f (inr refl)) ]

-- After the name and `next` the traced words are relocated.
module _ (g : ℕ → ℕ) (old mid new : List ℕ) (at first size name : ℕ) (leads : Bool) (far : leads ≡ true → 6 ≤ first) (near : (name ≡ at + 3) ⊎ (name ≡ at + 1))
    (kept : StaysBeside old mid at (at + size)) (s : IsShifted g old mid at size size leads name) (ws : WordsShifted g mid new (at + first) (at + size)) where
  pub traced-beside : StaysBeside old new at (at + size)
  traced-beside = record {
    same_len = ws.beside.same_len ∙ kept.same_len;
    same = λ q out. ws.beside.same q (grind (arith, out)) ∙ kept.same q out;
  }

  before : (q : ℕ) → at + first ≤ q → q < at + size → get_or mid q 0 ≡ get_or old q 0
  before q low high = elim (cases_Bool leads) [
    | inl t ↦ (let six-at : 6 ≤ first = far t in s.others q (omega (arith, low)) high high (inr (inr (omega (arith, low, six-at)))) (inr (inr (omega (arith, low, six-at, near)))))
    | inr f ↦ s.others q (omega (arith, low)) high high (inl f) (inl f)
  ]

  pub traced-shifted : IsShifted g old new at first size leads name
  traced-shifted = record {
    traced = λ q low high. ws.images q low high ∙ ap (word_image g) (before q low high);
    next = λ l. (let six-at : 6 ≤ first = far l in ws.beside.same (at + 2) (inl (omega (arith, six-at))) ∙ s.next l);
    names = λ l. (let six-at : 6 ≤ first = far l in ws.beside.same name (inl (omega (arith, six-at, near))) ∙ s.names l);
    others = λ q low below high a b. ws.beside.same q (inl below) ∙ s.others q low high high a b;
  }

-- Of a cons all words are traced.
pub cons-shifted : (g : ℕ → ℕ) (old new : List ℕ) (at name : ℕ) → WordsShifted g old new at (at + 2) → IsShifted g old new at 0 2 false name
cons-shifted g old new at name ws = record {
  traced = λ q low high. ws.images q (omega (arith, low)) high;
  next = λ l. absurd (not-both false l refl);
  names = λ l. absurd (not-both false l refl);
  others = λ q low high within a b. absurd (omega (arith, low, high));
}

-- Said of the pointer.
pub as-object : (g : ℕ → ℕ) (old new : List ℕ) (w at first size next : ℕ) (leads : Bool) → w / 4 ≡ at → first_traced old w ≡ first → object_words old w ≡ size → is_link old w ≡ leads
    → StaysBeside old new at (at + size) → IsShifted g old new at first size leads (name_place old at) → next ≡ at + size → RelocatesObject g old new w next
as-object g old new w at first size next leads e ef es el =
    let Q : ℕ → Type 0 = λ a. StaysBeside old new a (a + size) → IsShifted g old new a first size leads (name_place old a) → next ≡ a + size → RelocatesObject g old new w next in
    subst Q e (λ b s n. record {
      ends = omega (arith, n, es);
      beside = record { same_len = b.same_len; same = λ q out. b.same q (grind (arith, out, es)) };
      shifted = record {
        traced = λ q low high. s.traced q (omega (arith, low, ef)) (omega (arith, high, es));
        next = λ l. s.next (sym el ∙ l);
        names = λ l. s.names (sym el ∙ l);
        others = λ q low below high x y.
            s.others q low (omega (arith, below, ef)) (omega (arith, high, es)) (elim x [ inl f ↦ inl (sym el ∙ f) | inr z ↦ inr z ])
            (elim y [ inl f ↦ inl (sym el ∙ f) | inr z ↦ inr z ]);
      };
    })

-- What a tile's first word tells.

cons-tag : (mem : List ℕ) (w : ℕ) → IsPointer w → IsTile mem w → (get_or mem (w / 4) 0 % 4 ≡ 0 → ⊥) → w % 4 ≡ 1
cons-tag mem w y (inl (t, h)) other = t
cons-tag mem w y (inr (inl (t, (l, e)))) other = absurd (other (layout-tag (get_or mem (w / 4) 0) l e))
cons-tag mem w y (inr (inr (t, h))) other = absurd (omega (arith, t, y))

boxed-layout : (mem : List ℕ) (w : ℕ) → IsPointer w → IsTile mem w → get_or mem (w / 4) 0 % 4 ≡ 0 → (w % 4 ≡ 2) × ((l : Layout) × (layout_for (get_or mem (w / 4) 0) ≡ Some l))
boxed-layout mem w y (inl (t, h)) zero-tag = absurd (h zero-tag)
boxed-layout mem w y (inr (inl (t, le))) zero-tag = (t, le)
boxed-layout mem w y (inr (inr (t, h))) zero-tag = absurd (omega (arith, t, y))

pub traced-boxed : (mem : List ℕ) (w : ℕ) (l : Layout) → w % 4 ≡ 2 → layout_for (get_or mem (w / 4) 0) ≡ Some l → first_traced mem w ≡ l.first
traced-boxed mem w l t e =
    let boxed : (w % 4 == 1) ≡ false = grind (arith, nat_tests, t) in
    rw boxed (ap (λ o. first_of o (1 + get_or mem (w / 4) 0 / 64)) e)

pub row-first : (a least most f : ℕ) (l : Layout) → row_layout a least most f ≡ Some l → l.first ≡ f
row-first a least most f l e = elim (cases_Bool (nat_le least a && nat_le a most)) [
  | inl t ↦
      let P : Bool → Type 0 = λ b. (if b then Some (record { words = 1 + a; first = f; count = 1 + a - f }) else None) ≡ Some l in
      sym (ap (λ o. first_of o 0) (subst P t e))
  | inr n ↦ (let P : Bool → Type 0 = λ b. (if b then Some (record { words = 1 + a; first = f; count = 1 + a - f }) else None) ≡ Some l in absurd (none-some l (subst P n e)))
]

first-six : (h : ℕ) (l : Layout) → layout_for h ≡ Some l → (h / 4 % 16 ≡ 8) ⊎ (h / 4 % 16 ≡ 5) → l.first ≡ 6
first-six h l e is =
    let tag : h % 4 ≡ 0 = layout-tag h l e in
    let two : (h % 4 == 0) ≡ true = grind (arith, nat_tests, tag) in
    let P : Bool → Type 0 = λ b. (if b then layout_at (h / 4 % 16) (h / 64) else None) ≡ Some l in
    let Q : ℕ → Type 0 = λ s. layout_at s (h / 64) ≡ Some l in
    elim is [ inl s ↦ row-first (h / 64) 5 5 6 l (subst Q s (subst P two e)) | inr s ↦ row-first (h / 64) 5 69 6 l (subst Q s (subst P two e)) ]

link-kind : (h : ℕ) → is_link_header h ≡ true → (h / 4 % 16 ≡ 8) ⊎ (h / 4 % 16 ≡ 5)
link-kind h e = grind (arith, nat_tests, e)

-- The words of a holder or fun are traced from word 6 on.
pub link-first : (h : ℕ) (l : Layout) → layout_for h ≡ Some l → is_link_header h ≡ true → l.first ≡ 6
link-first h l e is = first-six h l e (link-kind h is)

abbrev one : (mem : List ℕ) (w at : ℕ) → IsPointer w → IsTile mem w → w / 4 ≡ at → Next mem at (w ∷ []) (at + object_words mem w)
one mem w at y t e = record { w = w; later = []; is = refl; place = e; pointer = y; tile = t; are = record { row = refl; objects = λ v i. absurd i } }

-- One object was relocated, in either way.
module _ (g : ℕ → ℕ) (mem new : List ℕ) (w at header : ℕ) (y : IsPointer w) (t : IsTile mem w) (e : w / 4 ≡ at) (was : header ≡ get_or mem at 0) where
  there : get_or mem (w / 4) 0 ≡ header
  there = ap (λ a. get_or mem a 0) e ∙ sym was

  pub object-two : (header % 4 ≡ 0 → ⊥) → object_words mem w ≡ 2
  object-two other = (small mem at (w ∷ []) (at + object_words mem w) (one mem w at y t e) (λ z. other (ap (λ a. a % 4) was ∙ z))).0

  pub object-small : (header % 4 ≡ 0 → ⊥) → WordsShifted g mem new at (at + 2) → RelocatesObject g mem new w (at + 2)
  object-small other ws =
      let (size, plain) = small mem at (w ∷ []) (at + object_words mem w) (one mem w at y t e) (λ z. other (ap (λ a. a % 4) was ∙ z)) in
      as-object g mem new w at 0 2 (at + 2) false e (cons-traced mem w (cons-tag mem w y t (λ z. other (ap (λ a. a % 4) (sym there) ∙ z)))) size plain ws.beside
      (cons-shifted g mem new at (name_place mem at) ws) refl

  module _ (zero-tag : header % 4 ≡ 0) where
    pub object-size : object_words mem w ≡ 1 + header / 64
    object-size = (large mem at (w ∷ []) (at + object_words mem w) (one mem w at y t e) (ap (λ a. a % 4) (sym was) ∙ zero-tag)).0 ∙ ap (λ a. 1 + a / 64) (sym was)

    object-link : is_link mem w ≡ is_link_header header
    object-link = (large mem at (w ∷ []) (at + object_words mem w) (one mem w at y t e) (ap (λ a. a % 4) (sym was) ∙ zero-tag)).1 ∙ ap is_link_header (sym was)

    pub object-six : is_link_header header ≡ true → 6 ≤ 1 + header / 64
    object-six l =
        omega (arith, was, six mem at (w ∷ []) (at + object_words mem w) (one mem w at y t e) (ap (λ a. a % 4) (sym was) ∙ zero-tag) (ap is_link_header (sym was) ∙ l))

    pub object-large : (mid : List ℕ) (first : ℕ) → ((l : Layout) → layout_for header ≡ Some l → first ≡ l.first) → StaysBeside mem mid at (at + (1 + header / 64))
        → IsShifted g mem mid at (1 + header / 64) (1 + header / 64) (is_link_header header) (name_place mem at)
        → WordsShifted g mid new (at + first) (at + (1 + header / 64)) → RelocatesObject g mem new w (at + (1 + header / 64))
    object-large mid first is kept names ws =
        let (boxed, (l, lay)) = boxed-layout mem w y t (ap (λ a. a % 4) there ∙ zero-tag) in
        let lay-header : layout_for header ≡ Some l = ap layout_for (sym there) ∙ lay in
        let far : is_link_header header ≡ true → 6 ≤ first = λ link. omega (arith, link-first header l lay-header link, is l lay-header) in
        as-object g mem new w at first (1 + header / 64) (at + (1 + header / 64)) (is_link_header header) e (traced-boxed mem w l boxed lay ∙ sym (is l lay-header)) object-size
        object-link (traced-beside g mem mid new at first (1 + header / 64) (name_place mem at) (is_link_header header) far (name-near mem at) kept names ws)
        (traced-shifted g mem mid new at first (1 + header / 64) (name_place mem at) (is_link_header header) far (name-near mem at) kept names ws) refl
