-- The holders and funs of a row come into a chain, one after the other.
use Rattle.std.proofs.Common.{◌≡◌, ℕ, ◌+◌, ◌-◌, ◌*◌, ◌/◌, ◌%◌, ◌<◌, ◌≤◌, ◌⊎◌, ◌==◌, ◌&&◌, if◌then◌else◌, nat_le, Bool, true, false, List, [], ◌∷◌, ◌++◌, length, get_or, set, refl, sym, ◌∙◌, ap, subst, arith, inl, inr, Some, None, length-set, get_or-set_other}
use Rattle.std.proofs.lemmas.Bool.{cases_Bool}
use Rattle.std.proofs.lemmas.Bool.Decides.{nat_tests}
use Rattle.std.proofs.lemmas.Grind.{get_or-set_at}
use Rattle.std.proofs.lemmas.Option.{none-some}
use Rattle.plain_term.specs.Measures.{bin_words}
use Rattle.term_tags.specs.Words.{head_word}
use Rattle.term_tags.specs.declared.layouts.TheConstants.{HOLDER}
use Rattle.term_tags.specs.Table.{layout_for, layout_at, row_layout}
use Rattle.term_tags.specs.declared.layouts.Layout.{Layout}
use Rattle.term_words.specs.Role.{NEXT, IsSingle}
use Rattle.term_words.specs.Object.{IsPointer, object_words}
use Rattle.term_words.specs.Kept.{Kept}
use Rattle.term_words.specs.Counted.{In, Distinct}
use Rattle.term_words.specs.Tiled.{IsTile, Tiled, tile_words}
use Rattle.term_words.proofs.Placing.Apart.{words-cons, words-header}
use Rattle.term_words.proofs.Placing.Roles.{object-some}
use Rattle.term_words.proofs.Placing.Tiles.{tiled-order}
use Rattle.shared_rec.proofs.Records.{record-counted, record-stays, role-idle}
use Rattle.off_heap_list.specs.Links.{names_it, named, naming, Leads, IsLink, Links}
use Rattle.off_heap_list.specs.Swept.{bin_words_at}
use Rattle.off_heap_list.specs.Whole.{turned, bin_words_of_all}
use Rattle.off_heap_list.proofs.Walked.Tallied.{all-held-few, held-few}
use Rattle.off_heap_list.proofs.Chaining.Chained.{idle-kept, idle-kept-back, leads-stays, link-named, link-stays, naming-stays, roles-apart}
use Rattle.object_rows.specs.declared.chaining.Chained.{Chained}
use Rattle.object_rows.specs.Row.{AreObjects, ChainsRow, is_link, is_link_header, links_in}

-- One object that stands beside a chain becomes its first.
pub chained-one : (c : ℕ → ℕ → Bool) (mem : List ℕ) (head o : ℕ) (os more : List ℕ) → IsSingle c → o + 2 < length mem → Links c mem head os (o ∷ more) → (In o os → ⊥)
    → Links c (set mem (o + 2) head) o (o ∷ os) more
chained-one c mem head o os more one inside l fresh =
    let k : IsLink c mem o = l.beside o (inl refl) in
    let new : List ℕ = set mem (o + 2) head in
    let kept : Kept c c mem (set mem (o + 2) head) = idle-kept c mem (o + 2) head (role-idle c (o + 2) NEXT one k.next (omega arith)) in
    let back : Kept c c (set mem (o + 2) head) mem = idle-kept-back c mem (o + 2) head (role-idle c (o + 2) NEXT one k.next (omega arith)) in
    let lead : get_or (set mem (o + 2) head) (o + 2) 0 ≡ head = grind (arith, get_or-set_at, inside) in
    let Q : ℕ → Type 0 = λ x. Leads (set mem (o + 2) head) x os 0 in
    let S : ℕ → Type 0 = λ x. In x os in
    let P : ℕ → Type 0 = λ x. IsLink c (set mem (o + 2) head) x in
    record {
      chain = (
        refl,
        subst Q (sym lead) (leads-stays mem (set mem (o + 2) head) head os 0 (λ p i. get_or-set_other mem (o + 2) (p + 2) head 0 (λ e.
            let this : p ≡ o = omega (arith, e) in fresh (subst S this i))) l.chain),
      );
      once = (fresh, l.once);
      each = λ p i. elim i [ inl e ↦ subst P (sym e) (link-stays c c mem (set mem (o + 2) head) o kept k) | inr h ↦ link-stays c c mem (set mem (o + 2) head) p kept (l.each p h) ];
      beside = λ p i. link-stays c c mem (set mem (o + 2) head) p kept (l.beside p (inr i));
      counts = λ v n s.
          let was : get_or mem (v + 2) 0 ≡ naming mem v os + naming mem v (o ∷ more) = l.counts v n (record-stays c c (set mem (o + 2) head) mem v n back s) in
          let now : get_or (set mem (o + 2) head) (v + 2) 0 ≡ get_or mem (v + 2) 0 =
          get_or-set_other mem (o + 2) (v + 2) head 0 (λ e. roles-apart c (o + 2) (v + 2) one k.next (record-counted c (set mem (o + 2) head) v n s) (sym e)) in
          let name : names_it (named (set mem (o + 2) head) o) v ≡ names_it (named mem o) v = ap (λ r. names_it r v) (link-named c c mem (set mem (o + 2) head) o kept k) in
          omega (arith, was, now, name, naming-stays c c mem (set mem (o + 2) head) v os kept l.each, naming-stays c c mem (set mem (o + 2) head) v more kept (λ p i. l.beside p (inr i)));
    }

-- Lists.

turned-last : (xs : List ℕ) (o : ℕ) (ys : List ℕ) → turned (xs ++ o ∷ []) ys ≡ o ∷ turned xs ys
turned-last [] o ys = refl
turned-last (x ∷ xs) o ys = turned-last xs o (x ∷ ys)

pub in-turned : (q : ℕ) (xs ys : List ℕ) → In q (turned xs ys) → In q xs ⊎ In q ys
in-turned q [] ys i = inr i
in-turned q (x ∷ xs) ys i = elim (in-turned q xs (x ∷ ys) i) [ inl h ↦ inl (inr h) | inr h ↦ elim h [ inl e ↦ inl (inl e) | inr j ↦ inr j ] ]

pub one-more : (xs : List ℕ) (o : ℕ) (ys : List ℕ) → xs ++ (o ∷ ys) ≡ (xs ++ o ∷ []) ++ ys
one-more [] o ys = refl
one-more (x ∷ xs) o ys = ap (λ zs. x ∷ zs) (one-more xs o ys)

pub in-left : (q o : ℕ) (xs : List ℕ) → In q xs → In q (xs ++ o ∷ [])
in-left q o [] i = absurd i
in-left q o (x ∷ xs) (inl e) = inl e
in-left q o (x ∷ xs) (inr i) = inr (in-left q o xs i)

pub in-last : (o : ℕ) (xs : List ℕ) → In o (xs ++ o ∷ [])
in-last o [] = inl refl
in-last o (x ∷ xs) = inr (in-last o xs)

pub in-split : (q o : ℕ) (xs : List ℕ) → In q (xs ++ o ∷ []) → In q xs ⊎ (q ≡ o)
in-split q o [] (inl e) = inr e
in-split q o [] (inr i) = absurd i
in-split q o (x ∷ xs) (inl e) = inl (inl e)
in-split q o (x ∷ xs) (inr i) = elim (in-split q o xs i) [ inl h ↦ inl (inr h) | inr e ↦ inr e ]

pub in-here : (o : ℕ) (xs ys : List ℕ) → In o (xs ++ (o ∷ ys))
in-here o [] ys = inl refl
in-here o (x ∷ xs) ys = inr (in-here o xs ys)

pub length-last : (xs : List ℕ) (o : ℕ) → length (xs ++ o ∷ []) ≡ length xs + 1
length-last [] o = omega arith
length-last (x ∷ xs) o = omega (arith, length-last xs o)

pub in-front : (q : ℕ) (xs ys : List ℕ) → In q xs → In q (xs ++ ys)
in-front q [] ys i = absurd i
in-front q (x ∷ xs) ys (inl e) = inl e
in-front q (x ∷ xs) ys (inr i) = inr (in-front q xs ys i)

held-last : (mem xs : List ℕ) (o : ℕ) → bin_words_of_all mem (xs ++ o ∷ []) ≡ bin_words_of_all mem xs + bin_words_at mem o
held-last mem [] o = omega arith
held-last mem (x ∷ xs) o = omega (arith, held-last mem xs o)

-- Words of bytes that lie in the memory make no sum too large.
few-words : (words held now all one n len : ℕ) → now ≡ (words + held) % 18446744073709551616 → words ≡ all → held ≡ one → all ≤ n * 16777216 → one ≤ len → len ≤ 16777216 → n ≤ len
    → now ≡ all + one
few-words words held now all one n len is w h some here most short = omega (arith, is, w, h, some, here, most, short)

pub no-more : (xs : List ℕ) → xs ++ [] ≡ xs
no-more [] = refl
no-more (x ∷ xs) = ap (λ zs. x ∷ zs) (no-more xs)

-- Tiles that are objects, by their first words.

pub layout-tag : (h : ℕ) (l : Layout) → layout_for h ≡ Some l → h % 4 ≡ 0
layout-tag h l e = elim (cases_Bool (h % 4 == 0)) [
  | inl t ↦ grind (arith, nat_tests, t)
  | inr f ↦ (let P : Bool → Type 0 = λ b. (if b then layout_at (h / 4 % 16) (h / 64) else None) ≡ Some l in absurd (none-some l (subst P f e)))
]

row-arity : (a least most f : ℕ) (l : Layout) → row_layout a least most f ≡ Some l → least ≤ a
row-arity a least most f l e = elim (cases_Bool (nat_le least a && nat_le a most)) [
  | inl t ↦ grind (arith, nat_tests, t)
  | inr n ↦ (let P : Bool → Type 0 = λ b. (if b then Some (record { words = 1 + a; first = f; count = 1 + a - f }) else None) ≡ Some l in absurd (none-some l (subst P n e)))
]

link-arity : (h : ℕ) (l : Layout) → layout_for h ≡ Some l → (h / 4 % 16 ≡ 8) ⊎ (h / 4 % 16 ≡ 5) → 5 ≤ h / 64
link-arity h l e is =
    let tag : h % 4 ≡ 0 = layout-tag h l e in
    let two : (h % 4 == 0) ≡ true = grind (arith, nat_tests, tag) in
    let P : Bool → Type 0 = λ b. (if b then layout_at (h / 4 % 16) (h / 64) else None) ≡ Some l in
    let Q : ℕ → Type 0 = λ s. layout_at s (h / 64) ≡ Some l in
    elim is [ inl s ↦ row-arity (h / 64) 5 5 6 l (subst Q s (subst P two e)) | inr s ↦ row-arity (h / 64) 5 69 6 l (subst Q s (subst P two e)) ]

link-header : (h : ℕ) → is_link_header h ≡ true → (h / 4 % 16 ≡ 8) ⊎ (h / 4 % 16 ≡ 5)
link-header h e = grind (arith, nat_tests, e)

-- What is left of a row begins with an object.
pub record Next (old : List ℕ) (at : ℕ) (rest : List ℕ) (to : ℕ) : Type 0 where
  pub w : ℕ
  pub later : List ℕ
  pub is : rest ≡ w ∷ later
  pub place : w / 4 ≡ at
  pub pointer : IsPointer w
  pub tile : IsTile old w
  pub are : AreObjects old (at + object_words old w) later to

pub tile-object : (mem : List ℕ) (w : ℕ) → IsPointer w → tile_words mem w ≡ object_words mem w
tile-object mem w y = let other : (w % 4 == 0) ≡ false = grind (arith, nat_tests, y) in rw other refl

pub next-by : (old : List ℕ) (at : ℕ) (rest : List ℕ) (to : ℕ) → AreObjects old at rest to → at < to → Next old at rest to
next-by old at [] to r some = absurd (omega (arith, r.row, some))
next-by old at (w ∷ ws) to r some =
    let y : IsPointer w = r.objects w (inl refl) in
    let (place, is, rest) = r.row in
    let P : ℕ → Type 0 = λ n. Tiled old (at + n) ws to in
    record {
      w = w;
      later = ws;
      is = refl;
      place = place;
      pointer = y;
      tile = is;
      are = record { row = subst P (tile-object old w y) rest; objects = λ v i. r.objects v (inr i) };
    }

module _ (old : List ℕ) (at : ℕ) (rest : List ℕ) (to : ℕ) (x : Next old at rest to) where
  -- Its first word, and its size.

  header-at : x.w % 4 ≡ 2 → (l : Layout) × (layout_for (get_or old at 0) ≡ Some l)
  header-at tag =
      let P : ℕ → Type 0 = λ a. (l : Layout) × (layout_for (get_or old a 0) ≡ Some l) in
      elim x.tile [
        | inl (t, h) ↦ absurd (omega (arith, t, tag))
        | inr (inl (t, l)) ↦ subst P x.place l
        | inr (inr (t, h)) ↦ absurd (omega (arith, t, tag))
      ]

  cons-at : x.w % 4 ≡ 1 → get_or old at 0 % 4 ≡ 0 → ⊥
  cons-at tag =
      let P : ℕ → Type 0 = λ a. get_or old a 0 % 4 ≡ 0 → ⊥ in
      elim x.tile [
        | inl (t, h) ↦ subst P x.place h
        | inr (inl (t, l)) ↦ absurd (omega (arith, t, tag))
        | inr (inr (t, h)) ↦ absurd (omega (arith, t, tag))
      ]

  pub small : (get_or old at 0 % 4 ≡ 0 → ⊥) → (object_words old x.w ≡ 2) × (is_link old x.w ≡ false)
  small other = elim x.pointer [
    | inl tag ↦ (words-cons old x.w tag, (let two : (x.w % 4 == 2) ≡ false = grind (arith, nat_tests, tag) in rw two refl))
    | inr tag ↦ (let (l, e) = header-at tag in absurd (other (layout-tag (get_or old at 0) l e)))
  ]

  pub large : get_or old at 0 % 4 ≡ 0 → (object_words old x.w ≡ 1 + get_or old at 0 / 64) × (is_link old x.w ≡ is_link_header (get_or old at 0))
  large zero-tag = elim x.pointer [
    | inl tag ↦ absurd (cons-at tag zero-tag)
    | inr tag ↦
        let two : (x.w % 4 == 2) ≡ true = grind (arith, nat_tests, tag) in
        let link : is_link old x.w ≡ is_link_header (get_or old (x.w / 4) 0) = rw two refl in
        (words-header old x.w tag ∙ ap (λ a. 1 + get_or old a 0 / 64) x.place, link ∙ ap (λ a. is_link_header (get_or old a 0)) x.place)
  ]

  pub six : get_or old at 0 % 4 ≡ 0 → is_link_header (get_or old at 0) ≡ true → 6 ≤ 1 + get_or old at 0 / 64
  six zero-tag l = elim x.pointer [
    | inl tag ↦ absurd (cons-at tag zero-tag)
    | inr tag ↦ (let (lay, e) = header-at tag in omega (arith, link-arity (get_or old at 0) lay e (link-header (get_or old at 0) l)))
  ]

  pub ends : at + object_words old x.w ≤ to
  ends = tiled-order old (at + object_words old x.w) to x.later x.are.row

  pub links-step : is_link old x.w ≡ true → links_in old rest ≡ at ∷ links_in old x.later
  links-step l = ap (links_in old) x.is ∙ ap (λ b. if b then x.w / 4 ∷ links_in old x.later else links_in old x.later) l ∙ ap (λ a. a ∷ links_in old x.later) x.place

  pub links-skip : is_link old x.w ≡ false → links_in old rest ≡ links_in old x.later
  links-skip l = ap (links_in old) x.is ∙ ap (λ b. if b then x.w / 4 ∷ links_in old x.later else links_in old x.later) l

-- The row up to a place was gone through: these objects were seen and chained, and the others are beside the chain.
pub record Chaining (old mem : List ℕ) (at to head : ℕ) (ws : List ℕ) (h : Chained) : Type 0 where
  pub rest : List ℕ
  pub seen : List ℕ
  pub are : AreObjects old at rest to
  pub whole : seen ++ links_in old rest ≡ links_in old ws
  pub low : (p : ℕ) → In p seen → p + 6 ≤ at
  pub same_len : length mem ≡ length old
  pub others : (q : ℕ) → ((p : ℕ) → In p seen → q ≡ p + 2 → ⊥) → get_or mem q 0 ≡ get_or old q 0
  pub count : h.count ≡ length seen
  pub few : h.count ≤ at
  pub words : (c : ℕ → ℕ → Bool) → ((p : ℕ) → In p (links_in old ws) → IsLink c old p) → h.words ≡ bin_words_of_all old seen
  pub links : (c : ℕ → ℕ → Bool) (os further : List ℕ) → IsSingle c → Links c old head os (links_in old ws ++ further)
      → ((p : ℕ) → In p os → In p (links_in old ws) → ⊥) → Links c mem h.head (turned seen os) (links_in old rest ++ further)

pub chaining-begins : (mem : List ℕ) (from to head : ℕ) (ws : List ℕ) → AreObjects mem from ws to → Chaining mem mem from to head ws (record { head = head; count = 0; words = 0 })
chaining-begins mem from to head ws are = record {
  rest = ws;
  seen = [];
  are = are;
  whole = refl;
  low = λ p i. absurd i;
  same_len = refl;
  others = λ q out. refl;
  count = refl;
  few = omega arith;
  words = λ c each. refl;
  links = λ c os further one l apart. l;
}

module _ (old mem : List ℕ) (at to head : ℕ) (ws : List ℕ) (h : Chained) (g : Chaining old mem at to head ws h) where
  -- The word at the place is as it was.
  pub word-at : get_or mem at 0 ≡ get_or old at 0
  word-at = g.others at (λ p i e. omega (arith, g.low p i, e))

  module _ (some : at < to) where
    x : Next old at g.rest to
    x = next-by old at g.rest to g.are some

    size-at : get_or mem at 0 % 4 ≡ 0 → object_words old x.w ≡ 1 + get_or mem at 0 / 64
    size-at t = (large old at g.rest to x (omega (arith, t, word-at))).0 ∙ ap (λ a. 1 + a / 64) (sym word-at)

    pub small-ends : (get_or mem at 0 % 4 ≡ 0 → ⊥) → at + 2 ≤ to
    small-ends t = omega (arith, ends old at g.rest to x, (small old at g.rest to x (λ e. t (omega (arith, e, word-at)))).0)

    pub large-ends : get_or mem at 0 % 4 ≡ 0 → at + (1 + get_or mem at 0 / 64) ≤ to
    large-ends t = omega (arith, ends old at g.rest to x, size-at t)

    pub link-ends : get_or mem at 0 % 4 ≡ 0 → is_link_header (get_or mem at 0) ≡ true → at + 6 ≤ at + (1 + get_or mem at 0 / 64)
    link-ends t l =
        let P : ℕ → Type 0 = λ a. is_link_header a ≡ true in
        omega (arith, six old at g.rest to x (omega (arith, t, word-at)) (subst P word-at l), word-at)

    -- An object that is not chained is passed over.
    skips : (next : ℕ) → next ≡ at + object_words old x.w → is_link old x.w ≡ false → Chaining old mem next to head ws h
    skips next e none =
        let same : links_in old g.rest ≡ links_in old x.later = links-skip old at g.rest to x none in
        let P : ℕ → Type 0 = λ a. AreObjects old a x.later to in
        record {
          rest = x.later;
          seen = g.seen;
          are = subst P (sym e) x.are;
          whole = ap (λ ys. g.seen ++ ys) (sym same) ∙ g.whole;
          low = λ p i. omega (arith, g.low p i, e);
          same_len = g.same_len;
          others = g.others;
          count = g.count;
          few = omega (arith, g.few, e);
          words = g.words;
          links = λ c os further one l apart. (let Q : List ℕ → Type 0 = λ ys. Links c mem h.head (turned g.seen os) (ys ++ further) in subst Q same (g.links c os further one l apart));
        }

    pub small-skips : (get_or mem at 0 % 4 ≡ 0 → ⊥) → Chaining old mem (at + 2) to head ws h
    small-skips t =
        let (size, none) = small old at g.rest to x (λ e. t (omega (arith, e, word-at))) in
        skips (at + 2) (omega (arith, size)) none

    pub large-skips : get_or mem at 0 % 4 ≡ 0 → is_link_header (get_or mem at 0) ≡ false → Chaining old mem (at + (1 + get_or mem at 0 / 64)) to head ws h
    large-skips t none =
        skips (at + (1 + get_or mem at 0 / 64)) (omega (arith, size-at t)) ((large old at g.rest to x (omega (arith, t, word-at))).1 ∙ ap is_link_header (sym word-at) ∙ none)

    -- One that is comes first.
    pub joins : (h2 : Chained) → to ≤ length mem → length old ≤ 16777216 → get_or mem at 0 % 4 ≡ 0 → is_link_header (get_or mem at 0) ≡ true → h2.head ≡ at → h2.count ≡ h.count + 1
        → h2.words ≡ (h.words + bin_words_at mem at) % 18446744073709551616 → Chaining old (set mem (at + 2) h.head) (at + (1 + get_or mem at 0 / 64)) to head ws h2
    joins h2 inside most t link first count words =
        let is : is_link old x.w ≡ true = (large old at g.rest to x (omega (arith, t, word-at))).1 ∙ ap is_link_header (sym word-at) ∙ link in
        let step : links_in old g.rest ≡ at ∷ links_in old x.later = links-step old at g.rest to x is in
        let e : at + (1 + get_or mem at 0 / 64) ≡ at + object_words old x.w = omega (arith, size-at t) in
        let wide : at + 6 ≤ at + (1 + get_or mem at 0 / 64) = link-ends t link in
        let P : ℕ → Type 0 = λ a. AreObjects old a x.later to in
        record {
          rest = x.later;
          seen = g.seen ++ at ∷ [];
          are = subst P (sym e) x.are;
          whole = sym (one-more g.seen at (links_in old x.later)) ∙ ap (λ ys. g.seen ++ ys) (sym step) ∙ g.whole;
          low = λ p i. elim (in-split p at g.seen i) [ inl j ↦ omega (arith, g.low p j, wide) | inr same ↦ omega (arith, same, wide) ];
          same_len = length-set mem (at + 2) h.head ∙ g.same_len;
          others = λ q out. get_or-set_other mem (at + 2) q h.head 0 (λ z. out at (in-last at g.seen) z) ∙ g.others q (λ p i. out p (in-left p at g.seen i));
          count = omega (arith, count, g.count, length-last g.seen at);
          few = omega (arith, count, g.few, wide);
          words = λ c each.
              let Q : ℕ → Type 0 = λ p. In p (links_in old ws) in
              let here : bin_words_at mem at ≡ bin_words_at old at =
              ap (λ b. if b == head_word HOLDER 5 then bin_words (get_or mem (at + 1) 0) else 0) word-at
              ∙ ap (λ b. if get_or old at 0 == head_word HOLDER 5 then bin_words b else 0) (g.others (at + 1) (λ p i z. omega (arith, g.low p i, z))) in
              let all : g.seen ++ at ∷ links_in old x.later ≡ links_in old ws = ap (λ ys. g.seen ++ ys) (sym step) ∙ g.whole in
              let R : List ℕ → Type 0 = λ ys. In at ys in
              let this : IsLink c old at = each at (subst R all (in-here at g.seen (links_in old x.later))) in
              let S : (p : ℕ) → List ℕ → Type 0 = λ p ys. In p ys in
              let among : (p : ℕ) → In p g.seen → IsLink c old p = λ p i. each p (subst (S p) all (in-front p g.seen (at ∷ links_in old x.later) i)) in
              few-words h.words (bin_words_at mem at) h2.words (bin_words_of_all old g.seen) (bin_words_at old at) (length g.seen) (length old) words (g.words c each) here
              (all-held-few c old g.seen most among) (held-few c old at this) most (omega (arith, g.count, g.few, wide, large-ends t, inside, g.same_len))
              ∙ sym (held-last old g.seen at);
          links = λ c os further one l apart.
              let Q : List ℕ → Type 0 = λ ys. Links c mem h.head (turned g.seen os) (ys ++ further) in
              let before : Links c mem h.head (turned g.seen os) (at ∷ (links_in old x.later ++ further)) = subst Q step (g.links c os further one l apart) in
              let R : List ℕ → Type 0 = λ ys. In at ys in
              let there : In at (links_in old ws) = subst R (ap (λ ys. g.seen ++ ys) (sym step) ∙ g.whole) (in-here at g.seen (links_in old x.later)) in
              let after : Links c (set mem (at + 2) h.head) at (at ∷ turned g.seen os) (links_in old x.later ++ further) =
              chained-one c mem h.head at (turned g.seen os) (links_in old x.later ++ further) one (omega (arith, wide, large-ends t, inside)) before
              (λ i. elim (in-turned at g.seen os i) [ inl j ↦ omega (arith, g.low at j) | inr j ↦ apart at j there ]) in
              let S : ℕ → Type 0 = λ a. Links c (set mem (at + 2) h.head) a (turned (g.seen ++ at ∷ []) os) (links_in old x.later ++ further) in
              let U : List ℕ → Type 0 = λ ys. Links c (set mem (at + 2) h.head) at ys (links_in old x.later ++ further) in
              subst S (sym first) (subst U (sym (turned-last g.seen at os)) after);
        }

    -- The same by the word that was read.

    pub link-inside : (word : ℕ) → word ≡ get_or mem at 0 → word % 4 ≡ 0 → is_link_header word ≡ true → to ≤ length old → at + 6 ≤ length mem
    link-inside word e t l inside =
        let P : ℕ → Type 0 = λ a. (a % 4 ≡ 0) × (is_link_header a ≡ true) in
        let (tag, link) = subst P e (t, l) in
        omega (arith, link-ends tag link, large-ends tag, inside, g.same_len)

    pub passes-at : (word : ℕ) → word ≡ get_or mem at 0 → word % 4 ≡ 0 → is_link_header word ≡ false → (mem2 : List ℕ) (h2 : Chained) → mem2 ≡ mem → h2 ≡ h
        → Chaining old mem2 (at + (1 + word / 64)) to head ws h2
    passes-at word e t none mem2 h2 same also =
        let P : ℕ → Type 0 = λ a. (a % 4 ≡ 0) × (is_link_header a ≡ false) in
        let (tag, link) = subst P e (t, none) in
        let Q : ℕ → Type 0 = λ a. Chaining old mem (at + (1 + a / 64)) to head ws h in
        let R : List ℕ → Type 0 = λ m. Chaining old m (at + (1 + word / 64)) to head ws h in
        let S : Chained → Type 0 = λ k. Chaining old mem2 (at + (1 + word / 64)) to head ws k in
        subst S (sym also) (subst R (sym same) (subst Q (sym e) (large-skips tag link)))

    pub joins-at : (word : ℕ) → word ≡ get_or mem at 0 → word % 4 ≡ 0 → is_link_header word ≡ true → to ≤ length old → length old ≤ 16777216
        → (mem2 : List ℕ) (h2 : Chained) → mem2 ≡ set mem (at + 2) h.head
        → h2.head ≡ at → h2.count ≡ h.count + 1 → h2.words ≡ (h.words + bin_words_at mem at) % 18446744073709551616 → Chaining old mem2 (at + (1 + word / 64)) to head ws h2
    joins-at word e t l inside most mem2 h2 same first count words =
        let P : ℕ → Type 0 = λ a. (a % 4 ≡ 0) × (is_link_header a ≡ true) in
        let (tag, link) = subst P e (t, l) in
        let Q : ℕ → Type 0 = λ a. Chaining old (set mem (at + 2) h.head) (at + (1 + a / 64)) to head ws h2 in
        let R : List ℕ → Type 0 = λ m. Chaining old m (at + (1 + word / 64)) to head ws h2 in
        subst R (sym same) (subst Q (sym e) (joins h2 (omega (arith, inside, g.same_len)) most tag link first count words))

-- The places of a row rise.

in-row : (mem : List ℕ) (from : ℕ) (ws : List ℕ) (to q : ℕ) → AreObjects mem from ws to → In q (links_in mem ws) → from ≤ q
in-row mem from [] to q r i = absurd i
in-row mem from (w ∷ ws) to q r i =
    let y : IsPointer w = r.objects w (inl refl) in
    let (place, is, rest) = r.row in
    let P : ℕ → Type 0 = λ n. Tiled mem (from + n) ws to in
    let later : AreObjects mem (from + object_words mem w) ws to = record { row = subst P (tile-object mem w y) rest; objects = λ v j. r.objects v (inr j) } in
    let Q : Bool → Type 0 = λ b. In q (if b then w / 4 ∷ links_in mem ws else links_in mem ws) in
    elim (cases_Bool (is_link mem w)) [
      | inl l ↦ (let j : In q (w / 4 ∷ links_in mem ws) = subst Q l i in elim j [ inl e ↦ omega (arith, e, place) | inr k ↦ omega (arith, in-row mem (from + object_words mem w) ws to q later k) ])
      | inr n ↦ omega (arith, in-row mem (from + object_words mem w) ws to q later (subst Q n i))
    ]

pub row-once : (mem : List ℕ) (from : ℕ) (ws : List ℕ) (to : ℕ) → AreObjects mem from ws to → Distinct (links_in mem ws)
row-once mem from [] to r = tt
row-once mem from (w ∷ ws) to r =
    let y : IsPointer w = r.objects w (inl refl) in
    let (place, is, rest) = r.row in
    let P : ℕ → Type 0 = λ n. Tiled mem (from + n) ws to in
    let later : AreObjects mem (from + object_words mem w) ws to = record { row = subst P (tile-object mem w y) rest; objects = λ v j. r.objects v (inr j) } in
    let h : Distinct (links_in mem ws) = row-once mem (from + object_words mem w) ws to later in
    elim (cases_Bool (is_link mem w)) [
      | inl l ↦ rw l ((λ i. omega (arith, in-row mem (from + object_words mem w) ws to (w / 4) later i, place, object-some mem w)), h)
      | inr n ↦ rw n h
    ]

-- A row that ends where it begins has no object.
pub ended-row : (mem : List ℕ) (a : ℕ) (ys : List ℕ) (b : ℕ) → AreObjects mem a ys b → b ≤ a → ys ≡ []
ended-row mem a [] b r le = refl
ended-row mem a (w ∷ ys) b r le = (let (place, is, rest) = r.row in
    absurd (omega (arith, le, tiled-order mem (a + tile_words mem w) b ys rest, tile-object mem w (r.objects w (inl refl)), object-some mem w)))

-- A row that was gone through is chained.
pub chaining-ends : (old mem : List ℕ) (from at to head : ℕ) (ws : List ℕ) (h : Chained) → AreObjects old from ws to → Chaining old mem at to head ws h → to ≤ at
    → ChainsRow old mem (links_in old ws) head h
chaining-ends old mem from at to head ws h are g over =
    let none : g.rest ≡ [] = ended-row old at g.rest to g.are over in
    let all : g.seen ≡ links_in old ws = sym (no-more g.seen) ∙ ap (λ ys. g.seen ++ links_in old ys) (sym none) ∙ g.whole in
    let P : List ℕ → Type 0 = λ ys. (q : ℕ) → ((p : ℕ) → In p ys → q ≡ p + 2 → ⊥) → get_or mem q 0 ≡ get_or old q 0 in
    let others : (q : ℕ) → ((p : ℕ) → In p (links_in old ws) → q ≡ p + 2 → ⊥) → get_or mem q 0 ≡ get_or old q 0 = subst P all g.others in
    record {
      same_len = g.same_len;
      once = row-once old from ws to are;
      count = g.count ∙ ap length all;
      words = λ c each. g.words c each ∙ ap (bin_words_of_all old) all;
      others = others;
      kept = λ c one next. record {
        longer = omega (arith, g.same_len);
        weaker = λ a k t. t;
        same = λ a k past t. others a (λ p i e.
            let Q : ℕ → Type 0 = λ b. c b k ≡ true in
            let n : k ≡ NEXT = one.one (p + 2) k NEXT (subst Q e t) (next p i) in
            omega (arith, n, past));
      };
      links = λ c os further one l apart.
          let Q : List ℕ → Type 0 = λ ys. Links c mem h.head (turned g.seen os) (links_in old ys ++ further) in
          let R : List ℕ → Type 0 = λ ys. Links c mem h.head (turned ys os) further in
          subst R all (subst Q none (g.links c os further one l apart));
    }
