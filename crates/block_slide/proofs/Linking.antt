-- Chains and counts after both passes: holders, funs and records at the new places.
use Rattle.std.proofs.Common.{◌≡◌, ◌≢◌, ℕ, zero, suc, ◌+◌, ◌-◌, ◌*◌, ◌/◌, ◌%◌, ◌<◌, ◌≤◌, ◌⊎◌, nat_le, Bool, true, List, length, get_or, refl, sym, ◌∙◌, ap, subst, arith, inl, inr}
use Rattle.std.proofs.lemmas.Bool.{cases_Bool, cases_lt, cases_eq}
use Rattle.word_arena.specs.Blocks.{Blocked}
use Rattle.word_arena.specs.Sums.{free_before, slid}
use Rattle.word_arena.proofs.Side.Before.{before-order}
use Rattle.word_arena.proofs.Side.Facts.{block-within}
use Rattle.term_words.specs.Role.{NEXT, FIRST, FURTHER, NAMES, RECORD_FIRST, IsSingle, OfRecord}
use Rattle.term_words.specs.Object.{IsRecord, object_words}
use Rattle.term_words.specs.Reach.{first_traced}
use Rattle.term_words.specs.Tiled.{IsTile}
use Rattle.term_words.specs.Relocated.{IsCopiedTo}
use Rattle.term_words.proofs.Placing.Roles.{record-role}
use Rattle.shared_rec.proofs.Records.{record-copied, record-within}
use Rattle.off_heap_list.specs.Links.{name_place, IsLinkHeader, IsLink}
use Rattle.off_heap_list.specs.Elsewhere.{IsLinkTo, LinksMoved}
use Rattle.object_rows.specs.Row.{is_link, is_link_header}
use Rattle.word_shift.specs.Shifted.{IsShifted}
use Rattle.word_shift.specs.Slides.{MovesWhole}
use Rattle.word_shift.proofs.Objects.{link-first, traced-boxed}
use Rattle.word_shift.proofs.Roled.{link-is}
use Rattle.word_shift.proofs.Sliding.{below-or}
use Rattle.word_shift.proofs.Still.{row-tile, tile-layout}
use Rattle.block_slide.specs.Down.{packed_place, is_in_use, packed_test}
use Rattle.block_slide.specs.Held.{IsHeldAt, IsOfRow, LinksHeld, RolesHeld}
use Rattle.block_slide.specs.Parts.{AreParts, SlidParts}
use Rattle.block_slide.specs.declared.parts.Part.{Part}
use Rattle.block_slide.proofs.Placed.{InBlock, few-before, in-block, place-of, places-differ, roles-come, roles-only}
use Rattle.block_slide.proofs.Standing.{IsFurther, record-further, record-kept, record-whole, row-shifted, row-whole, row-within, used-inside, used-moved}

place-zero : (mem : List ℕ) → packed_place mem 0 ≡ 0
place-zero mem = elim (cases_Bool (nat_le 0 (length mem))) [ inl t ↦ (rw t (omega arith)) | inr f ↦ (rw f refl) ]

-- The first word of a holder or a fun.
header-kind : (h : ℕ) → IsLinkHeader h → (h / 4 % 16 ≡ 8) ⊎ (h / 4 % 16 ≡ 5)
header-kind h (inl e) = inl (omega (arith, e))
header-kind h (inr (k, (few, e))) = inr (omega (arith, e))

header-link : (mem : List ℕ) (w : ℕ) → w % 4 ≡ 2 → IsLinkHeader (get_or mem (w / 4) 0) → is_link mem w ≡ true
header-link mem w tag is = link-is w (get_or mem (w / 4) 0) tag (header-kind (get_or mem (w / 4) 0) is)

header-of-link : (mem : List ℕ) (w : ℕ) → IsLinkHeader (get_or mem (w / 4) 0) → is_link_header (get_or mem (w / 4) 0) ≡ true
header-of-link mem w is = link-is 2 (get_or mem (w / 4) 0) (omega arith) (header-kind (get_or mem (w / 4) 0) is)

link-untraced : (mem : List ℕ) (w : ℕ) → w % 4 ≡ 2 → IsTile mem w → IsLinkHeader (get_or mem (w / 4) 0) → first_traced mem w ≡ 6
link-untraced mem w tag tile is =
    let (l, e) = tile-layout mem w tag tile in
    traced-boxed mem w l tag e ∙ link-first (get_or mem (w / 4) 0) l e (header-of-link mem w is)

-- Words that come to places side by side stood side by side, where the second was no block's first word.
side-by-side : (mem : List ℕ) (a b k r : ℕ) → Blocked mem → IsHeldAt mem a k → IsHeldAt mem b r → r ≢ RECORD_FIRST → packed_place mem b ≡ packed_place mem a + 1 → b ≡ a + 1
side-by-side mem a b k r blocked x y other e =
    let above : y.block < b = y.inner other in
    let at-a : packed_place mem a ≡ slid mem x.block a = place-of mem blocked x.block a x.used (omega (arith, x.from)) (omega (arith, x.below)) in
    let at-b : packed_place mem b ≡ slid mem y.block b = place-of mem blocked y.block b y.used (omega (arith, y.from)) (omega (arith, y.below)) in
    let few-a : free_before mem x.block ≤ x.block = few-before mem blocked x.block x.used in
    let few-b : free_before mem y.block ≤ y.block = few-before mem blocked y.block y.used in
    elim (cases_eq x.block y.block) as (λ _. b ≡ a + 1) [
      | inl same ↦ omega (arith, e, at-a, at-b, few-a, few-b, x.from, y.from, ap (free_before mem) same)
      | inr far ↦ elim (cases_lt x.block y.block) as (λ _. b ≡ a + 1) [
        | inl below ↦ absurd (omega (arith, e, at-a, at-b, few-a, few-b, x.from, x.below, above, y.below, before-order mem x.block y.block blocked x.used y.used below))
        | inr over ↦
            absurd (omega (arith, e, at-a, at-b, few-a, few-b, x.from, x.below, y.from, y.below, before-order mem y.block x.block blocked y.used x.used (omega (arith, far, over))))
      ]
    ]

-- The word that comes to a place, with a role of a record.
record Source (c : ℕ → ℕ → Bool) (mem : List ℕ) (at : ℕ) : Type 0 where
  pub a : ℕ
  pub k : ℕ
  pub of : OfRecord k
  pub used : is_in_use mem a ≡ true
  pub comes : at ≡ packed_place mem a
  pub role : c a k ≡ true

module _ (c : ℕ → ℕ → Bool) (old new : List ℕ) (xs : List Part) (blocked : Blocked old) (parts : AreParts old xs) (s : SlidParts old new xs) (single : IsSingle c)
    (held : RolesHeld c old xs) where
  -- Words that move by one shift.
  module _ (p n : ℕ) (m : MovesWhole (packed_place old) (is_in_use old) p n) where
    run-used : (j a : ℕ) → j < n → a ≡ p + j → is_in_use old a ≡ true
    run-used j a below e = m.whole a (omega (arith, e)) (omega (arith, below, e))

    run-at : (j a q : ℕ) → j < n → a ≡ p + j → q ≡ packed_place old p + j → q ≡ packed_place old a
    run-at j a q below e f = f ∙ sym (m.shift j a below e)

    run-moved : (j a q : ℕ) → j < n → a ≡ p + j → q ≡ packed_place old p + j → get_or new q 0 ≡ get_or s.mid a 0
    run-moved j a q below e f = ap (λ z. get_or new z 0) (run-at j a q below e f) ∙ used-moved old new xs blocked parts s a (run-used j a below e)

    run-roles : (j a q k : ℕ) → j < n → a ≡ p + j → q ≡ packed_place old p + j → c a k ≡ true → packed_test c old q k ≡ true
    run-roles j a q k below e f role =
        let P : ℕ → Type 0 = λ z. packed_test c old z k ≡ true in
        subst P (sym (run-at j a q below e f)) (roles-come c old a k blocked (run-used j a below e) role)

    run-inside : 0 < n → packed_place old p + n ≤ length new
    run-inside some =
        omega (
          arith,
          some,
          m.shift (n - 1) (p + (n - 1)) (omega (arith, some)) refl,
          used-inside old new xs blocked parts s (p + (n - 1)) (run-used (n - 1) (p + (n - 1)) (omega (arith, some)) refl),
        )

  -- A holder or a fun.
  module _ (p : ℕ) (k : IsLink c old p) (row : IsOfRow old xs (p * 4 + 2)) (only : (q : ℕ) → p ≤ q → q < p + 6 → c q NAMES ≡ true → q ≡ name_place old p) where
    abbrev w : ℕ
    w = p * 4 + 2

    here : w / 4 ≡ p
    here = omega arith

    header : IsLinkHeader (get_or old (w / 4) 0)
    header = (let P : ℕ → Type 0 = λ x. IsLinkHeader (get_or old x 0) in subst P (sym here) k.kind)

    leads : is_link old w ≡ true
    leads = header-link old w (omega arith) header

    many : 6 ≤ object_words old w
    many = (row-within old new xs blocked parts s w row).long leads

    untraced : first_traced old w ≡ 6
    untraced = link-untraced old w (omega arith) (row-tile old row.span.start row.span.end row.ws row.are.row w row.member) header

    z : IsShifted (packed_place old) old s.mid p (first_traced old w) (object_words old w) (is_link old w) (name_place old p)
    z =
        let P : ℕ → Type 0 = λ x. IsShifted (packed_place old) old s.mid x (first_traced old w) (object_words old w) (is_link old w) (name_place old x) in
        subst P here (row-shifted old new xs blocked parts s w row)

    m : MovesWhole (packed_place old) (is_in_use old) p (object_words old w)
    m = (let P : ℕ → Type 0 = λ x. MovesWhole (packed_place old) (is_in_use old) x (object_words old w) in subst P here (row-whole old new xs blocked parts s w row))

    pub link-used : is_in_use old p ≡ true
    link-used = m.whole p (omega arith) (omega (arith, many))

    apart-from : (a x r : ℕ) → (c a FIRST ≡ true) ⊎ (c a FURTHER ≡ true) → c x r ≡ true → (r ≡ NEXT) ⊎ (r ≡ NAMES) → (a < x) ⊎ (x < a)
    apart-from a x r roles there which = elim (below-or a x) [
      | inr far ↦ far
      | inl e ↦
          let P : ℕ → Type 0 = λ y. c y r ≡ true in
          let at : c a r ≡ true = subst P (sym e) there in
          elim roles [ inl h ↦ absurd (omega (arith, single.one a FIRST r h at, which)) | inr h ↦ absurd (omega (arith, single.one a FURTHER r h at, which)) ]
    ]

    pub link-to : IsLinkTo (packed_place old) c (packed_test c old) old new p
    link-to = record {
      somewhere =
          let b : IsHeldAt old p FIRST = held.within p FIRST k.first in
          let above : b.block < p = b.inner (λ z. omega (arith, z)) in
          omega (arith, place-of old blocked b.block p b.used (omega (arith, b.from)) (omega (arith, b.below)), few-before old blocked b.block b.used, above);
      within = omega (arith, many, run-inside p (object_words old w) m (omega (arith, many)));
      roles = λ j a q r below e f role. run-roles p (object_words old w) m j a q r (omega (arith, below, many)) e f role;
      same = λ j a q below e f roles.
          run-moved p (object_words old w) m j a q (omega (arith, below, many)) e f
          ∙ z.others a (omega (arith, e)) (omega (arith, e, below, untraced)) (omega (arith, e, below, many)) (inr (apart-from a (p + 2) NEXT roles k.next (inl refl)))
          (inr (apart-from a (name_place old p) NAMES roles k.names (inr refl)));
      names = λ j a q below e f role.
          let at : a ≡ name_place old p = only a (omega (arith, e)) (omega (arith, e, below)) role in
          run-moved p (object_words old w) m j a q (omega (arith, below, many)) e f
          ∙ (ap (λ x. get_or s.mid x 0) at ∙ (z.names leads ∙ ap (λ x. packed_place old (get_or old x 0)) (sym at)));
      next = run-moved p (object_words old w) m 2 (p + 2) (packed_place old p + 2) (omega (arith, many)) refl refl ∙ z.next leads;
    }

  record-copy : (v n : ℕ) → IsRecord c old v n → IsCopiedTo c (packed_test c old) old new v (packed_place old v) n
  record-copy v n is =
      let m : MovesWhole (packed_place old) (is_in_use old) v n = record-whole old new xs blocked parts s c held v n is in
      let four : 4 ≤ n = (record-within c old v n is).1 in
      record {
        within = run-inside v n m (omega (arith, four));
        roles = λ j q k below e role. run-roles v n m j (v + j) q k below refl e role;
        same = λ j q below other e.
            let (k, (of, role)) = record-role c old v n (v + j) is (omega arith) (omega (arith, below)) in
            run-moved v n m j (v + j) q below refl e ∙ record-kept old new xs blocked parts s c held (v + j) k role of;
      }

  record-count : (v n : ℕ) → IsRecord c old v n → get_or new (packed_place old v + 2) 0 ≡ get_or old (v + 2) 0
  record-count v n is =
      let m : MovesWhole (packed_place old) (is_in_use old) v n = record-whole old new xs blocked parts s c held v n is in
      let four : 4 ≤ n = (record-within c old v n is).1 in
      let (k, (of, role)) = record-role c old v n (v + 2) is (omega arith) (omega (arith, four)) in
      run-moved v n m 2 (v + 2) (packed_place old v + 2) (omega (arith, four)) refl refl ∙ record-kept old new xs blocked parts s c held (v + 2) k role of

  record-used : (v n : ℕ) → IsRecord c old v n → is_in_use old v ≡ true
  record-used v n is =
      (record-whole old new xs blocked parts s c held v n is).whole v (omega arith) (omega (arith, (record-within c old v n is).1))

  -- A record that stands at the new places came from one.
  module _ (u m : ℕ) (is : IsRecord (packed_test c old) new u m) where
    four : 4 ≤ m
    four = (record-within (packed_test c old) new u m is).1

    source : (j : ℕ) → j < m → Source c old (u + j)
    source j below =
        let (k, (of, allowed)) = record-role (packed_test c old) new u m (u + j) is (omega arith) (omega (arith, below)) in
        let (a, (used, (comes, role))) = roles-only c old (u + j) k blocked allowed in
        record { a = a; k = k; of = of; used = used; comes = comes; role = role }

    further : (j : ℕ) → 0 < j → j < m → (z : Source c old (u + j)) × (z.k ≢ RECORD_FIRST)
    further j some below =
        let f : IsFurther (packed_test c old) (u + j) = record-further (packed_test c old) new u m (u + j) is (omega (arith, some)) (omega (arith, below)) in
        let (a, (used, (comes, role))) = roles-only c old (u + j) f.k blocked f.role in (
          record { a = a; k = f.k; of = f.of; used = used; comes = comes; role = role },
          f.other,
        )

    module _ (first : Source c old (u + 0)) where
      sources : (j : ℕ) → j < m → (x : Source c old (u + j)) → x.a ≡ first.a + j
      sources zero below x = omega (arith, places-differ old blocked x.a first.a x.used first.used (sym x.comes ∙ first.comes))
      sources (suc j) below x =
          let y : Source c old (u + j) = source j (omega (arith, below)) in
          let was : y.a ≡ first.a + j = sources j (omega (arith, below)) y in
          let (z, other) = further (suc j) (omega arith) below in
          let same : z.a ≡ x.a = places-differ old blocked z.a x.a z.used x.used (sym z.comes ∙ x.comes) in
          omega (arith, was, same, side-by-side old y.a z.a y.k z.k blocked (held.within y.a y.k y.role) (held.within z.a z.k z.role) other (omega (arith, z.comes, y.comes)))

      origin : IsCopiedTo (packed_test c old) c new old u first.a m
      origin = record {
        within =
            let x : Source c old (u + (m - 1)) = source (m - 1) (omega (arith, four)) in
            let b : InBlock old x.a = in-block old x.a x.used in
            omega (arith, sources (m - 1) (omega (arith, four)) x, b.below, (block-within old b.block blocked b.used.begins).to, four);
        roles = λ j q k below e allowed.
            let (a, (used, (comes, role))) = roles-only c old (u + j) k blocked allowed in
            let x : Source c old (u + j) = source j below in
            let same : a ≡ x.a = places-differ old blocked a x.a used x.used (sym comes ∙ x.comes) in
            let P : ℕ → Type 0 = λ y. c y k ≡ true in
            subst P (omega (arith, same, sources j below x, e)) role;
        same = λ j q below other e.
            let x : Source c old (u + j) = source j below in
            let at : q ≡ x.a = omega (arith, e, sources j below x) in
            ap (λ y. get_or old y 0) at
            ∙ (sym (record-kept old new xs blocked parts s c held x.a x.k x.role x.of)
            ∙ (sym (used-moved old new xs blocked parts s x.a x.used) ∙ ap (λ y. get_or new y 0) (sym x.comes)));
      }

      came : (v : ℕ) × (n : ℕ) × ((u ≡ packed_place old v) × IsRecord c old v n)
      came = (first.a, m, (omega (arith, first.comes), record-copied (packed_test c old) c new old u first.a m origin is))

    pub record-came : (v : ℕ) × (n : ℕ) × ((u ≡ packed_place old v) × IsRecord c old v n)
    record-came = came (source 0 (omega (arith, four)))

  pub links-slid : (ps : List ℕ) → LinksHeld c old xs ps → LinksMoved (packed_place old) c (packed_test c old) old new ps
  links-slid ps l = record {
    zero = place-zero old;
    objects = λ p i. link-to p (l.links p i) (l.rows p i) (λ q. l.only p q i);
    once = λ p q i j e. places-differ old blocked p q (link-used p (l.links p i) (l.rows p i) (λ a. l.only p a i)) (link-used q (l.links q j) (l.rows q j) (λ a. l.only q a j)) e;
    records = record-copy;
    counts = record-count;
    apart = λ v u n m a b e. places-differ old blocked v u (record-used v n a) (record-used u m b) e;
    no_more = record-came;
  }
