-- Both passes together: what the roots reach lies at the new places.
use Rattle.std.proofs.Common.{◌≡◌, ℕ, ◌+◌, ◌-◌, ◌*◌, ◌/◌, ◌%◌, ◌<◌, ◌≤◌, ◌⊎◌, ◌==◌, ◌||◌, Bool, true, false, List, length, get_or, refl, sym, ◌∙◌, ap, subst, arith, inl, inr}
use Rattle.std.proofs.lemmas.Bool.{cases_Bool}
use Rattle.std.proofs.lemmas.Bool.Decides.{nat_tests}
use Rattle.plain_term.specs.Tree.{Trees}
use Rattle.term_words.specs.Role.{NEXT, FIRST, FURTHER, NAMES, IsSingle}
use Rattle.term_words.specs.Object.{IsPointer, IsRecord, object_words}
use Rattle.term_words.specs.Reach.{Reach, IsNamed}
use Rattle.term_words.specs.Relocated.{IsMovedTo, IsCopiedTo, Relocated}
use Rattle.term_words.specs.Stands.{AllStand}
use Rattle.term_words.proofs.Placing.Roles.{object-some, record-some}
use Rattle.term_words.proofs.Reaching.Reached.{reached}
use Rattle.off_heap_list.specs.Links.{name_place}
use Rattle.object_rows.specs.Row.{is_link}
use Rattle.word_shift.specs.Shifted.{word_image, ObjectShifted}
use Rattle.word_shift.specs.Slides.{MovesWhole, RolesMoved, Slides}
use Rattle.word_shift.proofs.Roled.{Roled, roled}

pub image-other : (g : ℕ → ℕ) (w : ℕ) → (IsPointer w → ⊥) → word_image g w ≡ w
image-other g w n =
    let none : ((w % 4 == 1) || (w % 4 == 2)) ≡ false = grind (arith, nat_tests, n) in
    rw none refl

pub image-pointer : (g : ℕ → ℕ) (w : ℕ) → IsPointer w → word_image g w ≡ g (w / 4) * 4 + w % 4
image-pointer g w y =
    let some : ((w % 4 == 1) || (w % 4 == 2)) ≡ true = grind (arith, nat_tests, y) in
    rw some refl

parts-of : (x w v : ℕ) → v ≡ x * 4 + w % 4 → (v % 4 ≡ w % 4) × (v / 4 ≡ x)
parts-of x w v e = (omega (arith, e), omega (arith, e))

pub below-or : (q a : ℕ) → (q ≡ a) ⊎ ((q < a) ⊎ (a < q))
below-or q a = grind arith

module _ (g : ℕ → ℕ) (used : ℕ → Bool) (c d : ℕ → ℕ → Bool) (old mid new roots : List ℕ) (single : IsSingle c) (s : Slides g used c d old mid new roots) where
  -- A word of a row that moves by one shift.
  module _ (p n : ℕ) (m : MovesWhole g used p n) where
    whole-inside : 0 < n → g p + n ≤ length new
    whole-inside some =
        let last : g (p + (n - 1)) ≡ g p + (n - 1) = m.shift (n - 1) (p + (n - 1)) (omega (arith, some)) refl in
        omega (arith, last, some, s.words.inside (p + (n - 1)) (m.whole (p + (n - 1)) (omega arith) (omega (arith, some))))

    whole-moved : (j q : ℕ) → j < n → q ≡ g p + j → get_or new q 0 ≡ get_or mid (p + j) 0
    whole-moved j q below e =
        ap (λ a. get_or new a 0) (e ∙ sym (m.shift j (p + j) below refl)) ∙ s.words.moved (p + j) (m.whole (p + j) (omega arith) (omega (arith, below)))

    whole-roles : (j q k : ℕ) → j < n → q ≡ g p + j → c (p + j) k ≡ true → d q k ≡ true
    whole-roles j q k below e h =
        let P : ℕ → Type 0 = λ a. d a k ≡ true in
        subst P (m.shift j (p + j) below refl ∙ sym e) (s.words.roles (p + j) k (m.whole (p + j) (omega arith) (omega (arith, below))) h)

  -- An object that stands.
  module _ (w : ℕ) (r : Reach old roots w) (y : IsPointer w) (ro : Roled c old w) where
    place : word_image g w / 4 ≡ g (w / 4)
    place = (parts-of (g (w / 4)) w (word_image g w) (image-pointer g w y)).1

    shifted : ObjectShifted g old mid w
    shifted = s.relocated w r y

    not-next : (a : ℕ) → (c a FIRST ≡ true) ⊎ (c a FURTHER ≡ true) → (is_link old w ≡ false) ⊎ ((a < w / 4 + 2) ⊎ (w / 4 + 2 < a))
    not-next a roles = elim (cases_Bool (is_link old w)) [
      | inr f ↦ inl f
      | inl t ↦ elim (below-or a (w / 4 + 2)) [
        | inr apart ↦ inr apart
        | inl e ↦
            let P : ℕ → Type 0 = λ q. c q NEXT ≡ true in
            let there : c a NEXT ≡ true = subst P (sym e) (ro.next t) in
            elim roles [ inl h ↦ absurd (omega (arith, single.one a FIRST NEXT h there)) | inr h ↦ absurd (omega (arith, single.one a FURTHER NEXT h there)) ]
      ]
    ]

    not-name : (a : ℕ) → (c a FIRST ≡ true) ⊎ (c a FURTHER ≡ true) → (is_link old w ≡ false) ⊎ ((a < name_place old (w / 4)) ⊎ (name_place old (w / 4) < a))
    not-name a roles = elim (cases_Bool (is_link old w)) [
      | inr f ↦ inl f
      | inl t ↦ elim (below-or a (name_place old (w / 4))) [
        | inr apart ↦ inr apart
        | inl e ↦
            let P : ℕ → Type 0 = λ q. c q NAMES ≡ true in
            let there : c a NAMES ≡ true = subst P (sym e) (ro.names t) in
            elim roles [ inl h ↦ absurd (omega (arith, single.one a FIRST NAMES h there)) | inr h ↦ absurd (omega (arith, single.one a FURTHER NAMES h there)) ]
      ]
    ]

    pub slid-object : IsMovedTo c d old new (word_image g) g w
    slid-object =
        let m : MovesWhole g used (w / 4) (object_words old w) = s.objects w r y in
        let z : ObjectShifted g old mid w = s.relocated w r y in
        record {
          tag = (parts-of (g (w / 4)) w (word_image g w) (image-pointer g w y)).0;
          within = omega (arith, place, whole-inside (w / 4) (object_words old w) m (object-some old w));
          roles = λ j q k below e. whole-roles (w / 4) (object_words old w) m j q k below (omega (arith, e, place));
          traced = λ j q low below e.
              whole-moved (w / 4) (object_words old w) m j q below (omega (arith, e, place)) ∙ z.traced (w / 4 + j) (omega (arith, low)) (omega (arith, below));
          names = λ j q below e h.
              let (t, at) = ro.only (w / 4 + j) (omega arith) (omega (arith, below)) h in
              whole-moved (w / 4) (object_words old w) m j q below (omega (arith, e, place))
              ∙ (ap (λ a. get_or mid a 0) at ∙ (z.names t ∙ ap (λ a. g (get_or old a 0)) (sym at)));
          same = λ j q less below e h.
              whole-moved (w / 4) (object_words old w) m j q below (omega (arith, e, place))
              ∙ z.others (w / 4 + j) (omega arith) (omega (arith, less)) (omega (arith, below)) (not-next (w / 4 + j) h) (not-name (w / 4 + j) h);
        }

  pub slid-record : (v n : ℕ) → IsNamed c old roots v → IsRecord c old v n → IsCopiedTo c d old new v (g v) n
  slid-record v n named is =
      let m : MovesWhole g used v n = s.records v n named is in
      record {
        within = whole-inside v n m (record-some c old v n is);
        roles = λ j q k below e. whole-roles v n m j q k below e;
        same = λ j q below other e. whole-moved v n m j q below e ∙ s.kept v n (v + j) named is (omega arith) (omega (arith, below));
      }

pub slid : (g : ℕ → ℕ) (used : ℕ → Bool) (c d : ℕ → ℕ → Bool) (shared : List (List ℕ)) (old mid new roots : List ℕ) (ts : Trees) → IsSingle c → AllStand c shared old roots ts
    → Slides g used c d old mid new roots → Relocated c d old new roots (word_image g) g
slid g used c d shared old mid new roots ts single stand s = record {
  immediates = λ w r n. image-other g w n;
  objects = λ w r y.
      let (t, there) = reached c shared old roots ts stand w r in
      slid-object g used c d old mid new roots single s w r y (roled c shared old w t single there y);
  records = λ v n named is. slid-record g used c d old mid new roots single s v n named is;
}

-- Roles that moved are one a place.
pub single-moved : (g : ℕ → ℕ) (used : ℕ → Bool) (c d : ℕ → ℕ → Bool) → IsSingle c → RolesMoved g used c d → IsSingle d
single-moved g used c d single m = record {
  one = λ q j k x y.
      let (a, (used-a, (at-a, role-a))) = m.only q j x in
      let (b, (used-b, (at-b, role-b))) = m.only q k y in
      let same : a ≡ b = m.once a b used-a used-b (sym at-a ∙ at-b) in
      let P : ℕ → Type 0 = λ p. c p k ≡ true in
      single.one a j k role-a (subst P (sym same) role-b);
}
