-- After both passes: blocks, objects and records at the new places.
use Rattle.std.proofs.Common.{◌≡◌, ◌≢◌, ℕ, zero, suc, ◌+◌, ◌-◌, ◌/◌, ◌<◌, ◌≤◌, ◌⊎◌, Bool, true, List, length, get_or, refl, sym, ◌∙◌, ap, subst, arith, inl, inr}
use Rattle.std.proofs.lemmas.Bool.{cases_lt, cases_eq}
use Rattle.word_arena.specs.Blocks.{size_at, Blocked, IsUsed}
use Rattle.word_arena.specs.Sums.{slid}
use Rattle.word_arena.proofs.Side.Before.{before-kept, before-order}
use Rattle.word_arena.proofs.Side.Facts.{apart, block-within}
use Rattle.word_arena.proofs.Laid.Lent.{lent-began}
use Rattle.term_words.specs.Role.{RECORD_FIRST, OfRecord}
use Rattle.term_words.specs.Object.{IsRecord, object_words}
use Rattle.term_words.proofs.Placing.Roles.{record-role, record-some}
use Rattle.word_mem.specs.declared.ranges.Span.{Span}
use Rattle.word_shift.specs.Shifted.{word_image, ObjectShifted}
use Rattle.word_shift.specs.Slides.{MovesWhole, Slides}
use Rattle.word_shift.proofs.Apart.{Within, within-row}
use Rattle.block_slide.specs.Down.{packed_place, is_in_use, packed_test}
use Rattle.block_slide.specs.Held.{BlocksSlid, IsHeldAt, IsOfRow, ReachHeld, RolesHeld}
use Rattle.block_slide.specs.Parts.{nth_part, span_of, AreParts, LiesInUse, PartDone, SlidParts}
use Rattle.block_slide.specs.declared.parts.Part.{Part}
use Rattle.block_slide.specs.declared.parts.Part.TheVariants.{Objects, Words, Links}
use Rattle.block_slide.proofs.Parting.{used-on}
use Rattle.block_slide.proofs.Placed.{InBlock, in-block, in-use, one-shift, place-of, roles-come}

-- These n words from a place on lie in one block.
pub record InOne (mem : List ℕ) (v n : ℕ) : Type 0 where
  pub block : ℕ
  pub used : IsUsed mem block
  pub from : block ≤ v
  pub to : v + n ≤ block + size_at mem block

-- A word of a record behind its first has a role that no first word of a record has.
pub record IsFurther (c : ℕ → ℕ → Bool) (at : ℕ) : Type 0 where
  pub k : ℕ
  pub of : OfRecord k
  pub other : k ≢ RECORD_FIRST
  pub role : c at k ≡ true

further-at : (c : ℕ → ℕ → Bool) (at a k : ℕ) → OfRecord k → k < 8 → c a k ≡ true → at ≡ a → IsFurther c at
further-at c at a k of few role e = (let P : ℕ → Type 0 = λ z. c z k ≡ true in record { k = k; of = of; other = λ z. omega (arith, z, few); role = subst P (sym e) role })

pub record-further : (c : ℕ → ℕ → Bool) (mem : List ℕ) (v n q : ℕ) → IsRecord c mem v n → v < q → q < v + n → IsFurther c q
record-further c mem v n q (inl (serial, bytes, o, words)) from below =
    let which : (q ≡ v + 1) ⊎ ((q ≡ v + 2) ⊎ (v + 3 ≤ q)) = grind (arith, from) in
    elim which [
      | inl e ↦ further-at c q (v + 1) 6 (inr (inl refl)) (omega arith) o.second e
      | inr (inl e) ↦ further-at c q (v + 2) 2 (inl refl) (omega arith) o.counted e
      | inr (inr far) ↦ further-at c q q 6 (inr (inl refl)) (omega arith) (o.others q far (omega (arith, below, words))) refl
    ]
record-further c mem v n q (inr (name, arity, o, words)) from below =
    let which : (q ≡ v + 1) ⊎ ((q ≡ v + 2) ⊎ (q ≡ v + 3)) = grind (arith, from, below, words) in
    elim which [
      | inl e ↦ further-at c q (v + 1) 6 (inr (inl refl)) (omega arith) o.second e
      | inr (inl e) ↦ further-at c q (v + 2) 2 (inl refl) (omega arith) o.counted e
      | inr (inr e) ↦ further-at c q (v + 3) 6 (inr (inl refl)) (omega arith) o.fourth e
    ]

-- Words side by side of which none but the first is a block's first word lie in one block.
pub one-block : (mem : List ℕ) (v m k : ℕ) → Blocked mem → IsHeldAt mem v k → ((q : ℕ) → v < q → q < v + suc m → (r : ℕ) × ((r ≢ RECORD_FIRST) × IsHeldAt mem q r)) → InOne mem v (suc m)
one-block mem v zero k blocked first each = record { block = first.block; used = first.used; from = first.from; to = omega (arith, first.below) }
one-block mem v (suc m) k blocked first each =
    let o : InOne mem v (suc m) = one-block mem v m k blocked first (λ q above below. each q above (omega (arith, below))) in
    let (r, (other, b)) = each (v + suc m) (omega arith) (omega arith) in
    let above : b.block < v + suc m = b.inner other in
    let high : v + suc (suc m) ≤ o.block + size_at mem o.block =
    elim (cases_eq o.block b.block) as (λ _. v + suc (suc m) ≤ o.block + size_at mem o.block) [
      | inl e ↦ omega (arith, b.below, e, ap (λ z. z + size_at mem z) e)
      | inr far ↦ elim (cases_lt o.block b.block) as (λ _. v + suc (suc m) ≤ o.block + size_at mem o.block) [
        | inl below ↦ absurd (omega (arith, o.to, above, apart mem o.block b.block blocked o.used.begins b.used.begins below))
        | inr over ↦ absurd (omega (arith, o.from, b.below, apart mem b.block o.block blocked b.used.begins o.used.begins (omega (arith, far, over))))
      ]
    ] in
    record { block = o.block; used = o.used; from = o.from; to = high }

-- The words of a part, and its end, move by one shift.
pub part-shift : (old : List ℕ) (xs : List Part) (i q : ℕ) → Blocked old → AreParts old xs → i < length xs → (span_of (nth_part xs i)).start ≤ q → q ≤ (span_of (nth_part xs i)).end
    → packed_place old q ≡ packed_place old (span_of (nth_part xs i)).start + (q - (span_of (nth_part xs i)).start)
part-shift old xs i q blocked parts listed low high =
    let lies : LiesInUse old (nth_part xs i) = parts.each i listed in
    one-shift old blocked lies.block (span_of (nth_part xs i)).start q (q - (span_of (nth_part xs i)).start) lies.used (omega (arith, lies.behind)) (omega (arith, low))
    (omega (arith, high, lies.inside))

module _ (old new : List ℕ) (xs : List Part) (blocked : Blocked old) (parts : AreParts old xs) (s : SlidParts old new xs) where
  mid-used : (p : ℕ) → IsUsed old p → IsUsed s.mid p
  mid-used p used = used-on old s.mid p blocked s.headers used

  mid-size : (p : ℕ) → IsUsed old p → size_at s.mid p ≡ size_at old p
  mid-size p used = ap (λ h. h / 16) (s.headers.same p used.begins)

  mid-slid : (p a : ℕ) → slid s.mid p a ≡ slid old p a
  mid-slid p a = ap (λ n. a - n) (before-kept old s.mid p blocked s.headers)

  pub word-moved : (p a : ℕ) → IsUsed old p → p ≤ a → a < p + size_at old p → get_or new (packed_place old a) 0 ≡ get_or s.mid a 0
  word-moved p a used low high =
      ap (λ q. get_or new q 0) (place-of old blocked p a used low (omega (arith, high)) ∙ sym (mid-slid p a))
      ∙ s.packed.words p a (mid-used p used) low (omega (arith, high, mid-size p used))

  pub place-inside : (p a : ℕ) → IsUsed old p → p ≤ a → a < p + size_at old p → packed_place old a < length new
  place-inside p a used low high =
      omega (arith, place-of old blocked p a used low (omega (arith, high)), high, (block-within old p blocked used.begins).to, s.packed.same_len, s.headers.same_len)

  pub used-moved : (a : ℕ) → is_in_use old a ≡ true → get_or new (packed_place old a) 0 ≡ get_or s.mid a 0
  used-moved a t = (let x : InBlock old a = in-block old a t in word-moved x.block a x.used x.from x.below)

  pub used-inside : (a : ℕ) → is_in_use old a ≡ true → packed_place old a < length new
  used-inside a t = (let x : InBlock old a = in-block old a t in place-inside x.block a x.used x.from x.below)

  -- A word of the front of a block is in no part.
  front-kept : (p a : ℕ) → IsUsed old p → p ≤ a → a < p + 2 → a < p + size_at old p → get_or s.mid a 0 ≡ get_or old a 0
  front-kept p a used low near high = s.shifted.others a (λ i below inside.
      let l : LiesInUse old (nth_part xs i) = parts.each i inside in
      elim (cases_eq l.block p) as (λ _. (a < (span_of (nth_part xs i)).start) ⊎ ((span_of (nth_part xs i)).end ≤ a)) [
        | inl e ↦ inl (omega (arith, l.behind, near, e))
        | inr other ↦ elim (cases_lt l.block p) as (λ _. (a < (span_of (nth_part xs i)).start) ⊎ ((span_of (nth_part xs i)).end ≤ a)) [
          | inl first ↦ inr (omega (arith, l.inside, low, apart old l.block p blocked l.used.begins used.begins first))
          | inr second ↦ inl (omega (arith, l.behind, high, apart old p l.block blocked used.begins l.used.begins (omega (arith, other, second))))
        ]
      ])

  used-two : (p : ℕ) → IsUsed old p → 2 ≤ size_at old p
  used-two p used = (block-within old p blocked used.begins).header.owned used.kind

  place-front : (p : ℕ) → IsUsed old p → packed_place old p ≡ slid old p p
  place-front p used = place-of old blocked p p used (omega arith) (omega arith)

  pub blocks-slid : BlocksSlid old new
  blocks-slid = record {
    same_len = s.packed.same_len ∙ s.headers.same_len;
    used = λ p used.
        let P : ℕ → Type 0 = λ q. IsUsed new q in
        subst P (mid-slid p p ∙ sym (place-front p used)) (s.packed.used p (mid-used p used));
    headers = λ p used.
        let two : 2 ≤ size_at old p = used-two p used in
        word-moved p p used (omega arith) (omega (arith, two)) ∙ front-kept p p used (omega arith) (omega arith) (omega (arith, two));
    owners = λ p used.
        let two : 2 ≤ size_at old p = used-two p used in
        ap (λ q. get_or new q 0) (sym (one-shift old blocked p p (p + 1) 1 used (omega arith) refl (omega (arith, two))))
        ∙ (word-moved p (p + 1) used (omega arith) (omega (arith, two)) ∙ front-kept p (p + 1) used (omega arith) (omega arith) (omega (arith, two)));
    only = λ r is.
        let (p, used, e) = s.packed.only r is in
        let was : IsUsed old p =
        record { begins = lent-began old s.mid p blocked s.headers used.begins; kind = omega (arith, used.kind, s.headers.same p (lent-began old s.mid p blocked s.headers used.begins)) } in
        (p, was, place-front p was ∙ (sym (mid-slid p p) ∙ e));
    order = λ p q one two below. omega (arith, place-front p one, place-front q two, before-order old p q blocked one two below);
    last = s.packed.last;
  }

  -- Words of one block are used, and move by one shift.
  pub moves-whole : (b v n : ℕ) → IsUsed old b → b ≤ v → v + n ≤ b + size_at old b → MovesWhole (packed_place old) (is_in_use old) v n
  moves-whole b v n used low high = record {
    whole = λ q from below. in-use old q (record { block = b; used = used; from = omega (arith, low, from); below = omega (arith, below, high) });
    shift = λ j q below e. one-shift old blocked b v q j used low e (omega (arith, below, e, high));
  }

  -- The words of a part.
  module _ (i : ℕ) (listed : i < length xs) where
    part-lies : LiesInUse old (nth_part xs i)
    part-lies = parts.each i listed

    part-used : (q : ℕ) → (span_of (nth_part xs i)).start ≤ q → q < (span_of (nth_part xs i)).end → is_in_use old q ≡ true
    part-used q low high =
        in-use old q (record { block = part-lies.block; used = part-lies.used; from = omega (arith, part-lies.behind, low); below = omega (arith, high, part-lies.inside) })

    module _ (span : Span) where
      pub words-lie : nth_part xs i ≡ Words span → (q : ℕ) → span.start ≤ q → q < span.end
          → get_or new (packed_place old q) 0 ≡ word_image (packed_place old) (get_or old q 0)
      words-lie is q low high =
          let P : Part → Type 0 = λ x. PartDone (packed_place old) old s.mid x in
          let U : Part → Type 0 = λ x. (span_of x).start ≤ q → q < (span_of x).end → is_in_use old q ≡ true in
          used-moved q (subst U is (part-used q) low high) ∙ subst P is (s.shifted.done i listed listed) q low high

      pub links-lie : nth_part xs i ≡ Links span → (q : ℕ) → span.start ≤ q → q < span.end
          → get_or new (packed_place old q) 0 ≡ packed_place old (get_or old q 0)
      links-lie is q low high =
          let P : Part → Type 0 = λ x. PartDone (packed_place old) old s.mid x in
          let U : Part → Type 0 = λ x. (span_of x).start ≤ q → q < (span_of x).end → is_in_use old q ≡ true in
          used-moved q (subst U is (part-used q) low high) ∙ subst P is (s.shifted.done i listed listed) q low high

  pub others-lie : (q : ℕ) → is_in_use old q ≡ true → ((i : ℕ) → i < length xs → (q < (span_of (nth_part xs i)).start) ⊎ ((span_of (nth_part xs i)).end ≤ q))
      → get_or new (packed_place old q) 0 ≡ get_or old q 0
  others-lie q used out = used-moved q used ∙ s.shifted.others q (λ i below inside. out i inside)

  -- An object in a row was relocated, and is whole in a block in use.
  module _ (w : ℕ) (r : IsOfRow old xs w) where
    row-lies : LiesInUse old (Objects r.span)
    row-lies = (let P : Part → Type 0 = λ x. LiesInUse old x in subst P r.is (parts.each r.part r.listed))

    pub row-within : Within old r.span.start r.span.end w
    row-within = within-row old r.span.start r.span.end r.ws r.are w r.member

    pub row-shifted : ObjectShifted (packed_place old) old s.mid w
    row-shifted = (let P : Part → Type 0 = λ x. PartDone (packed_place old) old s.mid x in subst P r.is (s.shifted.done r.part r.listed r.listed) r.ws r.are w r.member)

    pub row-whole : MovesWhole (packed_place old) (is_in_use old) (w / 4) (object_words old w)
    row-whole = moves-whole row-lies.block (w / 4) (object_words old w) row-lies.used (omega (arith, row-lies.behind, row-within.low)) (omega (arith, row-lies.inside, row-within.high))

  module _ (c : ℕ → ℕ → Bool) (held : RolesHeld c old xs) where
    pub record-kept : (q k : ℕ) → c q k ≡ true → OfRecord k → get_or s.mid q 0 ≡ get_or old q 0
    record-kept q k role of = s.shifted.others q (λ i below inside. held.apart q k role of i inside)

    pub record-one : (v n : ℕ) → IsRecord c old v n → InOne old v n
    record-one v zero is = absurd (omega (arith, record-some c old v zero is))
    record-one v (suc m) is =
        let (k, (of, role)) = record-role c old v (suc m) v is (omega arith) (omega arith) in
        one-block old v m k blocked (held.within v k role) (λ q above below.
        (let f : IsFurther c q = record-further c old v (suc m) q is above below in (f.k, (f.other, held.within q f.k f.role))))

    pub record-whole : (v n : ℕ) → IsRecord c old v n → MovesWhole (packed_place old) (is_in_use old) v n
    record-whole v n is = (let o : InOne old v n = record-one v n is in moves-whole o.block v n o.used (omega (arith, o.from)) o.to)

    pub slides : (roots : List ℕ) → ReachHeld old roots xs → Slides (packed_place old) (is_in_use old) c (packed_test c old) old s.mid new roots
    slides roots reach = record {
      relocated = λ w r y. row-shifted w (reach.objects w r y);
      objects = λ w r y. row-whole w (reach.objects w r y);
      kept = λ v n q named is low high. (let (k, (of, role)) = record-role c old v n q is low high in record-kept q k role of);
      records = λ v n named is. record-whole v n is;
      words = record {
        inside = used-inside;
        moved = used-moved;
        roles = λ a k t role. roles-come c old a k blocked t role;
      };
    }
