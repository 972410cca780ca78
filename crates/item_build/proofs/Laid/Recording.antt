-- Records are laid one after the other at the end of a room.
use Rattle.std.proofs.Common.{◌≡◌, ℕ, suc, ◌+◌, ◌*◌, ◌/◌, ◌<◌, ◌≤◌, ◌⊎◌, Bool, true, false, List, [], ◌∷◌, ◌++◌, length, get_or, set, drop, refl, sym, ◌∙◌, ap, subst, arith, inl, inr, length-set, get_or-set_other}
use Rattle.std.proofs.lemmas.Bool.{cond-true, cond-false}
use Rattle.std.proofs.lemmas.Grind.{get_or-set_at}
use Rattle.std.proofs.lemmas.List.{drop_all}
use Rattle.word_mem.specs.declared.ranges.Room.{Room}
use Rattle.plain_term.specs.declared.item.Item.{Item}
use Rattle.plain_term.specs.Bytes.{shared_bytes}
use Rattle.term_words.specs.Role.{COUNT}
use Rattle.term_build.specs.Taken.{IsFree}
use Rattle.term_build.specs.Clear.{IsRoom}
use Rattle.shared_rec.proofs.Records.{bin-stays}
use Rattle.item_build.specs.Reading.{bins_of, bytes_after, bytes_in, far_words_of, is_long, long_bins}
use Rattle.item_build.specs.Building.{LeavesRoom, Recorded, RecordedBins, Waits}
use Rattle.item_build.proofs.Laid.Chaining.{far-open, far-rest, leaves-none, leaves-then, long-far, longs-few, longs-open, next-bytes, one_if, short-is}

recorded-none : (c : ℕ → ℕ → Bool) (shared : List (List ℕ)) (x : Room) (m row : List ℕ) (serial : ℕ) → Recorded c c shared x x m m row serial 0
recorded-none c shared x m row serial = record {
  more = λ a k h. h;
  within = λ a k h. inl h;
  single = λ s. s;
  kept = record { longer = omega arith; weaker = λ a k h. h; same = λ a k content h. refl };
  each = λ i below. absurd (omega (arith, below));
  fresh = λ i below. absurd (omega (arith, below));
  records = λ v h. inl h;
  links = λ head os further l. l;
}

pub free-recorded : (c d : ℕ → ℕ → Bool) (shared : List (List ℕ)) (x y : Room) (m0 m1 row : List ℕ) (serial n : ℕ) → Recorded c d shared x y m0 m1 row serial n → LeavesRoom x y m0 m1
    → IsFree c x.top x.end → IsFree d y.top y.end
free-recorded c d shared x y m0 m1 row serial n l w free a k h = elim (l.within a k h) [
  | inl old ↦ elim (free a k old) [ inl low ↦ inl (omega (arith, low, w.front)) | inr high ↦ inr (omega (arith, high, w.back)) ]
  | inr inner ↦ inr inner.0
]

-- One more record.
recorded-more : (c d e : ℕ → ℕ → Bool) (shared : List (List ℕ)) (x y z : Room) (m0 m1 m2 row next_row : List ℕ) (rec serial next n : ℕ) → Recorded c d shared x y m0 m1 row serial n
    → Recorded d e shared y z m1 m2 (rec ∷ []) next 1 → next ≡ serial + n → LeavesRoom x y m0 m1 → LeavesRoom y z m1 m2 → IsFree c x.top x.end
    → next_row ≡ set row n rec → n < length row → Recorded c e shared x z m0 m2 next_row serial (suc n)
recorded-more c d e shared x y z m0 m1 m2 row next_row rec serial next n a b from u w free put within_row = record {
  more = λ q k h. b.more q k (a.more q k h);
  within = λ q k h. elim (b.within q k h) [
    | inl mid ↦ elim (a.within q k mid) [ inl old ↦ inl old | inr inner ↦ inr (omega (arith, inner.0, w.back), inner.1) ]
    | inr inner ↦ inr (inner.0, (omega (arith, inner.1.0, u.back), inner.1.1))
  ];
  single = λ s. b.single (a.single s);
  kept = record {
    longer = omega (arith, a.kept.longer, b.kept.longer);
    weaker = λ q k h. b.more q k (a.more q k h);
    same = λ q k content h. b.kept.same q k content (a.more q k h) ∙ a.kept.same q k content h;
  };
  each = λ i below.
      let which : (i < n) ⊎ (i ≡ n) = grind (arith, below) in
      elim which [ inl low ↦ old-one i low | inr last ↦ new-one i last ];
  fresh = λ i below.
      let which : (i < n) ⊎ (i ≡ n) = grind (arith, below) in
      elim which [
        | inl low ↦ (omega (arith, stays i low, (a.fresh i low).0, w.back), omega (arith, stays i low, (a.fresh i low).1))
        | inr last ↦
            let place : get_or next_row i 0 ≡ rec = ap (λ j. get_or next_row j 0) last ∙ here in
            (omega (arith, place, (b.fresh 0 (omega arith)).0), omega (arith, place, (b.fresh 0 (omega arith)).1, u.back))
      ];
  records = λ v h. elim (b.records v h) [
    | inl mid ↦ elim (a.records v mid) [ inl old ↦ inl old | inr (i, some) ↦ inr (i, (omega (arith, some.0), some.1 ∙ sym (stays i some.0))) ]
    | inr (i, some) ↦ (let first : i ≡ 0 = omega (arith, some.0) in inr (n, (omega arith, some.1 ∙ ap (λ j. get_or (rec ∷ []) j 0) first ∙ sym here)))
  ];
  links = λ head os further l. b.links head os further (a.links head os further l);
}
  where
    stays : (i : ℕ) → i < n → get_or next_row i 0 ≡ get_or row i 0
    stays i below = ap (λ z. get_or z i 0) put ∙ get_or-set_other row n i rec 0 (λ e. omega (arith, e, below))

    here : get_or next_row n 0 ≡ rec
    here = ap (λ z. get_or z n 0) put ∙ get_or-set_at row n n rec 0 refl within_row

    old-one : (i : ℕ) → i < n → Waits e shared m2 (get_or next_row i 0) (serial + suc i)
    old-one i below =
        let o = a.each i below in
        let off : (get_or row i 0 + 2 < y.top) ⊎ (y.end ≤ get_or row i 0 + 2) = free-recorded c d shared x y m0 m1 row serial n a u free (get_or row i 0 + 2) COUNT o.standing.counted in
        let P : ℕ → Type 0 = λ v. Waits e shared m2 v (serial + suc i) in
        subst P (sym (stays i below)) (record {
          standing = bin-stays d e m1 m2 (get_or row i 0) (serial + suc i) _ b.kept o.standing;
          count = w.others (get_or row i 0 + 2) off ∙ o.count;
          idle = λ k content h. elim (b.within (get_or row i 0 + 2) k h) [
            | inl old ↦ o.idle k content old
            | inr inner ↦ elim off [ inl low ↦ omega (arith, low, inner.0, w.order, w.front) | inr high ↦ omega (arith, high, inner.1.0) ]
          ];
        })

    new-one : (i : ℕ) → i ≡ n → Waits e shared m2 (get_or next_row i 0) (serial + suc i)
    new-one i last =
        let id : next + suc 0 ≡ serial + suc i = omega (arith, from, last) in
        let place : rec ≡ get_or next_row i 0 = sym here ∙ ap (λ j. get_or next_row j 0) (sym last) in
        let P : ℕ → Type 0 = λ v. Waits e shared m2 v (next + suc 0) in
        let Q : ℕ → Type 0 = λ k. Waits e shared m2 (get_or next_row i 0) k in
        subst Q id (subst P place (b.each 0 (omega arith)))

-- Records up to a place of the items were laid, so many.
pub record RecordedTo (i count : ℕ) (code : List Item) (serial : ℕ) (x y : Room) (m0 m1 row0 row : List ℕ) : Type 0 where
  pub counted : count + long_bins (drop i code) ≡ long_bins code
  pub front : y.top ≡ x.top
  pub back : y.end + far_words_of code ≡ x.end + far_words_of (drop i code)
  pub leaves : LeavesRoom x y m0 m1
  pub same_row : length row ≡ length row0
  pub laid : (c : ℕ → ℕ → Bool) (shared : List (List ℕ)) → IsFree c x.top x.end → length shared ≡ serial
      → RecordedBins c (shared ++ bins_of code) x y m0 m1 row serial count

pub recorded-begins : (code : List Item) (serial : ℕ) (x : Room) (m row : List ℕ) → IsRoom x m → RecordedTo 0 0 code serial x x m m row row
recorded-begins code serial x m row r = record {
  counted = omega arith;
  front = refl;
  back = refl;
  leaves = leaves-none x m r;
  same_row = refl;
  laid = λ c shared free len. record { test = c; laid = recorded-none c (shared ++ bins_of code) x m row serial };
}

-- The same, where a branch ends in other names.
pub recorded-as : (i n n2 : ℕ) (code : List Item) (serial : ℕ) (x y y2 : Room) (m0 m1 m2 row0 row row2 : List ℕ) → y2 ≡ y → m2 ≡ m1 → row2 ≡ row → n2 ≡ n
    → RecordedTo i n code serial x y m0 m1 row0 row → RecordedTo i n2 code serial x y2 m0 m2 row0 row2
recorded-as i n n2 code serial x y y2 m0 m1 m2 row0 row row2 room words places count t =
    let P : Room → Type 0 = λ z. RecordedTo i n2 code serial x z m0 m2 row0 row2 in
    let Q : List ℕ → Type 0 = λ z. RecordedTo i n2 code serial x y m0 z row0 row2 in
    let R : List ℕ → Type 0 = λ z. RecordedTo i n2 code serial x y m0 m1 row0 z in
    let S : ℕ → Type 0 = λ z. RecordedTo i z code serial x y m0 m1 row0 row in
    subst P (sym room) (subst Q (sym words) (subst R (sym places) (subst S (sym count) t)))

-- The next item is no long binary.
pub recorded-past : (i count : ℕ) (d : Item) (code : List Item) (serial : ℕ) (x y : Room) (m0 m1 row0 row : List ℕ) → i < length code → is_long (get_or code i d) ≡ false
    → RecordedTo i count code serial x y m0 m1 row0 row → RecordedTo (suc i) count code serial x y m0 m1 row0 row
recorded-past i count d code serial x y m0 m1 row0 row below short t =
    let none : one_if (is_long (get_or code i d)) ≡ 0 = cond-false (is_long (get_or code i d)) 1 0 short in
    record {
      counted = omega (arith, t.counted, longs-open code i d below, none);
      front = t.front;
      back = omega (arith, t.back, far-open code i d below, (short-is (get_or code i d) [] short).1);
      leaves = t.leaves;
      same_row = t.same_row;
      laid = t.laid;
    }

-- The next item is one: there is room for its record, and it was laid.
module _ (i count : ℕ) (d : Item) (code : List Item) (serial : ℕ) (x y : Room) (m0 m1 row0 row : List ℕ) (below : i < length code) (long : is_long (get_or code i d) ≡ true)
    (t : RecordedTo i count code serial x y m0 m1 row0 row) where
  one : one_if (is_long (get_or code i d)) ≡ 1
  one = cond-true (is_long (get_or code i d)) 1 0 long

  pub record-fits : x.top + (6 * long_bins code + far_words_of code) ≤ x.end → y.top + (4 + (bytes_after (get_or code i d) + 7) / 8) < y.end
  record-fits fits = omega (arith, t.front, t.back, t.counted, longs-open code i d below, one, far-open code i d below, long-far (get_or code i d) long, fits, far-rest i code)

  pub count-fits : length code ≤ length row0 → (count < length row) × (count < length code)
  count-fits enough =
      let few : count < length code = omega (arith, t.counted, longs-open code i d below, one, longs-few code) in
      (omega (arith, few, enough, t.same_row), few)

  pub recorded-next : (z : Room) (m2 next_row : List ℕ) (rec n id : ℕ) (rest : List Item) → n ≡ bytes_after (get_or code i d) → rest ≡ drop (suc i) code → id ≡ serial + count + 1
      → z.top ≡ y.top → z.end + (4 + (n + 7) / 8) ≡ y.end → LeavesRoom y z m1 m2 → next_row ≡ set row count rec → length code ≤ length row0
      → ((c : ℕ → ℕ → Bool) (shared : List (List ℕ)) → IsFree c y.top y.end → shared_bytes shared (serial + count + 1) ≡ bytes_in n rest
      → RecordedBins c shared y z m1 m2 (rec ∷ []) (serial + count) 1)
      → RecordedTo (suc i) (suc count) code serial x z m0 m2 row0 next_row
  recorded-next z m2 next_row rec n id rest many_bytes left id_is top end w put enough step = record {
    counted = omega (arith, t.counted, longs-open code i d below, one);
    front = top ∙ t.front;
    back = omega (arith, t.back, end, far-open code i d below, long-far (get_or code i d) long, many_bytes);
    leaves = leaves-then x y z m0 m1 m2 t.leaves w;
    same_row = ap length put ∙ length-set row count rec ∙ t.same_row;
    laid = λ c shared free len.
        let a = t.laid c shared free len in
        let S : List (List ℕ) = shared ++ bins_of code in
        let at : serial + count + long_bins (drop i code) ≡ length shared + long_bins code = omega (arith, t.counted, len) in
        let inner : IsFree a.test y.top y.end = free-recorded c a.test S x y m0 m1 row serial count a.laid t.leaves free in
        let b = step a.test S inner (next-bytes shared code i d (serial + count) below long at ∙ (λ j. bytes_in (sym many_bytes j) (sym left j))) in
        record {
          test = b.test;
          laid = recorded-more c a.test b.test S x y z m0 m1 m2 row next_row rec serial (serial + count) count a.laid b.laid refl t.leaves w free put (count-fits enough).0;
        };
  }

-- All were laid.
module _ (i count : ℕ) (code : List Item) (serial : ℕ) (x y : Room) (m0 m1 row0 row : List ℕ) (done : length code ≤ i) (t : RecordedTo i count code serial x y m0 m1 row0 row) where
  pub all-counted : count ≡ long_bins code
  all-counted = omega (arith, t.counted, ap long_bins (drop_all i code done))

  pub all-back : y.end + far_words_of code ≡ x.end
  all-back = omega (arith, t.back, ap far_words_of (drop_all i code done))

  pub all-recorded : (c : ℕ → ℕ → Bool) (shared : List (List ℕ)) → IsFree c x.top x.end → length shared ≡ serial → RecordedBins c (shared ++ bins_of code) x y m0 m1 row serial (long_bins code)
  all-recorded c shared free len =
      let P : ℕ → Type 0 = λ n. RecordedBins c (shared ++ bins_of code) x y m0 m1 row serial n in
      subst P all-counted (t.laid c shared free len)
