-- Holders are laid one after the other over records that wait.
use Rattle.std.proofs.Common.{◌≡◌, ℕ, suc, ◌+◌, ◌*◌, ◌/◌, ◌<◌, ◌≤◌, ◌⊎◌, Bool, true, List, [], ◌∷◌, ◌++◌, length, get_or, refl, sym, ◌∙◌, ap, subst, arith, inl, inr}
use Rattle.word_mem.specs.declared.ranges.Room.{Room}
use Rattle.plain_term.specs.Tree.Tree.{Shared}
use Rattle.term_tags.specs.Words.{boxed_word}
use Rattle.term_words.specs.Role.{COUNT, NAMES}
use Rattle.term_words.specs.Kept.{Kept}
use Rattle.term_words.proofs.Framing.Frames.{frame}
use Rattle.term_words.proofs.ByKind.Shapes.{un-shared}
use Rattle.term_build.specs.Taken.{IsFree}
use Rattle.shared_rec.specs.Record.{count_in}
use Rattle.shared_rec.proofs.Records.{bin-stays}
use Rattle.off_heap_list.specs.Links.{Links}
use Rattle.item_build.specs.declared.bins.Making.{Making}
use Rattle.item_build.specs.Building.{IsNewBin, LaidOver, LeavesBut, OverBins, RecordsWait, Waits, holders_from}

pub over-none : (c : ℕ → ℕ → Bool) (shared : List (List ℕ)) (top : ℕ) (m row : List ℕ) (head serial : ℕ) → LaidOver c c shared top top m m row head head serial 0
over-none c shared top m row head serial = record {
  more = λ a k h. h;
  within = λ a k h. inl h;
  single = λ s. s;
  kept = record { longer = omega arith; weaker = λ a k h. h; same = λ a k content h. refl };
  bins = λ i below. absurd (omega (arith, below));
  names = λ i below. absurd (omega (arith, below));
  nexts = λ a h. inl h;
  links = λ os further s l. l;
}

-- What is free of the first test from the top on is free of the next one from the new top on.
pub free-over : (c d : ℕ → ℕ → Bool) (shared : List (List ℕ)) (top to limit : ℕ) (m0 m1 row : List ℕ) (h0 h1 serial n : ℕ) → LaidOver c d shared top to m0 m1 row h0 h1 serial n → top ≤ to
    → IsFree c top limit → IsFree d to limit
free-over c d shared top to limit m0 m1 row h0 h1 serial n l order free a k h = elim (l.within a k h) [
  | inl old ↦ elim (free a k old) [ inl low ↦ inl (omega (arith, low, order)) | inr high ↦ inr high ]
  | inr inner ↦ inl inner.1.0
]

-- The record of a new holder.
pub new-record : (d : ℕ → ℕ → Bool) (shared : List (List ℕ)) (m : List ℕ) (p v id : ℕ) → IsNewBin d shared m p id → get_or m (p + 3) 0 ≡ v
    → (get_or m (v + 1) 0 ≡ id) × (d (v + 2) COUNT ≡ true)
new-record d shared m p v id b name =
    let s = un-shared d shared m (boxed_word p) id b.holder in
    let at : boxed_word p / 4 + 3 ≡ p + 3 = omega arith in
    let place : get_or m (boxed_word p / 4 + 3) 0 ≡ v = ap (λ q. get_or m q 0) at ∙ name in
    let P : ℕ → Type 0 = λ q. get_or m (q + 1) 0 ≡ id in
    let Q : ℕ → Type 0 = λ q. d (q + 2) COUNT ≡ true in
    (subst P place s.record_is.owner, subst Q place s.record_is.counted)

-- A new binary stays one where more is written off its record's count.
pub bin-over : (d e : ℕ → ℕ → Bool) (shared : List (List ℕ)) (m1 m2 : List ℕ) (p v id : ℕ) → Kept d e m1 m2 → get_or m1 (p + 3) 0 ≡ v → count_in m2 v ≡ count_in m1 v → IsNewBin d shared m1 p id
    → (get_or m2 (p + 3) 0 ≡ v) × IsNewBin e shared m2 p id
bin-over d e shared m1 m2 p v id kept name count b =
    let s = un-shared d shared m1 (boxed_word p) id b.holder in
    let at : boxed_word p / 4 + 3 ≡ p + 3 = omega arith in
    let P : ℕ → Type 0 = λ q. d q NAMES ≡ true in
    let there : get_or m2 (p + 3) 0 ≡ v = kept.same (p + 3) NAMES (omega arith) (subst P at s.holder.names) ∙ name in (
      there,
      record {
        holder = (frame d e m1 m2 kept).each shared (boxed_word p) (Shared id) b.holder;
        counted = ap (λ q. count_in m2 q) there ∙ count ∙ ap (λ q. count_in m1 q) (sym name) ∙ b.counted;
      },
    )

-- One more holder.
pub over-more : (c d e : ℕ → ℕ → Bool) (shared : List (List ℕ)) (x y z : ℕ) (m0 m1 m2 row : List ℕ) (rec h0 h1 h2 serial next n : ℕ) → LaidOver c d shared x y m0 m1 row h0 h1 serial n
    → LaidOver d e shared y z m1 m2 (rec ∷ []) h1 h2 next 1 → next ≡ serial + n → y ≡ x + 6 * n → y ≤ z → rec ≡ get_or row n 0
    → ((i : ℕ) → i < n → count_in m2 (get_or row i 0) ≡ count_in m1 (get_or row i 0)) → LaidOver c e shared x z m0 m2 row h0 h2 serial (suc n)
over-more c d e shared x y z m0 m1 m2 row rec h0 h1 h2 serial next n a b from top order at counts = record {
  more = λ q k h. b.more q k (a.more q k h);
  within = λ q k h. elim (b.within q k h) [
    | inl mid ↦ elim (a.within q k mid) [ inl old ↦ inl old | inr inner ↦ inr (inner.0, (omega (arith, inner.1.0, order), inner.1.1)) ]
    | inr inner ↦ inr (omega (arith, inner.0, top), inner.1)
  ];
  single = λ s. b.single (a.single s);
  kept = record {
    longer = omega (arith, a.kept.longer, b.kept.longer);
    weaker = λ q k h. b.more q k (a.more q k h);
    same = λ q k content h. b.kept.same q k content (a.more q k h) ∙ a.kept.same q k content h;
  };
  bins = λ i below.
      let which : (i < n) ⊎ (i ≡ n) = grind (arith, below) in
      elim which [ inl low ↦ (old-bin i low).1 | inr last ↦ new-bin i last ];
  names = λ i below.
      let which : (i < n) ⊎ (i ≡ n) = grind (arith, below) in
      elim which [ inl low ↦ (old-bin i low).0 | inr last ↦ new-name i last ];
  nexts = λ q h. elim (b.nexts q h) [
    | inl mid ↦ elim (a.nexts q mid) [ inl old ↦ inl old | inr (i, some) ↦ inr (i, (omega (arith, some.0), some.1)) ]
    | inr (i, some) ↦ inr (n, (omega arith, omega (arith, some.0, some.1, top)))
  ];
  links = λ os further s l.
      let place : y + 6 * 0 ≡ x + 6 * n = omega (arith, top) in
      let P : ℕ → Type 0 = λ p. Links e m2 h2 (p ∷ (holders_from x n ++ os)) further in
      subst P place (b.links (holders_from x n ++ os) further (a.single s) (a.links os further s l));
}
  where
    old-bin : (i : ℕ) → i < n → (get_or m2 (x + 6 * i + 3) 0 ≡ get_or row i 0) × IsNewBin e shared m2 (x + 6 * i) (serial + suc i)
    old-bin i below = bin-over d e shared m1 m2 (x + 6 * i) (get_or row i 0) (serial + suc i) b.kept (a.names i below) (counts i below) (a.bins i below)

    new-bin : (i : ℕ) → i ≡ n → IsNewBin e shared m2 (x + 6 * i) (serial + suc i)
    new-bin i last =
        let place : y + 6 * 0 ≡ x + 6 * i = omega (arith, top, last) in
        let id : next + 1 ≡ serial + suc i = omega (arith, from, last) in
        let P : ℕ → Type 0 = λ p. IsNewBin e shared m2 p (next + 1) in
        let Q : ℕ → Type 0 = λ k. IsNewBin e shared m2 (x + 6 * i) k in
        subst Q id (subst P place (b.bins 0 (omega arith)))

    new-name : (i : ℕ) → i ≡ n → get_or m2 (x + 6 * i + 3) 0 ≡ get_or row i 0
    new-name i last =
        let place : x + 6 * i + 3 ≡ y + 6 * 0 + 3 = omega (arith, top, last) in
        ap (λ q. get_or m2 q 0) place ∙ b.names 0 (omega arith) ∙ at ∙ ap (λ j. get_or row j 0) (sym last)

-- So many holders were laid.
pub record LaidUpTo (i n : ℕ) (row : List ℕ) (x y : Room) (m0 m1 : List ℕ) (was is : Making) : Type 0 where
  pub same_start : y.start ≡ x.start
  pub front : y.top ≡ x.top + 6 * i
  pub same_end : y.end ≡ x.end
  pub serial : is.serial ≡ was.serial + i
  pub same_len : length m1 ≡ length m0
  pub others : (q : ℕ) → (q < x.top) ⊎ (y.top ≤ q) → ((j : ℕ) → j < i → q ≡ get_or row j 0 + 2 → ⊥) → get_or m1 q 0 ≡ get_or m0 q 0
  pub laid : (c : ℕ → ℕ → Bool) (shared : List (List ℕ)) → IsFree c x.top x.end → RecordsWait c shared m0 row was.serial n → OverBins c shared x.top y.top m0 m1 row was is i

pub up-begins : (n : ℕ) (row : List ℕ) (x : Room) (m : List ℕ) (was : Making) → LaidUpTo 0 n row x x m m was was
up-begins n row x m was = record {
  same_start = refl;
  front = omega arith;
  same_end = refl;
  serial = omega arith;
  same_len = refl;
  others = λ q apart counts. refl;
  laid = λ c shared free waiting. record { test = c; laid = over-none c shared x.top m row was.head was.serial };
}

-- A record that waits still does where others were taken.
module _ (i n : ℕ) (row : List ℕ) (x y : Room) (m0 m1 : List ℕ) (was is : Making) (u : LaidUpTo i n row x y m0 m1 was is) (fits : x.top + 6 * n ≤ x.end) (few : i ≤ n)
    (c : ℕ → ℕ → Bool) (shared : List (List ℕ)) (free : IsFree c x.top x.end) (waiting : RecordsWait c shared m0 row was.serial n) where
  abbrev over : OverBins c shared x.top y.top m0 m1 row was is i
  over = u.laid c shared free waiting

  pub free-now : IsFree over.test y.top y.end
  free-now =
      let P : ℕ → Type 0 = λ z. IsFree over.test y.top z in
      subst P (sym u.same_end) (free-over c over.test shared x.top y.top x.end m0 m1 row was.head is.head was.serial i over.laid (omega (arith, u.front)) free)

  waits-there : (j : ℕ) → i ≤ j → j < n → Waits over.test shared m1 (get_or row j 0) (was.serial + suc j)
  waits-there j from below =
      let w = waiting.each j below in
      let off : (get_or row j 0 + 2 < x.top) ⊎ (x.end ≤ get_or row j 0 + 2) = free (get_or row j 0 + 2) COUNT w.standing.counted in
      let far : (get_or row j 0 + 2 < x.top) ⊎ (y.top ≤ get_or row j 0 + 2) = elim off [ inl low ↦ inl low | inr high ↦ inr (omega (arith, high, u.front, fits, few)) ] in
      record {
        standing = bin-stays c over.test m0 m1 (get_or row j 0) (was.serial + suc j) _ over.laid.kept w.standing;
        count = u.others (get_or row j 0 + 2) far
            (λ k less e.
            let v = waiting.each k (omega (arith, less, few)) in
            let same : get_or row j 0 ≡ get_or row k 0 = omega (arith, e) in
            omega (arith, w.standing.owner, v.standing.owner, ap (λ q. get_or m0 (q + 1) 0) same, less, from))
            ∙ w.count;
        idle = λ k content h. elim (over.laid.within (get_or row j 0 + 2) k h) [
          | inl old ↦ w.idle k content old
          | inr inner ↦ elim far [ inl low ↦ omega (arith, low, inner.0) | inr high ↦ omega (arith, high, inner.1.0) ]
        ];
      }

  -- The next one.
  pub next-waits : (rec : ℕ) → rec ≡ get_or row i 0 → i < n → RecordsWait over.test shared m1 (rec ∷ []) is.serial 1
  next-waits rec at less = record {
    known = omega (arith, waiting.known, u.serial, less);
    each = λ j below.
        let first : 0 ≡ j = omega (arith, below) in
        let id : was.serial + suc i ≡ is.serial + suc j = omega (arith, u.serial, below) in
        let place : get_or row i 0 ≡ get_or (rec ∷ []) j 0 = sym at ∙ ap (λ k. get_or (rec ∷ []) k 0) first in
        let P : ℕ → Type 0 = λ v. Waits over.test shared m1 v (was.serial + suc i) in
        let Q : ℕ → Type 0 = λ k. Waits over.test shared m1 (get_or (rec ∷ []) j 0) k in
        subst Q id (subst P place (waits-there i (omega arith) less));
  }

  -- The counts of those before stay.
  pub counts-stay : (m2 : List ℕ) (rec : ℕ) → rec ≡ get_or row i 0 → i < n → ((q : ℕ) → (q < y.top) ⊎ (y.top + 6 ≤ q) → (q ≡ rec + 2 → ⊥) → get_or m2 q 0 ≡ get_or m1 q 0) → (k : ℕ) → k < i
      → count_in m2 (get_or row k 0) ≡ count_in m1 (get_or row k 0)
  counts-stay m2 rec at less others k below =
      let before = new-record over.test shared m1 (x.top + 6 * k) (get_or row k 0) (was.serial + suc k) (over.laid.bins k below) (over.laid.names k below) in
      let w = waits-there i (omega arith) less in
      let off : (get_or row k 0 + 2 < y.top) ⊎ (y.end ≤ get_or row k 0 + 2) = free-now (get_or row k 0 + 2) COUNT before.1 in
      others (get_or row k 0 + 2) (elim off [ inl low ↦ inl low | inr high ↦ inr (omega (arith, high, u.front, u.same_end, fits, less)) ])
      (λ e.
      let same : get_or row k 0 ≡ get_or row i 0 = omega (arith, e, at) in
      omega (arith, before.0, w.standing.owner, ap (λ q. get_or m1 (q + 1) 0) same, below))

-- One more holder was laid.
pub up-next : (i n : ℕ) (row : List ℕ) (x y z : Room) (m0 m1 m2 : List ℕ) (was is next : Making) (rec : ℕ) → LaidUpTo i n row x y m0 m1 was is → x.top + 6 * n ≤ x.end → i < n → rec ≡ get_or row i 0
    → z ≡ record { start = y.start; top = y.top + 6; end = y.end } → next.serial ≡ is.serial + 1 → length m2 ≡ length m1
    → ((q : ℕ) → (q < y.top) ⊎ (y.top + 6 ≤ q) → (q ≡ rec + 2 → ⊥) → get_or m2 q 0 ≡ get_or m1 q 0)
    → ((c : ℕ → ℕ → Bool) (shared : List (List ℕ)) → IsFree c y.top y.end → RecordsWait c shared m1 (rec ∷ []) is.serial 1 → OverBins c shared y.top z.top m1 m2 (rec ∷ []) is next 1)
    → LaidUpTo (suc i) n row x z m0 m2 was next
up-next i n row x y z m0 m1 m2 was is next rec u fits less at room serial len others step =
    let top : z.top ≡ y.top + 6 = ap (λ (r : Room). r.top) room in
    record {
      same_start = ap (λ (r : Room). r.start) room ∙ u.same_start;
      front = omega (arith, top, u.front);
      same_end = ap (λ (r : Room). r.end) room ∙ u.same_end;
      serial = omega (arith, serial, u.serial);
      same_len = len ∙ u.same_len;
      others = λ q apart counts.
          others q (elim apart [ inl low ↦ inl (omega (arith, low, u.front)) | inr high ↦ inr (omega (arith, high, top)) ]) (λ e. counts i (omega arith) (omega (arith, e, at)))
          ∙ u.others q (elim apart [ inl low ↦ inl low | inr high ↦ inr (omega (arith, high, top)) ]) (λ j below e. counts j (omega (arith, below)) e);
      laid = λ c shared free waiting.
          let a = u.laid c shared free waiting in
          let b = step a.test shared (free-now i n row x y m0 m1 was is u fits (omega (arith, less)) c shared free waiting)
          (next-waits i n row x y m0 m1 was is u fits (omega (arith, less)) c shared free waiting rec at less) in
          record {
            test = b.test;
            laid =
                over-more c a.test b.test shared x.top y.top z.top m0 m1 m2 row rec was.head is.head next.head was.serial is.serial i a.laid b.laid u.serial u.front (omega (arith, top)) at
                (counts-stay i n row x y m0 m1 was is u fits (omega (arith, less)) c shared free waiting m2 rec at less others);
          };
    }

-- All were laid: what is left as it was.
pub up-leaves : (n : ℕ) (row : List ℕ) (x y : Room) (m0 m1 : List ℕ) (was is : Making) → LaidUpTo n n row x y m0 m1 was is → x.top + 6 * n ≤ x.end → LeavesBut row n x y m0 m1
up-leaves n row x y m0 m1 was is u fits = record {
  same_start = u.same_start;
  front = omega (arith, u.front);
  order = omega (arith, u.front, u.same_end, fits);
  same_end = u.same_end;
  same_len = u.same_len;
  others = λ q apart counts. u.others q (elim apart [ inl low ↦ inl low | inr high ↦ inr (omega (arith, high, u.front, fits)) ]) counts;
}
