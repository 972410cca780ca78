-- A term built after the holders of its long binaries: what all of it leaves.
use Rattle.std.proofs.Common.{◌≡◌, ℕ, suc, ◌+◌, ◌-◌, ◌*◌, ◌<◌, ◌≤◌, if◌then◌else◌, Bool, true, false, List, [], ◌∷◌, ◌++◌, length, get_or, slice_index_or, Option, Some, None, Ok, Err, refl, sym, ◌∙◌, subst, arith, inl, inr, length-append}
use Rattle.word_mem.specs.declared.ranges.Room.{Room}
use Rattle.plain_term.specs.declared.item.Item.{Item}
use Rattle.plain_term.specs.Tree.{Tree}
use Rattle.plain_term.specs.Tree.Tree.{Nil, Shared}
use Rattle.term_tags.specs.Words.{boxed_word}
use Rattle.term_words.specs.Role.{NEXT, COUNT, OfObject, OfRecord}
use Rattle.term_words.specs.Object.{IsRecord}
use Rattle.term_words.specs.Stands.{Stands}
use Rattle.term_words.specs.Kept.{Kept}
use Rattle.term_words.proofs.Framing.Frames.{frame}
use Rattle.term_words.proofs.ByKind.Inside.{record-inside}
use Rattle.term_words.proofs.Placing.Roles.{record-role}
use Rattle.term_build.specs.Taken.{IsFree}
use Rattle.term_build.specs.Grows.{Grows, IsPlain}
use Rattle.term_build.specs.Clear.{IsRoom}
use Rattle.item_build.specs.declared.bins.Making.{Making}
use Rattle.item_build.specs.declared.building.BuildStop.TheVariants.{Big, Size}
use Rattle.item_build.specs.Reading.{AreLed, AreWhole, bins_of, long_bins, unless_wide}
use Rattle.item_build.specs.Building.{AreMarks, BinsStand, BuildsOver, HeldStand, IsNewBin, LaidOver, LeavesBut, LeavesRoom, MarksBuilt, OverBins, Spares, UsesSome, holders_from}
use Rattle.item_build.proofs.Turned.Marks.{none-stands}
use Rattle.term_words.proofs.Framing.Growing.{grow}
use Rattle.item_build.proofs.Meaning.Growing.{longs-are}
use Rattle.item_build.proofs.Meaning.Whole.{led-within}
use Rattle.item_build.proofs.Laid.Laying.{OldOrNew, links-grow, record-back, record-four}
use Rattle.item_build.proofs.Laid.Holding.{bin-over, free-over, new-record}

-- Bytes stand behind each binary.
pub whole-led : (names held : ℕ) (xs : List Item) → AreWhole names held xs → AreLed xs
whole-led names held [] w = tt
whole-led names held (x ∷ xs) w = (omega (arith, w.1.1, led-within xs), whole-led names held xs w.2)

plain-object : (k : ℕ) → IsPlain k → OfObject k
plain-object k (inl e) = inr (omega (arith, e))
plain-object k (inr e) = inr (omega (arith, e))

plain-no-record : (k : ℕ) → IsPlain k → OfRecord k → ⊥
plain-no-record k (inl e) (inl r) = omega (arith, e, r)
plain-no-record k (inl e) (inr (inl r)) = omega (arith, e, r)
plain-no-record k (inl e) (inr (inr r)) = omega (arith, e, r)
plain-no-record k (inr e) (inl r) = omega (arith, e, r)
plain-no-record k (inr e) (inr (inl r)) = omega (arith, e, r)
plain-no-record k (inr e) (inr (inr r)) = omega (arith, e, r)

-- Some words were taken.
pub leaves-uses : (own : ℕ) (y z : Room) (m1 m2 : List ℕ) → UsesSome own y z m1 m2 → y.top + own ≤ y.end → LeavesRoom y z m1 m2
leaves-uses own y z m1 m2 u fits = record {
  same_start = u.uses.same_start;
  front = omega (arith, u.uses.moved);
  order = omega (arith, u.uses.moved, u.uses.same_end, u.few, fits);
  back = omega (arith, u.uses.same_end);
  same_len = u.uses.same_len;
  others = λ q apart. u.uses.others q (elim apart [ inl low ↦ inl low | inr high ↦ inr (omega (arith, high, u.few, fits)) ]);
}

-- Objects are built behind the holders.
module _ (c d e : ℕ → ℕ → Bool) (shared : List (List ℕ)) (x y z : Room) (m0 m1 m2 row : List ℕ) (h0 h1 serial n own : ℕ) (l : LaidOver c d shared x.top y.top m0 m1 row h0 h1 serial n)
    (w : LeavesBut row n x y m0 m1) (free : IsFree c x.top x.end) (g : Grows d e y.top (z.top - y.top) m1 m2) (u : UsesSome own y z m1 m2) (fits : y.top + own ≤ y.end) where
  inner : IsFree d y.top y.end
  inner = let P : ℕ → Type 0 = λ k. IsFree d y.top k in subst P (sym w.same_end) (free-over c d shared x.top y.top x.end m0 m1 row h0 h1 serial n l w.front free)

  leaves-objects : LeavesRoom y z m1 m2
  leaves-objects = leaves-uses own y z m1 m2 u fits

  same : (a k : ℕ) → d a k ≡ true → get_or m2 a 0 ≡ get_or m1 a 0
  same a k h = leaves-objects.others a (inner a k h)

  kept : Kept d e m1 m2
  kept = record { longer = omega (arith, u.uses.same_len); weaker = g.more; same = λ a k content h. same a k h }

  old-role : (a k : ℕ) → OfRecord k → e a k ≡ true → d a k ≡ true
  old-role a k of h = elim (g.objects a k h) [ inl old ↦ old | inr plain ↦ absurd (plain-no-record k plain of) ]

  records-old : (v m : ℕ) → IsRecord e m2 v m → OldOrNew d m1 m2 v m
  records-old v m s =
      let there : (q : ℕ) → v ≤ q → q < v + m → get_or m1 q 0 ≡ get_or m2 q 0 = λ q from below.
      let role = record-role e m2 v m q s from below in sym (same q role.0 (old-role q role.0 role.1.0 role.1.1)) in
      inl (
        record-back d e m1 m2 v m (λ q k from below of h. old-role q k of h) there (omega (arith, record-inside e m2 v m s, u.uses.same_len)) s,
        sym (there (v + 2) (omega arith) (record-four e m2 v m s)),
      )

  old-bin : (i : ℕ) → i < n → (get_or m2 (x.top + 6 * i + 3) 0 ≡ get_or row i 0) × IsNewBin e shared m2 (x.top + 6 * i) (serial + suc i)
  old-bin i below =
      let counted : d (get_or row i 0 + 2) COUNT ≡ true = (new-record d shared m1 (x.top + 6 * i) (get_or row i 0) (serial + suc i) (l.bins i below) (l.names i below)).1 in
      bin-over d e shared m1 m2 (x.top + 6 * i) (get_or row i 0) (serial + suc i) kept (l.names i below) (same (get_or row i 0 + 2) COUNT counted) (l.bins i below)

  -- The whole is laid.
  pub over-grows : LaidOver c e shared x.top z.top m0 m2 row h0 h1 serial n
  over-grows = record {
    more = λ a k h. g.more a k (l.more a k h);
    within = λ a k h. elim (g.within a k h) [
      | inl mid ↦ elim (l.within a k mid) [ inl old ↦ inl old | inr inside ↦ inr (inside.0, (omega (arith, inside.1.0, u.uses.moved), inside.1.1)) ]
      | inr range ↦ elim (g.objects a k h) [
        | inl mid ↦ elim (l.within a k mid) [ inl old ↦ inl old | inr inside ↦ inr (inside.0, (omega (arith, inside.1.0, u.uses.moved), inside.1.1)) ]
        | inr plain ↦ inr (omega (arith, range.0, w.front), (omega (arith, range.1, u.uses.moved), plain-object k plain))
      ]
    ];
    single = λ s. g.single (l.single s);
    kept = record {
      longer = omega (arith, l.kept.longer, u.uses.same_len);
      weaker = λ a k h. g.more a k (l.more a k h);
      same = λ a k content h. same a k (l.more a k h) ∙ l.kept.same a k content h;
    };
    bins = λ i below. (old-bin i below).1;
    names = λ i below. (old-bin i below).0;
    nexts = λ a h. elim (g.objects a NEXT h) [ inl mid ↦ l.nexts a mid | inr (inl first) ↦ absurd (omega (arith, first)) | inr (inr further) ↦ absurd (omega (arith, further)) ];
    links = λ os further s k. links-grow d e m1 m2 kept (λ a h. same a NEXT h) records-old h1 (holders_from x.top n ++ os) further (l.links os further s k);
  }

-- Held words stand after the binaries were laid, and the holders of these.

module _ (c d : ℕ → ℕ → Bool) (shared : List (List ℕ)) (code : List Item) (x y : Room) (m0 m1 row : List ℕ) (h0 h1 serial : ℕ)
    (l : LaidOver c d (shared ++ bins_of code) x.top y.top m0 m1 row h0 h1 serial (long_bins code)) (front : y.top ≡ x.top + 6 * long_bins code) (len : length shared ≡ serial) where
  pub held-laid : (held : List ℕ) (trees : List Tree) → HeldStand c shared m0 held trees → HeldStand d (shared ++ bins_of code) m1 held trees
  held-laid held trees h = record {
    each = λ r below.
        (frame c d m0 m1 l.kept).each (shared ++ bins_of code) (get_or held r 0) (slice_index_or trees r Nil)
        (grow c shared (bins_of code) m0 (get_or held r 0) (slice_index_or trees r Nil) (h.each r below));
  }

  pub bins-laid : BinsStand d (shared ++ bins_of code) m1 y.top (long_bins code)
  bins-laid = record {
    low = omega (arith, front);
    each = λ j below.
        let place : x.top + 6 * (long_bins code - suc j) ≡ y.top - 6 * suc j = omega (arith, front, below) in
        let all : length (shared ++ bins_of code) ≡ length shared + length (bins_of code) = length-append shared (bins_of code) in
        let id : serial + suc (long_bins code - suc j) ≡ length (shared ++ bins_of code) - j = omega (arith, all, len, longs-are code, below) in
        let P : ℕ → Type 0 = λ p. Stands d (shared ++ bins_of code) m1 (boxed_word p) (Shared (serial + suc (long_bins code - suc j))) in
        let Q : ℕ → Type 0 = λ k. Stands d (shared ++ bins_of code) m1 (boxed_word (y.top - 6 * suc j)) (Shared k) in
        subst Q id (subst P place (l.bins (long_bins code - suc j) (omega (arith, below))).holder);
  }

-- All is ready for the items, by a test that has the holders.
pub record IsReady (c : ℕ → ℕ → Bool) (shared : List (List ℕ)) (n many own : ℕ) (x y : Room) (m0 m1 row held : List ℕ) (trees : List Tree) (was is : Making) : Type 0 where
  pub test : ℕ → ℕ → Bool
  pub laid : LaidOver c test shared x.top y.top m0 m1 row was.head is.head was.serial n
  pub free : IsFree test y.top (y.top + own)
  pub standing : HeldStand test shared m1 held trees
  pub holders : BinsStand test shared m1 y.top many

pub ready : (c : ℕ → ℕ → Bool) (shared : List (List ℕ)) (code : List Item) (x y : Room) (m0 m1 row held : List ℕ) (trees : List Tree) (was is : Making) (n own : ℕ) → n ≡ long_bins code
    → OverBins c (shared ++ bins_of code) x.top y.top m0 m1 row was is n → LeavesBut row n x y m0 m1 → IsFree c x.top x.end → y.top ≡ x.top + 6 * n → length shared ≡ was.serial
    → y.top + own ≤ y.end → HeldStand c shared m0 held trees → IsReady c (shared ++ bins_of code) n (long_bins code) own x y m0 m1 row held trees was is
ready c shared code x y m0 m1 row held trees was is n own many a w free front len fits h =
    let inside : IsFree a.test y.top x.end = free-over c a.test (shared ++ bins_of code) x.top y.top x.end m0 m1 row was.head is.head was.serial n a.laid w.front free in
    let L : ℕ → Type 0 = λ k. LaidOver c a.test (shared ++ bins_of code) x.top y.top m0 m1 row was.head is.head was.serial k in
    let all : LaidOver c a.test (shared ++ bins_of code) x.top y.top m0 m1 row was.head is.head was.serial (long_bins code) = subst L many a.laid in
    let top : y.top ≡ x.top + 6 * long_bins code = omega (arith, front, many) in
    record {
      test = a.test;
      laid = a.laid;
      free = λ q k e. elim (inside q k e) [ inl low ↦ inl low | inr high ↦ inr (omega (arith, high, fits, w.same_end)) ];
      standing = held-laid c a.test shared code x y m0 m1 row was.head is.head was.serial all top len held trees h;
      holders = bins-laid c a.test shared code x y m0 m1 row was.head is.head was.serial all top len;
    }

-- What the one word tells.

module _ (c d : ℕ → ℕ → Bool) (shared : List (List ℕ)) (x y z : Room) (m0 m1 m2 row : List ℕ) (was is : Making) (n own w : ℕ)
    (l : LaidOver c d shared x.top y.top m0 m1 row was.head is.head was.serial n) (lv : LeavesBut row n x y m0 m1) (free : IsFree c x.top x.end) (fits : y.top + own ≤ y.end) where
  pub ok-makes : (big : Bool) (ms : List (Option Tree)) → big ≡ false → (w ≡ 0 → ⊥) → UsesSome own y z m1 m2
      → MarksBuilt d y.top (z.top - y.top) m1 m2 shared (w ∷ []) ms → BuildsOver c shared x z m0 m2 row was is n (Ok w) (if big then Err Big else unless_wide ms)
  unfolding AreMarks
  ok-makes true ms small there u b = absurd cc
  ok-makes false [] small there u b = absurd b.made
  ok-makes false (None ∷ ms) small there u b = absurd (there b.made.0)
  ok-makes false (Some t ∷ ms) small there u b =
      record { test = b.test; laid = over-grows c d b.test shared x y z m0 m1 m2 row was.head is.head was.serial n own l lv free b.grows u fits; made = b.made.0 }

pub wide-makes : (c d : ℕ → ℕ → Bool) (shared : List (List ℕ)) (x y z v : Room) (m0 m1 m2 row : List ℕ) (was is : Making) (n w : ℕ) (big : Bool) (ms : List (Option Tree)) → big ≡ false → w ≡ 0
    → MarksBuilt d y.top (z.top - y.top) m1 m2 shared (w ∷ []) ms → BuildsOver c shared x v m0 m2 row was is n (Err Size) (if big then Err Big else unless_wide ms)
unfolding AreMarks
wide-makes c d shared x y z v m0 m1 m2 row was is n w true ms small zero_word b = absurd cc
wide-makes c d shared x y z v m0 m1 m2 row was is n w false [] small zero_word b = refl
wide-makes c d shared x y z v m0 m1 m2 row was is n w false (None ∷ ms) small zero_word b = refl
wide-makes c d shared x y z v m0 m1 m2 row was is n w false (Some t ∷ ms) small zero_word b = absurd (none-stands b.test shared m2 w t zero_word b.made.0)

pub big-makes : (c : ℕ → ℕ → Bool) (shared : List (List ℕ)) (x v : Room) (m0 m2 row : List ℕ) (was is : Making) (n : ℕ) (big : Bool) (ms : List (Option Tree)) → big ≡ true
    → BuildsOver c shared x v m0 m2 row was is n (Err Big) (if big then Err Big else unless_wide ms)
big-makes c shared x v m0 m2 row was is n true ms b = refl
big-makes c shared x v m0 m2 row was is n false ms b = absurd cc

-- At a stop the room is given back.
pub leaves-back : (x y : Room) (m0 m1 m2 row : List ℕ) (n own : ℕ) → IsRoom x m0 → LeavesBut row n x y m0 m1 → Spares own y m1 m2 → y.top + own ≤ y.end → LeavesBut row n x x m0 m2
leaves-back x y m0 m1 m2 row n own r w s fits = record {
  same_start = refl;
  front = omega arith;
  order = r.top_next;
  same_end = refl;
  same_len = s.same_len ∙ w.same_len;
  others = λ q apart counts. elim apart [
    | inl low ↦ s.others q (inl (omega (arith, low, w.front))) ∙ w.others q (inl low) counts
    | inr high ↦ s.others q (inr (omega (arith, high, w.same_end, fits))) ∙ w.others q (inr high) counts
  ];
}

-- Some words were taken behind the holders.
pub leaves-more : (x y z : Room) (m0 m1 m2 row : List ℕ) (n own : ℕ) → LeavesBut row n x y m0 m1 → UsesSome own y z m1 m2 → y.top + own ≤ y.end → LeavesBut row n x z m0 m2
leaves-more x y z m0 m1 m2 row n own w u fits =
    let v = leaves-uses own y z m1 m2 u fits in
    record {
      same_start = v.same_start ∙ w.same_start;
      front = omega (arith, w.front, v.front);
      order = v.order;
      same_end = u.uses.same_end ∙ w.same_end;
      same_len = v.same_len ∙ w.same_len;
      others = λ q apart counts. elim apart [
        | inl low ↦ v.others q (inl (omega (arith, low, w.front))) ∙ w.others q (inl low) counts
        | inr high ↦ v.others q (inr (omega (arith, high, w.same_end))) ∙ w.others q (inr high) counts
      ];
    }
