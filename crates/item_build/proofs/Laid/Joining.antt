-- Records that were laid in a room, and what was built over them, are laid together.
use Rattle.std.proofs.Common.{◌≡◌, ℕ, suc, ◌+◌, ◌*◌, ◌<◌, ◌≤◌, Bool, List, ◌++◌, length, get_or, slice_index_or, Result, Ok, Err, sym, ◌∙◌, ap, subst, arith, inl, inr, length-append}
use Rattle.word_mem.specs.declared.ranges.Room.{Room}
use Rattle.plain_term.specs.declared.item.Item.{Item}
use Rattle.plain_term.specs.Tree.{Tree}
use Rattle.plain_term.specs.Tree.Tree.{Nil}
use Rattle.term_words.proofs.Framing.Frames.{frame}
use Rattle.item_build.specs.Reading.{bins_of, long_bins, outcome}
use Rattle.item_build.proofs.Meaning.Growing.{longs-are}
use Rattle.term_words.specs.Role.{RECORD_FIRST}
use Rattle.term_build.specs.Taken.{IsFree}
use Rattle.off_heap_list.specs.Links.{Links}
use Rattle.item_build.specs.declared.bins.Making.{Making}
use Rattle.item_build.specs.declared.building.BuildStop.{BuildStop}
use Rattle.item_build.specs.Building.{BuildsOver, BuildsTerm, FindsParts, HasHeld, HeldStand, IsNewBin, Laid, LaidOver, LeavesBut, LeavesRoom, Recorded, RecordedBins, RecordsWait, Waits, holders_from}
use Rattle.item_build.proofs.Laid.Recording.{free-recorded}

module _ (c d : ℕ → ℕ → Bool) (shared : List (List ℕ)) (x y z : Room) (m0 m1 m2 row : List ℕ) (serial n : ℕ) (r : Recorded c d shared x y m0 m1 row serial n) (w : LeavesRoom x y m0 m1)
    (same_top : y.top ≡ x.top) (u : LeavesBut row n y z m1 m2) (free : IsFree c x.top x.end) where
  module _ (e : ℕ → ℕ → Bool) (h0 h1 : ℕ) (l : LaidOver d e shared y.top z.top m1 m2 row h0 h1 serial n) where
    place-same : (i : ℕ) → y.top + 6 * i ≡ x.top + 6 * i
    place-same i = omega (arith, same_top)

    pub laid-together : Laid c e shared x z m0 m2 h0 h1 serial n
    laid-together = record {
      more = λ a k h. l.more a k (r.more a k h);
      within = λ a k h. elim (l.within a k h) [
        | inl mid ↦ elim (r.within a k mid) [ inl old ↦ inl old | inr inner ↦ inr (inr (omega (arith, inner.0, u.same_end), inner.1)) ]
        | inr inner ↦ inr (inl (omega (arith, inner.0, same_top), inner.1))
      ];
      single = λ s. l.single (r.single s);
      kept = record {
        longer = omega (arith, l.kept.longer, r.kept.longer);
        weaker = λ a k h. l.more a k (r.more a k h);
        same = λ a k content h. l.kept.same a k content (r.more a k h) ∙ r.kept.same a k content h;
      };
      bins = λ i below. let P : ℕ → Type 0 = λ p. IsNewBin e shared m2 p (serial + suc i) in subst P (place-same i) (l.bins i below);
      nexts = λ a h. elim (l.nexts a h) [
        | inl mid ↦ elim (r.within a _ mid) [ inl old ↦ inl old | inr inner ↦ absurd (elim inner.1.1 [ inl e ↦ omega (arith, e) | inr (inl e) ↦ omega (arith, e) | inr (inr e) ↦ omega (arith, e) ]) ]
        | inr (i, some) ↦ inr (i, (some.0, omega (arith, some.1, same_top)))
      ];
      records = λ v h. elim (l.within v RECORD_FIRST h) [
        | inl mid ↦ elim (r.records v mid) [
          | inl old ↦ inl old
          | inr (i, some) ↦ (let at : y.top + 6 * i + 3 ≡ x.top + 6 * i + 3 = omega (arith, same_top) in inr (i, (some.0, some.1 ∙ sym (l.names i some.0) ∙ ap (λ q. get_or m2 q 0) at)))
        ]
        | inr inner ↦ absurd (elim inner.1.1 [ inl e ↦ omega (arith, e) | inr range ↦ omega (arith, range) ])
      ];
      links = λ os further s k.
          let P : ℕ → Type 0 = λ t. Links e m2 h1 (holders_from t n ++ os) further in
          subst P same_top (l.links os further (r.single s) (r.links h0 os further k));
    }

  -- What was built over them was built.
  pub built-together : (was is : Making) (result : Result ℕ BuildStop) (out : Result Tree BuildStop) → was.serial ≡ serial → BuildsOver d shared y z m1 m2 row was is n result out
      → BuildsTerm c shared x z m0 m2 was is n result out
  built-together was is (Ok w) (Ok t) start b =
      let P : ℕ → Type 0 = λ k. Laid c b.test shared x z m0 m2 was.head is.head k n in
      let Q : ℕ → Type 0 = λ k. LaidOver d b.test shared y.top z.top m1 m2 row was.head is.head k n in
      record { test = b.test; laid = subst P (sym start) (laid-together b.test was.head is.head (subst Q start b.laid)); made = b.made }
  built-together was is (Err e) (Err f) start b = b
  built-together was is (Ok w) (Err f) start b = b
  built-together was is (Err e) (Ok t) start b = b

-- Words off the free ones of the room at first are as before.
pub leaves-together : (x y z : Room) (m0 m1 m2 row : List ℕ) (n : ℕ) → LeavesRoom x y m0 m1 → LeavesBut row n y z m1 m2
    → ((i : ℕ) → i < n → (y.end ≤ get_or row i 0) × (get_or row i 0 + 4 ≤ x.end)) → LeavesRoom x z m0 m2
leaves-together x y z m0 m1 m2 row n w u inside = record {
  same_start = u.same_start ∙ w.same_start;
  front = omega (arith, w.front, u.front);
  order = u.order;
  back = omega (arith, u.same_end, w.back);
  same_len = u.same_len ∙ w.same_len;
  others = λ q apart. elim apart [
    | inl low ↦
        u.others q (inl (omega (arith, low, w.front))) (λ i below e. let there = inside i below in omega (arith, e, low, there.0, w.front, w.order)) ∙ w.others q (inl low)
    | inr high ↦ u.others q (inr (omega (arith, high, w.back))) (λ i below e. let there = inside i below in omega (arith, e, high, there.1)) ∙ w.others q (inr high)
  ];
}

-- Held words stand after the records were laid.
held-recorded : (c d : ℕ → ℕ → Bool) (all shared : List (List ℕ)) (x y : Room) (m0 m1 row held : List ℕ) (trees : List Tree) (serial n : ℕ) → Recorded c d all x y m0 m1 row serial n
    → HeldStand c shared m0 held trees → HeldStand d shared m1 held trees
held-recorded c d all shared x y m0 m1 row held trees serial n r h = record {
  each = λ i below. (frame c d m0 m1 r.kept).each shared (get_or held i 0) (slice_index_or trees i Nil) (h.each i below);
}

-- The records of the long binaries among the items were laid.
module _ (names : List (List ℕ)) (code : List Item) (x y : Room) (m0 m1 row held : List ℕ) (serial n : ℕ) (many : n ≡ long_bins code)
    (laid : (c : ℕ → ℕ → Bool) (shared : List (List ℕ)) → IsFree c x.top x.end → length shared ≡ serial → RecordedBins c (shared ++ bins_of code) x y m0 m1 row serial (long_bins code))
    (w : LeavesRoom x y m0 m1) (same_top : y.top ≡ x.top) where
  waiting-all : (d : ℕ → ℕ → Bool) (shared : List (List ℕ)) → length shared ≡ serial → ((i : ℕ) → i < long_bins code → Waits d (shared ++ bins_of code) m1 (get_or row i 0) (serial + suc i))
      → RecordsWait d (shared ++ bins_of code) m1 row serial n
  waiting-all d shared len each = record {
    known = omega (arith, many, len, length-append shared (bins_of code), longs-are code);
    each = λ i below. each i (omega (arith, below, many));
  }

  -- All is found for building.
  pub finds-all : HasHeld names serial x m0 held → FindsParts names serial y m1 held row n code
  finds-all h =
      let r = laid h.test h.shared h.free h.serials in
      record {
        parts = record {
          test = r.test;
          shared = h.shared;
          trees = h.trees;
          serials = h.serials;
          free = free-recorded h.test r.test (h.shared ++ bins_of code) x y m0 m1 row serial (long_bins code) r.laid w h.free;
          standing = held-recorded h.test r.test (h.shared ++ bins_of code) h.shared x y m0 m1 row held h.trees serial (long_bins code) r.laid h.standing;
          named = h.named;
        };
        waiting = waiting-all r.test h.shared h.serials r.laid.each;
      }

  -- What was built over them.
  module _ (z : Room) (m2 : List ℕ) (was is : Making) (result : Result ℕ BuildStop) (start : was.serial ≡ serial) (u : LeavesBut row n y z m1 m2) where
    pub builds-all : ((c : ℕ → ℕ → Bool) (shared : List (List ℕ)) (trees : List Tree) → IsFree c y.top y.end → length shared ≡ serial → HeldStand c shared m1 held trees
        → RecordsWait c (shared ++ bins_of code) m1 row serial n
        → BuildsOver c (shared ++ bins_of code) y z m1 m2 row was is n result (outcome names shared trees code))
        → (c : ℕ → ℕ → Bool) (shared : List (List ℕ)) (trees : List Tree) → IsFree c x.top x.end → length shared ≡ serial → HeldStand c shared m0 held trees
        → BuildsTerm c (shared ++ bins_of code) x z m0 m2 was is (long_bins code) result (outcome names shared trees code)
    builds-all builds c shared trees free len h =
        let r = laid c shared free len in
        let all : List (List ℕ) = shared ++ bins_of code in
        let P : ℕ → Type 0 = λ k. BuildsOver r.test all y z m1 m2 row was is k result (outcome names shared trees code) in
        let Q : ℕ → Type 0 = λ k. LeavesBut row k y z m1 m2 in
        built-together c r.test all x y z m0 m1 m2 row serial (long_bins code) r.laid w same_top (subst Q many u) free was is result (outcome names shared trees code) start
        (subst P many (builds r.test shared trees (free-recorded c r.test all x y m0 m1 row serial (long_bins code) r.laid w free) len
        (held-recorded c r.test all shared x y m0 m1 row held trees serial (long_bins code) r.laid h) (waiting-all r.test shared len r.laid.each)))

    pub leaves-all : HasHeld names serial x m0 held → LeavesRoom x z m0 m2
    leaves-all h =
        let r = laid h.test h.shared h.free h.serials in
        leaves-together x y z m0 m1 m2 row n w u (λ i below. r.laid.fresh i (omega (arith, below, many)))
