-- Items one after the other: roles grow, and the words of what was read stand.
use Rattle.std.proofs.Common.{◌≡◌, ℕ, suc, ◌+◌, ◌-◌, ◌<◌, ◌≤◌, ◌*◌, if◌then◌else◌, Bool, true, false, List, [], ◌∷◌, length, get_or, take, drop, Option, sym, ◌∙◌, ap, subst, arith, inl, inr}
use Rattle.std.proofs.Math.Seq.{drop-cons, drop-length}
use Rattle.std.proofs.lemmas.Bool.{or_from, or_left}
use Rattle.std.proofs.lemmas.List.{length-drop, nil_from_length}
use Rattle.word_mem.specs.declared.ranges.Room.{Room}
use Rattle.plain_term.specs.declared.item.Item.{Item}
use Rattle.plain_term.specs.Tree.{Tree}
use Rattle.plain_term.specs.Tree.Tree.{Shared}
use Rattle.term_tags.specs.Words.{boxed_word}
use Rattle.term_words.specs.Stands.{Stands}
use Rattle.term_words.specs.Role.{always}
use Rattle.term_words.specs.Kept.{Keeps}
use Rattle.term_words.proofs.Framing.Frames.{frame}
use Rattle.term_build.specs.Taken.{IsFree}
use Rattle.term_build.specs.Grows.{Grows}
use Rattle.term_build.specs.Clear.{IsRoom}
use Rattle.term_build.proofs.Growing.{free-after, grows-then}
use Rattle.term_build.proofs.Rooms.{room-after, uses-then}
use Rattle.item_build.specs.Reading.{AreWhole, has_big_item, is_big_item, is_long, long_bins, own_words, own_words_of, parts_after, read, read_item, terms_in}
use Rattle.item_build.specs.Building.{AreMarks, BinsStand, CanPut, CanRead, HeldStand, HolderStands, MarksBuilt, Spares, UsesSome}
use Rattle.item_build.proofs.Turned.Marks.{always-keeps, keep-marks, marks-length, marks-none}
use Rattle.item_build.proofs.Meaning.Whole.{big-at, big-rest, longs-at, longs-rest, own-fit, read-at, read-count, read-named, terms-few, whole-at}
use Rattle.item_build.proofs.Turned.Makes.{grows-nothing}

-- Words of which some were taken.

pub spares-some : (m n : ℕ) (x y : Room) (mem mem2 : List ℕ) → UsesSome m x y mem mem2 → m ≤ n → Spares n x mem mem2
spares-some m n x y mem mem2 u few = record {
  same_len = u.uses.same_len;
  others = λ q apart. u.uses.others q (elim apart [ inl low ↦ inl low | inr high ↦ inr (omega (arith, high, u.few, few)) ]);
}

pub some-then : (m n : ℕ) (x y z : Room) (mem mem2 mem3 : List ℕ) → UsesSome m x y mem mem2 → UsesSome n y z mem2 mem3 → UsesSome (n + m) x z mem mem3
some-then m n x y z mem mem2 mem3 a b = record {
  used = b.used + a.used;
  few = omega (arith, a.few, b.few);
  uses = uses-then a.used b.used x y z mem mem2 mem3 a.uses b.uses;
}

-- What keeps off the words that may be taken stands still.
pub spares-keep : (c : ℕ → ℕ → Bool) (n : ℕ) (x : Room) (mem mem2 : List ℕ) → Spares n x mem mem2 → IsFree c x.top (x.top + n) → Keeps c c mem mem2
spares-keep c n x mem mem2 s free =
    frame c c mem mem2 (record {
      longer = omega (arith, s.same_len);
      weaker = λ a k h. h;
      same = λ a k is h. s.others a (elim (free a k h) [ inl low ↦ inl low | inr high ↦ inr high ]);
    })

-- No item was read yet.

pub no-items : (code : List Item) (P : List Item → Type 0) → P [] → P (drop (length code) code)
no-items code P h = subst P (sym (drop-length code)) h

pub begun : (c : ℕ → ℕ → Bool) (x : Room) (mem : List ℕ) (shared : List (List ℕ)) (row : List ℕ) → MarksBuilt c x.top (x.top - x.top) mem mem shared (drop (length row) row) []
begun c x mem shared row =
    let P : List ℕ → Type 0 = λ z. AreMarks c shared mem z [] in
    record { test = c; grows = grows-nothing c x.top mem; made = subst P (sym (drop-length row)) (marks-none c shared mem) }

-- The holders of the binaries that are left lie below the next one.

pub bin-fits : (code : List Item) (i : ℕ) (d : Item) (bins bin words : ℕ) → 0 < i → i ≤ length code → words ≡ (if is_long (get_or code (i - 1) d) then 6 else 0)
    → bin + 6 * long_bins (drop i code) ≡ bins → 6 * long_bins code ≤ bins → words ≤ bin
bin-fits code i d bins bin words some within is at low = by (is_long (get_or code (i - 1) d)) is (longs-at code i d some within)
  where
    by : (l : Bool) → words ≡ (if l then 6 else 0) → long_bins (drop (i - 1) code) ≡ (if l then 1 else 0) + long_bins (drop i code) → words ≤ bin
    by true e sum = omega (arith, e, sum, longs-rest (i - 1) code, at, low)
    by false e sum = omega (arith, e)

pub bin-after : (code : List Item) (i : ℕ) (d : Item) (bins bin words : ℕ) → 0 < i → i ≤ length code → words ≡ (if is_long (get_or code (i - 1) d) then 6 else 0)
    → bin + 6 * long_bins (drop i code) ≡ bins → 6 * long_bins code ≤ bins → bin - words + 6 * long_bins (drop (i - 1) code) ≡ bins
bin-after code i d bins bin words some within is at low = by (is_long (get_or code (i - 1) d)) is (longs-at code i d some within) (bin-fits code i d bins bin words some within is at low)
  where
    by : (l : Bool) → words ≡ (if l then 6 else 0) → long_bins (drop (i - 1) code) ≡ (if l then 1 else 0) + long_bins (drop i code) → words ≤ bin
        → bin - words + 6 * long_bins (drop (i - 1) code) ≡ bins
    by true e sum fits = omega (arith, e, sum, at, fits)
    by false e sum fits = omega (arith, e, sum, at)

-- As many words stand as terms were read.
pub row-count : (c : ℕ → ℕ → Bool) (names shared : List (List ℕ)) (trees : List Tree) (x y : Room) (mem0 mem row : List ℕ) (sp : ℕ) (xs : List Item) → sp ≤ length row
    → MarksBuilt c x.top (y.top - x.top) mem0 mem shared (drop sp row) (read names shared trees xs) → sp + terms_in xs ≡ length row
row-count c names shared trees x y mem0 mem row sp xs within b =
    omega (
      arith,
      within,
      marks-length b.test shared mem (drop sp row) (read names shared trees xs) b.made,
      read-count names shared trees xs,
      length-drop sp row,
    )

module _ (names : List (List ℕ)) (held : List ℕ) (code : List Item) (i : ℕ) (d : Item) (some : 0 < i) (within : i ≤ length code) (x y : Room) (mem0 mem : List ℕ)
    (u : UsesSome (own_words_of (drop i code)) x y mem0 mem) where
  -- The next item can be put.
  pub can-put : (ws : List ℕ) → AreWhole (length names) (length held) code → length code ≤ 65536 → IsRoom x mem0 → x.top + own_words_of code ≤ x.end
      → (bins many : ℕ) (h : CanRead names (own_words_of code) x mem0 held bins many) → MarksBuilt h.test x.top (y.top - x.top) mem0 mem h.shared ws (read names h.shared h.trees (drop i code))
      → CanPut (length names) (length held) y mem ws (get_or code (i - 1) d)
  can-put ws whole few places words bins many h b =
      let at = whole-at (length names) (length held) code i d some within whole in
      let count : length ws ≡ terms_in (drop i code) = marks-length b.test h.shared mem ws (read names h.shared h.trees (drop i code)) b.made ∙ read-count names h.shared h.trees (drop i code) in
      let least : own_words (get_or code (i - 1) d) + own_words_of (drop i code) ≤ own_words_of code = own-fit code i d some within in
      record {
        item = at.0;
        parts = omega (arith, at.1.0, count);
        few = omega (arith, at.1.0, terms-few (drop i code), length-drop i code, few);
        places = room-after u.used x y mem0 mem u.uses places (omega (arith, u.few, least, words));
        words = omega (arith, u.uses.moved, u.uses.same_end, u.few, least, words);
        shared = h.shared;
        marks = read names h.shared h.trees (drop i code);
        standing = keep-marks b.test always mem mem (always-keeps b.test mem) h.shared ws (read names h.shared h.trees (drop i code)) b.made;
        named = read-named names h.shared h.trees (length names) (length held) h.named (drop i code) at.2;
      }

  module _ (c : ℕ → ℕ → Bool) (shared : List (List ℕ)) (trees : List Tree) (free : IsFree c x.top (x.top + own_words_of code)) (stand : HeldStand c shared mem0 held trees) (ws : List ℕ)
      (b : MarksBuilt c x.top (y.top - x.top) mem0 mem shared ws (read names shared trees (drop i code))) where
    -- The words for the next item have no role yet, and the held words stand still.

    pub free-at : IsFree b.test y.top (y.top + own_words (get_or code (i - 1) d))
    free-at =
        let left : IsFree b.test (x.top + (y.top - x.top)) (x.top + own_words_of code) =
        free-after c b.test x.top (y.top - x.top) (x.top + own_words_of code) mem0 mem b.grows free in
        let least : own_words (get_or code (i - 1) d) + own_words_of (drop i code) ≤ own_words_of code = own-fit code i d some within in
        λ a k h. elim (left a k h) [ inl low ↦ inl (omega (arith, low, u.uses.moved)) | inr high ↦ inr (omega (arith, high, u.uses.moved, u.few, least)) ]

    pub held-at : HeldStand b.test shared mem held trees
    held-at = record { each = λ r below. b.grows.kept.each shared (get_or held r 0) (get_or trees r _) (stand.each r below) }

    -- The holder of the next item, where that is a long binary.
    pub holder-at : (rest : List Item) → rest ≡ drop i code → (bins bin words : ℕ) → BinsStand c shared mem0 bins (long_bins code) → words ≡ (if is_long (get_or code (i - 1) d) then 6 else 0)
        → bin + 6 * long_bins (drop i code) ≡ bins
        → HolderStands b.test shared mem (bin - words) (get_or code (i - 1) d) (long_bins rest)
    holder-at rest left bins bin words all is at =
        let H : List Item → Type 0 = λ xs. HolderStands b.test shared mem (bin - words) (get_or code (i - 1) d) (long_bins xs) in
        subst H (sym left) (record { stands = λ long. by long (longs-at code i d some within) })
      where
        by : is_long (get_or code (i - 1) d) ≡ true → long_bins (drop (i - 1) code) ≡ (if is_long (get_or code (i - 1) d) then 1 else 0) + long_bins (drop i code)
            → Stands b.test shared mem (boxed_word (bin - words)) (Shared (length shared - long_bins (drop i code)))
        by long sum =
            let one : long_bins (drop (i - 1) code) ≡ 1 + long_bins (drop i code) = sum ∙ ap (λ l. (if l then 1 else 0) + long_bins (drop i code)) long in
            let six : words ≡ 6 = is ∙ ap (λ l. if l then 6 else 0) long in
            let below : long_bins (drop i code) < long_bins code = omega (arith, one, longs-rest (i - 1) code) in
            let place : bins - 6 * suc (long_bins (drop i code)) ≡ bin - words = omega (arith, at, six) in
            let P : ℕ → Type 0 = λ z. Stands b.test shared mem (boxed_word z) (Shared (length shared - long_bins (drop i code))) in
            subst P place (b.grows.kept.each shared (boxed_word (bins - 6 * suc (long_bins (drop i code)))) (Shared (length shared - long_bins (drop i code)))
            (all.each (long_bins (drop i code)) below))

    -- It was put.
    pub put-more : (rest : List Item) → rest ≡ drop i code → (z : Room) (mem2 ws2 : List ℕ) → has_big_item names shared trees (drop i code) ≡ false
        → UsesSome (own_words (get_or code (i - 1) d)) y z mem mem2
        → is_big_item shared (get_or code (i - 1) d) (take (parts_after (get_or code (i - 1) d)) (read names shared trees (drop i code))) ≡ false
        → MarksBuilt b.test y.top (z.top - y.top) mem mem2 shared ws2 (read_item names shared trees (get_or code (i - 1) d) rest (read names shared trees (drop i code)))
        → (has_big_item names shared trees (drop (i - 1) code) ≡ false) × MarksBuilt c x.top (z.top - x.top) mem0 mem2 shared ws2 (read names shared trees (drop (i - 1) code))
    put-more rest left z mem2 ws2 small v next e =
        let from : y.top ≡ x.top + (y.top - x.top) = omega (arith, u.uses.moved) in
        let sum : (y.top - x.top) + (z.top - y.top) ≡ z.top - x.top = omega (arith, u.uses.moved, v.uses.moved) in
        let P : ℕ → Type 0 = λ p. Grows b.test e.test p (z.top - y.top) mem mem2 in
        let Q : ℕ → Type 0 = λ n. Grows c e.test x.top n mem0 mem2 in
        let R : List (Option Tree) → Type 0 = λ ms. AreMarks e.test shared mem2 ws2 ms in
        let here : AreMarks e.test shared mem2 ws2 (read_item names shared trees (get_or code (i - 1) d) (drop i code) (read names shared trees (drop i code))) =
        subst R (ap (λ xs. read_item names shared trees (get_or code (i - 1) d) xs (read names shared trees (drop i code))) left) e.made in (
          big-at names shared trees code i d some within ∙ or_from _ _ next small,
          record {
            test = e.test;
            grows = subst Q sum (grows-then c b.test e.test x.top (y.top - x.top) (z.top - y.top) mem0 mem mem2 b.grows (subst P from e.grows));
            made = subst R (sym (read-at names shared trees code i d some within)) here;
          },
        )

    -- It has a big key.
    pub put-big : is_big_item shared (get_or code (i - 1) d) (take (parts_after (get_or code (i - 1) d)) (read names shared trees (drop i code))) ≡ true → has_big_item names shared trees code ≡ true
    put-big big = big-rest names shared trees (i - 1) code (big-at names shared trees code i d some within ∙ or_left _ (has_big_item names shared trees (drop i code)) big)

-- At the end one word is left.

pub one-left : (row : List ℕ) (sp : ℕ) → sp + 1 ≡ length row → drop sp row ≡ get_or row sp 0 ∷ []
one-left row sp e =
    drop-cons row sp 0 (omega (arith, e)) ∙ ap (λ z. get_or row sp 0 ∷ z) (nil_from_length (drop (suc sp) row) (omega (arith, e, length-drop (suc sp) row)))

pub all-read : (i : ℕ) (code : List Item) (P : List Item → Type 0) → i ≤ 0 → P (drop i code) → P code
all-read i code P none h = let zero_left : i ≡ 0 = omega (arith, none) in let Q : ℕ → Type 0 = λ z. P (drop z code) in subst Q zero_left h
