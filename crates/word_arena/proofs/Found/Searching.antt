-- Searches by the table.
use Rattle.std.proofs.Common.{◌≡◌, ◌≢◌, ℕ, ◌+◌, ◌*◌, ◌/◌, ◌<◌, ◌≤◌, ◌⊎◌, List, length, get_or, min, refl, sym, ◌∙◌, subst, arith, inl, inr, Option, Some, None, IfSome, IfNone}
use Rattle.std.proofs.lemmas.Bool.{cases_lt}
use Rattle.std.proofs.lemmas.List.{get_or_past}
use Rattle.word_arena.specs.Blocks.{size_at, kind_at, free_at, Blocked, BlockBegins, IsBoundary}
use Rattle.word_arena.specs.Calls.{NoneFits, FirstFit, FreeFrom, IsGreatest}
use Rattle.word_arena.specs.Stretches.{Right, Agrees}
use Rattle.word_arena.specs.declared.holes.Holes.{Holes}
use Rattle.word_arena.proofs.Side.Facts.{free-all, free-most, some-free, block-within, apart}
use Rattle.word_arena.proofs.Found.Table.{begins-below, start-first}

-- What the table says of a block's stretch.
pub right-at : (mem : List ℕ) (h : Holes) (p : ℕ) → Blocked mem → Agrees mem h → BlockBegins mem p → Right mem h.firsts.items h.tops (p / 64)
right-at mem h p blocked agrees begins = agrees.right (p / 64) (omega (arith, begins-below mem p blocked begins, agrees.room.stretches))

pub below-top : (mem : List ℕ) (h : Holes) (p : ℕ) → Blocked mem → Agrees mem h → BlockBegins mem p → free_at mem p ≤ get_or h.tops (p / 64) 0
below-top mem h p blocked agrees begins = (right-at mem h p blocked agrees begins).top.above p begins refl

-- A stretch with a free block is one of the table's.
pub top-inside : (mem : List ℕ) (h : Holes) (i : ℕ) → Agrees mem h → 1 ≤ get_or h.tops i 0 → i < length h.firsts.items
top-inside mem h i agrees some =
    elim (cases_lt i (length h.tops)) as (λ _. i < length h.firsts.items) [
      | inl inside ↦ omega (arith, agrees.room.tops)
      | inr past ↦ absurd (omega (arith, get_or_past h.tops i 0 past))
    ]

-- Its first block begins in it.
pub top-stop : (mem : List ℕ) (h : Holes) (i : ℕ) → Blocked mem → Agrees mem h → 1 ≤ get_or h.tops i 0 → IsBoundary mem (i * 64 + get_or h.firsts.items i 0)
top-stop mem h i blocked agrees some =
    let r = agrees.right i (top-inside mem h i agrees some) in
    let m = r.top.met (omega (arith, some)) in
    let low = r.first.least m.0 m.1 m.2 in
    let p = i * 64 + get_or h.firsts.items i 0 in
    let is : BlockBegins mem p = r.first.begins (omega (arith, low, m.2)) in
    record { inside = omega (arith, begins-below mem p blocked is); begins = λ _. is }

pub greatest-is : (mem : List ℕ) (h : Holes) (words : ℕ) → Blocked mem → Agrees mem h → ((i : ℕ) → get_or h.tops i 0 ≤ words)
    → (0 < words → (i : ℕ) × (get_or h.tops i 0 ≡ words)) → IsGreatest mem words
greatest-is mem h words blocked agrees above met =
    record {
      above = λ p begins. omega (arith, below-top mem h p blocked agrees begins, above (p / 64));
      met = λ some.
          let m = met some in
          let r = agrees.right m.0 (top-inside mem h m.0 agrees (omega (arith, m.1, some))) in
          let t = r.top.met (omega (arith, m.1, some)) in
          (t.0, t.1, t.3 ∙ m.1);
    }

pub fits-none : (mem : List ℕ) (h : Holes) (words : ℕ) → Blocked mem → Agrees mem h → ((i : ℕ) → get_or h.tops i 0 < words) → NoneFits mem words
fits-none mem h words blocked agrees less = λ p begins. omega (arith, below-top mem h p blocked agrees begins, less (p / 64))

-- In the first stretch with a block that fits, the first that fits is the first of all.
pub fits-first : (mem : List ℕ) (h : Holes) (i end_of_i words at : ℕ) → Blocked mem → Agrees mem h → 1 ≤ words
    → ((j : ℕ) → j < i → get_or h.tops j 0 < words) → end_of_i ≡ min (i * 64 + 64) (length mem)
    → BlockBegins mem at → (i * 64 + get_or h.firsts.items i 0 ≤ at) × (at < end_of_i) → words ≤ free_at mem at
    → ((p : ℕ) → BlockBegins mem p → i * 64 + get_or h.firsts.items i 0 ≤ p → p < at → free_at mem p < words) → FirstFit mem words at
fits-first mem h i end_of_i words at blocked agrees some before last begins inside fits first =
    record {
      begins = begins;
      free = some-free mem at (omega arith);
      fits = omega (arith, free-most mem at);
      first = λ p is below. elim (cases_lt (p / 64) i) as (λ _. free_at mem p < words) [
        | inl less ↦ omega (arith, below-top mem h p blocked agrees is, before (p / 64) less)
        | inr more ↦ (
            let place : p / 64 ≡ i = omega (arith, inside) in
            let P : ℕ → Type 0 = λ z. z * 64 + get_or h.firsts.items z 0 ≤ p in
            first p is (subst P place ((right-at mem h p blocked agrees is).first.least p is refl)) below)
      ];
    }

pub fits-some : (mem : List ℕ) (h : Holes) (i end_of_i words : ℕ) (r : Option ℕ) → Blocked mem → Agrees mem h → 1 ≤ words
    → ((j : ℕ) → j < i → get_or h.tops j 0 < words) → end_of_i ≡ min (i * 64 + 64) (length mem)
    → IfSome r (λ at. BlockBegins mem at) → IfSome r (λ at. (i * 64 + get_or h.firsts.items i 0 ≤ at) × (at < end_of_i)) → IfSome r (λ at. words ≤ free_at mem at)
    → IfSome r (λ at. (p : ℕ) → BlockBegins mem p → i * 64 + get_or h.firsts.items i 0 ≤ p → p < at → free_at mem p < words) → IfSome r (λ at. FirstFit mem words at)
fits-some mem h i end_of_i words None blocked agrees some before last begins inside fits first = tt
fits-some mem h i end_of_i words (Some at) blocked agrees some before last begins inside fits first =
    fits-first mem h i end_of_i words at blocked agrees some before last begins inside fits first

-- It is found there.
pub fits-there : (mem : List ℕ) (h : Holes) (i end_of_i words : ℕ) → Blocked mem → Agrees mem h → 1 ≤ words → words ≤ get_or h.tops i 0
    → end_of_i ≡ min (i * 64 + 64) (length mem)
    → ((p : ℕ) → BlockBegins mem p → i * 64 + get_or h.firsts.items i 0 ≤ p → p < end_of_i → free_at mem p < words) → ⊥
fits-there mem h i end_of_i words blocked agrees some great last none =
    let r = agrees.right i (top-inside mem h i agrees (omega arith)) in
    let m = r.top.met (omega arith) in
    omega (arith, none m.0 m.1 (r.first.least m.0 m.1 m.2) (omega (arith, last, m.2, begins-below mem m.0 blocked m.1)), m.3)

pub fits-end : (mem : List ℕ) (h : Holes) (i end_of_i words : ℕ) (r : Option ℕ) → Blocked mem → Agrees mem h → 1 ≤ words → words ≤ get_or h.tops i 0
    → end_of_i ≡ min (i * 64 + 64) (length mem)
    → IfNone r ((p : ℕ) → BlockBegins mem p → i * 64 + get_or h.firsts.items i 0 ≤ p → p < end_of_i → free_at mem p < words) → IfNone r (NoneFits mem words)
fits-end mem h i end_of_i words None blocked agrees some great last none = absurd (fits-there mem h i end_of_i words blocked agrees some great last none)
fits-end mem h i end_of_i words (Some at) blocked agrees some great last none = tt

-- Only one block ends at a place.
ends-one : (mem : List ℕ) (p q : ℕ) → Blocked mem → BlockBegins mem p → BlockBegins mem q → p + size_at mem p ≡ q + size_at mem q → p ≡ q
ends-one mem p q blocked first second same =
    let some : 1 ≤ size_at mem p = (block-within mem p blocked first).header.sized in
    let also : 1 ≤ size_at mem q = (block-within mem q blocked second).header.sized in
    elim (cases_lt p q) as (λ _. p ≡ q) [
      | inl below ↦ absurd (omega (arith, apart mem p q blocked first second below))
      | inr above ↦ elim (cases_lt q p) as (λ _. p ≡ q) [
        | inl more ↦ absurd (omega (arith, apart mem q p blocked second first more))
        | inr less ↦ omega arith
      ]
    ]

pub free-from : (mem : List ℕ) (at from : ℕ) → Blocked mem
    → (from ≡ at) ⊎ (BlockBegins mem from × (kind_at mem from ≡ 0) × (from + size_at mem from ≡ at))
    → (from ≡ at → (p : ℕ) → BlockBegins mem p → kind_at mem p ≡ 0 → p + size_at mem p ≢ at) → FreeFrom mem at from
free-from mem at from blocked place none =
    record {
      place = place;
      only = λ p begins free ends. elim place as (λ _. p ≡ from) [
        | inl same ↦ absurd (none same p begins free ends)
        | inr is ↦ ends-one mem p from blocked begins is.0 (ends ∙ sym is.2)
      ];
    }

-- The first block of a block's own stretch.
pub own-stop : (mem : List ℕ) (h : Holes) (at : ℕ) → Blocked mem → Agrees mem h → BlockBegins mem at → IsBoundary mem (at / 64 * 64 + get_or h.firsts.items (at / 64) 0)
own-stop mem h at blocked agrees begins =
    (start-first mem (at / 64) (get_or h.firsts.items (at / 64) 0) at blocked (right-at mem h at blocked agrees begins).first begins refl).stop

-- A free block that ends at a place begins in the place's own stretch where that has a block before the place.
pub own-none : (mem : List ℕ) (h : Holes) (at : ℕ) → Blocked mem → Agrees mem h → BlockBegins mem at → at / 64 * 64 + get_or h.firsts.items (at / 64) 0 < at
    → ((p : ℕ) → BlockBegins mem p → at / 64 * 64 + get_or h.firsts.items (at / 64) 0 ≤ p → p < at → kind_at mem p ≡ 0 → p + size_at mem p ≢ at)
    → (p : ℕ) → BlockBegins mem p → kind_at mem p ≡ 0 → p + size_at mem p ≢ at
own-none mem h at blocked agrees begins below none p is free ends =
    let own = at / 64 * 64 + get_or h.firsts.items (at / 64) 0 in
    let some : 1 ≤ size_at mem p = (block-within mem p blocked is).header.sized in
    let first : BlockBegins mem own = (own-stop mem h at blocked agrees begins).begins (omega (arith, begins-below mem at blocked begins)) in
    elim (cases_lt p own) as (λ _. ⊥) [
      | inl before ↦ (let far : p + size_at mem p ≤ own = apart mem p own blocked is first before in omega arith)
      | inr behind ↦ none p is behind (omega arith) free ends
    ]

-- Else it begins in an earlier stretch, the last with a free block.

earlier : (mem : List ℕ) (h : Holes) (at p : ℕ) → Blocked mem → Agrees mem h → BlockBegins mem at → at ≤ at / 64 * 64 + get_or h.firsts.items (at / 64) 0
    → BlockBegins mem p → p + size_at mem p ≡ at → p / 64 < at / 64
earlier mem h at p blocked agrees begins own is ends =
    let some : 1 ≤ size_at mem p = (block-within mem p blocked is).header.sized in
    elim (cases_lt (p / 64) (at / 64)) as (λ _. p / 64 < at / 64) [
      | inl less ↦ less
      | inr more ↦ (let same : p / 64 ≡ at / 64 = omega arith in
          absurd (omega (arith, (right-at mem h at blocked agrees begins).first.least p is same)))
    ]

pub earlier-none : (mem : List ℕ) (h : Holes) (at : ℕ) → Blocked mem → Agrees mem h → BlockBegins mem at → at ≤ at / 64 * 64 + get_or h.firsts.items (at / 64) 0
    → ((j : ℕ) → j < at / 64 → get_or h.tops j 0 ≡ 0)
    → (p : ℕ) → BlockBegins mem p → kind_at mem p ≡ 0 → p + size_at mem p ≢ at
earlier-none mem h at blocked agrees begins own none p is free ends =
    omega (
      arith,
      none (p / 64) (earlier mem h at p blocked agrees begins own is ends),
      below-top mem h p blocked agrees is,
      free-all mem p free,
      (block-within mem p blocked is).header.sized,
    )

pub earlier-last : (mem : List ℕ) (h : Holes) (at k end_of_k : ℕ) → Blocked mem → Agrees mem h → BlockBegins mem at → at ≤ at / 64 * 64 + get_or h.firsts.items (at / 64) 0
    → 1 ≤ get_or h.tops k 0 → ((j : ℕ) → k < j → j < at / 64 → get_or h.tops j 0 ≡ 0) → end_of_k ≡ min (k * 64 + 64) (length mem) → k < at / 64
    → ((p : ℕ) → BlockBegins mem p → k * 64 + get_or h.firsts.items k 0 ≤ p → p < end_of_k → kind_at mem p ≡ 0 → p + size_at mem p ≢ at)
    → (p : ℕ) → BlockBegins mem p → kind_at mem p ≡ 0 → p + size_at mem p ≢ at
earlier-last mem h at k end_of_k blocked agrees begins own some between last before none p is free ends =
    let r = agrees.right k (top-inside mem h k agrees some) in
    let m = r.top.met (omega arith) in
    let early : p / 64 < at / 64 = earlier mem h at p blocked agrees begins own is ends in
    let words : 1 ≤ get_or h.tops (p / 64) 0 = omega (arith, below-top mem h p blocked agrees is, free-all mem p free, (block-within mem p blocked is).header.sized) in
    elim (cases_lt k (p / 64)) as (λ _. ⊥) [
      | inl later ↦ omega (arith, between (p / 64) later early)
      | inr upto ↦ elim (cases_lt (p / 64) k) as (λ _. ⊥) [
        | inl less ↦ (let far : p + size_at mem p ≤ m.0 = apart mem p m.0 blocked is m.1 (omega (arith, m.2)) in omega (arith, m.2))
        | inr same ↦ (let place : p / 64 ≡ k = omega arith in
            none p is (r.first.least p is place) (omega (arith, begins-below mem p blocked is)) free ends)
      ]
    ]
