-- What is known of the blocks of a memory that is a row of blocks.
use Rattle.std.proofs.Common.{◌≡◌, ℕ, ◌+◌, ◌/◌, ◌%◌, ◌<◌, ◌≤◌, ◌⊎◌, true, false, ◌==◌, List, [], ◌∷◌, ◌++◌, length, refl, sym, subst, arith, inl, inr}
use Rattle.std.proofs.lemmas.Bool.{cases_lt}
use Rattle.std.proofs.lemmas.Bool.Decides.{nat_tests}
use Rattle.word_arena.specs.Blocks.{size_at, kind_at, free_at, header, IsHeader, Blocks, Blocked, block_places, IsListed, BlockBegins, IsBoundary, FreeApart}
use Rattle.word_arena.specs.Calls.{free_end}
use Rattle.word_arena.proofs.Side.Places.{in-right, around}
use Rattle.word_arena.proofs.Side.Tiling.{blocks-part, Within, blocks-within, blocks-apart, blocks-cover}

-- The free words of a free block and of another.

pub free-all : (mem : List ℕ) (p : ℕ) → kind_at mem p ≡ 0 → free_at mem p ≡ size_at mem p
free-all mem p free = let test : (kind_at mem p == 0) ≡ true = grind (arith, nat_tests) in rw test refl

pub free-none : (mem : List ℕ) (p : ℕ) → 1 ≤ kind_at mem p → free_at mem p ≡ 0
free-none mem p used = let test : (kind_at mem p == 0) ≡ false = grind (arith, nat_tests) in rw test refl

pub free-most : (mem : List ℕ) (p : ℕ) → free_at mem p ≤ size_at mem p
free-most mem p = elim (cases_lt 0 (kind_at mem p)) as (λ _. free_at mem p ≤ size_at mem p)
    [ inl used ↦ omega (arith, free-none mem p used) | inr z ↦ (let zero : kind_at mem p ≡ 0 = omega arith in omega (arith, free-all mem p zero)) ]

-- A block with free words is free.
pub some-free : (mem : List ℕ) (p : ℕ) → 1 ≤ free_at mem p → kind_at mem p ≡ 0
some-free mem p some =
    elim (cases_lt 0 (kind_at mem p)) as (λ _. kind_at mem p ≡ 0) [ inl used ↦ absurd (omega (arith, free-none mem p used)) | inr z ↦ omega arith ]

-- The word that a size and a kind make.
pub made-header : (word size kind : ℕ) → word ≡ header size kind → kind ≤ 8 → 1 ≤ size → (1 ≤ kind → 2 ≤ size) → IsHeader word
made-header word size kind is low some owned =
    record { kind = omega arith; sized = omega arith; owned = λ k. let s : 2 ≤ size = owned (omega arith) in omega arith }

pub header-size : (word size kind : ℕ) → word ≡ header size kind → kind ≤ 8 → word / 16 ≡ size
header-size word size kind is low = omega arith

pub header-kind : (word size kind : ℕ) → word ≡ header size kind → kind ≤ 8 → word % 16 ≡ kind
header-kind word size kind is low = omega arith

-- The row up to a block and from it on.
pub record At (mem : List ℕ) (p : ℕ) : Type 0 where
  pub before : List ℕ
  pub after : List ℕ
  pub is : block_places mem ≡ before ++ (p ∷ after)
  pub front : Blocks mem 0 before p
  pub back : Blocks mem p (p ∷ after) (length mem)

pub row-at : (mem : List ℕ) (p : ℕ) → Blocked mem → BlockBegins mem p → At mem p
row-at mem p blocked begins =
    let r = around p (block_places mem) begins.listed in
    let P : List ℕ → Type 0 = λ z. Blocks mem 0 z (length mem) in
    let t = blocks-part mem 0 (length mem) r.before (p ∷ r.after) (subst P r.is blocked.row) in
    let place : t.at ≡ p = sym t.back.0 in
    let F : ℕ → Type 0 = λ z. Blocks mem 0 r.before z in
    let B : ℕ → Type 0 = λ z. Blocks mem z (p ∷ r.after) (length mem) in
    record { before = r.before; after = r.after; is = r.is; front = subst F place t.front; back = subst B place t.back }

pub block-within : (mem : List ℕ) (p : ℕ) → Blocked mem → BlockBegins mem p → Within mem 0 (length mem) p
block-within mem p blocked begins = blocks-within mem 0 (length mem) p (block_places mem) blocked.row begins.listed

-- Each place of the memory lies in a block.
pub block-around : (mem : List ℕ) (q : ℕ) → Blocked mem → q < length mem → (p : ℕ) × BlockBegins mem p × (p ≤ q) × (q < p + size_at mem p)
block-around mem q blocked inside =
    let c = blocks-cover mem 0 (length mem) q (block_places mem) blocked.row (omega arith) inside in
    (c.p, record { listed = c.listed }, c.from, c.to)

-- Two blocks are one or apart.
pub apart : (mem : List ℕ) (p q : ℕ) → Blocked mem → BlockBegins mem p → BlockBegins mem q → p < q → p + size_at mem p ≤ q
apart mem p q blocked first second below =
    blocks-apart mem 0 (length mem) p q (block_places mem) blocked.row first.listed second.listed below

pub one-or-apart : (mem : List ℕ) (p q : ℕ) → Blocked mem → BlockBegins mem p → BlockBegins mem q → (p ≡ q) ⊎ ((p + size_at mem p ≤ q) ⊎ (q + size_at mem q ≤ p))
one-or-apart mem p q blocked first second =
    elim (cases_lt p q) as (λ _. (p ≡ q) ⊎ ((p + size_at mem p ≤ q) ⊎ (q + size_at mem q ≤ p))) [
      | inl below ↦ inr (inl (apart mem p q blocked first second below))
      | inr above ↦ elim (cases_lt q p) as (λ _. (p ≡ q) ⊎ ((p + size_at mem p ≤ q) ⊎ (q + size_at mem q ≤ p))) [
        | inl more ↦ inr (inr (apart mem q p blocked second first more))
        | inr less ↦ inl (omega arith)
      ]
    ]

-- A free block has no word in common with one in use.
pub free-beside : (mem : List ℕ) (p q : ℕ) → Blocked mem → BlockBegins mem p → BlockBegins mem q → kind_at mem p ≡ 0 → 1 ≤ kind_at mem q
    → (q + size_at mem q ≤ p) ⊎ (p + size_at mem p ≤ q)
free-beside mem p q blocked first second free used =
    elim (one-or-apart mem p q blocked first second) as (λ _. (q + size_at mem q ≤ p) ⊎ (p + size_at mem p ≤ q)) [
      | inl same ↦ (let P : ℕ → Type 0 = λ z. kind_at mem z ≡ 0 in let none : kind_at mem q ≡ 0 = subst P same free in absurd (omega (arith, none, used)))
      | inr far ↦ elim far as (λ _. (q + size_at mem q ≤ p) ⊎ (p + size_at mem p ≤ q)) [ inl x ↦ inr x | inr y ↦ inl y ]
    ]

next-in : (mem : List ℕ) (p a : ℕ) (xs : List ℕ) → Blocks mem a xs (length mem) → a < length mem → IsListed a xs
next-in mem p a [] same below = absurd (omega arith)
next-in mem p a (x ∷ xs) (place, is, rest) below = inl (sym place)

-- Behind a block another begins, but at the end.
pub next-begins : (mem : List ℕ) (p : ℕ) → Blocked mem → BlockBegins mem p → p + size_at mem p < length mem → BlockBegins mem (p + size_at mem p)
next-begins mem p blocked begins below =
    let r = row-at mem p blocked begins in
    let next : IsListed (p + size_at mem p) (p ∷ r.after) = inr (next-in mem p (p + size_at mem p) r.after r.back.2 below) in
    let P : List ℕ → Type 0 = λ z. IsListed (p + size_at mem p) z in
    record { listed = subst P (sym r.is) (in-right (p + size_at mem p) r.before (p ∷ r.after) next) }

pub zero-begins : (mem : List ℕ) → Blocked mem → 0 < length mem → BlockBegins mem 0
zero-begins mem blocked some = record { listed = next-in mem 0 0 (block_places mem) blocked.row some }

pub stop-next : (mem : List ℕ) (p : ℕ) → Blocked mem → BlockBegins mem p → IsBoundary mem (p + size_at mem p)
stop-next mem p blocked begins =
    record { inside = (block-within mem p blocked begins).to; begins = λ below. next-begins mem p blocked begins below }

pub stop-zero : (mem : List ℕ) → Blocked mem → IsBoundary mem 0
stop-zero mem blocked = record { inside = omega arith; begins = λ some. zero-begins mem blocked some }

-- What holds of the blocks from one place up to a block, and of this one, holds up to its end.
pub walked : (P : ℕ → Type 0) (mem : List ℕ) (from at : ℕ) → Blocked mem → BlockBegins mem at
    → ((p : ℕ) → BlockBegins mem p → from ≤ p → p < at → P p) → P at → (p : ℕ) → BlockBegins mem p → from ≤ p → p < at + size_at mem at → P p
walked P mem from at blocked begins before here p is low high =
    elim (cases_lt p at) as (λ _. P p) [
      | inl below ↦ before p is low below
      | inr above ↦ elim (cases_lt at p) as (λ _. P p) [
        | inl inner ↦ (let far : at + size_at mem at ≤ p = apart mem at p blocked begins is inner in absurd (omega arith))
        | inr same ↦ (let e : at ≡ p = omega arith in subst P e here)
      ]
    ]

-- What begins where the free words end is in use.
pub behind-used : (mem : List ℕ) (a : ℕ) → Blocked mem → FreeApart mem → (a < length mem → BlockBegins mem a) → free_end mem a < length mem → 1 ≤ kind_at mem (free_end mem a)
behind-used mem a blocked fa begins below =
    elim (cases_lt 0 (free_at mem a)) as (λ _. 1 ≤ kind_at mem (free_end mem a)) [
      | inl some ↦ (
          let free : kind_at mem a ≡ 0 = some-free mem a some in
          let all : free_at mem a ≡ size_at mem a = free-all mem a free in
          let P : ℕ → Type 0 = λ z. 1 ≤ kind_at mem (a + z) in
          subst P (sym all) (fa.apart a (begins (omega arith)) free (omega arith)))
      | inr none ↦ (
          let is : BlockBegins mem a = begins (omega arith) in
          let same : a ≡ a + free_at mem a = omega arith in
          let P : ℕ → Type 0 = λ z. 1 ≤ kind_at mem z in
          subst P same (elim (cases_lt 0 (kind_at mem a)) as (λ _. 1 ≤ kind_at mem a) [
            | inl used ↦ used
            | inr zero ↦ (let free : kind_at mem a ≡ 0 = omega arith in absurd (omega (arith, free-all mem a free, (block-within mem a blocked is).header.sized)))
          ]))
    ]
