-- The free words before a place.
use Rattle.std.proofs.Common.{◌≡◌, ℕ, ◌+◌, ◌<◌, ◌≤◌, true, false, nat_lt, if◌then◌else◌, List, [], ◌∷◌, ◌++◌, length, get_or, refl, sym, ◌∙◌, ap, subst, arith, inl, inr}
use Rattle.std.proofs.lemmas.Bool.{cases_lt}
use Rattle.std.proofs.lemmas.Bool.Decides.{nat_tests}
use Rattle.word_arena.specs.Blocks.{size_at, kind_at, free_at, Blocked, block_places, IsListed, BlockBegins, IsUsed, IsBoundary, free_among, free_of}
use Rattle.word_arena.specs.Calls.{HeadersStay}
use Rattle.word_arena.specs.Sums.{free_below, free_before, slid}
use Rattle.word_arena.proofs.Side.Places.{free_among-append}
use Rattle.word_arena.proofs.Side.Tiling.{blocks-front, blocks-within}
use Rattle.word_arena.proofs.Side.Facts.{row-at, block-within, apart, free-none}
use Rattle.word_arena.proofs.Side.Summing.{Sum, sum-zero, sum-next, sum-most, free_among-most}
use Rattle.word_arena.proofs.Laid.Relaid.{free_of-row}
use Rattle.word_arena.proofs.Laid.Lent.{lent-places}
use Rattle.word_arena.proofs.Found.Table.{same-free}

before-row : (mem : List ℕ) (at : ℕ) → free_before mem at ≡ free_below mem at (block_places mem)
unfolding free_before
before-row mem at = refl

below-append : (mem : List ℕ) (at : ℕ) (xs ys : List ℕ) → free_below mem at (xs ++ ys) ≡ free_below mem at xs + free_below mem at ys
below-append mem at [] ys = omega arith
below-append mem at (x ∷ xs) ys = omega (arith, below-append mem at xs ys)

below-all : (mem : List ℕ) (at : ℕ) (ps : List ℕ) → ((p : ℕ) → IsListed p ps → p < at) → free_below mem at ps ≡ free_among mem ps
below-all mem at [] low = refl
below-all mem at (p ∷ ps) low =
    let here : p < at = low p (inl refl) in
    let test : nat_lt p at ≡ true = grind (arith, nat_tests) in
    rw (test, below-all mem at ps (λ q is. low q (inr is))) refl

below-none : (mem : List ℕ) (at : ℕ) (ps : List ℕ) → ((p : ℕ) → IsListed p ps → at ≤ p) → free_below mem at ps ≡ 0
below-none mem at [] high = refl
below-none mem at (p ∷ ps) high =
    let here : at ≤ p = high p (inl refl) in
    let test : nat_lt p at ≡ false = grind (arith, nat_tests) in
    rw (test, below-none mem at ps (λ q is. high q (inr is))) refl

below-same : (mem : List ℕ) (a b : ℕ) (ps : List ℕ) → ((p : ℕ) → IsListed p ps → nat_lt p a ≡ nat_lt p b) → free_below mem a ps ≡ free_below mem b ps
below-same mem a b [] same = refl
below-same mem a b (p ∷ ps) same = rw (same p (inl refl), below-same mem a b ps (λ q is. same q (inr is))) refl

test-same : (p a b : ℕ) → (a ≤ p → b ≤ p) → (b ≤ p → a ≤ p) → nat_lt p a ≡ nat_lt p b
test-same p a b to back =
    elim (cases_lt p a) as (λ _. nat_lt p a ≡ nat_lt p b) [
      | inl low ↦ elim (cases_lt p b) as (λ _. nat_lt p a ≡ nat_lt p b) [
        | inl also ↦ (let x : nat_lt p a ≡ true = grind (arith, nat_tests) in let y : nat_lt p b ≡ true = grind (arith, nat_tests) in x ∙ sym y)
        | inr high ↦ (let h : a ≤ p = back high in absurd (omega arith))
      ]
      | inr high ↦ (
          let also : b ≤ p = to high in
          let x : nat_lt p a ≡ false = grind (arith, nat_tests) in let y : nat_lt p b ≡ false = grind (arith, nat_tests) in x ∙ sym y)
    ]

-- Where no block begins between two places, as much is free before both.
pub before-same : (mem : List ℕ) (a b : ℕ) → ((p : ℕ) → BlockBegins mem p → a ≤ p → b ≤ p) → ((p : ℕ) → BlockBegins mem p → b ≤ p → a ≤ p)
    → free_before mem a ≡ free_before mem b
before-same mem a b to back =
    before-row mem a
    ∙ below-same mem a b (block_places mem) (λ p listed. (let is : BlockBegins mem p = record { listed = listed } in test-same p a b (to p is) (back p is)))
    ∙ sym (before-row mem b)

term-idle : (mem : List ℕ) (p a b : ℕ) → a ≤ b → (a ≤ p → p < b → 1 ≤ kind_at mem p) → (if nat_lt p a then free_at mem p else 0) ≡ (if nat_lt p b then free_at mem p else 0)
term-idle mem p a b order used =
    elim (cases_lt p a) as (λ _. (if nat_lt p a then free_at mem p else 0) ≡ (if nat_lt p b then free_at mem p else 0)) [
      | inl low ↦ (let x : nat_lt p a ≡ true = grind (arith, nat_tests) in let y : nat_lt p b ≡ true = grind (arith, nat_tests) in rw (x, y) refl)
      | inr high ↦ (
          let x : nat_lt p a ≡ false = grind (arith, nat_tests) in
          elim (cases_lt p b) as (λ _. (if nat_lt p a then free_at mem p else 0) ≡ (if nat_lt p b then free_at mem p else 0)) [
            | inl also ↦ (let y : nat_lt p b ≡ true = grind (arith, nat_tests) in rw (x, y) (sym (free-none mem p (used high also))))
            | inr far ↦ (let y : nat_lt p b ≡ false = grind (arith, nat_tests) in rw (x, y) refl)
          ])
    ]

below-idle : (mem : List ℕ) (a b : ℕ) (ps : List ℕ) → a ≤ b → ((p : ℕ) → IsListed p ps → a ≤ p → p < b → 1 ≤ kind_at mem p) → free_below mem a ps ≡ free_below mem b ps
below-idle mem a b [] order used = refl
below-idle mem a b (p ∷ ps) order used =
    let here : (if nat_lt p a then free_at mem p else 0) ≡ (if nat_lt p b then free_at mem p else 0) = term-idle mem p a b order (used p (inl refl)) in
    omega (arith, here, below-idle mem a b ps order (λ q is. used q (inr is)))

-- Where no free block begins between two places, as much is free before both.
pub before-idle : (mem : List ℕ) (a b : ℕ) → a ≤ b → ((p : ℕ) → BlockBegins mem p → a ≤ p → p < b → 1 ≤ kind_at mem p) → free_before mem a ≡ free_before mem b
before-idle mem a b order used =
    before-row mem a ∙ below-idle mem a b (block_places mem) order (λ p listed. used p (record { listed = listed })) ∙ sym (before-row mem b)

-- What is free in a row of blocks up to a place is what is free before it.
pub sum-before : (mem : List ℕ) (at all : ℕ) → Blocked mem → at ≤ length mem → Sum mem at all → free_before mem at ≡ all
sum-before mem at all blocked inside s =
    let f = blocks-front mem 0 at (length mem) s.ps (block_places mem) s.row blocked.row inside in
    let front : free_below mem at s.ps ≡ free_among mem s.ps = below-all mem at s.ps (λ p listed. (let w = blocks-within mem 0 at p s.ps s.row listed in omega (arith, w.to, w.header.sized))) in
    let back : free_below mem at f.rest ≡ 0 = below-none mem at f.rest (λ p listed. (blocks-within mem at (length mem) p f.rest f.row listed).from) in
    let split : free_below mem at (block_places mem) ≡ free_below mem at (s.ps ++ f.rest) = ap (λ (z : List ℕ). free_below mem at z) f.is in
    omega (arith, before-row mem at, split, below-append mem at s.ps f.rest, front, back, s.is)

pub block-sum : (mem : List ℕ) (p : ℕ) → Blocked mem → BlockBegins mem p → Sum mem p (free_before mem p)
block-sum mem p blocked begins =
    let r = row-at mem p blocked begins in
    let s : Sum mem p (free_among mem r.before) = record { ps = r.before; row = r.front; is = refl } in
    let w = block-within mem p blocked begins in
    let P : ℕ → Type 0 = λ z. Sum mem p z in
    subst P (sym (sum-before mem p (free_among mem r.before) blocked (omega (arith, w.to)) s)) s

pub before-zero : (mem : List ℕ) → Blocked mem → free_before mem 0 ≡ 0
before-zero mem blocked = sum-before mem 0 0 blocked (omega arith) (sum-zero mem)

pub before-next : (mem : List ℕ) (p : ℕ) → Blocked mem → BlockBegins mem p → free_before mem (p + size_at mem p) ≡ free_before mem p + free_at mem p
before-next mem p blocked begins =
    sum-before mem (p + size_at mem p) (free_before mem p + free_at mem p) blocked (block-within mem p blocked begins).to
    (sum-next mem p (free_before mem p) blocked begins (block-sum mem p blocked begins))

pub before-all : (mem : List ℕ) → Blocked mem → free_before mem (length mem) ≡ free_of mem
before-all mem blocked =
    let s : Sum mem (length mem) (free_among mem (block_places mem)) = record { ps = block_places mem; row = blocked.row; is = refl } in
    let same : length mem ≤ length mem = omega arith in
    sum-before mem (length mem) (free_among mem (block_places mem)) blocked same s ∙ sym (free_of-row mem (block_places mem) refl)

pub before-most : (mem : List ℕ) (p : ℕ) → Blocked mem → BlockBegins mem p → free_before mem p ≤ p
before-most mem p blocked begins = sum-most mem p (free_before mem p) (block-sum mem p blocked begins)

pub boundary-most : (mem : List ℕ) (a : ℕ) → Blocked mem → IsBoundary mem a → free_before mem a ≤ a
boundary-most mem a blocked stop =
    elim (cases_lt a (length mem)) as (λ _. free_before mem a ≤ a) [
      | inl below ↦ before-most mem a blocked (stop.begins below)
      | inr past ↦ (
          let same : length mem ≡ a = omega (arith, stop.inside) in
          let s : Sum mem (length mem) (free_among mem (block_places mem)) = record { ps = block_places mem; row = blocked.row; is = refl } in
          let fits : length mem ≤ length mem = omega arith in
          let P : ℕ → Type 0 = λ z. free_before mem z ≤ z in
          subst P same (omega (arith, sum-before mem (length mem) (free_among mem (block_places mem)) blocked fits s, sum-most mem (length mem) (free_among mem (block_places mem)) s)))
    ]

-- Before each place of a block in use, and before its end, as much is free as before the block.
pub before-used : (mem : List ℕ) (p at : ℕ) → Blocked mem → IsUsed mem p → p ≤ at → at ≤ p + size_at mem p → free_before mem at ≡ free_before mem p
before-used mem p at blocked used from to =
    elim (cases_lt p at) as (λ _. free_before mem at ≡ free_before mem p) [
      | inl behind ↦ (
          let e = p + size_at mem p in
          let same : free_before mem at ≡ free_before mem e = before-same mem at e
          (λ q begins high. apart mem p q blocked used.begins begins (omega (arith, high, behind))) (λ q begins high. omega (arith, high, to)) in
          omega (arith, same, before-next mem p blocked used.begins, free-none mem p used.kind))
      | inr here ↦ (let same : p ≡ at = omega arith in let P : ℕ → Type 0 = λ z. free_before mem z ≡ free_before mem p in subst P same refl)
    ]

-- Blocks in use that move down by the free words before them stay apart.
pub before-order : (mem : List ℕ) (p q : ℕ) → Blocked mem → IsUsed mem p → IsUsed mem q → p < q → slid mem p p + size_at mem p ≤ slid mem q q
before-order mem p q blocked first second below =
    let e = p + size_at mem p in
    let far : e ≤ q = apart mem p q blocked first.begins second.begins below in
    let s = sum-next mem p (free_before mem p) blocked first.begins (block-sum mem p blocked first.begins) in
    let t = block-sum mem q blocked second.begins in
    let f = blocks-front mem 0 e q s.ps t.ps s.row t.row far in
    let split : free_among mem t.ps ≡ free_among mem (s.ps ++ f.rest) = ap (λ (z : List ℕ). free_among mem z) f.is in
    omega (
      arith,
      s.is,
      t.is,
      split,
      free_among-append mem s.ps f.rest,
      free_among-most mem e q f.rest f.row,
      free-none mem p first.kind,
      before-most mem p blocked first.begins,
    )

-- Headers that stay keep what is free before each place.

below-kept : (old new : List ℕ) (at : ℕ) (ps : List ℕ) → ((p : ℕ) → IsListed p ps → get_or new p 0 ≡ get_or old p 0) → free_below new at ps ≡ free_below old at ps
below-kept old new at [] same = refl
below-kept old new at (p ∷ ps) same = rw (same-free old new p (same p (inl refl)), below-kept old new at ps (λ q is. same q (inr is))) refl

pub before-kept : (old new : List ℕ) (at : ℕ) → Blocked old → HeadersStay old new → free_before new at ≡ free_before old at
before-kept old new at blocked same =
    before-row new at
    ∙ ap (λ (z : List ℕ). free_below new at z) (lent-places old new blocked same)
    ∙ below-kept old new at (block_places old) (λ p listed. same.same p (record { listed = listed }))
    ∙ sym (before-row old at)
