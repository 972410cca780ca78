-- Words of blocks in use, and of the blocks of a list that has each of them.
use Rattle.std.proofs.Common.{◌≡◌, ◌≢◌, ℕ, ◌+◌, ◌≤◌, ◌==◌, true, false, List, [], ◌∷◌, ◌++◌, length, refl, ap, subst, arith, inl, inr}
use Rattle.std.proofs.lemmas.Bool.{cases_lt}
use Rattle.std.proofs.lemmas.Bool.Decides.{nat_tests}
use Rattle.word_arena.specs.Blocks.{size_at, kind_at, free_at, Blocks, Blocked, block_places, IsListed, IsUsed, free_among, free_of}
use Rattle.word_arena.specs.Sums.{used_at, used_among, used_of, words_among}
use Rattle.word_arena.proofs.Side.Places.{in-left, in-right, in-append, around}
use Rattle.word_arena.proofs.Side.Tiling.{blocks-within}
use Rattle.word_arena.proofs.Side.Facts.{free-all, free-none}
use Rattle.word_arena.proofs.Laid.Relaid.{free_of-row}

used-none : (mem : List ℕ) (p : ℕ) → kind_at mem p ≡ 0 → used_at mem p ≡ 0
used-none mem p free = let test : (kind_at mem p == 0) ≡ true = grind (arith, nat_tests) in rw test refl

used-all : (mem : List ℕ) (p : ℕ) → 1 ≤ kind_at mem p → used_at mem p ≡ size_at mem p
used-all mem p used = let test : (kind_at mem p == 0) ≡ false = grind (arith, nat_tests) in rw test refl

-- The words of a block are free or in use.
used-or-free : (mem : List ℕ) (p : ℕ) → used_at mem p + free_at mem p ≡ size_at mem p
used-or-free mem p = elim (cases_lt 0 (kind_at mem p)) as (λ _. used_at mem p + free_at mem p ≡ size_at mem p) [
  | inl used ↦ omega (arith, used-all mem p used, free-none mem p used)
  | inr z ↦ (let zero : kind_at mem p ≡ 0 = omega arith in omega (arith, used-none mem p zero, free-all mem p zero))
]

row-words : (mem : List ℕ) (a b : ℕ) (ps : List ℕ) → Blocks mem a ps b → used_among mem ps + free_among mem ps + a ≡ b
row-words mem a b [] same = omega arith
row-words mem a b (p ∷ ps) (place, is, rest) = omega (arith, row-words mem (a + size_at mem p) b ps rest, used-or-free mem p, place)

used_of-row : (mem : List ℕ) → used_of mem ≡ used_among mem (block_places mem)
unfolding used_of
used_of-row mem = refl

pub used-and-free : (mem : List ℕ) → Blocked mem → used_of mem + free_of mem ≡ length mem
used-and-free mem blocked = omega (arith, row-words mem 0 (length mem) (block_places mem) blocked.row, used_of-row mem, free_of-row mem (block_places mem) refl)

words_among-append : (mem xs ys : List ℕ) → words_among mem (xs ++ ys) ≡ words_among mem xs + words_among mem ys
words_among-append mem [] ys = omega arith
words_among-append mem (x ∷ xs) ys = omega (arith, words_among-append mem xs ys)

-- What stands in a list stands there still when another place is left out.
left-out : (p q : ℕ) (xs ys : List ℕ) → q ≢ p → IsListed q (xs ++ (p ∷ ys)) → IsListed q (xs ++ ys)
left-out p q xs ys other is =
    elim (in-append q xs (p ∷ ys) is) as (λ _. IsListed q (xs ++ ys)) [
      | inl front ↦ in-left q xs ys front
      | inr back ↦ elim back as (λ _. IsListed q (xs ++ ys)) [ inl same ↦ absurd (other same) | inr there ↦ in-right q xs ys there ]
    ]

-- The blocks in use of a row have no more words than a list that has each of them.
used-most : (mem : List ℕ) (a b : ℕ) (ps xs : List ℕ) → Blocks mem a ps b → ((p : ℕ) → IsListed p ps → 1 ≤ kind_at mem p → IsListed p xs)
    → used_among mem ps ≤ words_among mem xs
used-most mem a b [] xs row each = omega arith
used-most mem a b (p ∷ ps) xs (place, is, rest) each =
    elim (cases_lt 0 (kind_at mem p)) as (λ _. used_among mem (p ∷ ps) ≤ words_among mem xs) [
      | inl used ↦ (
          let r = around p xs (each p (inl refl) used) in
          let others : (q : ℕ) → IsListed q ps → 1 ≤ kind_at mem q → IsListed q (r.before ++ r.after) =
          λ q listed some. (
          let w = blocks-within mem (a + size_at mem p) b q ps rest listed in
          let Q : List ℕ → Type 0 = λ z. IsListed q z in
          left-out p q r.before r.after (λ same. omega (arith, same, w.from, place, is.sized)) (subst Q r.is (each q (inr listed) some))) in
          let more = used-most mem (a + size_at mem p) b ps (r.before ++ r.after) rest others in
          let sum : words_among mem xs ≡ words_among mem (r.before ++ (p ∷ r.after)) = ap (λ (z : List ℕ). words_among mem z) r.is in
          omega (arith, more, sum, words_among-append mem r.before r.after, words_among-append mem r.before (p ∷ r.after), used-all mem p used))
      | inr z ↦ (
          let zero : kind_at mem p ≡ 0 = omega arith in
          omega (arith, used-none mem p zero, used-most mem (a + size_at mem p) b ps xs rest (λ q listed some. each q (inr listed) some)))
    ]

pub used_of-most : (mem ps : List ℕ) → Blocked mem → ((p : ℕ) → IsUsed mem p → IsListed p ps) → used_of mem ≤ words_among mem ps
used_of-most mem ps blocked each =
    omega (
      arith,
      used_of-row mem,
      used-most mem 0 (length mem) (block_places mem) ps blocked.row (λ p listed used. each p (record { begins = record { listed = listed }; kind = used })),
    )
