-- Places that pass a test, counted.
use Rattle.std.proofs.Common.{◌≡◌, ℕ, zero, suc, ◌+◌, ◌-◌, ◌<◌, ◌≤◌, ◌||◌, Bool, true, false, refl, ap, arith, inl, inr}
use Rattle.std.proofs.lemmas.Bool.{cases_Bool}
use Rattle.term_words.specs.Counted.{count}

module _ (s : ℕ → Bool) where
  pub count-empty : (from : ℕ) → count s from 0 ≡ 0
  unfolding count
  count-empty from = refl

  pub count-join : (from m n : ℕ) → count s from (m + n) ≡ count s from m + count s (from + m) n
  unfolding count
  count-join from zero n =
      let e : 0 + n ≡ n = omega arith in
      let f : from + 0 ≡ from = omega arith in
      omega (arith, ap (count s from) e, ap (λ z. count s z n) f)
  count-join from (suc m) n =
      let e : suc m + n ≡ suc (m + n) = omega arith in
      let f : from + 1 + m ≡ from + suc m = omega arith in
      omega (arith, count-join (from + 1) m n, ap (count s from) e, ap (λ z. count s z n) f)

  pub count-most : (from n : ℕ) → count s from n ≤ n
  unfolding count
  count-most from zero = omega arith
  count-most from (suc n) = elim (cases_Bool (s from)) [ inl t ↦ rw t (omega (arith, count-most (from + 1) n)) | inr f ↦ rw f (omega (arith, count-most (from + 1) n)) ]

  pub count-all : (from n : ℕ) → ((q : ℕ) → from ≤ q → q < from + n → s q ≡ true) → count s from n ≡ n
  unfolding count
  count-all from zero each = refl
  count-all from (suc n) each = rw (each from (omega arith) (omega arith)) (omega (arith, count-all (from + 1) n (λ q low high. each q (omega arith) (omega arith))))

  pub count-none : (from n : ℕ) → ((q : ℕ) → from ≤ q → q < from + n → s q ≡ false) → count s from n ≡ 0
  unfolding count
  count-none from zero each = refl
  count-none from (suc n) each = rw (each from (omega arith) (omega arith)) (omega (arith, count-none (from + 1) n (λ q low high. each q (omega arith) (omega arith))))

  -- A range in three parts, of which the middle one is counted whole.
  pub count-three : (from n at k : ℕ) → from ≤ at → at + k ≤ from + n → ((q : ℕ) → at ≤ q → q < at + k → s q ≡ true)
      → count s from (at - from) + (k + count s (at + k) (from + n - (at + k))) ≡ count s from n
  count-three from n at k low high each =
      let first : count s from (at - from + (k + (from + n - (at + k)))) ≡ count s from (at - from) + count s (from + (at - from)) (k + (from + n - (at + k))) =
      count-join from (at - from) (k + (from + n - (at + k))) in
      let last : count s at (k + (from + n - (at + k))) ≡ count s at k + count s (at + k) (from + n - (at + k)) = count-join at k (from + n - (at + k)) in
      let whole : count s from (at - from + (k + (from + n - (at + k)))) ≡ count s from n = ap (count s from) (omega arith) in
      let here : count s (from + (at - from)) (k + (from + n - (at + k))) ≡ count s at (k + (from + n - (at + k))) = ap (λ z. count s z (k + (from + n - (at + k)))) (omega arith) in
      omega (arith, first, last, whole, here, count-all at k each)

pub count-wider : (s t : ℕ → Bool) (from n : ℕ) → ((q : ℕ) → from ≤ q → q < from + n → s q ≡ true → t q ≡ true) → count s from n ≤ count t from n
unfolding count
count-wider s t from zero each = omega arith
count-wider s t from (suc n) each =
    let rest : count s (from + 1) n ≤ count t (from + 1) n = count-wider s t (from + 1) n (λ q low high. each q (omega arith) (omega arith)) in
    elim (cases_Bool (s from)) [
      | inl passes ↦ rw (passes, each from (omega arith) (omega arith) passes) (omega (arith, rest))
      | inr none ↦ rw none (omega (arith, rest))
    ]

pub count-either : (s t : ℕ → Bool) (from n : ℕ) → count (λ q. s q || t q) from n ≤ count s from n + count t from n
unfolding count
count-either s t from zero = omega arith
count-either s t from (suc n) =
    let rest : count (λ q. s q || t q) (from + 1) n ≤ count s (from + 1) n + count t (from + 1) n = count-either s t (from + 1) n in
    elim (cases_Bool (s from)) [
      | inl a ↦ elim (cases_Bool (t from)) [ inl b ↦ rw (a, b) (omega (arith, rest)) | inr b ↦ rw (a, b) (omega (arith, rest)) ]
      | inr a ↦ elim (cases_Bool (t from)) [ inl b ↦ rw (a, b) (omega (arith, rest)) | inr b ↦ rw (a, b) (omega (arith, rest)) ]
    ]

pub count-apart : (s t : ℕ → Bool) (from n : ℕ) → ((q : ℕ) → s q ≡ true → t q ≡ true → ⊥) → count (λ q. s q || t q) from n ≡ count s from n + count t from n
unfolding count
count-apart s t from zero apart = refl
count-apart s t from (suc n) apart =
    let rest : count (λ q. s q || t q) (from + 1) n ≡ count s (from + 1) n + count t (from + 1) n = count-apart s t (from + 1) n apart in
    elim (cases_Bool (s from)) [
      | inl a ↦ elim (cases_Bool (t from)) [ inl b ↦ absurd (apart from a b) | inr b ↦ rw (a, b) (omega (arith, rest)) ]
      | inr a ↦ elim (cases_Bool (t from)) [ inl b ↦ rw (a, b) (omega (arith, rest)) | inr b ↦ rw (a, b) (omega (arith, rest)) ]
    ]
