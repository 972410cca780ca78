-- The places of spans, counted.
use Rattle.std.proofs.Common.{◌≡◌, ℕ, zero, suc, ◌+◌, ◌-◌, ◌<◌, ◌≤◌, Bool, true, false, List, [], ◌∷◌, refl, arith, inl, inr}
use Rattle.std.proofs.lemmas.Bool.Decides.{nat_tests}
use Rattle.std.proofs.lemmas.Bool.{or_left, or_right, cases_Bool, cases_lt}
use Rattle.word_mem.specs.declared.ranges.Span.{Span}
use Rattle.term_words.specs.Counted.{count}
use Rattle.term_words.proofs.Totals.Counts.{count-apart, count-either, count-none, count-three}
use Rattle.cheney.specs.Spans.{AreDisjoint, in_span, in_spans, span_places}

-- A test that passes at the places from one up to another, and at no other.
module _ (t : ℕ → Bool) (a b : ℕ) (told : (q : ℕ) → t q ≡ true → (a ≤ q) × (q < b)) where
  most-past : (from n : ℕ) → a ≤ from → count t from n ≤ b - from
  unfolding count
  most-past from zero low = omega arith
  most-past from (suc n) low =
      let rest : count t (from + 1) n ≤ b - (from + 1) = most-past (from + 1) n (omega arith) in
      elim (cases_Bool (t from)) [ inl h ↦ rw h (omega (arith, rest, told from h)) | inr f ↦ rw f (omega (arith, rest)) ]

  most-places : (from n : ℕ) → count t from n ≤ b - a
  unfolding count
  most-places from zero = omega arith
  most-places from (suc n) =
      let rest : count t (from + 1) n ≤ b - a = most-places (from + 1) n in
      elim (cases_Bool (t from)) [
        | inl h ↦ (let past : count t (from + 1) n ≤ b - (from + 1) = most-past (from + 1) n (omega (arith, told from h)) in rw h (omega (arith, past, told from h)))
        | inr f ↦ rw f (omega (arith, rest))
      ]

  beside : (q : ℕ) → ((a ≤ q) × (q < b) → ⊥) → t q ≡ false
  beside q out = elim (cases_Bool (t q)) [ inl h ↦ absurd (out (told q h)) | inr f ↦ f ]

  all-places : ((q : ℕ) → a ≤ q → q < b → t q ≡ true) → (from n : ℕ) → ((q : ℕ) → t q ≡ true → (from ≤ q) × (q < from + n)) → count t from n ≡ b - a
  all-places is from n within = elim (cases_lt a b) [
    | inl less ↦
        let low : from ≤ a = (within a (is a (omega arith) less)).0 in
        let high : b ≤ from + n = (let last : b - 1 < from + n = (within (b - 1) (is (b - 1) (omega arith) (omega arith))).1 in omega (arith, last, less)) in
        let three : count t from (a - from) + (b - a + count t (a + (b - a)) (from + n - (a + (b - a)))) ≡ count t from n =
        count-three t from n a (b - a) low (omega (arith, high, less)) (λ q from_here below. is q from_here (omega (arith, below, less))) in
        let before : count t from (a - from) ≡ 0 = count-none t from (a - from) (λ q from_here below. beside q (λ i. omega (arith, i, below, low))) in
        let after : count t (a + (b - a)) (from + n - (a + (b - a))) ≡ 0 =
        count-none t (a + (b - a)) (from + n - (a + (b - a))) (λ q from_here below. beside q (λ i. omega (arith, i, from_here, less))) in
        omega (arith, three, before, after)
    | inr none ↦ (let empty : count t from n ≡ 0 = count-none t from n (λ q from_here below. beside q (λ i. omega (arith, i, none))) in omega (arith, empty, none))
  ]

in-told : (s : Span) (q : ℕ) → in_span s q ≡ true → (s.start ≤ q) × (q < s.end)
in-told s q h = grind (arith, nat_tests, h)

in-is : (s : Span) (q : ℕ) → s.start ≤ q → q < s.end → in_span s q ≡ true
in-is s q low high = grind (arith, nat_tests, low, high)

pub spans-most : (ss : List Span) (from n : ℕ) → count (in_spans ss) from n ≤ span_places ss
spans-most [] from n = let none : count (in_spans []) from n ≡ 0 = count-none (in_spans []) from n (λ q low high. refl) in omega (arith, none)
spans-most (s ∷ ss) from n =
    let both : count (in_spans (s ∷ ss)) from n ≤ count (in_span s) from n + count (in_spans ss) from n = count-either (in_span s) (in_spans ss) from n in
    omega (arith, both, most-places (in_span s) s.start s.end (in-told s) from n, spans-most ss from n)

pub spans-whole : (ss : List Span) (from n : ℕ) → AreDisjoint ss → ((q : ℕ) → in_spans ss q ≡ true → (from ≤ q) × (q < from + n)) → count (in_spans ss) from n ≡ span_places ss
spans-whole [] from n d within = count-none (in_spans []) from n (λ q low high. refl)
spans-whole (s ∷ ss) from n (apart, d) within =
    let both : count (in_spans (s ∷ ss)) from n ≡ count (in_span s) from n + count (in_spans ss) from n = count-apart (in_span s) (in_spans ss) from n apart in
    let first : count (in_span s) from n ≡ s.end - s.start =
    all-places (in_span s) s.start s.end (in-told s) (in-is s) from n (λ q h. within q (or_left (in_span s q) (in_spans ss q) h)) in
    omega (arith, both, first, spans-whole ss from n d (λ q h. within q (or_right (in_span s q) (in_spans ss q) h)))
