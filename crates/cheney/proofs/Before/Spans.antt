-- The spans that stay, one by one.
use Rattle.std.proofs.Common.{◌≡◌, ℕ, zero, suc, ◌+◌, ◌-◌, ◌<◌, ◌≤◌, ◌⊎◌, Bool, true, false, nat_lt, ◌||◌, List, [], ◌∷◌, ◌++◌, length, get_or, take, refl, sym, ◌∙◌, ap, subst, arith, inl, inr}
use Rattle.std.proofs.lemmas.Bool.Decides.{nat_tests}
use Rattle.std.proofs.lemmas.List.{take_more, take_all}
use Rattle.std.proofs.lemmas.Bool.{or_left, or_right, or_from, cases_Bool}
use Rattle.std.proofs.Math.Bool.{or-false, or_assoc}
use Rattle.word_mem.specs.declared.ranges.Span.{Span}
use Rattle.cheney.specs.Spans.{in_span, in_spans, start_at, end_at, IsOrdered}
use Rattle.cheney.proofs.Before.Basics.{not-both}

in-both : (s : Span) (q : ℕ) → s.start ≤ q → q < s.end → in_span s q ≡ true
in-both s q low high = grind (arith, nat_tests)

out-of : (s : Span) (q : ℕ) → (q < s.start) ⊎ (s.end ≤ q) → in_span s q ≡ false
out-of s q (inl h) = grind (arith, nat_tests)
out-of s q (inr h) = grind (arith, nat_tests)

-- The place lies in span i.
pub one-holds : (xs : List Span) (q i : ℕ) → i < length xs → start_at xs i ≤ q → q < end_at xs i → in_spans xs q ≡ true
one-holds [] q i less low high = absurd (omega arith)
one-holds (x ∷ xs) q zero less low high = or_left (in_span x q) (in_spans xs q) (in-both x q low high)
one-holds (x ∷ xs) q (suc i) less low high = or_right (in_span x q) (in_spans xs q) (one-holds xs q i (omega arith) low high)

-- The place lies in no span.
pub none-holds : (xs : List Span) (q : ℕ) → ((i : ℕ) → i < length xs → (q < start_at xs i) ⊎ (end_at xs i ≤ q)) → in_spans xs q ≡ false
none-holds [] q each = refl
none-holds (x ∷ xs) q each = or_from (in_span x q) (in_spans xs q) (out-of x q (each 0 (omega arith))) (none-holds xs q (λ i less. each (suc i) (omega arith)))

pub spans-more : (xs : List Span) (s : Span) (q : ℕ) → in_spans (xs ++ s ∷ []) q ≡ (in_spans xs q || in_span s q)
spans-more [] s q = or-false (in_span s q)
spans-more (x ∷ xs) s q = ap (λ b. in_span x q || b) (spans-more xs s q) ∙ sym (or_assoc (in_span x q) (in_spans xs q) (in_span s q))

-- A span whose end was raised to that of the last one holds no new place.
pub put-places : (xs new : List Span) (s : Span) (e : ℕ) → new ≡ xs ++ record { start = s.start; end = e } ∷ [] → s.end ≤ e → ((e ≡ s.end) ⊎ ((0 < length xs) × (e ≡ end_at xs (length xs - 1))))
    → ((i : ℕ) → i < length xs → start_at xs i ≤ s.start) → (q : ℕ) → in_spans new q ≡ (in_spans xs q || in_span s q)
put-places xs new s e n least (inl same) after q =
    ap (λ z. in_spans z q) n ∙ spans-more xs (record { start = s.start; end = e }) q ∙ ap (λ z. in_spans xs q || in_span (record { start = s.start; end = z }) q) same
put-places xs new s e n least (inr (some, last)) after q =
    ap (λ z. in_spans z q) n ∙ spans-more xs (record { start = s.start; end = e }) q ∙ elim (cases_Bool (in_spans xs q)) [
      | inl t ↦ or_left (in_spans xs q) (in_span (record { start = s.start; end = e }) q) t ∙ sym (or_left (in_spans xs q) (in_span s q) t)
      | inr f ↦ ap (λ z. in_spans xs q || z) (
          let cut : (q < s.start) ⊎ ((e ≤ q) ⊎ ((s.start ≤ q) × (q < e))) = grind arith in
          elim cut [
            | inl a ↦ out-of (record { start = s.start; end = e }) q (inl a) ∙ sym (out-of s q (inl a))
            | inr (inl a) ↦ out-of (record { start = s.start; end = e }) q (inr a) ∙ sym (out-of s q (inr (omega (arith, a, least))))
            | inr (inr a) ↦ absurd (let within : start_at xs (length xs - 1) ≤ s.start = after (length xs - 1) (omega (arith, some)) in
                let t : in_spans xs q ≡ true = one-holds xs q (length xs - 1) (omega (arith, some)) (omega (arith, within, a)) (omega (arith, last, a)) in
                not-both (in_spans xs q) t f)
          ])
    ]

-- The new span, or the one that it pushed on, is carried past the spans that begin earlier.
pub record Carrying (xs : List Span) (span : Span) (acc : List Span) (carried : Span) (i : ℕ) : Type 0 where
  pub places : (q : ℕ) → (in_spans acc q || in_span carried q) ≡ (in_spans (take i xs) q || in_span span q)
  pub len : length acc ≡ i
  pub later : (j k : ℕ) → j < length acc → i ≤ k → k < length xs → start_at acc j ≤ start_at xs k
  pub before : (j : ℕ) → j < length acc → start_at acc j ≤ carried.start

pub carry-start : (xs acc : List Span) (span : Span) → acc ≡ [] → Carrying xs span acc span 0
carry-start xs acc span e =
    let P : List Span → Type 0 = λ z. Carrying xs span z span 0 in
    subst P (sym e) (record { places = λ q. refl; len = refl; later = λ j k l a b. absurd (omega arith); before = λ j l. absurd (omega arith) })

swap-or : (a b c : Bool) → ((a || b) || c) ≡ ((a || c) || b)
swap-or true b c = refl
swap-or false true true = refl
swap-or false true false = refl
swap-or false false true = refl
swap-or false false false = refl

-- What `put` gives when one of two spans is put and the other is carried on.
pub carry-on : (xs acc new : List Span) (span carried next first second : Span) (i : ℕ) → IsOrdered xs → i < length xs → next ≡ get_or xs i (record { start = 0; end = 0 }) → Carrying xs
    span acc carried i
    → first.start ≤ second.start → (((first ≡ carried) × (second ≡ next)) ⊎ ((first ≡ next) × (second ≡ carried)))
    → ((q : ℕ) → in_spans new q ≡ (in_spans acc q || in_span first q)) → length new ≡ length acc + 1 → ((j : ℕ) → j < length new → start_at new j ≤ first.start)
    → Carrying xs span new second (i + 1)
carry-on xs acc new span carried next first second i o less e c le same put len begin = record {
  places = λ q.
      let step : (in_spans acc q || in_span first q) || in_span second q ≡ (in_spans acc q || in_span carried q) || in_span next q = elim same [
        | inl s ↦ ap (λ z. (in_spans acc q || in_span z q) || in_span second q) s.0 ∙ ap (λ z. (in_spans acc q || in_span carried q) || in_span z q) s.1
        | inr s ↦ ap (λ z. (in_spans acc q || in_span z q) || in_span second q) s.0 ∙ ap (λ z. (in_spans acc q || in_span next q) || in_span z q) s.1 ∙ swap-or (in_spans acc q)
            (in_span next q) (in_span carried q)
      ] in
      let took : in_spans (take (i + 1) xs) q ≡ (in_spans (take i xs) q || in_span next q) =
      ap (λ z. in_spans z q) (take_more xs i (record { start = 0; end = 0 }) less) ∙ spans-more (take i xs) (get_or xs i (record { start = 0; end = 0 })) q ∙ ap
      (λ z. in_spans (take i xs) q || in_span z q) (sym e) in
      ap (λ z. z || in_span second q) (put q) ∙ step ∙ ap (λ z. z || in_span next q) (c.places q) ∙ swap-or (in_spans (take i xs) q) (in_span span q) (in_span next q) ∙ ap
      (λ z. z || in_span span q) (sym took);
  len = omega (arith, len, c.len);
  later = λ j k l above below.
      let next_k : next.start ≤ start_at xs k = (let P : Span → Type 0 = λ z. z.start ≤ start_at xs k in subst P (sym e) (o.starts i k (omega arith) below)) in
      let first_next : first.start ≤ next.start = elim same [
        | inl s ↦ (let P : Span → Type 0 = λ z. first.start ≤ z.start in subst P s.1 le)
        | inr s ↦ (let P : Span → Type 0 = λ z. z.start ≤ next.start in subst P (sym s.0) (omega arith))
      ] in
      omega (arith, begin j l, next_k, first_next);
  before = λ j l. omega (arith, begin j l, le);
}

-- What is put begins no earlier than what was put before.
pub carry-after : (xs acc : List Span) (span carried next first second : Span) (i : ℕ) → i < length xs → next ≡ get_or xs i (record { start = 0; end = 0 }) → Carrying xs span acc carried i
    → (((first ≡ carried) × (second ≡ next)) ⊎ ((first ≡ next) × (second ≡ carried))) → (j : ℕ) → j < length acc → start_at acc j ≤ first.start
carry-after xs acc span carried next first second i less e c same j l = elim same [
  | inl s ↦ (let P : Span → Type 0 = λ z. start_at acc j ≤ z.start in subst P (sym s.0) (c.before j l))
  | inr s ↦ (let P : Span → Type 0 = λ z. start_at acc j ≤ z.start in subst P (sym (s.0 ∙ e)) (c.later j i l (omega arith) less))
]

pub carry-end : (xs acc new : List Span) (span carried : Span) (i : ℕ) → Carrying xs span acc carried i → length xs ≤ i → ((q : ℕ) → in_spans new q ≡ (in_spans acc q || in_span carried q))
    → (q : ℕ) → in_spans new q ≡ (in_spans xs q || in_span span q)
carry-end xs acc new span carried i c far put q = put q ∙ c.places q ∙ ap (λ z. in_spans z q || in_span span q) (take_all i xs far)

-- Where the span that begins last at or before a place does not hold it, none does.
pub found-or-not : (xs : List Span) (q low : ℕ) → IsOrdered xs → low < length xs → start_at xs low ≤ q → ((i : ℕ) → low + 1 ≤ i → i < length xs → q < start_at xs i) → nat_lt q
    (end_at xs low) ≡ in_spans xs q
found-or-not xs q low o less from above =
    let cut : (q < end_at xs low) ⊎ (end_at xs low ≤ q) = grind arith in
    elim cut [
      | inl h ↦ (let t : nat_lt q (end_at xs low) ≡ true = grind (arith, nat_tests) in t ∙ sym (one-holds xs q low less from h))
      | inr h ↦ (let f : nat_lt q (end_at xs low) ≡ false = grind (arith, nat_tests) in
          f ∙ sym (none-holds xs q (λ i l.
          let which : (i ≤ low) ⊎ (low + 1 ≤ i) = grind arith in
          elim which [ inl a ↦ inr (omega (arith, h, o.ends i low a less)) | inr a ↦ inl (above i a l) ])))
    ]

pub none-before : (xs : List Span) (q : ℕ) → IsOrdered xs → q < start_at xs 0 → false ≡ in_spans xs q
none-before xs q o h = sym (none-holds xs q (λ i l. inl (omega (arith, h, o.starts 0 i (omega arith) l))))

pub none-after : (xs : List Span) (q : ℕ) → IsOrdered xs → 0 < length xs → end_at xs (length xs - 1) ≤ q → false ≡ in_spans xs q
none-after xs q o some h = sym (none-holds xs q (λ i l. inr (omega (arith, h, o.ends i (length xs - 1) (omega arith) (omega arith)))))

pub none-there : (xs : List Span) (q : ℕ) → length xs ≡ 0 → false ≡ in_spans xs q
none-there xs q e = sym (none-holds xs q (λ i l. absurd (omega arith)))

-- The same over the slice of the spans.

pub slice-before : (ys xs : List Span) (q : ℕ) → ys ≡ xs → IsOrdered xs → q < start_at ys 0 → false ≡ in_spans xs q
slice-before ys xs q e o h = let P : List Span → Type 0 = λ z. q < start_at z 0 in none-before xs q o (subst P e h)

some-of : (n : ℕ) → (n ≡ 0 → ⊥) → 0 < n
some-of n ne = let cut : (n ≡ 0) ⊎ (0 < n) = grind arith in elim cut [ inl z ↦ absurd (ne z) | inr l ↦ l ]

pub slice-after : (ys xs : List Span) (q : ℕ) → ys ≡ xs → IsOrdered xs → (length ys ≡ 0 → ⊥) → end_at ys (length ys - 1) ≤ q → false ≡ in_spans xs q
slice-after ys xs q e o n h =
    let P : List Span → Type 0 = λ z. (length z ≡ 0 → ⊥) → end_at z (length z - 1) ≤ q → false ≡ in_spans xs q in
    let Q : (length xs ≡ 0 → ⊥) → end_at xs (length xs - 1) ≤ q → false ≡ in_spans xs q = λ m g. none-after xs q o (some-of (length xs) m) g in
    subst P (sym e) Q n h

pub slice-found : (ys xs : List Span) (q low high : ℕ) → ys ≡ xs → IsOrdered xs → low < high → high ≤ length ys → start_at ys low ≤ q →
    ((i : ℕ) → high ≤ i → i < length ys → q < start_at ys i) → high - low ≤ 1
    → nat_lt q (end_at ys low) ≡ in_spans xs q
slice-found ys xs q low high e o order within from above near =
    let P : List Span → Type 0 = λ z. high ≤ length z → start_at z low ≤ q → ((i : ℕ) → high ≤ i → i < length z → q < start_at z i) → nat_lt q (end_at z low) ≡ in_spans xs q in
    let Q : high ≤ length xs → start_at xs low ≤ q → ((i : ℕ) → high ≤ i → i < length xs → q < start_at xs i) → nat_lt q (end_at xs low) ≡ in_spans xs q = λ w f a.
    found-or-not xs q low o (omega arith) f (λ i g l. a i (omega arith) l) in
    subst P (sym e) Q within from above

pub slice-carry : (ys xs acc new : List Span) (span carried first second : Span) (i : ℕ) → ys ≡ xs → IsOrdered xs → i < length ys → Carrying xs span acc carried i → first.start ≤ second.start
    → (((first ≡ carried) × (second ≡ get_or ys i (record { start = 0; end = 0 }))) ⊎ ((first ≡ get_or ys i (record { start = 0; end = 0 })) × (second ≡ carried)))
    → ((q : ℕ) → in_spans new q ≡ (in_spans acc q || in_span first q)) → length new ≡ length acc + 1 → ((j : ℕ) → j < length new → start_at new j ≤ first.start)
    → Carrying xs span new second (i + 1)
slice-carry ys xs acc new span carried first second i e o less c le same put len begin =
    let P : List Span → Type 0 = λ z. i < length z in
    carry-on xs acc new span carried (get_or ys i (record { start = 0; end = 0 })) first second i o (subst P e less) (ap (λ z. get_or z i (record { start = 0; end = 0 })) e) c le same put len begin
