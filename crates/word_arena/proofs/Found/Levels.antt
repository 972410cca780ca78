-- Rows of numbers under the greatest of each 64.
use Rattle.std.proofs.Common.{◌≡◌, ◌≢◌, ℕ, ◌+◌, ◌*◌, ◌/◌, ◌<◌, ◌≤◌, List, length, get_or, set, sym, ◌∙◌, ap, subst, arith, inl, inr, Option, Some, None, IfSome}
use Rattle.std.proofs.lemmas.Bool.{cases_lt, cases_eq}
use Rattle.std.proofs.lemmas.List.{get_or_past, get_or-set_same, get_or-set_other, length-set}
use Rattle.word_arena.specs.Over.{Over}

pub over-le : (low high : List ℕ) → Over low high → (i : ℕ) → get_or low i 0 ≤ get_or high (i / 64) 0
over-le low high over i =
    elim (cases_lt i (length low)) as (λ _. get_or low i 0 ≤ get_or high (i / 64) 0) [
      | inl inside ↦ over.above i inside
      | inr past ↦ omega (arith, get_or_past low i 0 past)
    ]

-- The first number that is so great stands under the first greatest that is.

pub first-none : (low high : List ℕ) (w : ℕ) → Over low high → ((g : ℕ) → get_or high g 0 < w) → (i : ℕ) → get_or low i 0 < w
first-none low high w over none i = omega (arith, over-le low high over i, none (i / 64))

pub first-some : (low high : List ℕ) (g w : ℕ) (r : Option ℕ) → Over low high → ((h : ℕ) → h < g → get_or high h 0 < w)
    → IfSome r (λ at. (i : ℕ) → g * 64 ≤ i → i < at → get_or low i 0 < w) → IfSome r (λ at. (i : ℕ) → i < at → get_or low i 0 < w)
first-some low high g w None over before found = tt
first-some low high g w (Some at) over before found = λ i below.
    elim (cases_lt (i / 64) g) as (λ _. get_or low i 0 < w) [
      | inl less ↦ omega (arith, over-le low high over i, before (i / 64) less)
      | inr more ↦ found i (omega arith) below
    ]

-- The last number before a place that is not 0 stands beside the place, or under the last greatest before that is not 0.

pub last-none : (low high : List ℕ) (at : ℕ) → Over low high → ((i : ℕ) → at / 64 * 64 ≤ i → i < at → get_or low i 0 ≡ 0)
    → ((g : ℕ) → g < at / 64 → get_or high g 0 ≡ 0) → (i : ℕ) → i < at → get_or low i 0 ≡ 0
last-none low high at over beside none i below =
    elim (cases_lt (i / 64) (at / 64)) as (λ _. get_or low i 0 ≡ 0) [
      | inl less ↦ omega (arith, over-le low high over i, none (i / 64) less)
      | inr more ↦ beside i (omega arith) below
    ]

pub last-some : (low high : List ℕ) (at g : ℕ) (r : Option ℕ) → Over low high → ((i : ℕ) → at / 64 * 64 ≤ i → i < at → get_or low i 0 ≡ 0)
    → ((h : ℕ) → g < h → h < at / 64 → get_or high h 0 ≡ 0)
    → IfSome r (λ k. (i : ℕ) → k < i → i < g * 64 + 64 → get_or low i 0 ≡ 0) → IfSome r (λ k. (i : ℕ) → k < i → i < at → get_or low i 0 ≡ 0)
last-some low high at g None over beside between found = tt
last-some low high at g (Some k) over beside between found = λ i above below.
    elim (cases_lt (i / 64) (at / 64)) as (λ _. get_or low i 0 ≡ 0) [
      | inl less ↦ elim (cases_lt g (i / 64)) as (λ _. get_or low i 0 ≡ 0) [
        | inl more ↦ omega (arith, over-le low high over i, between (i / 64) more less)
        | inr here ↦ found i above (omega arith)
      ]
      | inr more ↦ beside i (omega arith) below
    ]

pub last-there : (low high : List ℕ) (g : ℕ) → Over low high → 1 ≤ get_or high g 0
    → ((i : ℕ) → g * 64 ≤ i → i < g * 64 + 64 → get_or low i 0 ≡ 0) → ⊥
last-there low high g over some none =
    elim (cases_lt g (length high)) as (λ _. ⊥) [
      | inl inside ↦ (let m = over.met g inside (omega arith) in omega (arith, m.1, m.2, none m.0 (omega (arith, m.1)) (omega (arith, m.1))))
      | inr past ↦ omega (arith, get_or_past high g 0 past)
    ]

-- A number is written, and the greatest of its 64 above it.
pub over-set : (low high : List ℕ) (at v top : ℕ) → Over low high → at < length low
    → ((i : ℕ) → at / 64 * 64 ≤ i → i < at / 64 * 64 + 64 → get_or (set low at v) i 0 ≤ top)
    → (0 < top → (i : ℕ) × (at / 64 * 64 ≤ i) × (i < at / 64 * 64 + 64) × (get_or (set low at v) i 0 ≡ top))
    → Over (set low at v) (set high (at / 64) top)
over-set low high at v top over inside above met =
    let g = at / 64 in
    let lens = over.lens in
    let under : g < length high = omega arith in
    record {
      lens = omega (arith, length-set low at v, length-set high g top);
      above = λ i below.
          elim (cases_eq (i / 64) g) as (λ _. get_or (set low at v) i 0 ≤ get_or (set high g top) (i / 64) 0) [
            | inl same ↦ (let P : ℕ → Type 0 = λ z. get_or (set low at v) i 0 ≤ get_or (set high g top) z 0 in
                subst P (sym same) (rw (get_or-set_same high g top 0 under) (above i (omega arith) (omega arith))))
            | inr other ↦ (let not_at : i ≢ at = (λ e. other (ap (λ (z : ℕ). z / 64) e)) in
                rw (get_or-set_other high g (i / 64) top 0 other, get_or-set_other low at i v 0 not_at) (over-le low high over i))
          ];
      met = λ h below some.
          elim (cases_eq h g) as (λ _. (i : ℕ) × (i / 64 ≡ h) × (get_or (set low at v) i 0 ≡ get_or (set high g top) h 0)) [
            | inl same ↦ (let P : ℕ → Type 0 = λ z. (i : ℕ) × (i / 64 ≡ z) × (get_or (set low at v) i 0 ≡ get_or (set high g top) z 0) in
                let is : get_or (set high g top) g 0 ≡ top = get_or-set_same high g top 0 under in
                let Q : ℕ → Type 0 = λ z. 0 < get_or (set high g top) z 0 in
                let m = met (omega (arith, is, subst Q same some)) in
                subst P (sym same) (m.0, omega (arith, m.1, m.2), m.3 ∙ sym is))
            | inr other ↦ (let is : get_or (set high g top) h 0 ≡ get_or high h 0 = get_or-set_other high g h top 0 other in
                let m = over.met h (omega (arith, length-set high g top)) (omega (arith, is)) in
                let not_at : m.0 ≢ at = (λ e. other (sym m.1 ∙ ap (λ (z : ℕ). z / 64) e)) in
                (m.0, m.1, get_or-set_other low at m.0 v 0 not_at ∙ m.2 ∙ sym is))
          ];
    }
