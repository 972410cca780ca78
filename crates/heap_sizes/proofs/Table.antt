-- The table is the sequence, and what follows of its growth.
use Rattle.std.proofs.Common.{◌≡◌, ℕ, zero, suc, ◌+◌, ◌*◌, ◌-◌, ◌<◌, ◌≤◌, true, get_or, map, refl, ap, ◌∙◌, subst, ⊎_elim, leb, arith}
use Rattle.std.specs.List.{range_with_len}
use Rattle.std.proofs.lemmas.List.FromFn.{get_or-map-range_with_len}
use Rattle.std.proofs.lemmas.Bool.{agree_below_at, leb-true, cases_lt}
use Rattle.heap_sizes.specs.declared.sizes.TheConstants.{SIZES}
use Rattle.heap_sizes.specs.Sizes.{two_at, heap_size, IsNextSize}

-- The table holds the first 39 entries.
pub table : SIZES ≡ map heap_size (range_with_len 0 39)
unfolding two_at
table = refl

pub table-at : (k : ℕ) → k < 39 → get_or SIZES k 0 ≡ heap_size k
table-at k h = ap (λ xs. get_or xs k 0) table ∙ get_or-map-range_with_len heap_size 0 39 k k 0 h (omega arith)

-- Each entry is at most the next one.
pub rises : (k : ℕ) → k < 38 → heap_size k ≤ heap_size (k + 1)
unfolding two_at
rises k h = leb-true _ _ (agree_below_at (λ j. leb (heap_size j) (heap_size (j + 1))) (λ _. true) 38 k refl h)

-- Each entry is at most twice the one before it and 14.
pub doubles : (k : ℕ) → k < 38 → heap_size (k + 1) ≤ 2 * heap_size k + 14
unfolding two_at
doubles k h = leb-true _ _ (agree_below_at (λ j. leb (heap_size (j + 1)) (2 * heap_size j + 14)) (λ _. true) 38 k refl h)

-- A later entry is no smaller.
pub rising : (i d j : ℕ) → i + d ≡ j → j < 39 → heap_size i ≤ heap_size j
rising i zero j e h =
    let same : i ≡ j = omega arith in
    let P : ℕ → Type 0 = λ m. heap_size i ≤ heap_size m in subst P same (omega arith)
rising i (suc d) j e h =
    let same : (i + d) + 1 ≡ j = omega arith in
    let up : heap_size (i + d) ≤ heap_size ((i + d) + 1) = rises (i + d) (omega arith) in
    let before : heap_size i ≤ heap_size (i + d) = rising i d (i + d) refl (omega arith) in
    let P : ℕ → Type 0 = λ m. heap_size i ≤ heap_size m in subst P same (omega (arith, before, up))

pub rising-to : (i j : ℕ) → i ≤ j → j < 39 → heap_size i ≤ heap_size j
rising-to i j h low = rising i (j - i) j (omega arith) low

-- The last entry, above which no size is found.
pub last : heap_size 38 ≡ 15401305
unfolding two_at
last = refl

pub first : heap_size 0 ≡ 12
unfolding two_at
first = refl

-- Where all entries before i are too small and entry i is not, it is the least that is enough.
pub next-is : (n i : ℕ) → i < 39 → ((j : ℕ) → j < i → heap_size j < n) → n ≤ heap_size i → IsNextSize n (heap_size i)
next-is n i low small enough = record {
  place = i;
  inside = low;
  entry = refl;
  enough = enough;
  least = λ k h fits. ⊎_elim
      (λ below. absurd (omega (arith, small k below, fits)))
      (λ past. rising-to i k past h)
      (cases_lt k i);
}

-- It is at most twice the number and 12.
pub next-double : (n i : ℕ) → i < 39 → ((j : ℕ) → j < i → heap_size j < n) → heap_size i ≤ 2 * n + 12
next-double n zero low small = omega (arith, first)
next-double n (suc i) low small =
    let e : suc i ≡ i + 1 = omega arith in
    let up : heap_size (i + 1) ≤ 2 * heap_size i + 14 = doubles i (omega arith) in
    let less : heap_size i < n = small i (omega arith) in
    rw e (omega (arith, up, less))
