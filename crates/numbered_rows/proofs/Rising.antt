-- Numbers that rise.
use Rattle.std.proofs.Common.{◌≡◌, ℕ, zero, suc, ◌+◌, ◌-◌, ◌<◌, ◌≤◌, true, false, List, [], ◌∷◌, length, get_or, nat_lt, Some, None, refl, sym, ◌∙◌, ap, arith}
use Rattle.std.proofs.Math.Decide.{dec_le}
use Rattle.std.specs.List.{find}
use Rattle.std.proofs.lemmas.Bool.Decides.{nat_tests}
use Rattle.space_api.specs.Calls.{AreRising}
use Rattle.numbered_rows.specs.Numbers.{numbers, row_number, is_among}

-- Every number is above the one that they rise from.
pub rising-above : (a : ℕ) (ns : List ℕ) (j : ℕ) → AreRising a ns → j < length ns → a < get_or ns j 0
rising-above a [] j r below = absurd (omega arith)
rising-above a (n ∷ ns) zero r below = r.0
rising-above a (n ∷ ns) (suc j) r below = omega (arith, r.0, rising-above n ns j r.1 (omega arith))

pub rising-pair : (a : ℕ) (ns : List ℕ) (i j : ℕ) → AreRising a ns → i < j → j < length ns → get_or ns i 0 < get_or ns j 0
rising-pair a [] i j r less below = absurd (omega arith)
rising-pair a (n ∷ ns) i zero r less below = absurd (omega arith)
rising-pair a (n ∷ ns) zero (suc j) r less below = rising-above n ns j r.1 (omega arith)
rising-pair a (n ∷ ns) (suc i) (suc j) r less below = rising-pair n ns i j r.1 (omega arith) (omega arith)

pub rising-weak : (a : ℕ) (ns : List ℕ) (i j : ℕ) → AreRising a ns → i ≤ j → j < length ns → get_or ns i 0 ≤ get_or ns j 0
rising-weak a [] i j r less below = absurd (omega arith)
rising-weak a (n ∷ ns) zero zero r less below = omega arith
rising-weak a (n ∷ ns) zero (suc j) r less below = omega (arith, rising-above n ns j r.1 (omega arith))
rising-weak a (n ∷ ns) (suc i) zero r less below = absurd (omega arith)
rising-weak a (n ∷ ns) (suc i) (suc j) r less below = rising-weak n ns i j r.1 (omega arith) (omega arith)

module _ {R : Type 0} (f : R → ℕ) where
  pub numbers-len : (ps : List R) → length (numbers f ps) ≡ length ps
  numbers-len [] = refl
  numbers-len (p ∷ ps) = ap (λ n. suc n) (numbers-len ps)

  -- The number of an entry, whatever the default is.
  pub number-is : (ps : List R) (i : ℕ) (d : R) → i < length ps → row_number f ps i ≡ f (get_or ps i d)
  number-is [] i d below = absurd (omega arith)
  number-is (p ∷ ps) zero d below = refl
  number-is (p ∷ ps) (suc i) d below = number-is ps i d (omega arith)

  -- The number of a row that was read.
  pub number-read : (ps : List R) (i : ℕ) (x : R) → i < length ps → x ≡ get_or ps i x → row_number f ps i ≡ f x
  number-read ps i x below is = number-is ps i x below ∙ sym (ap f is)

  pub rising-upto : (ps : List R) (k m pid : ℕ) → AreRising 0 (numbers f ps) → k < m + 1 → m < length ps → row_number f ps m ≤ pid → row_number f ps k ≤ pid
  rising-upto ps k m pid r less below h = omega (arith, rising-weak 0 (numbers f ps) k m r (omega arith) (omega (arith, numbers-len ps)))

  pub rising-from : (ps : List R) (k m pid : ℕ) → AreRising 0 (numbers f ps) → m ≤ k → k < length ps → pid < row_number f ps m → pid < row_number f ps k
  rising-from ps k m pid r less below h = omega (arith, rising-weak 0 (numbers f ps) m k r less (omega (arith, numbers-len ps)))

  -- Where a number stands, and where none does.
  pub among-at : (ps : List R) (i pid : ℕ) → i < length ps → row_number f ps i ≡ pid → is_among f ps pid ≡ true
  among-at [] i pid below e = absurd (omega arith)
  among-at (p ∷ ps) zero pid below e = grind (arith, nat_tests)
  among-at (p ∷ ps) (suc i) pid below e = let h = among-at ps i pid (omega arith) e in grind (arith, nat_tests)

  pub among-none : (ps : List R) (pid : ℕ) → ((k : ℕ) → k < length ps → row_number f ps k ≡ pid → ⊥) → is_among f ps pid ≡ false
  among-none [] pid none = refl
  among-none (p ∷ ps) pid none =
      let h = among-none ps pid (λ k below e. none (suc k) (omega arith) e) in
      let first : f p ≡ pid → ⊥ = λ e. none 0 (omega arith) e in
      grind (arith, nat_tests)

  -- No entry has the number: those up to n are at most it, the last of them is not it, and the others are above.
  pub find-none : (ps : List R) (n pid : ℕ) → AreRising 0 (numbers f ps) → n ≤ length ps → 0 < n → (row_number f ps (n - 1) ≡ pid → ⊥) → ((k : ℕ) → k < n → row_number f ps k ≤ pid)
      → ((k : ℕ) → n ≤ k → k < length ps → pid < row_number f ps k) → (k : ℕ) → k < length ps → row_number f ps k ≡ pid → ⊥
  find-none ps n pid r within some not low high k below e = elim (dec_le n k) [
    | yes above ↦ omega (arith, high k above below)
    | no under ↦ not (omega (arith, low (n - 1) (omega arith), rising-weak 0 (numbers f ps) k (n - 1) r (omega arith) (omega (arith, numbers-len ps))))
  ]

-- The first number above another, and none.
first-above-head : (n pid : ℕ) (ns : List ℕ) → pid < n → find (λ x. nat_lt pid x) (n ∷ ns) ≡ Some n
first-above-head n pid ns up = grind (arith, nat_tests)

first-above-tail : (n pid : ℕ) (ns : List ℕ) → n ≤ pid → find (λ x. nat_lt pid x) (n ∷ ns) ≡ find (λ x. nat_lt pid x) ns
first-above-tail n pid ns low = grind (arith, nat_tests)

pub find-above : (ns : List ℕ) (i pid : ℕ) → i < length ns → ((k : ℕ) → k < i → get_or ns k 0 ≤ pid) → pid < get_or ns i 0 → find (λ x. nat_lt pid x) ns ≡ Some (get_or ns i 0)
find-above [] i pid below low up = absurd (omega arith)
find-above (n ∷ ns) zero pid below low up = first-above-head n pid ns up
find-above (n ∷ ns) (suc i) pid below low up =
    first-above-tail n pid ns (low 0 (omega arith)) ∙ find-above ns i pid (omega arith) (λ k less. low (suc k) (omega arith)) up

pub find-no-above : (ns : List ℕ) (pid : ℕ) → ((k : ℕ) → k < length ns → get_or ns k 0 ≤ pid) → find (λ x. nat_lt pid x) ns ≡ None
find-no-above [] pid low = refl
find-no-above (n ∷ ns) pid low = first-above-tail n pid ns (low 0 (omega arith)) ∙ find-no-above ns pid (λ k less. low (suc k) (omega arith))
