-- Binaries are laid one after the other.
use Rattle.std.proofs.Common.{◌≡◌, ℕ, zero, suc, ◌+◌, ◌-◌, ◌/◌, ◌<◌, ◌≤◌, if◌then◌else◌, Bool, true, false, List, [], ◌∷◌, ◌++◌, length, get_or, drop, take, refl, ◌∙◌, ap, arith, inl, inr}
use Rattle.std.proofs.Math.Seq.{drop-cons}
use Rattle.std.proofs.lemmas.Bool.{cond-true, cond-false}
use Rattle.word_mem.specs.declared.ranges.Room.{Room}
use Rattle.plain_term.specs.declared.item.Item.{Item}
use Rattle.plain_term.specs.declared.item.Item.TheVariants.{Bin}
use Rattle.plain_term.specs.Bytes.{shared_bytes}
use Rattle.term_build.specs.Clear.{IsRoom}
use Rattle.item_build.specs.Reading.{AreLed, bins_of, bytes_after, bytes_in, far_words, far_words_of, is_long, long_bins, long_bytes}
use Rattle.item_build.specs.Building.{LeavesRoom}
use Rattle.item_build.proofs.Meaning.Whole.{rest-is, longs-rest}

-- No binary was laid.

pub leaves-none : (x : Room) (m : List ℕ) → IsRoom x m → LeavesRoom x x m m
leaves-none x m r = record { same_start = refl; front = omega arith; order = r.top_next; back = omega arith; same_len = refl; others = λ q apart. refl }

pub leaves-then : (x y z : Room) (m0 m1 m2 : List ℕ) → LeavesRoom x y m0 m1 → LeavesRoom y z m1 m2 → LeavesRoom x z m0 m2
leaves-then x y z m0 m1 m2 a b = record {
  same_start = b.same_start ∙ a.same_start;
  front = omega (arith, a.front, b.front);
  order = b.order;
  back = omega (arith, a.back, b.back);
  same_len = b.same_len ∙ a.same_len;
  others = λ q apart. elim apart [
    | inl low ↦ b.others q (inl (omega (arith, low, a.front))) ∙ a.others q (inl low)
    | inr high ↦ b.others q (inr (omega (arith, high, a.back))) ∙ a.others q (inr high)
  ];
}

-- One where it is so.

abbrev pub one_if : Bool → ℕ
one_if b = if b then 1 else 0

-- The bytes of the next long binary.

long-is : (x : Item) (xs : List Item) → is_long x ≡ true → long_bytes x xs ≡ bytes_in (bytes_after x) xs ∷ []
long-is (Bin n) xs e = rw e refl
long-is x xs e = absurd cc

pub short-is : (x : Item) (xs : List Item) → is_long x ≡ false → (long_bytes x xs ≡ []) × (far_words x ≡ 0)
short-is (Bin n) xs e = (rw e refl, rw e refl)
short-is x xs e = (refl, refl)

bins-at : (i : ℕ) (xs : List Item) (d : Item) → i < length xs → is_long (get_or xs i d) ≡ true
    → get_or (bins_of xs) (long_bins xs - long_bins (drop i xs)) [] ≡ bytes_in (bytes_after (get_or xs i d)) (drop (suc i) xs)
bins-at i [] d below long = absurd (omega (arith, below))
bins-at zero (x ∷ xs) d below long =
    let none : long_bins (x ∷ xs) - long_bins (x ∷ xs) ≡ 0 = omega arith in
    ap (λ k. get_or (long_bytes x xs ++ bins_of xs) k []) none ∙ ap (λ z. get_or (z ++ bins_of xs) 0 []) (long-is x xs long)
bins-at (suc i) (x ∷ xs) d below long = by (is_long x) refl (bins-at i xs d (omega (arith, below)) long) (longs-rest i xs)
  where
    by : (l : Bool) → is_long x ≡ l → get_or (bins_of xs) (long_bins xs - long_bins (drop i xs)) [] ≡ bytes_in (bytes_after (get_or xs i d)) (drop (suc i) xs)
        → long_bins (drop i xs) ≤ long_bins xs
        → get_or (long_bytes x xs ++ bins_of xs) ((if is_long x then 1 else 0) + long_bins xs - long_bins (drop i xs)) [] ≡ bytes_in (bytes_after (get_or xs i d)) (drop (suc i) xs)
    by true e rest few =
        let one : one_if (is_long x) ≡ 1 = cond-true (is_long x) 1 0 e in
        let next : (if is_long x then 1 else 0) + long_bins xs - long_bins (drop i xs) ≡ suc (long_bins xs - long_bins (drop i xs)) = omega (arith, one, few) in
        ap (λ z. get_or (z ++ bins_of xs) ((if is_long x then 1 else 0) + long_bins xs - long_bins (drop i xs)) []) (long-is x xs e)
        ∙ ap (λ k. get_or (bytes_in (bytes_after x) xs ∷ bins_of xs) k []) next ∙ rest
    by false e rest few =
        let none : one_if (is_long x) ≡ 0 = cond-false (is_long x) 1 0 e in
        let next : (if is_long x then 1 else 0) + long_bins xs - long_bins (drop i xs) ≡ long_bins xs - long_bins (drop i xs) = omega (arith, none) in
        ap (λ z. get_or (z ++ bins_of xs) ((if is_long x then 1 else 0) + long_bins xs - long_bins (drop i xs)) []) (short-is x xs e).0
        ∙ ap (λ k. get_or (bins_of xs) k []) next ∙ rest

past-front : (xs ys : List (List ℕ)) (n k : ℕ) → k ≡ length xs + n → get_or (xs ++ ys) k [] ≡ get_or ys n []
past-front [] ys n k e = let same : k ≡ n = omega (arith, e) in ap (λ z. get_or ys z []) same
past-front (x ∷ xs) ys n zero e = absurd (omega (arith, e))
past-front (x ∷ xs) ys n (suc k) e = past-front xs ys n k (omega (arith, e))

shared-at : (S : List (List ℕ)) (k j : ℕ) → j ≡ suc k → shared_bytes S j ≡ get_or S k []
shared-at S k j e = ap (shared_bytes S) e

-- The next long binary is the next shared one.
pub next-bytes : (shared : List (List ℕ)) (code : List Item) (i : ℕ) (d : Item) (serial : ℕ) → i < length code → is_long (get_or code i d) ≡ true
    → serial + long_bins (drop i code) ≡ length shared + long_bins code
    → shared_bytes (shared ++ bins_of code) (serial + 1) ≡ bytes_in (bytes_after (get_or code i d)) (drop (suc i) code)
next-bytes shared code i d serial below long at =
    let few : long_bins (drop i code) ≤ long_bins code = longs-rest i code in
    let next : serial + 1 ≡ suc serial = omega arith in
    let place : serial ≡ length shared + (long_bins code - long_bins (drop i code)) = omega (arith, at, few) in
    shared-at (shared ++ bins_of code) serial (serial + 1) next ∙ past-front shared (bins_of code) (long_bins code - long_bins (drop i code)) serial place ∙ bins-at i code d below long

-- The slice of what follows.
pub rest-now : (code : List Item) (i : ℕ) → take (length code - (i + 1)) (drop (i + 1) code) ≡ drop (suc i) code
rest-now code i = let next : i + 1 ≡ suc i = omega arith in rest-is code (i + 1) ∙ ap (λ k. drop k code) next

-- What is left from a place on, by the item there.

pub longs-open : (code : List Item) (i : ℕ) (d : Item) → i < length code → long_bins (drop i code) ≡ (if is_long (get_or code i d) then 1 else 0) + long_bins (drop (suc i) code)
longs-open code i d below = ap long_bins (drop-cons code i d below)

pub far-open : (code : List Item) (i : ℕ) (d : Item) → i < length code → far_words_of (drop i code) ≡ far_words (get_or code i d) + far_words_of (drop (suc i) code)
far-open code i d below = ap far_words_of (drop-cons code i d below)

pub led-open : (code : List Item) (i : ℕ) (d : Item) → i < length code → AreLed code → bytes_after (get_or code i d) ≤ length (drop (suc i) code)
led-open [] i d below w = absurd (omega (arith, below))
led-open (x ∷ xs) zero d below w = w.0
led-open (x ∷ xs) (suc i) d below w = led-open xs i d (omega (arith, below)) w.1

-- No more binaries are long than there are items.
pub longs-few : (xs : List Item) → long_bins xs ≤ length xs
longs-few [] = omega arith
longs-few (x ∷ xs) = by (is_long x) (longs-few xs)
  where
    by : (b : Bool) → long_bins xs ≤ length xs → (if b then 1 else 0) + long_bins xs ≤ suc (length xs)
    by true few = omega (arith, few)
    by false few = omega (arith, few)

-- So many long binaries were there before one that is left.
pub longs-left : (code : List Item) (i : ℕ) (d : Item) → i < length code → is_long (get_or code i d) ≡ true → (long_bins code ≤ length code) × (1 ≤ long_bins (drop i code))
longs-left code i d below long =
    let one : one_if (is_long (get_or code i d)) ≡ 1 = cond-true (is_long (get_or code i d)) 1 0 long in
    (longs-few code, omega (arith, longs-open code i d below, one))

pub far-rest : (i : ℕ) (xs : List Item) → far_words_of (drop i xs) ≤ far_words_of xs
far-rest zero xs = omega arith
far-rest (suc i) [] = omega arith
far-rest (suc i) (x ∷ xs) = omega (arith, far-rest i xs)

pub long-far : (x : Item) → is_long x ≡ true → far_words x ≡ 4 + (bytes_after x + 7) / 8
long-far (Bin n) e = rw e refl
long-far x e = absurd cc
