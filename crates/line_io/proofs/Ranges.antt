-- Ranges of a buffer after a write behind them, and from a later start.
use Rattle.std.proofs.Common.{Option, Some, ◌≡◌, ℕ, ◌+◌, ◌-◌, ◌≤◌, List, [], ◌∷◌, ◌++◌, length, take, drop, slice_range, refl, sym, ap, ◌∙◌, arith, length-take, length-take-le, length-drop, take-append-drop}
use Rattle.std.proofs.lemmas.List.{drop-take, drop-append-le, drop-drop}
use Rattle.std.proofs.KnownBytes.{Consumes-nil}
use Rattle.line_io.specs.Source.{Gave}
use lib.Seq.{take-append_seam}

-- a range is what stands from its start on in all that stands before its end
pub range-is-drop : (xs : List ℕ) (from to : ℕ) → from ≤ to → slice_range xs from to ≡ drop from (take to xs)
range-is-drop xs from to in_order =
    let whole : from + (to - from) ≡ to = omega arith in
    sym (drop-take from (to - from) xs) ∙ ap (λ n. drop from (take n xs)) whole

-- no byte came
pub Gave-nil : (left : Option (List ℕ)) → Gave left left []
Gave-nil left = record { known = Consumes-nil left }

-- what comes off the front of the bytes that are left, and stands at a buffer's front
pub Gave-front : (xs buf : List ℕ) (at n : ℕ) → take n buf ≡ take n (drop at xs) → Gave (Some (drop at xs)) (Some (drop (at + n) xs)) (take n buf)
Gave-front xs buf at n same =
    record { known = sym (take-append-drop n (drop at xs)) ∙ ap (λ l. l ++ drop n (drop at xs)) (sym same) ∙ ap (λ l. take n buf ++ l) (drop-drop n at xs) }

-- a write behind a range makes it longer
pub range-grows : (xs ys x : List ℕ) (from to n : ℕ) → from ≤ to → to ≤ length xs → take (to + n) ys ≡ take to xs ++ x → slice_range ys from (to + n) ≡ slice_range xs from to ++ x
range-grows xs ys x from to n in_order within written =
    let room : from ≤ length (take to xs) = omega (arith, length-take to xs) in
    range-is-drop ys from (to + n) (omega arith) ∙ ap (drop from) written ∙ drop-append-le from (take to xs) x room
    ∙ ap (λ l. l ++ x) (sym (range-is-drop xs from to in_order))

-- a range from a later start on is the same range without its first elements
pub range-later : (xs : List ℕ) (from n to : ℕ) → from + n ≤ to → slice_range xs (from + n) to ≡ drop n (slice_range xs from to)
range-later xs from n to within =
    let whole : n + (to - (from + n)) ≡ to - from = omega arith in
    ap (take (to - (from + n))) (sym (drop-drop n from xs))
    ∙ sym (drop-take n (to - (from + n)) (drop from xs))
    ∙ ap (λ m. drop n (take m (drop from xs))) whole

-- a range is its first elements and the range from behind them on
pub range-splits : (xs : List ℕ) (from n to : ℕ) → from + n ≤ to → slice_range xs from to ≡ take n (slice_range xs from to) ++ slice_range xs (from + n) to
range-splits xs from n to within =
    sym (take-append-drop n (slice_range xs from to)) ∙ ap (λ l. take n (slice_range xs from to) ++ l) (sym (range-later xs from n to within))

-- what a buffer begins with after the first n of some bytes were copied to a place
pub copied-front : (xs ys bytes : List ℕ) (to n : ℕ) → n ≤ length bytes → take (to + length (take n bytes)) ys ≡ take to xs ++ take n bytes → take (to + n) ys ≡ take to xs ++ take n bytes
copied-front xs ys bytes to n fits written = ap (λ k. take (to + k) ys) (sym (length-take-le n bytes fits)) ∙ written

-- how long a range within a buffer is
pub length-range : (xs : List ℕ) (from to : ℕ) → from ≤ to → to ≤ length xs → length (slice_range xs from to) ≡ to - from
length-range xs from to in_order within = omega (arith, length-take (to - from) (drop from xs), length-drop from xs)

pub nothing-held : (xs : List ℕ) → length xs ≡ 0 → xs ≡ []
nothing-held [] none = refl
nothing-held (x ∷ xs) none = absurd (omega arith)

-- a range of which the end is near the start is short
pub length-short : (xs : List ℕ) (from to most : ℕ) → to ≤ from + most → length (slice_range xs from to) ≤ most
length-short xs from to most near = omega (arith, length-take (to - from) (drop from xs))

-- a range stays where all that stands before its end stays
pub range-kept : (xs ys : List ℕ) (from to : ℕ) → from ≤ to → take to ys ≡ take to xs → slice_range ys from to ≡ slice_range xs from to
range-kept xs ys from to in_order same = range-is-drop ys from to in_order ∙ ap (drop from) same ∙ sym (range-is-drop xs from to in_order)

-- a vector that is written over as a whole
pub written-over : (len : ℕ) (xs old : List ℕ) → length xs ≡ len → take len (xs ++ drop (length xs) old) ≡ xs
written-over len xs old same = ap (λ n. take n (xs ++ drop (length xs) old)) (sym same) ∙ take-append_seam xs (drop (length xs) old)
