-- Where the first line end stands in the bytes that a reader holds.
use Rattle.std.proofs.Common.{◌≡◌, ℕ, suc, ◌+◌, ◌-◌, ◌<◌, ◌≤◌, Bool, true, false, not, cond, nat_lt, Option, Some, None, List, [], ◌∷◌, ◌++◌, length, take, drop, slice_range, get_or, refl, sym, ap, subst, ◌∙◌, arith, append_assoc, length-take}
use Rattle.std.proofs.lemmas.Bool.Decides.{nat_tests}
use Rattle.std.proofs.lemmas.List.{drop-drop, take_all}
use lib.Seq.{take-add, take-take}
use Rattle.std.proofs.lemmas.List.Sums.{split_at_first, passes_at_first}
use Rattle.std.specs.List.{position, position_or_len}
use Rattle.line_io.specs.Lines.{is_end}
use Rattle.line_io.specs.Reader.{IsOpen}
use Rattle.line_io.proofs.Pieces.{IsOpen-append}
use Rattle.line_io.proofs.Ranges.{range-later}

-- before the first line end there is none
pub open-before : (xs : List ℕ) → IsOpen (take (position_or_len is_end xs) xs)
open-before [] = refl
open-before (b ∷ xs) = pick (is_end b) refl (open-before xs)
  where
    pick : (t : Bool) → is_end b ≡ t → IsOpen (take (position_or_len is_end xs) xs) → IsOpen (take (cond (not t) (1 + position_or_len is_end xs) 0) (b ∷ xs))
    pick true e others = refl
    pick false e others =
        let next : 1 + position_or_len is_end xs ≡ suc (position_or_len is_end xs) = omega arith in
        subst (λ m. IsOpen (take m (b ∷ xs))) (sym next) (rw e others)

picked : {n i : ℕ} (b : Bool) → cond b (Some n) None ≡ Some i → (b ≡ true) × (n ≡ i)
picked true e = (refl, cc)
picked false e = absurd (cc)

not-picked : (n : ℕ) (b : Bool) → ◌≡◌ {A = Option ℕ} (cond b (Some n) None) None → b ≡ false
not-picked n true e = absurd (cc)
not-picked n false e = refl

-- the first line end splits the bytes
pub found : (xs : List ℕ) (i : ℕ) → position is_end xs ≡ Some i → (i < length xs) × (xs ≡ take i xs ++ (10 ∷ drop (i + 1) xs)) × IsOpen (take i xs)
found xs i at =
    let n = position_or_len is_end xs in
    let p = picked (nat_lt n (length xs)) at in
    let lt : n < length xs = grind (arith, nat_tests, p.0) in
    let ten : get_or xs n 0 ≡ 10 = grind (arith, nat_tests, passes_at_first is_end xs 0 lt) in
    let split : xs ≡ take n xs ++ (10 ∷ drop (n + 1) xs) = split_at_first is_end xs 0 lt ∙ ap (λ b. take n xs ++ (b ∷ drop (n + 1) xs)) ten in
    let P : ℕ → Type 0 = λ m. (m < length xs) × (xs ≡ take m xs ++ (10 ∷ drop (m + 1) xs)) × IsOpen (take m xs) in
    subst P p.1 (lt, split, open-before xs)

-- where none is found, there is none
pub none-found : (xs : List ℕ) → position is_end xs ≡ None → IsOpen xs
none-found xs none =
    let n = position_or_len is_end xs in
    let all : length xs ≤ n = grind (arith, nat_tests, not-picked n (nat_lt n (length xs)) none) in
    subst IsOpen (take_all n xs all) (open-before xs)

-- two ranges side by side
pub range-joins : (xs : List ℕ) (a b c : ℕ) → a ≤ b → b ≤ c → slice_range xs a c ≡ slice_range xs a b ++ slice_range xs b c
range-joins xs a b c first second =
    let whole : c - a ≡ (b - a) + (c - b) = omega arith in
    let place : a + (b - a) ≡ b = omega arith in
    ap (λ n. take n (drop a xs)) whole ∙ take-add (b - a) (c - b) (drop a xs)
    ∙ ap (λ l. take (b - a) (drop a xs) ++ take (c - b) l) (drop-drop (b - a) a xs ∙ ap (λ n. drop n xs) place)

-- the first elements of a range
pub range-take : (xs : List ℕ) (b c i : ℕ) → b + i ≤ c → take i (slice_range xs b c) ≡ slice_range xs b (b + i)
range-take xs b c i within =
    let count : i ≡ b + i - b = omega arith in
    take-take i (c - b) (drop b xs) (omega arith) ∙ ap (λ n. take n (drop b xs)) count

-- a line end that is found stands before the end of the range
pub found-within : (buf : List ℕ) (looked end i : ℕ) → position is_end (slice_range buf looked end) ≡ Some i → looked + i < end
found-within buf looked end i at = omega (arith, (found (slice_range buf looked end) i at).0, length-take (end - looked) (drop looked buf))

-- a line end among the bytes that are held, of which those before `looked` were looked at
pub found-line : (buf : List ℕ) (start looked end i : ℕ) → start ≤ looked → looked ≤ end → IsOpen (slice_range buf start looked) → position is_end (slice_range buf looked end) ≡ Some i
    → (looked + i < end) × (slice_range buf start end ≡ slice_range buf start (looked + i) ++ (10 ∷ slice_range buf (looked + i + 1) end)) × IsOpen (slice_range buf start (looked + i))
found-line buf start looked end i behind within before at =
    let window = slice_range buf looked end in
    let f = found window i at in
    let fits : looked + i + 1 ≤ end = omega (arith, found-within buf looked end i at) in
    let front : slice_range buf start (looked + i) ≡ slice_range buf start looked ++ take i window =
    range-joins buf start looked (looked + i) behind (omega arith) ∙ ap (λ l. slice_range buf start looked ++ l) (sym (range-take buf looked end i (omega (arith, fits)))) in
    let place : looked + (i + 1) ≡ looked + i + 1 = omega arith in
    let back : drop (i + 1) window ≡ slice_range buf (looked + i + 1) end =
    sym (range-later buf looked (i + 1) end (omega (arith, fits))) ∙ ap (λ n. slice_range buf n end) place in (
      omega (arith, fits),
      range-joins buf start looked end behind within ∙ ap (λ l. slice_range buf start looked ++ l) f.1 ∙ sym (append_assoc (slice_range buf start looked) (take i window) (10 ∷ drop (i + 1) window))
          ∙ ap (λ l. l ++ (10 ∷ drop (i + 1) window)) (sym front) ∙ ap (λ l. slice_range buf start (looked + i) ++ (10 ∷ l)) back,
      subst IsOpen (sym front) (IsOpen-append (slice_range buf start looked) (take i window) before f.2),
    )

-- no line end among them
pub none-held : (buf : List ℕ) (start looked end : ℕ) → start ≤ looked → looked ≤ end → IsOpen (slice_range buf start looked) → position is_end (slice_range buf looked end) ≡ None
    → IsOpen (slice_range buf start end)
none-held buf start looked end behind within before at =
    subst IsOpen (sym (range-joins buf start looked end behind within)) (IsOpen-append (slice_range buf start looked) (slice_range buf looked end) before (none-found (slice_range buf looked end) at))
