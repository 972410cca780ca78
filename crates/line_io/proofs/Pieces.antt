-- How the pieces of an input, and the lines made of them, follow from its parts.
use Rattle.std.proofs.Common.{◌≡◌, ℕ, ◌+◌, ◌-◌, ◌<◌, ◌≤◌, ◌==◌, ◌&&◌, ◌||◌, Bool, true, false, cond, nat_lt, List, [], ◌∷◌, ◌++◌, length, take, filter, refl, ap, ◌∙◌, arith, length-take, slice_index}
use Rattle.std.proofs.lemmas.List.Elements.{filter-append}
use lib.Seq.{take-append_seam}
use Rattle.std.proofs.lemmas.Bool.Decides.{nat_tests}
use Rattle.std.proofs.lemmas.List.Folds.{list_any-append}
use Rattle.std.specs.List.{list_any, list_all, before_first, position_or_len}
use Rattle.std.specs.Str.Lines.{strip_carriage_return}
use Rattle.line_io.specs.Lines.{long, is_end, is_whole, onto_first, pieces, as_line, finished}
use Rattle.line_io.specs.Reader.{line_given, IsOpen}
use Rattle.line_io.specs.declared.reader.TheConstants.{LONGEST_LINE}

-- neither holds
pub or-false : (a b : Bool) → (a || b) ≡ false → (a ≡ false) × (b ≡ false)
or-false true b e = absurd (cc)
or-false false b e = (refl, e)

-- both hold
pub and-true : (a b : Bool) → (a && b) ≡ true → (a ≡ true) × (b ≡ true)
and-true true b e = (refl, e)
and-true false b e = absurd (cc)

pub or-true : (a : Bool) → (a || true) ≡ true
or-true true = refl
or-true false = refl

pub or-false_end : (a : Bool) → (a || false) ≡ a
or-false_end true = refl
or-false_end false = refl

pub IsOpen-append : (xs ys : List ℕ) → IsOpen xs → IsOpen ys → IsOpen (xs ++ ys)
IsOpen-append xs ys first second = list_any-append is_end xs ys ∙ ap (λ b. b || list_any is_end ys) first ∙ second

-- the first line end makes the first piece
pub pieces-first : (front back : List ℕ) → IsOpen front → pieces (front ++ (10 ∷ back)) ≡ (front ++ (10 ∷ [])) ∷ pieces back
pieces-first [] back none = refl
pieces-first (b ∷ front) back none =
    let parts = or-false (is_end b) (list_any is_end front) none in
    rw (parts.0, pieces-first front back parts.1) refl

-- bytes without a line end are one piece
pub pieces-open : (b : ℕ) (xs : List ℕ) → IsOpen (b ∷ xs) → pieces (b ∷ xs) ≡ (b ∷ xs) ∷ []
pieces-open b [] none = let parts = or-false (is_end b) false none in rw parts.0 refl
pieces-open b (c ∷ xs) none =
    let parts = or-false (is_end b) (list_any is_end (c ∷ xs)) none in
    rw (parts.0, pieces-open c xs parts.1) refl

-- of bytes without a line end no piece is whole
pub whole-of-open : (xs : List ℕ) → IsOpen xs → filter is_whole (pieces xs) ≡ []
whole-of-open [] none = refl
whole-of-open (b ∷ xs) none = rw (pieces-open b xs none) (rw none refl)

-- some bytes make a piece at least
pub pieces-some : (xs : List ℕ) → 0 < length xs → 0 < length (pieces xs)
pieces-some [] some = absurd (omega arith)
pieces-some (b ∷ xs) some = pick (is_end b) (pieces xs)
  where
    onto : (ps : List (List ℕ)) → 0 < length (onto_first b ps)
    onto [] = omega arith
    onto (p ∷ ps) = omega arith

    pick : (t : Bool) (ps : List (List ℕ)) → 0 < length (cond t ((b ∷ []) ∷ ps) (onto_first b ps))
    pick true ps = omega arith
    pick false ps = onto ps

-- the text before the first line end
pub before-end : (xs : List ℕ) → IsOpen xs → before_first is_end (xs ++ (10 ∷ [])) ≡ xs
before-end xs none = ap (λ n. take n (xs ++ (10 ∷ []))) (place xs none) ∙ take-append_seam xs (10 ∷ [])
  where
    place : (xs : List ℕ) → IsOpen xs → position_or_len is_end (xs ++ (10 ∷ [])) ≡ length xs
    place [] none = refl
    place (b ∷ xs) none = let parts = or-false (is_end b) (list_any is_end xs) none in rw (parts.0, place xs parts.1) (omega arith)

pub is_whole-ended : (xs : List ℕ) → is_whole (xs ++ (10 ∷ [])) ≡ true
is_whole-ended xs = list_any-append is_end xs (10 ∷ []) ∙ or-true (list_any is_end xs)

-- a whole piece as a line
pub as_line-whole : (xs : List ℕ) → IsOpen xs → as_line (xs ++ (10 ∷ [])) ≡ line_given false (strip_carriage_return xs)
as_line-whole xs none = rw (is_whole-ended xs, before-end xs none) refl

-- a piece without a line end as a line
pub as_line-open : (xs : List ℕ) → IsOpen xs → as_line xs ≡ line_given false xs
as_line-open xs none = rw none refl

-- a line that is too long in any case
pub line_given-long : (xs : List ℕ) → LONGEST_LINE < length xs → line_given false xs ≡ long
line_given-long xs more = let over : nat_lt LONGEST_LINE (length xs) ≡ true = grind (arith, nat_tests) in rw over refl

pub length-strip : (xs : List ℕ) → length xs ≤ length (strip_carriage_return xs) + 1
length-strip xs = pick (slice_index xs (length xs - 1) == 13)
  where
    pick : (t : Bool) → length xs ≤ length (cond t (take (length xs - 1) xs) xs) + 1
    pick true = omega (arith, length-take (length xs - 1) xs)
    pick false = omega arith

pub filter-all : {X : Type 0} (p : X → Bool) (xs : List X) → list_all p xs ≡ true → filter p xs ≡ xs
filter-all p [] all = refl
filter-all p (x ∷ xs) all = let parts = and-true (p x) (list_all p xs) all in rw (parts.0, filter-all p xs parts.1) refl

pub finished-append : (ended : Bool) (whole ps : List (List ℕ)) → list_all is_whole whole ≡ true → finished ended (whole ++ ps) ≡ whole ++ finished ended ps
finished-append true whole ps all = refl
finished-append false whole ps all = filter-append is_whole whole ps ∙ ap (λ l. l ++ filter is_whole ps) (filter-all is_whole whole all)
