-- What is true of every made script: how many lines it has, and a byte that none of them has.
use Rattle.std.proofs.Common.{◌≡◌, ◌∙◌, ◌<◌, ◌+◌, ◌%◌, ◌^◌, ◌≤◌, ◌++◌, ◌||◌, ◌&&◌, ◌==◌, ℕ, zero, suc, Bool, true, false, not, refl, ap, arith, List, [], ◌∷◌, decimal, length}
use Rattle.std.specs.List.{concat, list_all, list_any, slice_index_or}
use Rattle.std.proofs.lemmas.Bool.Decides.{nat_tests}
use Rattle.std.proofs.lemmas.List.Folds.{list_any-append}
use Rattle.std.proofs.lemmas.Fmt.{decimal_by_steps}
use Rattle.rand_pcg.specs.Lcg.{Lcg}
use Rattle.made_script.specs.Draws.{after_first, after_process, after_row, draw, drawn}
use Rattle.made_script.specs.Lines.{line_of, receiver_of, drawn_row, rows, rows_of}
use Rattle.made_script.specs.Script.{generator_of, lines_from, made_script}

-- so many lines are drawn as are asked for
lines-drawn : (n : ℕ) (g : Lcg) → length (lines_from n g) ≡ n
unfolding lines_from
lines-drawn zero g = refl
lines-drawn (suc n) g = ap suc (lines-drawn n _)

-- a made script has 100,000 lines
pub lines-made : (number : ℕ) → length (made_script number) ≡ 100000
unfolding made_script
lines-made number = let drawn : length (lines_from 99992 (generator_of number)) ≡ 99992 = lines-drawn 99992 (generator_of number) in omega (arith, drawn)

-- the byte `q`
abbrev pub is_q : ℕ → Bool
is_q b = b == 113

-- no byte of the text is one
abbrev pub lacks_q : List ℕ → Bool
lacks_q bytes = not (list_any is_q bytes)

-- nor is a digit
digit-lacks : (d : ℕ) → d < 10 → is_q (48 + d) ≡ false
digit-lacks d low = grind (arith, nat_tests)

-- a number in decimal has none
decimal-lacks : (n : ℕ) → n < 2 ^ 64 → list_any is_q (decimal n) ≡ false
decimal-lacks = decimal_by_steps (λ n ds. list_any is_q ds ≡ false) one more
  where
    one : (n : ℕ) → n < 10 → list_any is_q ((48 + n) ∷ []) ≡ false
    one n low = rw (digit-lacks n low) refl

    more : (n : ℕ) (ds : List ℕ) → 10 ≤ n → list_any is_q ds ≡ false → list_any is_q (ds ++ ((48 + n % 10) ∷ [])) ≡ false
    more n ds ten lacks = list_any-append is_q ds ((48 + n % 10) ∷ []) ∙ rw (lacks, one (n % 10) (omega arith)) refl

-- no piece of the row has one
abbrev row_lacks : List (List ℕ) → Bool
row_lacks pieces = not (list_any (list_any is_q) pieces)

-- where the numbers of a line have none, its row has none, whichever it is
rows-lack : (p a b x q : List ℕ) → list_any is_q p ≡ false → list_any is_q a ≡ false → list_any is_q b ≡ false → list_any is_q x ≡ false → list_any is_q q ≡ false
    → list_all row_lacks (rows p a b x q) ≡ true
rows-lack p a b x q ep ea eb ex eq = rw (ep, ea, eb, ex, eq) refl

-- an entry of a list, or what stands for one behind its end, passes a test that all of them pass
passes-at : {X : Type 0} (test : X → Bool) (xs : List X) (i : ℕ) (other : X) → list_all test xs ≡ true → test other ≡ true → test (slice_index_or xs i other) ≡ true
passes-at test [] i other all last = last
passes-at test (x ∷ xs) zero other all last = pick (test x) all
  where
    pick : (t : Bool) → (t && list_all test xs) ≡ true → t ≡ true
    pick true e = refl
    pick false e = e
passes-at test (x ∷ xs) (suc i) other all last = passes-at test xs i other (pick (test x) all) last
  where
    pick : (t : Bool) → (t && list_all test xs) ≡ true → list_all test xs ≡ true
    pick true e = e
    pick false e = absurd (cc)

-- nor has the row as one text
concat-lacks : (pieces : List (List ℕ)) → row_lacks pieces ≡ true → list_any is_q (concat pieces) ≡ false
concat-lacks [] e = refl
concat-lacks (t ∷ ts) e = pick (list_any is_q t) refl e (concat-lacks ts)
  where
    pick : (u : Bool) → list_any is_q t ≡ u → not (u || list_any (list_any is_q) ts) ≡ true
        → (row_lacks ts ≡ true → list_any is_q (concat ts) ≡ false) → list_any is_q (t ++ concat ts) ≡ false
    pick true same h rest = absurd (cc)
    pick false same h rest = list_any-append is_q t (concat ts) ∙ rw (same, rest h) refl

-- what is drawn modulo these numbers is below them
drawn-8 : (g : Lcg) → (draw 8 g).0 < 8
unfolding draw
drawn-8 g = omega arith

drawn-16 : (g : Lcg) → (draw 16 g).0 < 16
unfolding draw
drawn-16 g = omega arith

drawn-1000 : (g : Lcg) → (draw 1000 g).0 < 1000
unfolding draw
drawn-1000 g = omega arith

-- no line that is drawn has one
line-lacks : (g : Lcg) → list_any is_q (line_of (drawn g)) ≡ false
unfolding line_of
line-lacks g =
    let d = drawn g in
    let process : d.process < 2 ^ 64 = let low = drawn-8 g in omega (arith, low) in
    let first : d.first < 2 ^ 64 = let low = drawn-16 (after_process g) in omega (arith, low) in
    let second : d.second < 2 ^ 64 = let low = drawn-16 (after_first g) in omega (arith, low) in
    let value : d.value < 2 ^ 64 = let low = drawn-1000 (after_row g) in omega (arith, low) in
    let receiver : receiver_of d < 2 ^ 64 = omega arith in
    let all =
    rows-lack (decimal d.process) (decimal d.first) (decimal d.second) (decimal d.value) (decimal (receiver_of d))
    (decimal-lacks d.process process) (decimal-lacks d.first first) (decimal-lacks d.second second) (decimal-lacks d.value value)
    (decimal-lacks (receiver_of d) receiver) in
    concat-lacks (slice_index_or (rows_of d) (drawn_row d) []) (passes-at row_lacks (rows_of d) (drawn_row d) [] all refl)

-- nor has any of so many lines
lines-lack : (n : ℕ) (g : Lcg) → list_all lacks_q (lines_from n g) ≡ true
unfolding lines_from
lines-lack zero g = refl
lines-lack (suc n) g = rw (line-lacks g, lines-lack n _) refl

-- no line of a made script has the byte `q`
pub lines-lack_q : (number : ℕ) → list_all lacks_q (made_script number) ≡ true
unfolding made_script
lines-lack_q number = lines-lack 99992 (generator_of number)
