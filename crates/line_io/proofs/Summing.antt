-- How the numbers of some bytes, and the state of their line begun, go on with one byte more.
use Rattle.std.proofs.Common.{◌≡◌, ℕ, suc, ◌+◌, ◌*◌, ◌%◌, ◌^◌, ◌<◌, ◌==◌, ◌&&◌, ◌||◌, Bool, true, false, cond, nat_lt, Option, Some, None, List, [], ◌∷◌, ◌++◌, length, refl, sym, ap, subst, ◌∙◌, arith, append-nil, length-append, slice_index}
use Rattle.std.proofs.lemmas.List.Folds.{list_any-append}
use Rattle.std.proofs.lemmas.List.Sums.{sum_by-cons}
use Rattle.std.proofs.lemmas.Bool.Decides.{nat_tests}
use Rattle.std.specs.List.{list_any, count_by}
use Rattle.line_io.specs.Lines.{is_end, onto_first, pieces}
use Rattle.line_io.specs.Reader.{IsOpen}
use Rattle.line_io.specs.Summary.{begins_with, completes, error_begun, error_lines, front_len, further, line_begun, one_more, sum_from, summary_of}
use Rattle.line_io.specs.declared.sum_sink.TheConstants.{ERROR_WORD}
use Rattle.line_io.proofs.Pieces.{IsOpen-append, or-true, or-false_end, pieces-first, pieces-open}

-- 1 where a test holds
abbrev one_if : Bool → ℕ
one_if b = cond b 1 0

count-cons : {X : Type 0} (p : X → Bool) (x : X) (xs : List X) → count_by p (x ∷ xs) ≡ one_if (p x) + count_by p xs
count-cons p x xs = sum_by-cons (λ y. one_if (p y)) x xs

count-append : {X : Type 0} (p : X → Bool) (xs ys : List X) → count_by p (xs ++ ys) ≡ count_by p xs + count_by p ys
count-append p [] ys = omega arith
count-append p (x ∷ xs) ys = omega (arith, count-cons p x xs, count-cons p x (xs ++ ys), count-append p xs ys)

count-one : {X : Type 0} (p : X → Bool) (x : X) → count_by p (x ∷ []) ≡ one_if (p x)
count-one p x = omega (arith, count-cons p x [])

-- the sum goes on
sum-append : (h b : ℕ) (bytes : List ℕ) → sum_from h (bytes ++ b ∷ []) ≡ (31 * sum_from h bytes + b) % 2 ^ 32
sum-append h b [] = refl
sum-append h b (c ∷ bytes) = sum-append ((31 * h + c) % 2 ^ 32) b bytes

-- after a line end no line is begun
begun-end : (bytes : List ℕ) (b : ℕ) → is_end b ≡ true → line_begun (bytes ++ b ∷ []) ≡ []
begun-end [] b e = rw e refl
begun-end (c ∷ bytes) b e =
    let some : list_any is_end (bytes ++ b ∷ []) ≡ true = list_any-append is_end bytes (b ∷ []) ∙ ap (λ t. list_any is_end bytes || t) (rw e refl) ∙ or-true (list_any is_end bytes) in
    ap (λ t. cond (is_end c || t) (line_begun (bytes ++ b ∷ [])) (c ∷ (bytes ++ b ∷ []))) some
    ∙ ap (λ t. cond t (line_begun (bytes ++ b ∷ [])) (c ∷ (bytes ++ b ∷ []))) (or-true (is_end c)) ∙ begun-end bytes b e

-- another byte goes on with the line begun
begun-more : (bytes : List ℕ) (b : ℕ) → is_end b ≡ false → line_begun (bytes ++ b ∷ []) ≡ line_begun bytes ++ b ∷ []
begun-more [] b e = rw e refl
begun-more (c ∷ bytes) b e =
    let same : list_any is_end (bytes ++ b ∷ []) ≡ list_any is_end bytes = list_any-append is_end bytes (b ∷ []) ∙ ap (λ t. list_any is_end bytes || t) (rw e refl)
    ∙ or-false_end (list_any is_end bytes) in
    ap (λ t. cond (is_end c || t) (line_begun (bytes ++ b ∷ [])) (c ∷ (bytes ++ b ∷ []))) same ∙ pick (is_end c || list_any is_end bytes) (begun-more bytes b e)
  where
    pick : (t : Bool) → line_begun (bytes ++ b ∷ []) ≡ line_begun bytes ++ b ∷ [] → cond t (line_begun (bytes ++ b ∷ [])) (c ∷ (bytes ++ b ∷ [])) ≡ cond t (line_begun bytes) (c ∷ bytes) ++ b ∷ []
    pick true same = same
    pick false same = refl

tests-later : (n m : ℕ) → nat_lt (n + 1) (m + 1) ≡ nat_lt n m
tests-later n m = pick (nat_lt n m) refl
  where
    pick : (t : Bool) → nat_lt n m ≡ t → nat_lt (n + 1) (m + 1) ≡ t
    pick true e = grind (arith, nat_tests)
    pick false e = grind (arith, nat_tests)

further-more : (w : ℕ) (word : List ℕ) (s : Option ℕ) (b : ℕ) → one_more (further word s b) ≡ further (w ∷ word) (one_more s) b
further-more w word None b = refl
further-more w word (Some n) b =
    let next : n + 1 ≡ suc n = omega arith in
    let len : length (w ∷ word) ≡ length word + 1 = omega arith in
    let fits : nat_lt (n + 1 + 1) (length (w ∷ word)) ≡ nat_lt (n + 1) (length word) = ap (nat_lt (n + 1 + 1)) len ∙ tests-later (n + 1) (length word) in
    let place : slice_index (w ∷ word) (n + 1) ≡ slice_index word n = ap (slice_index (w ∷ word)) next in
    pick (nat_lt (n + 1) (length word) && (b == slice_index word n))
    ∙ ap (λ t. cond (t && (b == slice_index word n)) (Some (n + 1 + 1)) None) (sym fits)
    ∙ ap (λ k. cond (nat_lt (n + 1 + 1) (length (w ∷ word)) && (b == k)) (Some (n + 1 + 1)) None) (sym place)
  where
    pick : (t : Bool) → one_more (cond t (Some (n + 1)) None) ≡ cond t (Some (n + 1 + 1)) None
    pick true = refl
    pick false = refl

-- how the state of a line goes on
front-more : (word line : List ℕ) (b : ℕ) → front_len word (line ++ b ∷ []) ≡ further word (front_len word line) b
front-more [] line b = refl
front-more (w ∷ []) [] b = pick (b == w)
  where
    pick : (t : Bool) → ◌≡◌ {A = Option ℕ} (cond t None None) None
    pick true = refl
    pick false = refl
front-more (w ∷ v ∷ word) [] b = pick (nat_lt 1 (length (w ∷ v ∷ word))) (grind (arith, nat_tests)) (b == w)
  where
    pick : (s : Bool) → s ≡ true → (t : Bool) → ◌≡◌ {A = Option ℕ} (cond t (Some 1) None) (cond (s && t) (Some 1) None)
    pick s e true = rw e refl
    pick s e false = rw e refl
front-more (w ∷ word) (c ∷ line) b = pick (c == w) (front-more word line b)
  where
    pick : (t : Bool) → front_len word (line ++ b ∷ []) ≡ further word (front_len word line) b
        → cond t (one_more (front_len word (line ++ b ∷ []))) None ≡ further (w ∷ word) (cond t (one_more (front_len word line)) None) b
    pick true same = ap one_more same ∙ further-more w word (front_len word line) b
    pick false same = refl

completes-more : (w : ℕ) (word : List ℕ) (s : Option ℕ) (b : ℕ) → completes (w ∷ word) (one_more s) b ≡ completes word s b
completes-more w word None b = refl
completes-more w word (Some n) b =
    let next : n + 1 ≡ suc n = omega arith in
    let len : length (w ∷ word) ≡ length word + 1 = omega arith in
    let whole : (n + 1 + 1 == length (w ∷ word)) ≡ (n + 1 == length word) = ap (λ k. n + 1 + 1 == k) len ∙ same-later (n + 1) (length word) in
    let place : slice_index (w ∷ word) (n + 1) ≡ slice_index word n = ap (slice_index (w ∷ word)) next in
    ap (λ t. t && (b == slice_index (w ∷ word) (n + 1))) whole ∙ ap (λ k. (n + 1 == length word) && (b == k)) place
  where
    same-later : (n m : ℕ) → (n + 1 == m + 1) ≡ (n == m)
    same-later n m = pick (n == m) refl
      where
        pick : (t : Bool) → (n == m) ≡ t → (n + 1 == m + 1) ≡ t
        pick true e = grind (arith, nat_tests)
        pick false e = grind (arith, nat_tests)

-- a line begins with the word from that byte on which completes it
begins-more : (word line : List ℕ) (b : ℕ) → 0 < length word → one_if (begins_with word (line ++ b ∷ [])) ≡ one_if (begins_with word line) + one_if (completes word (front_len word line) b)
begins-more [] line b some = absurd (omega arith)
begins-more (w ∷ []) [] b some = pick (b == w)
  where
    pick : (t : Bool) → one_if (t && true) ≡ 0 + one_if t
    pick true = refl
    pick false = refl
begins-more (w ∷ v ∷ word) [] b some = pick (1 == length (w ∷ v ∷ word)) (grind (arith, nat_tests)) (b == w)
  where
    pick : (s : Bool) → s ≡ false → (t : Bool) → one_if (t && false) ≡ 0 + one_if (s && t)
    pick s e true = rw e refl
    pick s e false = rw e refl
begins-more (w ∷ []) (c ∷ line) b some = pick (c == w)
  where
    pick : (t : Bool) → one_if (t && true) ≡ one_if (t && true) + one_if (completes (w ∷ []) (cond t None None) b)
    pick true = refl
    pick false = refl
begins-more (w ∷ v ∷ word) (c ∷ line) b some = pick (begins-more (v ∷ word) line b (omega arith)) (c == w)
  where
    pick : one_if (begins_with (v ∷ word) (line ++ b ∷ [])) ≡ one_if (begins_with (v ∷ word) line) + one_if (completes (v ∷ word) (front_len (v ∷ word) line) b)
        → (t : Bool)
        → one_if (t && begins_with (v ∷ word) (line ++ b ∷ [])) ≡ one_if (t && begins_with (v ∷ word) line) + one_if (completes (w ∷ v ∷ word) (cond t (one_more (front_len (v ∷ word) line)) None) b)
    pick same true = same ∙ ap (λ t. one_if (begins_with (v ∷ word) line) + one_if t) (sym (completes-more w (v ∷ word) (front_len (v ∷ word) line) b))
    pick same false = refl

-- all bytes but those of the line begun are whole pieces, whatever comes after
record IsCut (bytes : List ℕ) : Type 0 where
  whole : List (List ℕ)
  cuts : (more : List ℕ) → pieces (bytes ++ more) ≡ whole ++ pieces (line_begun bytes ++ more)
  is_open : IsOpen (line_begun bytes)
  some : list_any is_end bytes ≡ true → 0 < length whole

onto-append : (c : ℕ) (ps qs : List (List ℕ)) → 0 < length ps → onto_first c (ps ++ qs) ≡ onto_first c ps ++ qs
onto-append c [] qs some = absurd (omega arith)
onto-append c (p ∷ ps) qs some = refl

onto-some : (c : ℕ) (ps : List (List ℕ)) → 0 < length (onto_first c ps)
onto-some c [] = omega arith
onto-some c (p ∷ ps) = omega arith

cut : (bytes : List ℕ) → IsCut bytes
cut [] = record { whole = []; cuts = λ more. refl; is_open = refl; some = λ e. cc }
cut (c ∷ bytes) = pick (is_end c) refl (list_any is_end bytes) refl (cut bytes)
  where
    pick : (t : Bool) → is_end c ≡ t → (u : Bool) → list_any is_end bytes ≡ u → IsCut bytes → IsCut (c ∷ bytes)
    pick true e u f r = record {
      whole = (c ∷ []) ∷ r.whole;
      cuts = λ more. rw e (ap (λ ps. (c ∷ []) ∷ ps) (r.cuts more));
      is_open = rw e r.is_open;
      some = λ g. omega arith;
    }
    pick false e true f r = record {
      whole = onto_first c r.whole;
      cuts = λ more. rw (e, f) (ap (onto_first c) (r.cuts more) ∙ onto-append c r.whole (pieces (line_begun bytes ++ more)) (r.some f));
      is_open = rw (e, f) r.is_open;
      some = λ g. onto-some c r.whole;
    }
    pick false e false f r =
        let same : line_begun (c ∷ bytes) ≡ c ∷ bytes =
        ap (λ t. cond (t || list_any is_end bytes) (line_begun bytes) (c ∷ bytes)) e ∙ ap (λ t. cond t (line_begun bytes) (c ∷ bytes)) f in
        let none : IsOpen (c ∷ bytes) = ap (λ t. t || list_any is_end bytes) e ∙ f in
        record { whole = []; cuts = λ more. ap (λ l. pieces (l ++ more)) (sym same); is_open = subst IsOpen (sym same) none; some = λ g. absurd (cc) }

-- an open line and one byte more are one piece
piece-more : (line : List ℕ) (b : ℕ) → IsOpen line → pieces (line ++ b ∷ []) ≡ (line ++ b ∷ []) ∷ []
piece-more line b none = pick (is_end b) refl
  where
    one : (line : List ℕ) → IsOpen (line ++ b ∷ []) → pieces (line ++ b ∷ []) ≡ (line ++ b ∷ []) ∷ []
    one [] open_line = pieces-open b [] open_line
    one (c ∷ line) open_line = pieces-open c (line ++ b ∷ []) open_line

    pick : (t : Bool) → is_end b ≡ t → pieces (line ++ b ∷ []) ≡ (line ++ b ∷ []) ∷ []
    pick true e =
        let ten : b ≡ 10 = grind (arith, nat_tests, e) in
        subst (λ z. pieces (line ++ z ∷ []) ≡ (line ++ z ∷ []) ∷ []) (sym ten) (pieces-first line [] none)
    pick false e = one line (IsOpen-append line (b ∷ []) none (rw e refl))

count-open : (word line : List ℕ) → 0 < length word → IsOpen line → count_by (begins_with word) (pieces line) ≡ one_if (begins_with word line)
count-open [] line some none = absurd (omega arith)
count-open (w ∷ word) [] some none = refl
count-open (w ∷ word) (c ∷ line) some none = ap (count_by (begins_with (w ∷ word))) (pieces-open c line none) ∙ count-one (begins_with (w ∷ word)) (c ∷ line)

-- one line more begins with `error ` where a byte completes it
errors-more : (bytes : List ℕ) (b : ℕ) → error_lines (bytes ++ b ∷ []) ≡ error_lines bytes + one_if (completes ERROR_WORD (error_begun bytes) b)
errors-more bytes b =
    let r = cut bytes in
    let p : List ℕ → Bool = begins_with ERROR_WORD in
    let line = line_begun bytes in
    let before : error_lines bytes ≡ count_by p r.whole + one_if (p line) =
    ap (λ l. count_by p (pieces l)) (sym (append-nil bytes)) ∙ ap (count_by p) (r.cuts [] ∙ ap (λ l. r.whole ++ pieces l) (append-nil line))
    ∙ count-append p r.whole (pieces line) ∙ ap (λ n. count_by p r.whole + n) (count-open ERROR_WORD line (omega arith) r.is_open) in
    let after : error_lines (bytes ++ b ∷ []) ≡ count_by p r.whole + one_if (p (line ++ b ∷ [])) =
    ap (count_by p) (r.cuts (b ∷ []) ∙ ap (λ ps. r.whole ++ ps) (piece-more line b r.is_open))
    ∙ count-append p r.whole ((line ++ b ∷ []) ∷ []) ∙ ap (λ n. count_by p r.whole + n) (count-one p (line ++ b ∷ [])) in
    let more = begins-more ERROR_WORD line b (omega arith) in
    omega (arith, before, after, more)

-- how much of `error ` the line begun has
pub error_begun-more : (bytes : List ℕ) (b : ℕ) → error_begun (bytes ++ b ∷ []) ≡ cond (is_end b) (Some 0) (further ERROR_WORD (error_begun bytes) b)
error_begun-more bytes b = pick (is_end b) refl
  where
    pick : (t : Bool) → is_end b ≡ t → error_begun (bytes ++ b ∷ []) ≡ cond t (Some 0) (further ERROR_WORD (error_begun bytes) b)
    pick true e = ap (front_len ERROR_WORD) (begun-end bytes b e)
    pick false e = ap (front_len ERROR_WORD) (begun-more bytes b e) ∙ front-more ERROR_WORD (line_begun bytes) b

-- the numbers of some bytes and one more
pub summary-more : (lines errors bytes sum b : ℕ) (taken : List ℕ) → record { lines = lines; errors = errors; bytes = bytes; sum = sum } ≡ summary_of taken
    → record {
      lines = (lines + one_if (is_end b)) % 2 ^ 64;
      errors = (errors + one_if (completes ERROR_WORD (error_begun taken) b)) % 2 ^ 64;
      bytes = (bytes + 1) % 2 ^ 64;
      sum = (sum * 31 % 2 ^ 32 + b) % 2 ^ 32;
    } ≡ summary_of (taken ++ b ∷ [])
summary-more lines errors bytes sum b taken same =
    let ends : lines ≡ count_by is_end taken % 2 ^ 64 = ap (λ s. s.lines) same in
    let wrong : errors ≡ error_lines taken % 2 ^ 64 = ap (λ s. s.errors) same in
    let all : bytes ≡ length taken % 2 ^ 64 = ap (λ s. s.bytes) same in
    let number : sum ≡ sum_from 7 taken = ap (λ s. s.sum) same in
    let e1 : (lines + one_if (is_end b)) % 2 ^ 64 ≡ count_by is_end (taken ++ b ∷ []) % 2 ^ 64 = omega (arith, ends, count-append is_end taken (b ∷ []), count-one is_end b) in
    let e2 : (errors + one_if (completes ERROR_WORD (error_begun taken) b)) % 2 ^ 64 ≡ error_lines (taken ++ b ∷ []) % 2 ^ 64 = omega (arith, wrong, errors-more taken b) in
    let e3 : (bytes + 1) % 2 ^ 64 ≡ length (taken ++ b ∷ []) % 2 ^ 64 = omega (arith, all, length-append taken (b ∷ [])) in
    let e4 : (sum * 31 % 2 ^ 32 + b) % 2 ^ 32 ≡ sum_from 7 (taken ++ b ∷ []) = omega (arith, number, sum-append 7 b taken) in
    λ i. record { lines = e1 i; errors = e2 i; bytes = e3 i; sum = e4 i }
