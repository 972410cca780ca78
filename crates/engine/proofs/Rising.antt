-- Live numbers one after the other: each is the first above the one before.
use Rattle.std.proofs.Common.{◌≡◌, ℕ, ◌<◌, ◌==◌, Bool, true, false, cond, nat_lt, List, [], ◌∷◌, ◌++◌, Some, None, refl, sym, ap, subst, ◌∙◌, arith, lt-ltb, le-ltb, codes, decimal, append_assoc}
use Rattle.std.specs.List.{find}
use Rattle.std.proofs.lemmas.Bool.Decides.{nat_tests}
use Rattle.plain_term.specs.Text.{numbers_text, more_numbers}
use Rattle.space_api.specs.Calls.{AreRising}
use Rattle.reply_text.specs.Texts.{divider}
use Rattle.engine.specs.Writing.{above, end_of_line}

-- all numbers stand above the first bound
above-all : (last : ℕ) (xs : List ℕ) → AreRising last xs → above last xs ≡ xs
above-all last [] r = refl
above-all last (x ∷ xs) r = rw (lt-ltb last x r.0) refl

-- a number that is found stands above the first bound
found-bound : (last n b : ℕ) (xs : List ℕ) → AreRising b xs → find (λ m. nat_lt last m) xs ≡ Some n → b < n
found-bound last n b [] r e = absurd (cc)
found-bound last n b (x ∷ xs) r e = found-bound-at (nat_lt last x) last n b x xs r.0 e (λ k. found-bound last n x xs r.1 k)
  where
    found-bound-at : (t : Bool) (last n b x : ℕ) (xs : List ℕ) → b < x → cond t (Some x) (find (λ m. nat_lt last m) xs) ≡ Some n
        → (find (λ m. nat_lt last m) xs ≡ Some n → x < n) → b < n
    found-bound-at true last n b x xs r e k = let same : x ≡ n = cc in omega arith
    found-bound-at false last n b x xs r e k = let h : x < n = k e in omega arith

-- the numbers above the bound begin with the one that is found
above-found : (last n b : ℕ) (xs : List ℕ) → AreRising b xs → find (λ m. nat_lt last m) xs ≡ Some n → above last xs ≡ n ∷ above n xs
above-found last n b [] r e = absurd (cc)
above-found last n b (x ∷ xs) r e = at (nat_lt last x) last n x xs r.1 e (λ k. above-found last n x xs r.1 k) (λ k. found-bound last n x xs r.1 k)
  where
    at : (t : Bool) (last n x : ℕ) (xs : List ℕ) → AreRising x xs → cond t (Some x) (find (λ m. nat_lt last m) xs) ≡ Some n
        → (find (λ m. nat_lt last m) xs ≡ Some n → above last xs ≡ n ∷ above n xs)
        → (find (λ m. nat_lt last m) xs ≡ Some n → x < n)
        → cond t (x ∷ xs) (above last xs) ≡ n ∷ cond (nat_lt n x) (x ∷ xs) (above n xs)
    at true last n x xs r e k h = let same : x ≡ n = cc in
        let P : ℕ → Type 0 = λ z. x ∷ xs ≡ z ∷ cond (nat_lt z x) (x ∷ xs) (above z xs) in
        subst P same (rw (le-ltb x x (omega arith), above-all x xs r) refl)
    at false last n x xs r e k h = let more : x < n = h e in rw (k e, le-ltb n x (omega arith)) refl

-- none is left where none is found
above-none : (last : ℕ) (xs : List ℕ) → find (λ m. nat_lt last m) xs ≡ None → above last xs ≡ []
above-none last [] e = refl
above-none last (x ∷ xs) e = at (nat_lt last x) last x xs e (λ k. above-none last xs k)
  where
    at : (t : Bool) (last x : ℕ) (xs : List ℕ) → cond t (Some x) (find (λ m. nat_lt last m) xs) ≡ None
        → (find (λ m. nat_lt last m) xs ≡ None → above last xs ≡ []) → cond t (x ∷ xs) (above last xs) ≡ []
    at true last x xs e k = absurd (cc)
    at false last x xs e k = k e

-- what is still to be written of the line, where these numbers are left
pub left : (first : Bool) → List ℕ → List ℕ
left first [] = codes "]\n"
left first (n ∷ ns) = (divider first ++ decimal n) ++ left false ns

more-left : (ns : List ℕ) → left false ns ≡ more_numbers ns ++ codes "]\n"
unfolding left
more-left [] = refl
more-left (n ∷ ns) = ap (λ l. codes "," ++ l) (ap (λ l. decimal n ++ l) (more-left ns) ∙ sym (append_assoc (decimal n) (more_numbers ns) (codes "]\n")))

all-left : (ns : List ℕ) → left true ns ≡ numbers_text ns ++ codes "]\n"
unfolding left
all-left [] = refl
all-left (n ∷ ns) = ap (λ l. decimal n ++ l) (more-left ns) ∙ sym (append_assoc (decimal n) (more_numbers ns) (codes "]\n"))

-- the line begins with its bracket
pub numbers-begin : (ns : List ℕ) → AreRising 0 ns → end_of_line (codes "[" ++ (numbers_text ns ++ codes "]")) ≡ codes "[" ++ left true (above 0 ns)
numbers-begin ns r = ap (λ l. codes "[" ++ l) (append_assoc (numbers_text ns) (codes "]") (codes "\n") ∙ sym (all-left ns) ∙ ap (left true) (sym (above-all 0 ns r)))

-- the number that is found comes next
pub numbers-next : (first : Bool) (last n : ℕ) (ns : List ℕ) → AreRising 0 ns → last < n → find (λ m. nat_lt last m) ns ≡ Some n
    → left first (above last ns) ≡ (divider first ++ decimal n) ++ left (n == 0) (above n ns)
unfolding left
numbers-next first last n ns r more e =
    ap (left first) (above-found last n 0 ns r e) ∙ ap (λ b. (divider first ++ decimal n) ++ left b (above n ns)) (sym (not-zero n (omega (arith, more))))
  where
    not-zero : (n : ℕ) → 0 < n → (n == 0) ≡ false
    not-zero n h = grind (arith, nat_tests, h)

-- none is left where none is found
pub numbers-end : (first : Bool) (last : ℕ) (ns : List ℕ) → find (λ m. nat_lt last m) ns ≡ None → left first (above last ns) ≡ codes "]\n"
unfolding left
numbers-end first last ns e = ap (left first) (above-none last ns e)
