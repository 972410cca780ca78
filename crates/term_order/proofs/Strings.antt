-- The order of bytes that lie in the memory.
use Rattle.std.proofs.Common.{◌≡◌, ℕ, zero, suc, ◌+◌, ◌/◌, ◌%◌, ◌<◌, ◌≤◌, ◌⊎◌, nat_lt, min, Bool, true, false, List, [], ◌∷◌, length, drop, get_or, refl, sym, ◌∙◌, ap, subst, inl, inr, arith, add-one, drop-cons, length-drop}
use Rattle.std.proofs.lemmas.Bool.Decides.{nat_tests}
use Rattle.std.proofs.lemmas.Cmp.{ranked}
use Rattle.std.specs.Cmp.{nat_cmp_is}
use Rattle.std.specs.Ordering.{nat_cmp, ordering_then, MatchOrdering}
use Rattle.std.specs.declared.cmp.Ordering.{Ordering}
use Rattle.std.specs.declared.cmp.Ordering.TheVariants.{Less, Equal, Greater}
use Rattle.plain_term.specs.Order.{bytes_order}
use Rattle.term_words.specs.Object.{byte_of}
use Rattle.term_read.specs.declared.looks.Bytes.{Bytes}
use Rattle.term_order.specs.Own.{IsBytes, byte_in}

-- Bytes of equal words are equal, where both rows begin with a word.

below-as : (k i : ℕ) (b : Bool) → nat_lt k i ≡ b → (k < i) ⊎ (i ≤ k)
below-as k i true e = inl (grind (arith, nat_tests))
below-as k i false e = inr (grind (arith, nat_tests))

word-byte : (mem : List ℕ) (b d : Bytes) (i k : ℕ) → b.start % 8 ≡ 0 → d.start % 8 ≡ 0 → i % 8 ≡ 0 → i ≤ k → k < i + 8
    → get_or mem (b.first + (b.start + i) / 8) 0 ≡ get_or mem (d.first + (d.start + i) / 8) 0 → byte_in mem b k ≡ byte_in mem d k
word-byte mem b d i k bs ds whole from below word =
    let eb : (b.start + k) / 8 ≡ (b.start + i) / 8 = omega (arith, bs, whole, from, below) in
    let ed : (d.start + k) / 8 ≡ (d.start + i) / 8 = omega (arith, ds, whole, from, below) in
    let ek : (b.start + k) % 8 ≡ (d.start + k) % 8 = omega (arith, bs, ds) in
    ap (λ z. byte_of (get_or mem (b.first + z) 0) ((b.start + k) % 8)) eb
    ∙ ap (λ z. byte_of z ((b.start + k) % 8)) word
    ∙ ap (λ z. byte_of (get_or mem (d.first + (d.start + i) / 8) 0) z) ek
    ∙ sym (ap (λ z. byte_of (get_or mem (d.first + z) 0) ((d.start + k) % 8)) ed)

pub words-same : (mem : List ℕ) (b d : Bytes) (i : ℕ) → b.start % 8 ≡ 0 → d.start % 8 ≡ 0 → i % 8 ≡ 0
    → get_or mem (b.first + (b.start + i) / 8) 0 ≡ get_or mem (d.first + (d.start + i) / 8) 0 → ((k : ℕ) → k < i → byte_in mem b k ≡ byte_in mem d k)
    → (k : ℕ) → k < i + 8 → byte_in mem b k ≡ byte_in mem d k
words-same mem b d i bs ds whole word before k below = elim (below-as k i (nat_lt k i) refl) [
  | inl low ↦ before k low
  | inr high ↦ word-byte mem b d i k bs ds whole high below word
]

-- Two lists of bytes from one place on.

cmp-drop : (i : ℕ) (xs ys : List ℕ) → i < length xs → i < length ys
    → bytes_order (drop i xs) (drop i ys) ≡ ordering_then (nat_cmp (get_or xs i 0) (get_or ys i 0)) (bytes_order (drop (i + 1) xs) (drop (i + 1) ys))
cmp-drop i xs ys hx hy = rw (add-one, drop-cons xs i 0, drop-cons ys i 0) refl

same-cmp : (x y : ℕ) → x ≡ y → nat_cmp x y ≡ Equal
same-cmp x y e = sym (nat_cmp_is x y Equal e)

drop-step : (i : ℕ) (xs ys : List ℕ) → i < length xs → i < length ys → get_or xs i 0 ≡ get_or ys i 0 → bytes_order (drop i xs) (drop i ys) ≡ bytes_order (drop (i + 1) xs) (drop (i + 1) ys)
drop-step i xs ys hx hy e = cmp-drop i xs ys hx hy ∙ ap (λ z. ordering_then z (bytes_order (drop (i + 1) xs) (drop (i + 1) ys))) (same-cmp (get_or xs i 0) (get_or ys i 0) e)

then-differs : (o r : Ordering) (x y : ℕ) → MatchOrdering o (x < y) (x ≡ y) (y < x) → (x ≡ y → ⊥) → o ≡ ordering_then o r
then-differs Less r x y m other = refl
then-differs Equal r x y m other = absurd (other m)
then-differs Greater r x y m other = refl

pub byte-is : (mem : List ℕ) (b : Bytes) (xs : List ℕ) (i : ℕ) → IsBytes mem b xs → i < b.len → byte_in mem b i ≡ get_or xs i 0
byte-is mem b xs i h below = h.from.each i (omega (arith, h.count, below))

pub order-step : (mem : List ℕ) (b d : Bytes) (xs ys : List ℕ) (i : ℕ) → IsBytes mem b xs → IsBytes mem d ys → i < b.len → i < d.len → byte_in mem b i ≡ byte_in mem d i
    → bytes_order (drop i xs) (drop i ys) ≡ bytes_order (drop (i + 1) xs) (drop (i + 1) ys)
order-step mem b d xs ys i hx hy bx by same = drop-step i xs ys (omega (arith, hx.count, bx)) (omega (arith, hy.count, by)) (sym (byte-is mem b xs i hx bx) ∙ same ∙ byte-is mem d ys i hy by)

pub order-differs : (mem : List ℕ) (b d : Bytes) (xs ys : List ℕ) (i x y : ℕ) → IsBytes mem b xs → IsBytes mem d ys → i < b.len → i < d.len → x ≡ byte_in mem b i → y ≡ byte_in mem d i → (x ≡ y → ⊥)
    → nat_cmp x y ≡ bytes_order (drop i xs) (drop i ys)
order-differs mem b d xs ys i x y hx hy bx by ex ey other =
    let P : ℕ → ℕ → Type 0 = λ u v. nat_cmp x y ≡ ordering_then (nat_cmp u v) (bytes_order (drop (i + 1) xs) (drop (i + 1) ys)) in
    let here : P x y = then-differs (nat_cmp x y) (bytes_order (drop (i + 1) xs) (drop (i + 1) ys)) x y (ranked x y (nat_cmp x y) refl) other in
    subst (λ v. P (get_or xs i 0) v) (ey ∙ byte-is mem d ys i hy by) (subst (λ u. P u y) (ex ∙ byte-is mem b xs i hx bx) here)
    ∙ sym (cmp-drop i xs ys (omega (arith, hx.count, bx)) (omega (arith, hy.count, by)))

ends-cmp : (m n i : ℕ) (ks bs : List ℕ) → length ks + i ≡ m → length bs + i ≡ n → (length ks ≡ 0) ⊎ (length bs ≡ 0) → nat_cmp m n ≡ bytes_order ks bs
ends-cmp m n i [] [] hm hn one = sym (nat_cmp_is m n Equal (omega (arith, hm, hn)))
ends-cmp m n i [] (y ∷ ys) hm hn one = sym (nat_cmp_is m n Less (omega (arith, hm, hn)))
ends-cmp m n i (x ∷ xs) [] hm hn one = sym (nat_cmp_is m n Greater (omega (arith, hm, hn)))
ends-cmp m n i (x ∷ xs) (y ∷ ys) hm hn one = absurd (omega (arith, one))

pub order-ends : (mem : List ℕ) (b d : Bytes) (xs ys : List ℕ) (i : ℕ) → IsBytes mem b xs → IsBytes mem d ys → i ≤ b.len → i ≤ d.len → (b.len ≤ i) ⊎ (d.len ≤ i)
    → nat_cmp b.len d.len ≡ bytes_order (drop i xs) (drop i ys)
order-ends mem b d xs ys i hx hy bx by one = ends-cmp b.len d.len i (drop i xs) (drop i ys)
    (omega (arith, length-drop i xs, hx.count, bx)) (omega (arith, length-drop i ys, hy.count, by)) (last one)
  where
    last : (b.len ≤ i) ⊎ (d.len ≤ i) → (length (drop i xs) ≡ 0) ⊎ (length (drop i ys) ≡ 0)
    last (inl h) = inl (omega (arith, length-drop i xs, hx.count, h))
    last (inr h) = inr (omega (arith, length-drop i ys, hy.count, h))

skip : (i : ℕ) (xs ys : List ℕ) → i ≤ length xs → i ≤ length ys → ((k : ℕ) → k < i → get_or xs k 0 ≡ get_or ys k 0) → bytes_order xs ys ≡ bytes_order (drop i xs) (drop i ys)
skip zero xs ys hx hy same = refl
skip (suc i) xs ys hx hy same =
    skip i xs ys (omega (arith, hx)) (omega (arith, hy)) (λ k below. same k (omega (arith, below)))
    ∙ drop-step i xs ys (omega (arith, hx)) (omega (arith, hy)) (same i (omega arith))
    ∙ ap (λ z. bytes_order (drop z xs) (drop z ys)) (add-one i)

pub order-skip : (mem : List ℕ) (b d : Bytes) (xs ys : List ℕ) (i : ℕ) → IsBytes mem b xs → IsBytes mem d ys → i ≤ b.len → i ≤ d.len → ((k : ℕ) → k < i → byte_in mem b k ≡ byte_in mem d k)
    → bytes_order xs ys ≡ bytes_order (drop i xs) (drop i ys)
order-skip mem b d xs ys i hx hy bx by same = skip i xs ys (omega (arith, hx.count, bx)) (omega (arith, hy.count, by))
    (λ k below. sym (byte-is mem b xs k hx (omega (arith, below, bx))) ∙ same k below ∙ byte-is mem d ys k hy (omega (arith, below, by)))

pub min-reached : (m n i : ℕ) → min m n ≤ i → (m ≤ i) ⊎ (n ≤ i)
min-reached m n i h = elim (below-as n m (nat_lt n m) refl) [
  | inl low ↦ inr (omega (arith, h, low))
  | inr high ↦ inl (omega (arith, h, high))
]
