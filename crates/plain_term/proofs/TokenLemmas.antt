-- The order of terms is that of lists of integers, which stand for the terms: so it is total.
use Rattle.std.proofs.Common.{◌≡◌, ◌<◌, Bool, true, false, cond, arith, nat_lt, ltb-true, ltb-false, ℕ, ℤ, pos, List, [], ◌∷◌, refl, sym, ◌∙◌, ap, subst}
use Rattle.std.specs.Ordering.{int_cmp, nat_cmp, ordering_then, MatchOrdering}
use Rattle.std.specs.Cmp.{IsTotalOrder, on_total, int_cmp_total, nat_cmp_is}
use Rattle.std.specs.Cmp.Lexicographic.{slice_cmp, lists_total}
use Rattle.std.specs.declared.cmp.Ordering.{Ordering}
use Rattle.std.specs.declared.cmp.Ordering.TheVariants.{Less, Equal, Greater}
use Rattle.plain_term.specs.Bytes.{bytes_of}
use Rattle.plain_term.specs.Order.{order, order_of_all, order_of_keys, order_of_values, bytes_order, name_of}
use Rattle.plain_term.specs.Tree.{Tree, Trees, Pairs, trees_len, pairs_len}
use Rattle.plain_term.specs.Tree.Tree.{Int, Atom, Pid, Ref, Nil, Cons, Tuple, Map, Bin, Shared, Part, Fun}
use Rattle.plain_term.specs.Tree.Trees.{end, ◌▹◌}
use Rattle.plain_term.specs.Tree.Pairs.{stop, pair}
use Rattle.plain_term.proofs.OrderLemmas.{then-then}

abbrev by_ints : List ℤ → List ℤ → Ordering
by_ints xs ys = slice_cmp int_cmp xs ys

-- the bytes and then the rest, the end of the bytes being less than any byte
abbrev coded : List ℕ → List ℤ → List ℤ
coded [] xs = pos 0 ∷ xs
coded (b ∷ bs) xs = pos 1 ∷ pos b ∷ coded bs xs

abbrev mutual
  -- the integers that stand for a term, and then the rest
  tokens : (names s : List (List ℕ)) → Tree → List ℤ → List ℤ
  tokens names s (Int i) xs = pos 0 ∷ i ∷ xs
  tokens names s (Atom k) xs = pos 1 ∷ coded (name_of names k) xs
  tokens names s (Ref n k) xs = pos 2 ∷ pos n ∷ pos k ∷ xs
  tokens names s (Fun f a c env) xs = pos 3 ∷ coded (name_of names f) (pos a ∷ pos c ∷ pos (trees_len env) ∷ tokens_all names s env xs)
  tokens names s (Pid n) xs = pos 4 ∷ pos n ∷ xs
  tokens names s (Tuple ts) xs = pos 5 ∷ pos (trees_len ts) ∷ tokens_all names s ts xs
  tokens names s (Map ps) xs = pos 6 ∷ pos (pairs_len ps) ∷ tokens_keys names s ps (tokens_values names s ps xs)
  tokens names s Nil xs = pos 7 ∷ xs
  tokens names s (Cons h t) xs = pos 8 ∷ tokens names s h (tokens names s t xs)
  tokens names s (Bin bytes) xs = pos 9 ∷ coded bytes xs
  tokens names s (Shared id) xs = pos 9 ∷ coded (bytes_of s (Shared id)) xs
  tokens names s (Part base offset len) xs = pos 9 ∷ coded (bytes_of s (Part base offset len)) xs

  tokens_all : (names s : List (List ℕ)) → Trees → List ℤ → List ℤ
  tokens_all names s end xs = pos 0 ∷ xs
  tokens_all names s (t ▹ ts) xs = pos 1 ∷ tokens names s t (tokens_all names s ts xs)

  tokens_keys : (names s : List (List ℕ)) → Pairs → List ℤ → List ℤ
  tokens_keys names s stop xs = pos 0 ∷ xs
  tokens_keys names s (pair k v ps) xs = pos 1 ∷ tokens names s k (tokens_keys names s ps xs)

  tokens_values : (names s : List (List ℕ)) → Pairs → List ℤ → List ℤ
  tokens_values names s stop xs = pos 0 ∷ xs
  tokens_values names s (pair k v ps) xs = pos 1 ∷ tokens names s v (tokens_values names s ps xs)

pos-ranked : (a b : ℕ) (x y : Bool) → nat_lt a b ≡ x → nat_lt b a ≡ y → MatchOrdering (cond x Less (cond y Greater Equal)) (a < b) (a ≡ b) (b < a)
pos-ranked a b true y p q = ltb-true a b p
pos-ranked a b false true p q = ltb-true b a q
pos-ranked a b false false p q = omega (arith, ltb-false a b p, ltb-false b a q)

pos-cmp : (a b : ℕ) → int_cmp (pos a) (pos b) ≡ nat_cmp a b
pos-cmp a b = nat_cmp_is a b (int_cmp (pos a) (pos b)) (pos-ranked a b (nat_lt a b) (nat_lt b a) refl refl)

-- numbers are compared first
number : (a b : ℕ) (xs ys : List ℤ) (o : Ordering) → by_ints xs ys ≡ o → by_ints (pos a ∷ xs) (pos b ∷ ys) ≡ ordering_then (nat_cmp a b) o
number a b xs ys o e = λ i. ordering_then (pos-cmp a b i) (e i)

coded-cmp : (a b : List ℕ) (xs ys : List ℤ) → by_ints (coded a xs) (coded b ys) ≡ ordering_then (bytes_order a b) (by_ints xs ys)
coded-cmp [] [] xs ys = refl
coded-cmp [] (b ∷ bs) xs ys = refl
coded-cmp (a ∷ bs) [] xs ys = refl
coded-cmp (a ∷ bs) (b ∷ cs) xs ys =
    number a b (coded bs xs) (coded cs ys) (ordering_then (bytes_order bs cs) (by_ints xs ys)) (coded-cmp bs cs xs ys) ∙ sym (then-then (nat_cmp a b) (bytes_order bs cs) (by_ints xs ys))

mutual
  tokens-cmp : (names s : List (List ℕ)) (a b : Tree) (xs ys : List ℤ) → by_ints (tokens names s a xs) (tokens names s b ys) ≡ ordering_then (order names s a b) (by_ints xs ys)
  tokens-cmp names s (Int i) (Int j) xs ys = refl
  tokens-cmp names s (Atom k) (Atom j) xs ys = coded-cmp (name_of names k) (name_of names j) xs ys
  tokens-cmp names s (Ref n k) (Ref m j) xs ys =
      number n m (pos k ∷ xs) (pos j ∷ ys) (ordering_then (nat_cmp k j) (by_ints xs ys)) (number k j xs ys (by_ints xs ys) refl) ∙ sym (then-then (nat_cmp n m) (nat_cmp k j) (by_ints xs ys))
  tokens-cmp names s (Fun f n c ts) (Fun g m d us) xs ys =
      let first = bytes_order (name_of names f) (name_of names g) in
      let places = order_of_all names s ts us in
      let sizes = nat_cmp (trees_len ts) (trees_len us) in
      let rest = by_ints xs ys in
      let placed = ordering_then places rest in
      let sized = ordering_then sizes placed in
      let made = ordering_then (nat_cmp c d) sized in
      let after-size-1 = tokens_all names s ts xs in
      let after-size-2 = tokens_all names s us ys in
      coded-cmp (name_of names f) (name_of names g) (pos n ∷ pos c ∷ pos (trees_len ts) ∷ after-size-1) (pos m ∷ pos d ∷ pos (trees_len us) ∷ after-size-2)
      ∙ ap (λ o. ordering_then first o) (number n m (pos c ∷ pos (trees_len ts) ∷ after-size-1) (pos d ∷ pos (trees_len us) ∷ after-size-2) made
      (number c d (pos (trees_len ts) ∷ after-size-1) (pos (trees_len us) ∷ after-size-2) sized
      (number (trees_len ts) (trees_len us) after-size-1 after-size-2 placed (tokens_all-cmp names s ts us xs ys))))
      ∙ ap (λ o. ordering_then first (ordering_then (nat_cmp n m) (ordering_then (nat_cmp c d) o))) (sym (then-then sizes places rest))
      ∙ ap (λ o. ordering_then first (ordering_then (nat_cmp n m) o)) (sym (then-then (nat_cmp c d) (ordering_then sizes places) rest))
      ∙ ap (λ o. ordering_then first o) (sym (then-then (nat_cmp n m) (ordering_then (nat_cmp c d) (ordering_then sizes places)) rest))
      ∙ sym (then-then first (ordering_then (nat_cmp n m) (ordering_then (nat_cmp c d) (ordering_then sizes places))) rest)
  tokens-cmp names s (Pid n) (Pid m) xs ys = number n m xs ys (by_ints xs ys) refl
  tokens-cmp names s (Tuple ts) (Tuple us) xs ys =
      let sizes = nat_cmp (trees_len ts) (trees_len us) in
      number (trees_len ts) (trees_len us) (tokens_all names s ts xs) (tokens_all names s us ys) (ordering_then (order_of_all names s ts us) (by_ints xs ys)) (tokens_all-cmp names s ts us xs ys)
      ∙ sym (then-then sizes (order_of_all names s ts us) (by_ints xs ys))
  tokens-cmp names s (Map ps) (Map qs) xs ys =
      let sizes = nat_cmp (pairs_len ps) (pairs_len qs) in
      let keys = order_of_keys names s ps qs in
      let values = order_of_values names s ps qs in
      let after-1 = tokens_values names s ps xs in
      let after-2 = tokens_values names s qs ys in
      number (pairs_len ps) (pairs_len qs) (tokens_keys names s ps after-1) (tokens_keys names s qs after-2) (ordering_then keys (by_ints after-1 after-2))
      (tokens_keys-cmp names s ps qs after-1 after-2)
      ∙ ap (λ o. ordering_then sizes (ordering_then keys o)) (tokens_values-cmp names s ps qs xs ys)
      ∙ ap (λ o. ordering_then sizes o) (sym (then-then keys values (by_ints xs ys)))
      ∙ sym (then-then sizes (ordering_then keys values) (by_ints xs ys))
  tokens-cmp names s Nil Nil xs ys = refl
  tokens-cmp names s (Cons a b) (Cons c d) xs ys =
      tokens-cmp names s a c (tokens names s b xs) (tokens names s d ys)
      ∙ ap (λ o. ordering_then (order names s a c) o) (tokens-cmp names s b d xs ys)
      ∙ sym (then-then (order names s a c) (order names s b d) (by_ints xs ys))
  tokens-cmp names s (Bin a) (Bin b) xs ys = coded-cmp a b xs ys
  tokens-cmp names s (Bin a) (Shared b) xs ys = coded-cmp a (bytes_of s (Shared b)) xs ys
  tokens-cmp names s (Bin a) (Part b o l) xs ys = coded-cmp a (bytes_of s (Part b o l)) xs ys
  tokens-cmp names s (Shared a) (Bin b) xs ys = coded-cmp (bytes_of s (Shared a)) b xs ys
  tokens-cmp names s (Shared a) (Shared b) xs ys = coded-cmp (bytes_of s (Shared a)) (bytes_of s (Shared b)) xs ys
  tokens-cmp names s (Shared a) (Part b o l) xs ys = coded-cmp (bytes_of s (Shared a)) (bytes_of s (Part b o l)) xs ys
  tokens-cmp names s (Part a n m) (Bin b) xs ys = coded-cmp (bytes_of s (Part a n m)) b xs ys
  tokens-cmp names s (Part a n m) (Shared b) xs ys = coded-cmp (bytes_of s (Part a n m)) (bytes_of s (Shared b)) xs ys
  tokens-cmp names s (Part a n m) (Part b o l) xs ys = coded-cmp (bytes_of s (Part a n m)) (bytes_of s (Part b o l)) xs ys
  tokens-cmp names s a b xs ys = refl

  tokens_all-cmp : (names s : List (List ℕ)) (ts us : Trees) (xs ys : List ℤ)
      → by_ints (tokens_all names s ts xs) (tokens_all names s us ys) ≡ ordering_then (order_of_all names s ts us) (by_ints xs ys)
  tokens_all-cmp names s end end xs ys = refl
  tokens_all-cmp names s end (u ▹ us) xs ys = refl
  tokens_all-cmp names s (t ▹ ts) end xs ys = refl
  tokens_all-cmp names s (t ▹ ts) (u ▹ us) xs ys =
      tokens-cmp names s t u (tokens_all names s ts xs) (tokens_all names s us ys)
      ∙ ap (λ o. ordering_then (order names s t u) o) (tokens_all-cmp names s ts us xs ys)
      ∙ sym (then-then (order names s t u) (order_of_all names s ts us) (by_ints xs ys))

  tokens_keys-cmp : (names s : List (List ℕ)) (ps qs : Pairs) (xs ys : List ℤ)
      → by_ints (tokens_keys names s ps xs) (tokens_keys names s qs ys) ≡ ordering_then (order_of_keys names s ps qs) (by_ints xs ys)
  tokens_keys-cmp names s stop stop xs ys = refl
  tokens_keys-cmp names s stop (pair k v qs) xs ys = refl
  tokens_keys-cmp names s (pair k v ps) stop xs ys = refl
  tokens_keys-cmp names s (pair k v ps) (pair j w qs) xs ys =
      tokens-cmp names s k j (tokens_keys names s ps xs) (tokens_keys names s qs ys)
      ∙ ap (λ o. ordering_then (order names s k j) o) (tokens_keys-cmp names s ps qs xs ys)
      ∙ sym (then-then (order names s k j) (order_of_keys names s ps qs) (by_ints xs ys))

  tokens_values-cmp : (names s : List (List ℕ)) (ps qs : Pairs) (xs ys : List ℤ)
      → by_ints (tokens_values names s ps xs) (tokens_values names s qs ys) ≡ ordering_then (order_of_values names s ps qs) (by_ints xs ys)
  tokens_values-cmp names s stop stop xs ys = refl
  tokens_values-cmp names s stop (pair k v qs) xs ys = refl
  tokens_values-cmp names s (pair k v ps) stop xs ys = refl
  tokens_values-cmp names s (pair k v ps) (pair j w qs) xs ys =
      tokens-cmp names s v w (tokens_values names s ps xs) (tokens_values names s qs ys)
      ∙ ap (λ o. ordering_then (order names s v w) o) (tokens_values-cmp names s ps qs xs ys)
      ∙ sym (then-then (order names s v w) (order_of_values names s ps qs) (by_ints xs ys))

then-Equal : (o : Ordering) → ordering_then o Equal ≡ o
then-Equal Less = refl
then-Equal Equal = refl
then-Equal Greater = refl

pub order-total : (names s : List (List ℕ)) → IsTotalOrder (order names s)
order-total names s =
    subst IsTotalOrder (λ i a b. (tokens-cmp names s a b [] [] ∙ then-Equal (order names s a b)) i)
    (on_total (λ (t : Tree). tokens names s t []) (lists_total int_cmp_total))
