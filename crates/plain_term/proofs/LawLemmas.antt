-- The laws of order, measures and text.
use Rattle.std.proofs.Common.{◌≡◌, ◌≢◌, ◌+◌, ◌≤◌, ◌<◌, ◌^◌, ◌==◌, ◌%◌, ℕ, suc, ℤ, pos, negsuc, true, false, List, [], ◌∷◌, ◌++◌, length, get_or, max, refl, sym, ◌∙◌, ap, subst, arith, neg_ℤ, ◌-◌, ◌&&◌, nat_le, drop, leb-true, length-drop, length-take}
use Rattle.std.proofs.lemmas.Bool.{and_parts, false≢true}
use Rattle.std.specs.Ordering.{nat_cmp, ordering_then, ordering_reverse}
use Rattle.std.specs.Cmp.{tied_itself}
use Rattle.std.specs.Ordering.{is_eq}
use Rattle.std.specs.Fmt.{signed_decimal, decimal}
use Rattle.std.specs.Str.Parse.{signed_digits_value, digits_value}
use Rattle.std.specs.declared.cmp.Ordering.{Ordering}
use Rattle.std.specs.declared.cmp.Ordering.TheVariants.{Less, Equal, Greater}
use Rattle.std.proofs.lemmas.Cmp.{nat_list_cmp_total}
use Rattle.std.proofs.lemmas.Fmt.{decimal_is_IsNumeral_wide, decimal_by_steps_wide}
use Rattle.std.proofs.lemmas.Map.Lookups.{exact_bytes}
use Rattle.std.proofs.lemmas.Str.Parse.{without_leading_plus_none}
use Rattle.plain_term.specs.Bytes.{bytes_of, is_binary}
use Rattle.plain_term.specs.Proper.{is_proper, is_base}
use Rattle.plain_term.specs.Measures.{nodes, nodes_of_all, nodes_of_pairs, depth, greatest_depth, greatest_depth_of_pairs, bin_nodes, magnitude}
use Rattle.plain_term.specs.Order.{order, order_of_all, order_of_keys, order_of_values, bytes_order, name_of}
use Rattle.plain_term.specs.Tree.{Tree, Trees, Pairs, trees_len, pairs_len}
use Rattle.plain_term.specs.Tree.Tree.{Int, Atom, Pid, Ref, Nil, Cons, Tuple, Map, Bin, Shared, Part, Fun}
use Rattle.plain_term.specs.Tree.Trees.{end, ◌▹◌}
use Rattle.plain_term.specs.Tree.Pairs.{stop, pair}

pub neither : (r s : Ordering) → r ≡ ordering_reverse s → (r ≡ Equal → (r ≢ Less) × (s ≢ Less)) × ((r ≢ Less) × (s ≢ Less) → r ≡ Equal)
neither Less s e = (λ h. absurd cc, λ h. absurd (h.0 refl))
neither Equal Less e = absurd cc
neither Equal Equal e = (λ h. (λ k. cc, λ k. cc), λ h. refl)
neither Equal Greater e = absurd cc
neither Greater Less e = (λ h. absurd cc, λ h. absurd (h.1 refl))
neither Greater Equal e = absurd cc
neither Greater Greater e = absurd cc

first : (a b : Ordering) → ordering_then a b ≡ Equal → a ≡ Equal
first Less b e = e
first Equal b e = refl
first Greater b e = e

second : (a b : Ordering) → ordering_then a b ≡ Equal → b ≡ Equal
second Less b e = absurd cc
second Equal b e = e
second Greater b e = absurd cc

-- Terms of different kinds are not equal.
undecided : {P : Type 0} (o : Ordering) → is_eq o ≡ false → o ≡ Equal → P
undecided o differ same = absurd (false≢true (sym differ ∙ ap is_eq same))

bytes-same : (a b : List ℕ) → bytes_order a b ≡ Equal → a ≡ b
bytes-same a b e = exact_bytes a b e

bytes-itself : (a b : List ℕ) → a ≡ b → bytes_order a b ≡ Equal
bytes-itself a b e = let Same : List ℕ → Type 0 = λ c. bytes_order a c ≡ Equal in subst Same e (tied_itself nat_list_cmp_total a)

pub order-of-binaries : (names s : List (List ℕ)) (a b : Tree) → is_binary a ≡ true → is_binary b ≡ true → order names s a b ≡ bytes_order (bytes_of s a) (bytes_of s b)
order-of-binaries names s (Bin x) (Bin y) p q = refl
order-of-binaries names s (Bin x) (Shared y) p q = refl
order-of-binaries names s (Bin x) (Part y o l) p q = refl
order-of-binaries names s (Bin x) _ p q = absurd (false≢true q)
order-of-binaries names s (Shared x) (Bin y) p q = refl
order-of-binaries names s (Shared x) (Shared y) p q = refl
order-of-binaries names s (Shared x) (Part y o l) p q = refl
order-of-binaries names s (Shared x) _ p q = absurd (false≢true q)
order-of-binaries names s (Part x n m) (Bin y) p q = refl
order-of-binaries names s (Part x n m) (Shared y) p q = refl
order-of-binaries names s (Part x n m) (Part y o l) p q = refl
order-of-binaries names s (Part x n m) _ p q = absurd (false≢true q)
order-of-binaries names s _ b p q = absurd (false≢true p)

pub equal-binaries : (names s : List (List ℕ)) (a b : Tree) → is_binary a ≡ true → is_binary b ≡ true
    → (order names s a b ≡ Equal → bytes_of s a ≡ bytes_of s b) × (bytes_of s a ≡ bytes_of s b → order names s a b ≡ Equal)
equal-binaries names s a b p q =
    let same = order-of-binaries names s a b p q in
    (λ e. bytes-same (bytes_of s a) (bytes_of s b) (sym same ∙ e), λ e. same ∙ bytes-itself (bytes_of s a) (bytes_of s b) e)

bin-alike : (a b : List ℕ) → bytes_order a b ≡ Equal → (bin_nodes (length a) ≡ bin_nodes (length b)) × (depth (Bin a) ≡ depth (Bin b))
bin-alike a b e = (ap (λ bs. bin_nodes (length bs)) (bytes-same a b e), refl)

mutual
  pub alike : (names s : List (List ℕ)) (a b : Tree) → order names s a b ≡ Equal → (nodes s a ≡ nodes s b) × (depth a ≡ depth b)
  alike names s (Int i) (Int j) e = (refl, refl)
  alike names s (Atom k) (Atom j) e = (refl, refl)
  alike names s (Ref n k) (Ref m j) e = (refl, refl)
  alike names s (Pid n) (Pid m) e = (refl, refl)
  alike names s Nil Nil e = (refl, refl)
  alike names s (Fun f n c ts) (Fun g m d us) e =
      let rest = second (bytes_order (name_of names f) (name_of names g)) _ e in
      let parts = alike-all names s ts us (second (nat_cmp (trees_len ts) (trees_len us)) _ (second (nat_cmp c d) _ (second (nat_cmp n m) _ rest))) in
      (omega (arith, parts.0), omega (arith, parts.1))
  alike names s (Tuple ts) (Tuple us) e =
      let parts = alike-all names s ts us (second (nat_cmp (trees_len ts) (trees_len us)) _ e) in
      (omega (arith, parts.0), omega (arith, parts.1))
  alike names s (Map ps) (Map qs) e =
      let rest = second (nat_cmp (pairs_len ps) (pairs_len qs)) _ e in
      let parts = alike-pairs names s ps qs (first (order_of_keys names s ps qs) _ rest) (second (order_of_keys names s ps qs) _ rest) in
      (omega (arith, parts.0), omega (arith, parts.1))
  alike names s (Cons a b) (Cons c d) e =
      let heads = alike names s a c (first (order names s a c) _ e) in
      let tails = alike names s b d (second (order names s a c) _ e) in
      (omega (arith, heads.0, tails.0), (λ i. max (1 + heads.1 i) (tails.1 i)))
  alike names s (Bin x) (Bin y) e = bin-alike x y e
  alike names s (Bin x) (Shared y) e = bin-alike x (bytes_of s (Shared y)) e
  alike names s (Bin x) (Part y o l) e = bin-alike x (bytes_of s (Part y o l)) e
  alike names s (Shared x) (Bin y) e = bin-alike (bytes_of s (Shared x)) y e
  alike names s (Shared x) (Shared y) e = bin-alike (bytes_of s (Shared x)) (bytes_of s (Shared y)) e
  alike names s (Shared x) (Part y o l) e = bin-alike (bytes_of s (Shared x)) (bytes_of s (Part y o l)) e
  alike names s (Part x n m) (Bin y) e = bin-alike (bytes_of s (Part x n m)) y e
  alike names s (Part x n m) (Shared y) e = bin-alike (bytes_of s (Part x n m)) (bytes_of s (Shared y)) e
  alike names s (Part x n m) (Part y o l) e = bin-alike (bytes_of s (Part x n m)) (bytes_of s (Part y o l)) e
  alike names s a b e = undecided (order names s a b) refl e

  alike-all : (names s : List (List ℕ)) (ts us : Trees) → order_of_all names s ts us ≡ Equal → (nodes_of_all s ts ≡ nodes_of_all s us) × (greatest_depth ts ≡ greatest_depth us)
  alike-all names s end end e = (refl, refl)
  alike-all names s end (u ▹ us) e = absurd cc
  alike-all names s (t ▹ ts) end e = absurd cc
  alike-all names s (t ▹ ts) (u ▹ us) e =
      let heads = alike names s t u (first (order names s t u) _ e) in
      let rest = alike-all names s ts us (second (order names s t u) _ e) in
      (omega (arith, heads.0, rest.0), (λ i. max (heads.1 i) (rest.1 i)))

  alike-pairs : (names s : List (List ℕ)) (ps qs : Pairs) → order_of_keys names s ps qs ≡ Equal → order_of_values names s ps qs ≡ Equal
      → (nodes_of_pairs s ps ≡ nodes_of_pairs s qs) × (greatest_depth_of_pairs ps ≡ greatest_depth_of_pairs qs)
  alike-pairs names s stop stop e h = (refl, refl)
  alike-pairs names s stop (pair k v qs) e h = absurd cc
  alike-pairs names s (pair k v ps) stop e h = absurd cc
  alike-pairs names s (pair k v ps) (pair j w qs) e h =
      let keys = alike names s k j (first (order names s k j) _ e) in
      let values = alike names s v w (first (order names s v w) _ h) in
      let rest = alike-pairs names s ps qs (second (order names s k j) _ e) (second (order names s v w) _ h) in
      (omega (arith, keys.0, values.0, rest.0), (λ i. max (max (keys.1 i) (values.1 i)) (rest.1 i)))

mutual
  pub depth-within : (s : List (List ℕ)) (t : Tree) → depth t ≤ nodes s t
  depth-within s (Cons h t) = omega (arith, depth-within s h, depth-within s t)
  depth-within s (Tuple ts) = omega (arith, depth-within-all s ts)
  depth-within s (Map ps) = omega (arith, depth-within-pairs s ps)
  depth-within s (Fun f a c ts) = omega (arith, depth-within-all s ts)
  depth-within s _ = omega arith

  depth-within-all : (s : List (List ℕ)) (ts : Trees) → greatest_depth ts ≤ nodes_of_all s ts
  depth-within-all s end = omega arith
  depth-within-all s (t ▹ ts) = omega (arith, depth-within s t, depth-within-all s ts)

  depth-within-pairs : (s : List (List ℕ)) (ps : Pairs) → greatest_depth_of_pairs ps ≤ nodes_of_pairs s ps
  depth-within-pairs s stop = omega arith
  depth-within-pairs s (pair k v ps) = omega (arith, depth-within s k, depth-within s v, depth-within-pairs s ps)

-- a decimal begins with a digit
abbrev BeginsWithDigit : ℕ → List ℕ → Type 0
BeginsWithDigit n ds = (0 < length ds) × (48 ≤ get_or ds 0 0)

digit-stays : (n : ℕ) (ds : List ℕ) (d : ℕ) → BeginsWithDigit n ds → BeginsWithDigit n (ds ++ (d ∷ []))
digit-stays n [] d h = absurd (omega (arith, h.0))
digit-stays n (c ∷ cs) d h = (omega arith, h.1)

begins-with-digit : (n : ℕ) → n < 10 ^ 64 → BeginsWithDigit n (decimal n)
begins-with-digit = decimal_by_steps_wide BeginsWithDigit (λ n h. (omega arith, omega arith)) (λ n ds h k. digit-stays n ds (48 + n % 10) k)

unsigned : (ds : List ℕ) → 48 ≤ get_or ds 0 0 → signed_digits_value 10 ds ≡ pos (digits_value 10 ds)
unsigned ds h =
    let not_minus : (get_or ds 0 0 == 45) ≡ false = grind (arith, h) in
    let not_plus : get_or ds 0 0 ≢ 43 = omega (arith, h) in
    rw (not_minus, without_leading_plus_none ds not_plus) refl

pub reads-back : (i : ℤ) → magnitude i < 2 ^ 127 → signed_digits_value 10 (signed_decimal i) ≡ i
reads-back (pos n) h =
    let small : n < 10 ^ 64 = omega (arith, h) in
    unsigned (decimal n) (begins-with-digit n small).1 ∙ ap pos (decimal_is_IsNumeral_wide n small).1
reads-back (negsuc n) h =
    let small : suc n < 10 ^ 64 = omega (arith, h) in
    ap (λ m. neg_ℤ (pos m)) (decimal_is_IsNumeral_wide (suc n) small).1

pub part-length : (names s : List (List ℕ)) (base : Tree) (offset len : ℕ) → is_proper names s (Part base offset len) ≡ true → length (bytes_of s (Part base offset len)) ≡ len
part-length names s base offset len h =
    let within : offset + len ≤ length (bytes_of s base) =
    leb-true (offset + len) (length (bytes_of s base)) (and_parts (is_base base && is_proper names s base) (nat_le (offset + len) (length (bytes_of s base))) h).1 in
    let dropped : length (drop offset (bytes_of s base)) ≡ length (bytes_of s base) - offset = length-drop offset (bytes_of s base) in
    length-take len (drop offset (bytes_of s base)) ∙ omega (arith, dropped, within)
