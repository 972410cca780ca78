-- Parts are in the order of tuples of them, and pairs in that of maps: by their number, then from the left.
use Rattle.std.proofs.Common.{◌≡◌, ◌≢◌, ◌+◌, ◌<◌, ◌≤◌, ℕ, List, [], ◌∷◌, map, length, drop, get_or, ap, refl, sym, ◌∙◌, add-one, arith, drop_of_length-le, drop-cons}
use Rattle.std.specs.Ordering.{nat_cmp, ordering_then}
use Rattle.std.specs.Cmp.{nat_cmp_is}
use Rattle.std.proofs.lemmas.Map.Lookups.{exact_unsigned}
use Rattle.std.specs.declared.cmp.Ordering.{Ordering}
use Rattle.std.specs.declared.cmp.Ordering.TheVariants.{Less, Equal, Greater}
use Rattle.plain_term.specs.View.{view, trees_of, pairs_of, pair_of}
use Rattle.plain_term.specs.Order.{order, order_of_all, order_of_keys, order_of_values}
use Rattle.plain_term.specs.Tree.{Trees, Pairs, trees_len, pairs_len}
use Rattle.plain_term.specs.Tree as plain
use Rattle.plain_term.specs.declared.tree.Tree.{Tree}
use Rattle.plain_term.proofs.ViewLemmas.{trees_len-trees_of, pairs_len-pairs_of}

pub then-then : (a b c : Ordering) → ordering_then (ordering_then a b) c ≡ ordering_then a (ordering_then b c)
then-then Less b c = refl
then-then Equal b c = refl
then-then Greater b c = refl

then-Equal : (a : Ordering) → ordering_then a Equal ≡ a
then-Equal Less = refl
then-Equal Equal = refl
then-Equal Greater = refl

-- What is not Equal decides.
decides : (a b : Ordering) → a ≢ Equal → a ≡ ordering_then a b
decides Less b h = refl
decides Equal b h = absurd (h refl)
decides Greater b h = refl

-- Sizes that differ decide, and the same size leaves it to the rest.
sizes-decide : (m n x y : ℕ) (b : Ordering) → x ≡ m → y ≡ n → m ≢ n → nat_cmp m n ≡ ordering_then (nat_cmp x y) b
sizes-decide m n x y b ex ey differ = decides (nat_cmp m n) b (λ e. differ (exact_unsigned m n e)) ∙ (λ i. ordering_then (nat_cmp (sym ex i) (sym ey i)) b)

same-sizes : (x y : ℕ) (b : Ordering) → x ≡ y → b ≡ ordering_then (nat_cmp x y) b
same-sizes x y b e = ap (λ a. ordering_then a b) (nat_cmp_is x y Equal e)

-- Two lists are compared one after the other: what is left is that of the rests.
module _ {X L : Type 0} (cmp : L → L → Ordering) (all : List X → L) (one : X → X → Ordering)
    (none : cmp (all []) (all []) ≡ Equal) (more : (x y : X) (xs ys : List X) → cmp (all (x ∷ xs)) (all (y ∷ ys)) ≡ ordering_then (one x y) (cmp (all xs) (all ys))) where
  front : (xs : List X) (i : ℕ) (d : X) → i < length xs → drop i xs ≡ get_or xs i d ∷ drop (i + 1) xs
  front xs i d below = rw add-one (drop-cons xs i d below)

  left-next : (xs ys : List X) (i : ℕ) (d e : X) → length xs ≡ length ys → i < length xs
      → cmp (all (drop i xs)) (all (drop i ys)) ≡ ordering_then (one (get_or xs i d) (get_or ys i e)) (cmp (all (drop (i + 1) xs)) (all (drop (i + 1) ys)))
  left-next xs ys i d e long below =
      let within : i < length ys = omega arith in
      (λ j. cmp (all (front xs i d below j)) (all (front ys i e within j))) ∙ more (get_or xs i d) (get_or ys i e) (drop (i + 1) xs) (drop (i + 1) ys)

  left-none : (xs ys : List X) (i : ℕ) → length xs ≡ length ys → length xs ≤ i → cmp (all (drop i xs)) (all (drop i ys)) ≡ Equal
  left-none xs ys i long over =
      let beyond : length ys ≤ i = omega arith in
      (λ j. cmp (all (drop_of_length-le xs over j)) (all (drop_of_length-le ys beyond j))) ∙ none

module _ (names : List (List ℕ)) (xs ys : List Tree) where
  abbrev all : List Tree → Trees
  all ts = trees_of (map view ts)

  abbrev parts : List Tree → List Tree → Ordering
  parts ts us = order_of_all names [] (all ts) (all us)

  abbrev one : Tree → Tree → Ordering
  one x y = order names [] (view x) (view y)

  abbrev InOrder : Ordering → Type 0
  InOrder r = r ≡ order names [] (plain.Tree.Tuple (all xs)) (plain.Tree.Tuple (all ys))

  -- The parts from the i-th on are left to compare.
  abbrev IsLeft : ℕ → Type 0
  IsLeft i = parts xs ys ≡ parts (drop i xs) (drop i ys)

  pub numbers-differ : (r : Ordering) → length xs ≢ length ys → r ≡ nat_cmp (length xs) (length ys) → InOrder r
  numbers-differ r differ is = is ∙ sizes-decide (length xs) (length ys) _ _ (parts xs ys) (trees_len-trees_of xs) (trees_len-trees_of ys) differ

  by-parts : (r : Ordering) → length xs ≡ length ys → r ≡ parts xs ys → InOrder r
  by-parts r long e = e ∙ same-sizes _ _ (parts xs ys) (trees_len-trees_of xs ∙ long ∙ sym (trees_len-trees_of ys))

  next-part : (i : ℕ) (x y : Tree) → length xs ≡ length ys → i < length xs → x ≡ get_or xs i x → y ≡ get_or ys i y → IsLeft i
      → parts xs ys ≡ ordering_then (one x y) (parts (drop (i + 1) xs) (drop (i + 1) ys))
  next-part i x y long below ex ey left =
      left ∙ left-next (order_of_all names []) all one refl (λ x y xs ys. refl) xs ys i x y long below
      ∙ (λ j. ordering_then (one (sym ex j) (sym ey j)) (parts (drop (i + 1) xs) (drop (i + 1) ys)))

  pub part-differs : (i : ℕ) (x y : Tree) (r : Ordering) → length xs ≡ length ys → i < length xs → x ≡ get_or xs i x → y ≡ get_or ys i y
      → IsLeft i → r ≡ one x y → r ≢ Equal → InOrder r
  part-differs i x y r long below ex ey left is differs =
      let rest = parts (drop (i + 1) xs) (drop (i + 1) ys) in
      by-parts r long (decides r rest differs ∙ ap (λ a. ordering_then a rest) is ∙ sym (next-part i x y long below ex ey left))

  pub part-same : (i : ℕ) (x y : Tree) → length xs ≡ length ys → i < length xs → x ≡ get_or xs i x → y ≡ get_or ys i y → IsLeft i → Equal ≡ one x y → IsLeft (i + 1)
  part-same i x y long below ex ey left same = next-part i x y long below ex ey left ∙ ap (λ a. ordering_then a (parts (drop (i + 1) xs) (drop (i + 1) ys))) (sym same)

  pub parts-same : (i : ℕ) → length xs ≡ length ys → length xs ≤ i → IsLeft i → InOrder Equal
  parts-same i long over left = by-parts Equal long (sym (left ∙ left-none (order_of_all names []) all one refl (λ x y xs ys. refl) xs ys i long over))

module _ (names : List (List ℕ)) (ps qs : List (Tree × Tree)) where
  abbrev pairs : List (Tree × Tree) → Pairs
  pairs us = pairs_of (map pair_of us)

  abbrev keys : List (Tree × Tree) → List (Tree × Tree) → Ordering
  keys us vs = order_of_keys names [] (pairs us) (pairs vs)

  abbrev values : List (Tree × Tree) → List (Tree × Tree) → Ordering
  values us vs = order_of_values names [] (pairs us) (pairs vs)

  abbrev key : Tree × Tree → Tree × Tree → Ordering
  key p q = order names [] (view p.0) (view q.0)

  abbrev value : Tree × Tree → Tree × Tree → Ordering
  value p q = order names [] (view p.1) (view q.1)

  abbrev MapsInOrder : Ordering → Type 0
  MapsInOrder r = r ≡ order names [] (plain.Tree.Map (pairs ps)) (plain.Tree.Map (pairs qs))

  -- The keys from the i-th on are left to compare.
  abbrev AreLeft : ℕ → Type 0
  AreLeft i = keys ps qs ≡ keys (drop i ps) (drop i qs)

  -- So are the values, with the order of those before.
  abbrev AreLeftWith : Ordering → ℕ → Type 0
  AreLeftWith v i = values ps qs ≡ ordering_then v (values (drop i ps) (drop i qs))

  pub pair-numbers-differ : (r : Ordering) → length ps ≢ length qs → r ≡ nat_cmp (length ps) (length qs) → MapsInOrder r
  pair-numbers-differ r differ is =
      is ∙ sizes-decide (length ps) (length qs) _ _ (ordering_then (keys ps qs) (values ps qs)) (pairs_len-pairs_of ps) (pairs_len-pairs_of qs) differ

  by-pairs : (r : Ordering) → length ps ≡ length qs → r ≡ ordering_then (keys ps qs) (values ps qs) → MapsInOrder r
  by-pairs r long e = e ∙ same-sizes _ _ (ordering_then (keys ps qs) (values ps qs)) (pairs_len-pairs_of ps ∙ long ∙ sym (pairs_len-pairs_of qs))

  next-key : (i : ℕ) (d e : Tree × Tree) → length ps ≡ length qs → i < length ps → AreLeft i
      → keys ps qs ≡ ordering_then (key (get_or ps i d) (get_or qs i e)) (keys (drop (i + 1) ps) (drop (i + 1) qs))
  next-key i d e long below left = left ∙ left-next (order_of_keys names []) pairs key refl (λ x y xs ys. refl) ps qs i d e long below

  pub key-differs : (i : ℕ) (d e : Tree × Tree) (r : Ordering) → length ps ≡ length qs → i < length ps → AreLeft i → r ≡ key (get_or ps i d) (get_or qs i e) → r ≢ Equal → MapsInOrder r
  key-differs i d e r long below left is differs =
      let rest = keys (drop (i + 1) ps) (drop (i + 1) qs) in
      let all : r ≡ keys ps qs = decides r rest differs ∙ ap (λ a. ordering_then a rest) is ∙ sym (next-key i d e long below left) in
      by-pairs r long (decides r (values ps qs) differs ∙ ap (λ a. ordering_then a (values ps qs)) all)

  pub key-same : (i : ℕ) (d e : Tree × Tree) → length ps ≡ length qs → i < length ps → AreLeft i → Equal ≡ key (get_or ps i d) (get_or qs i e) → AreLeft (i + 1)
  key-same i d e long below left same = next-key i d e long below left ∙ ap (λ a. ordering_then a (keys (drop (i + 1) ps) (drop (i + 1) qs))) (sym same)

  pub value-next : (i : ℕ) (d e : Tree × Tree) (v r : Ordering) → length ps ≡ length qs → i < length ps → AreLeftWith v i
      → r ≡ ordering_then v (value (get_or ps i d) (get_or qs i e)) → AreLeftWith r (i + 1)
  value-next i d e v r long below left is =
      let rest = values (drop (i + 1) ps) (drop (i + 1) qs) in
      left ∙ ap (λ a. ordering_then v a) (left-next (order_of_values names []) pairs value refl (λ x y xs ys. refl) ps qs i d e long below)
      ∙ sym (then-then v (value (get_or ps i d) (get_or qs i e)) rest) ∙ ap (λ a. ordering_then a rest) (sym is)

  pub pairs-same : (i : ℕ) (v : Ordering) → length ps ≡ length qs → length ps ≤ i → AreLeft i → AreLeftWith v i → MapsInOrder v
  pairs-same i v long over left with_values =
      let no_keys = left-none (order_of_keys names []) pairs key refl (λ x y xs ys. refl) ps qs i long over in
      let no_values = left-none (order_of_values names []) pairs value refl (λ x y xs ys. refl) ps qs i long over in
      let all : values ps qs ≡ v = with_values ∙ ap (λ a. ordering_then v a) no_values ∙ then-Equal v in
      by-pairs v long (sym (ap (λ a. ordering_then a (values ps qs)) (left ∙ no_keys) ∙ all))
