-- The order of two trees is that of their words, and then that of their parts.
use Rattle.std.proofs.Common.{◌≡◌, ℕ, ◌+◌, ◌-◌, ◌*◌, ◌^◌, ◌<◌, ◌==◌, nat_lt, if◌then◌else◌, ◌&&◌, Bool, true, false, List, [], length, refl, sym, ◌∙◌, ap, subst, inl, inr, arith, ℤ, pos, negsuc}
use Rattle.std.proofs.lemmas.Bool.{and_from, ltb-true, and_parts}
use Rattle.std.proofs.lemmas.Bool.Decides.{nat_tests}
use Rattle.std.proofs.lemmas.Cmp.{ranked}
use Rattle.std.proofs.lemmas.List.{nil_from_length}
use Rattle.std.specs.Ordering.{int_cmp, nat_cmp, ordering_then}
use Rattle.std.specs.declared.cmp.Ordering.{Ordering}
use Rattle.std.specs.declared.cmp.Ordering.TheVariants.{Less, Equal, Greater}
use Rattle.plain_term.specs.Tree.{Tree, Trees, Pairs, trees_len, pairs_len, trees_append, keys_of, values_of}
use Rattle.plain_term.specs.Tree.Tree.{Int, Atom, Pid, Ref, Nil, Cons, Tuple, Map, Bin, Shared, Part, Fun}
use Rattle.plain_term.specs.Tree.Trees.{end, ◌▹◌}
use Rattle.plain_term.specs.Tree.Pairs.{stop, pair}
use Rattle.plain_term.specs.Bytes.{bytes_of}
use Rattle.plain_term.specs.Measures.{is_small, magnitude}
use Rattle.plain_term.specs.Order.{order, order_of_all, order_of_keys, order_of_values, bytes_order, name_of, kind_rank}
use Rattle.plain_term.proofs.ListLemmas.{trees_len-append}
use Rattle.plain_term.proofs.OrderLemmas.{then-then}
use Rattle.term_words.specs.Object.{IsInt}
use Rattle.term_words.specs.Stands.{Stands}
use Rattle.term_words.proofs.ByKind.Pairs.{keys-len, values-len}
use Rattle.term_read.specs.Look.{HasDigits, IsSeen, LiesInMemory}
use Rattle.term_read.specs.declared.looks.Digits.{Digits}
use Rattle.term_read.specs.declared.looks.Look.{Look}
use Rattle.term_read.specs.declared.looks.Look.TheVariants as look
use Rattle.term_walk.specs.Left.{walk_parts}
use Rattle.term_order.specs.Named.{is_named, are_named, pairs_named}
use Rattle.term_order.specs.Own.{look_rank, signed, look_int, look_name, look_first, look_second, look_third, look_data, IsBytes, IsReadable, looks_order}

-- What of a tree is compared before its parts.

abbrev pub int_in : Tree → ℤ
int_in (Int i) = i
int_in _ = pos 0

abbrev pub name_in : List (List ℕ) → Tree → List ℕ
name_in names (Atom k) = name_of names k
name_in names (Fun f a c env) = name_of names f
name_in names _ = []

abbrev pub first_in : Tree → ℕ
first_in (Ref n k) = n
first_in (Pid n) = n
first_in (Fun f a c env) = a
first_in (Tuple ts) = trees_len ts
first_in (Map ps) = pairs_len ps
first_in _ = 0

abbrev pub second_in : Tree → ℕ
second_in (Ref n k) = k
second_in (Fun f a c env) = c
second_in _ = 0

abbrev pub third_in : Tree → ℕ
third_in (Fun f a c env) = trees_len env
third_in _ = 0

abbrev pub own_order : List (List ℕ) → List (List ℕ) → Tree → Tree → Ordering
own_order names shared a b = ordering_then (nat_cmp (kind_rank a) (kind_rank b)) (ordering_then (int_cmp (int_in a) (int_in b))
    (ordering_then (bytes_order (name_in names a) (name_in names b)) (ordering_then (ordering_then (nat_cmp (first_in a) (first_in b))
    (ordering_then (nat_cmp (second_in a) (second_in b)) (nat_cmp (third_in a) (third_in b)))) (bytes_order (bytes_of shared a) (bytes_of shared b)))))

-- An order with nothing behind it.

one : (a : Ordering) → a ≡ ordering_then a Equal
one Less = refl
one Equal = refl
one Greater = refl

one-one : (a : Ordering) → a ≡ ordering_then (ordering_then a Equal) Equal
one-one Less = refl
one-one Equal = refl
one-one Greater = refl

one-three : (a : Ordering) → a ≡ ordering_then (ordering_then (ordering_then a Equal) Equal) Equal
one-three Less = refl
one-three Equal = refl
one-three Greater = refl

two : (a b : Ordering) → ordering_then a b ≡ ordering_then (ordering_then (ordering_then a (ordering_then b Equal)) Equal) Equal
two Less b = refl
two Equal b = one-three b
two Greater b = refl

tuple-then : (a b : Ordering) → ordering_then a b ≡ ordering_then (ordering_then (ordering_then a Equal) Equal) b
tuple-then Less b = refl
tuple-then Equal b = refl
tuple-then Greater b = refl

fun-then : (n a c l b : Ordering) → ordering_then n (ordering_then a (ordering_then c (ordering_then l b)))
    ≡ ordering_then (ordering_then n (ordering_then (ordering_then a (ordering_then c l)) Equal)) b
fun-then Less a c l b = refl
fun-then Greater a c l b = refl
fun-then Equal Less c l b = refl
fun-then Equal Greater c l b = refl
fun-then Equal Equal Less l b = refl
fun-then Equal Equal Greater l b = refl
fun-then Equal Equal Equal Less b = refl
fun-then Equal Equal Equal Equal b = refl
fun-then Equal Equal Equal Greater b = refl

cons-then : (a b : Ordering) → ordering_then a b ≡ ordering_then a (ordering_then b Equal)
cons-then a b = ap (ordering_then a) (one b)

pub equal-numbers : (x y : ℕ) → nat_cmp x y ≡ Equal → x ≡ y
equal-numbers x y e = ranked x y Equal (sym e)

pub then-equals : (a b : Ordering) → ordering_then a b ≡ Equal → (a ≡ Equal) × (b ≡ Equal)
then-equals Less b e = absurd cc
then-equals Equal b e = (refl, e)
then-equals Greater b e = absurd cc

-- Two lists after one another, where the first two are of one length.

len-zero : (t : Tree) (ts : Trees) → 0 ≡ trees_len (t ▹ ts) → ⊥
len-zero t ts e = omega (arith, e)

pub order-append : (names shared : List (List ℕ)) (ks bs xs ys : Trees) → trees_len ks ≡ trees_len bs
    → order_of_all names shared (trees_append ks xs) (trees_append bs ys) ≡ ordering_then (order_of_all names shared ks bs) (order_of_all names shared xs ys)
order-append names shared end end xs ys e = refl
order-append names shared end (b ▹ bs) xs ys e = absurd (len-zero b bs e)
order-append names shared (a ▹ ks) end xs ys e = absurd (len-zero a ks (sym e))
order-append names shared (a ▹ ks) (b ▹ bs) xs ys e =
    ap (ordering_then (order names shared a b)) (order-append names shared ks bs xs ys (omega (arith, e)))
    ∙ sym (then-then (order names shared a b) (order_of_all names shared ks bs) (order_of_all names shared xs ys))

keys-order : (names shared : List (List ℕ)) (ps qs : Pairs) → order_of_keys names shared ps qs ≡ order_of_all names shared (keys_of ps) (keys_of qs)
keys-order names shared stop stop = refl
keys-order names shared stop (pair k v qs) = refl
keys-order names shared (pair k v ps) stop = refl
keys-order names shared (pair k v ps) (pair j w qs) = ap (ordering_then (order names shared k j)) (keys-order names shared ps qs)

values-order : (names shared : List (List ℕ)) (ps qs : Pairs) → order_of_values names shared ps qs ≡ order_of_all names shared (values_of ps) (values_of qs)
values-order names shared stop stop = refl
values-order names shared stop (pair k v qs) = refl
values-order names shared (pair k v ps) stop = refl
values-order names shared (pair k v ps) (pair j w qs) = ap (ordering_then (order names shared v w)) (values-order names shared ps qs)

rows-order : (names shared : List (List ℕ)) (ps qs : Pairs) → pairs_len ps ≡ pairs_len qs
    → ordering_then (order_of_keys names shared ps qs) (order_of_values names shared ps qs) ≡ order_of_all names shared (trees_append (keys_of ps) (values_of ps))
    (trees_append (keys_of qs) (values_of qs))
rows-order names shared ps qs e =
    ap (λ z. ordering_then z (order_of_values names shared ps qs)) (keys-order names shared ps qs)
    ∙ ap (ordering_then (order_of_all names shared (keys_of ps) (keys_of qs))) (values-order names shared ps qs)
    ∙ sym (order-append names shared (keys_of ps) (keys_of qs) (values_of ps) (values_of qs) (keys-len ps ∙ e ∙ sym (keys-len qs)))

map-then : (names shared : List (List ℕ)) (ps qs : Pairs) (o : Ordering) → o ≡ nat_cmp (pairs_len ps) (pairs_len qs)
    → ordering_then o (ordering_then (order_of_keys names shared ps qs) (order_of_values names shared ps qs))
    ≡ ordering_then (ordering_then (ordering_then o Equal) Equal) (order_of_all names shared (trees_append (keys_of ps) (values_of ps)) (trees_append (keys_of qs) (values_of qs)))
map-then names shared ps qs Less e = refl
map-then names shared ps qs Greater e = refl
map-then names shared ps qs Equal e = rows-order names shared ps qs (equal-numbers (pairs_len ps) (pairs_len qs) (sym e))

abbrev IsOwn : List (List ℕ) → List (List ℕ) → Tree → Tree → Type 0
IsOwn names shared a b = order names shared a b ≡ ordering_then (own_order names shared a b) (order_of_all names shared (walk_parts a) (walk_parts b))

pub order-own : (names shared : List (List ℕ)) (a b : Tree) → IsOwn names shared a b
order-own names shared (Int i) (Int j) = one-one (int_cmp i j)
order-own names shared (Int i) b = refl
order-own names shared (Atom k) (Atom j) = one-one (bytes_order (name_of names k) (name_of names j))
order-own names shared (Atom k) b = refl
order-own names shared (Ref n k) (Ref m j) = two (nat_cmp n m) (nat_cmp k j)
order-own names shared (Ref n k) b = refl
order-own names shared (Fun f a c env) (Fun g d e others) = fun-then (bytes_order (name_of names f) (name_of names g)) (nat_cmp a d) (nat_cmp c e) (nat_cmp (trees_len env) (trees_len others))
    (order_of_all names shared env others)
order-own names shared (Fun f a c env) b = refl
order-own names shared (Pid n) (Pid m) = one-three (nat_cmp n m)
order-own names shared (Pid n) b = refl
order-own names shared (Tuple ts) (Tuple us) = tuple-then (nat_cmp (trees_len ts) (trees_len us)) (order_of_all names shared ts us)
order-own names shared (Tuple ts) b = refl
order-own names shared (Map ps) (Map qs) = map-then names shared ps qs (nat_cmp (pairs_len ps) (pairs_len qs)) refl
order-own names shared (Map ps) b = refl
order-own names shared Nil Nil = refl
order-own names shared Nil b = refl
order-own names shared (Cons h t) (Cons k u) = cons-then (order names shared h k) (order names shared t u)
order-own names shared (Cons h t) b = refl
order-own names shared (Bin xs) (Bin ys) = one (bytes_order xs ys)
order-own names shared (Bin xs) (Shared id) = one (bytes_order xs (bytes_of shared (Shared id)))
order-own names shared (Bin xs) (Part base offset len) = one (bytes_order xs (bytes_of shared (Part base offset len)))
order-own names shared (Bin xs) b = refl
order-own names shared (Shared i) (Bin ys) = one (bytes_order (bytes_of shared (Shared i)) ys)
order-own names shared (Shared i) (Shared id) = one (bytes_order (bytes_of shared (Shared i)) (bytes_of shared (Shared id)))
order-own names shared (Shared i) (Part base offset len) = one (bytes_order (bytes_of shared (Shared i)) (bytes_of shared (Part base offset len)))
order-own names shared (Shared i) b = refl
order-own names shared (Part a o n) (Bin ys) = one (bytes_order (bytes_of shared (Part a o n)) ys)
order-own names shared (Part a o n) (Shared id) = one (bytes_order (bytes_of shared (Part a o n)) (bytes_of shared (Shared id)))
order-own names shared (Part a o n) (Part base offset len) = one (bytes_order (bytes_of shared (Part a o n)) (bytes_of shared (Part base offset len)))
order-own names shared (Part a o n) b = refl

-- Trees that do not differ before their parts have as many.

abbrev parts_count : (rank first third : ℕ) → ℕ
parts_count r a b = if r == 8 then 2 else (if r == 5 then a else (if r == 6 then a + a else (if r == 3 then b else 0)))

parts-counted : (t : Tree) → trees_len (walk_parts t) ≡ parts_count (kind_rank t) (first_in t) (third_in t)
parts-counted (Map ps) = omega (arith, trees_len-append (keys_of ps) (values_of ps), keys-len ps, values-len ps)
parts-counted (Int i) = refl
parts-counted (Atom k) = refl
parts-counted (Ref n k) = refl
parts-counted (Fun f a c env) = refl
parts-counted (Pid n) = refl
parts-counted (Tuple ts) = refl
parts-counted Nil = refl
parts-counted (Cons h t) = refl
parts-counted (Bin bytes) = refl
parts-counted (Shared id) = refl
parts-counted (Part base offset len) = refl

pub own-len : (names shared : List (List ℕ)) (a b : Tree) → own_order names shared a b ≡ Equal → trees_len (walk_parts a) ≡ trees_len (walk_parts b)
own-len names shared a b e =
    let (rank, more) = then-equals (nat_cmp (kind_rank a) (kind_rank b)) (ordering_then (int_cmp (int_in a) (int_in b))
    (ordering_then (bytes_order (name_in names a) (name_in names b)) (ordering_then (ordering_then (nat_cmp (first_in a) (first_in b))
    (ordering_then (nat_cmp (second_in a) (second_in b)) (nat_cmp (third_in a) (third_in b)))) (bytes_order (bytes_of shared a) (bytes_of shared b))))) e in
    let (int, names_then) = then-equals (int_cmp (int_in a) (int_in b)) (ordering_then (bytes_order (name_in names a) (name_in names b))
    (ordering_then (ordering_then (nat_cmp (first_in a) (first_in b))
    (ordering_then (nat_cmp (second_in a) (second_in b)) (nat_cmp (third_in a) (third_in b)))) (bytes_order (bytes_of shared a) (bytes_of shared b)))) more in
    let (name, numbers_then) = then-equals (bytes_order (name_in names a) (name_in names b)) (ordering_then (ordering_then (nat_cmp (first_in a) (first_in b))
    (ordering_then (nat_cmp (second_in a) (second_in b)) (nat_cmp (third_in a) (third_in b)))) (bytes_order (bytes_of shared a) (bytes_of shared b))) names_then in
    let (numbers, bytes) = then-equals (ordering_then (nat_cmp (first_in a) (first_in b)) (ordering_then (nat_cmp (second_in a) (second_in b)) (nat_cmp (third_in a) (third_in b))))
    (bytes_order (bytes_of shared a) (bytes_of shared b)) numbers_then in
    let (first, others) = then-equals (nat_cmp (first_in a) (first_in b)) (ordering_then (nat_cmp (second_in a) (second_in b)) (nat_cmp (third_in a) (third_in b))) numbers in
    let (second, third) = then-equals (nat_cmp (second_in a) (second_in b)) (nat_cmp (third_in a) (third_in b)) others in
    parts-counted a
    ∙ ap (λ z. parts_count z (first_in a) (third_in a)) (equal-numbers (kind_rank a) (kind_rank b) rank)
    ∙ ap (λ z. parts_count (kind_rank b) z (third_in a)) (equal-numbers (first_in a) (first_in b) first)
    ∙ ap (λ z. parts_count (kind_rank b) (first_in b) z) (equal-numbers (third_in a) (third_in b) third)
    ∙ sym (parts-counted b)

-- What a look tells of all this.

record SeenAs (names shared : List (List ℕ)) (mem : List ℕ) (t : Tree) (l : Look) : Type 0 where
  rank : look_rank l ≡ kind_rank t
  int : look_int l ≡ int_in t
  name : look_name names l ≡ name_in names t
  first : look_first l ≡ first_in t
  second : look_second l ≡ second_in t
  third : look_third l ≡ third_in t
  bytes : IsBytes mem (look_data l) (bytes_of shared t)

no-bytes : (mem : List ℕ) → IsBytes mem (record { first = 0; start = 0; len = 0 }) []
no-bytes mem = record { from = record { within = λ i h. absurd (omega (arith, h)); each = λ i h. absurd (omega (arith, h)) }; count = refl }

pub signed-is : (i : ℤ) (d : Digits) → HasDigits i d → signed d.negative (d.low + d.high * 2 ^ 64) ≡ i
signed-is (pos n) d has = ap (λ z. signed z (d.low + d.high * 2 ^ 64)) has.sign ∙ ap pos has.digits
signed-is (negsuc n) d has =
    let e : d.low + d.high * 2 ^ 64 - 1 ≡ n = omega (arith, has.digits) in
    ap (λ z. signed z (d.low + d.high * 2 ^ 64)) has.sign ∙ ap negsuc e

seen-as : (c : ℕ → ℕ → Bool) (names shared : List (List ℕ)) (mem : List ℕ) (w : ℕ) (t : Tree) (l : Look) → IsSeen c shared mem w t l → SeenAs names shared mem t l
seen-as c names shared mem w (Int i) l (inl (small, e)) =
    subst (SeenAs names shared mem (Int i)) (sym e) (record { rank = refl; int = refl; name = refl; first = refl; second = refl; third = refl; bytes = no-bytes mem })
seen-as c names shared mem w (Int i) l (inr (d, has, e)) =
    subst (SeenAs names shared mem (Int i)) (sym e) (record { rank = refl; int = signed-is i d has; name = refl; first = refl; second = refl; third = refl; bytes = no-bytes mem })
seen-as c names shared mem w (Atom k) l e = subst (SeenAs names shared mem (Atom k)) (sym e)
    (record { rank = refl; int = refl; name = refl; first = refl; second = refl; third = refl; bytes = no-bytes mem })
seen-as c names shared mem w (Pid n) l e = subst (SeenAs names shared mem (Pid n)) (sym e)
    (record { rank = refl; int = refl; name = refl; first = refl; second = refl; third = refl; bytes = no-bytes mem })
seen-as c names shared mem w (Ref n k) l e = subst (SeenAs names shared mem (Ref n k)) (sym e)
    (record { rank = refl; int = refl; name = refl; first = refl; second = refl; third = refl; bytes = no-bytes mem })
seen-as c names shared mem w Nil l e = subst (SeenAs names shared mem Nil) (sym e) (record { rank = refl; int = refl; name = refl; first = refl; second = refl; third = refl; bytes = no-bytes mem })
seen-as c names shared mem w (Cons h t) l (e, within, sh, st) =
    subst (SeenAs names shared mem (Cons h t)) (sym e) (record { rank = refl; int = refl; name = refl; first = refl; second = refl; third = refl; bytes = no-bytes mem })
seen-as c names shared mem w (Tuple ts) l (e, within, row) =
    subst (SeenAs names shared mem (Tuple ts)) (sym e) (record { rank = refl; int = refl; name = refl; first = refl; second = refl; third = refl; bytes = no-bytes mem })
seen-as c names shared mem w (Map ps) l (e, keys, values, ks, vs) =
    subst (SeenAs names shared mem (Map ps)) (sym e) (record { rank = refl; int = refl; name = refl; first = refl; second = refl; third = refl; bytes = no-bytes mem })
seen-as c names shared mem w (Fun f a p env) l (e, within, row) =
    subst (SeenAs names shared mem (Fun f a p env)) (sym e) (record { rank = refl; int = refl; name = refl; first = refl; second = refl; third = refl; bytes = no-bytes mem })
seen-as c names shared mem w (Bin xs) l (e, from) =
    subst (SeenAs names shared mem (Bin xs)) (sym e) (record { rank = refl; int = refl; name = refl; first = refl; second = refl; third = refl; bytes = record { from = from; count = refl } })
seen-as c names shared mem w (Shared id) l (e, from) =
    subst (SeenAs names shared mem (Shared id)) (sym e) (record { rank = refl; int = refl; name = refl; first = refl; second = refl; third = refl; bytes = record { from = from; count = refl } })
seen-as c names shared mem w (Part base offset len) l (v, e, sb, size, from) =
    subst (SeenAs names shared mem (Part base offset len)) (sym e) (record {
      rank = refl;
      int = refl;
      name = refl;
      first = refl;
      second = refl;
      third = refl;
      bytes = record { from = from; count = sym size };
    })

pub own-bytes : (c : ℕ → ℕ → Bool) (shared : List (List ℕ)) (mem : List ℕ) (w : ℕ) (t : Tree) (l : Look) → IsSeen c shared mem w t l → IsBytes mem (look_data l) (bytes_of shared t)
own-bytes c shared mem w t l e = (seen-as c [] shared mem w t l e).bytes

pub looks-own : (c : ℕ → ℕ → Bool) (names shared : List (List ℕ)) (mem : List ℕ) (v w : ℕ) (t u : Tree) (l m : Look) → IsSeen c shared mem v t l → IsSeen c shared mem w u m
    → looks_order names l m (bytes_of shared t) (bytes_of shared u) ≡ own_order names shared t u
looks-own c names shared mem v w t u l m e f =
    let x : SeenAs names shared mem t l = seen-as c names shared mem v t l e in
    let y : SeenAs names shared mem u m = seen-as c names shared mem w u m f in
    let bytes : Ordering = bytes_order (bytes_of shared t) (bytes_of shared u) in
    λ i. ordering_then (nat_cmp (x.rank i) (y.rank i)) (ordering_then (int_cmp (x.int i) (y.int i))
    (ordering_then (bytes_order (x.name i) (y.name i)) (ordering_then (ordering_then (nat_cmp (x.first i) (y.first i))
    (ordering_then (nat_cmp (x.second i) (y.second i)) (nat_cmp (x.third i) (y.third i)))) bytes)))

-- All that is compared can be read.

big-some : (i : ℤ) → is_small i ≡ false → 0 < magnitude i
big-some (pos n) e = grind (arith, nat_tests)
big-some (negsuc n) e = omega arith

small-big : (i : ℤ) → is_small i ≡ true → is_small i ≡ false → ⊥
small-big i e f = cc

big-below : (c : ℕ → ℕ → Bool) (mem : List ℕ) (w : ℕ) (i : ℤ) → IsInt c mem w i → is_small i ≡ false → magnitude i < 2 ^ 127
big-below c mem w i (inl s) big = absurd (small-big i s.small big)
big-below c mem w i (inr (inl o)) big = omega (arith, o.range)
big-below c mem w i (inr (inr o)) big = o.range

pub readable : (c : ℕ → ℕ → Bool) (names shared : List (List ℕ)) (mem : List ℕ) (w : ℕ) (t : Tree) (l : Look) → Stands c shared mem w t → IsSeen c shared mem w t l → LiesInMemory mem l
    → is_named (length names) t ≡ true → IsReadable mem names l
unfolding Stands
readable c names shared mem w (Int i) l s (inl (small, e)) lies named = subst (IsReadable mem names) (sym e) tt
readable c names shared mem w (Int i) l s (inr (d, has, e)) lies named =
    subst (IsReadable mem names) (sym e) (omega (arith, has.digits, big-some i has.big), omega (arith, has.digits, big-below c mem w i s has.big))
readable c names shared mem w (Atom k) l s e lies named = subst (IsReadable mem names) (sym e) (ltb-true k (length names) named)
readable c names shared mem w (Pid n) l s e lies named = subst (IsReadable mem names) (sym e) tt
readable c names shared mem w (Ref n k) l s e lies named = subst (IsReadable mem names) (sym e) tt
readable c names shared mem w Nil l s e lies named = subst (IsReadable mem names) (sym e) tt
readable c names shared mem w (Cons h t) l s (e, within, sh, st) lies named = subst (IsReadable mem names) (sym e) tt
readable c names shared mem w (Tuple ts) l s (e, within, row) lies named = subst (IsReadable mem names) (sym e) tt
readable c names shared mem w (Map ps) l s (e, keys, values, ks, vs) lies named = subst (IsReadable mem names) (sym e) tt
readable c names shared mem w (Fun f a p env) l s (e, within, row) lies named =
    subst (IsReadable mem names) (sym e) (ltb-true f (length names) (and_parts (nat_lt f (length names)) (are_named (length names) env) named).0)
readable c names shared mem w (Bin xs) l s (e, from) lies named = subst (IsReadable mem names) (sym e) (subst (LiesInMemory mem) e lies)
readable c names shared mem w (Shared id) l s (e, from) lies named = subst (IsReadable mem names) (sym e) (subst (LiesInMemory mem) e lies)
readable c names shared mem w (Part base offset len) l s (v, e, sb, size, from) lies named =
    let there = subst (LiesInMemory mem) e lies in
    subst (IsReadable mem names) (sym e) there.1

-- The names of a tree's parts are among the names.

are-append : (n : ℕ) (ks bs : Trees) → are_named n ks ≡ true → are_named n bs ≡ true → are_named n (trees_append ks bs) ≡ true
are-append n end bs p q = q
are-append n (a ▹ ks) bs p q =
    let (first, more) = and_parts (is_named n a) (are_named n ks) p in
    and_from (is_named n a) (are_named n (trees_append ks bs)) first (are-append n ks bs more q)

rows-named : (n : ℕ) (ps : Pairs) → pairs_named n ps ≡ true → (are_named n (keys_of ps) ≡ true) × (are_named n (values_of ps) ≡ true)
rows-named n stop p = (refl, refl)
rows-named n (pair k v ps) p =
    let (first, others) = and_parts (is_named n k && is_named n v) (pairs_named n ps) p in
    let (key, value) = and_parts (is_named n k) (is_named n v) first in
    let (keys, values) = rows-named n ps others in
    (and_from (is_named n k) (are_named n (keys_of ps)) key keys, and_from (is_named n v) (are_named n (values_of ps)) value values)

parts-named : (n : ℕ) (t : Tree) → is_named n t ≡ true → are_named n (walk_parts t) ≡ true
parts-named n (Cons h t) p =
    let (head, tail) = and_parts (is_named n h) (is_named n t) p in
    and_from (is_named n h) (is_named n t && true) head (and_from (is_named n t) true tail refl)
parts-named n (Tuple ts) p = p
parts-named n (Map ps) p = let (keys, values) = rows-named n ps p in are-append n (keys_of ps) (values_of ps) keys values
parts-named n (Fun f a c env) p = (and_parts (nat_lt f n) (are_named n env) p).1
parts-named n _ p = refl

pub step-named : (n : ℕ) (now next : Tree) (rest after : Trees) → is_named n now ≡ true → are_named n rest ≡ true → trees_append (walk_parts now) rest ≡ next ▹ after
    → (is_named n next ≡ true) × (are_named n after ≡ true)
step-named n now next rest after p q e =
    let all : are_named n (next ▹ after) ≡ true = sym (ap (are_named n) e) ∙ are-append n (walk_parts now) rest (parts-named n now p) q in
    and_parts (is_named n next) (are_named n after) all

-- Two conses do not differ before their parts.

pub conses-same : (mem : List ℕ) (names : List (List ℕ)) (l m : Look) (p q : ℕ) (xs ys : List ℕ) → l ≡ look.Cons p → m ≡ look.Cons q → IsBytes mem (look_data l) xs → IsBytes mem (look_data m) ys
    → Equal ≡ looks_order names l m xs ys
conses-same mem names l m p q xs ys el em hx hy =
    let ex : xs ≡ [] = nil_from_length xs (sym (sym (ap (λ z. (look_data z).len) el) ∙ hx.count)) in
    let ey : ys ≡ [] = nil_from_length ys (sym (sym (ap (λ z. (look_data z).len) em) ∙ hy.count)) in
    sym (λ i. looks_order names (el i) (em i) (ex i) (ey i))
