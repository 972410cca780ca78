-- The weight of a written term, and the term whose weight is one.
use Rattle.std.proofs.Common.{◌≡◌, ℕ, zero, suc, ◌+◌, ◌-◌, ◌*◌, ◌^◌, ◌<◌, ◌≤◌, Bool, true, false, cond, nat_lt, nat_le, List, [], ◌∷◌, ◌++◌, length, drop, map, get_or, None, refl, ap, subst, length-append, arith}
use Rattle.std.proofs.lemmas.Bool.{leb-true, le-leb}
use Rattle.std.proofs.lemmas.List.{length-map}
use Rattle.plain_term.specs.declared.item.Item.{Item}
use Rattle.plain_term.specs.declared.item.Item.TheVariants as item
use Rattle.plain_term.specs.Tree.{Tree}
use Rattle.plain_term.specs.Tree.Tree.{Nil}
use Rattle.line_io.specs.declared.reader.TheConstants.{LONGEST_LINE}
use Rattle.plain_term.specs.Measures.{is_small, magnitude, bin_words}
use Rattle.script_grammar.specs.Written.{Term, Terms, TermPairs, terms_len, term_pairs_len}
use Rattle.script_grammar.specs.Written.Term.{Int, Atom, Pid, Held, Listed, Barred, Tuple, Map, Bin}
use Rattle.script_grammar.specs.Written.Terms.{end, ◌▹◌}
use Rattle.script_grammar.specs.Written.TermPairs.{stop, pair}
use Rattle.script_grammar.specs.Grammar.{MayStand, IsBuiltTerm}
use Rattle.script_grammar.specs.Names.{items_of, listed_items, all_items, pairs_items}
use Rattle.plain_machine.specs.Made.{tree_of}
use Rattle.plain_machine.specs.Flaws.{is_wide, is_big, flaw_of}
use Rattle.plain_machine.specs.Tightness.{build_words, build_words_of_all, build_words_of_pairs, fill_words}
use Rattle.trial_space.specs.Items.{alone, put_item, NamesRegister, item_weight, weight, written_bytes}

-- No item weighs more than a binary as long as a line.
few-bytes : (n : ℕ) → written_bytes n ≤ LONGEST_LINE
few-bytes n = at (nat_le n LONGEST_LINE) (λ e. leb-true n LONGEST_LINE e)
  where
    at : (b : Bool) → (b ≡ true → n ≤ LONGEST_LINE) → cond b n LONGEST_LINE ≤ LONGEST_LINE
    at true k = k refl
    at false k = omega arith

pub whole-bytes : (n : ℕ) → n ≤ LONGEST_LINE → written_bytes n ≡ n
whole-bytes n h = at (nat_le n LONGEST_LINE) (le-leb n LONGEST_LINE h)
  where
    at : (b : Bool) → b ≡ true → cond b n LONGEST_LINE ≡ n
    at true e = refl
    at false e = absurd (cc)

bin-light : (n : ℕ) → fill_words n ≤ 10 + bin_words n
bin-light n = at (nat_le n 64)
  where
    at : (b : Bool) → cond b (2 + bin_words n) (10 + bin_words n) ≤ 10 + bin_words n
    at true = omega arith
    at false = omega arith

some-words : (n : ℕ) → 2 ≤ fill_words n
some-words n = at (nat_le n 64)
  where
    at : (b : Bool) → 2 ≤ cond b (2 + bin_words n) (10 + bin_words n)
    at true = omega arith
    at false = omega arith

bytes-weigh : (bytes : List ℕ) → weight (map item.Byte bytes) ≡ 0
bytes-weigh [] = refl
bytes-weigh (b ∷ bytes) = omega (arith, bytes-weigh bytes)

int-light : (small one : Bool) → cond small 0 (cond one 2 3) ≤ 3
int-light true one = omega arith
int-light false true = omega arith
int-light false false = omega arith

pub item-light : (x : Item) → item_weight x ≤ 523
item-light (item.Int i) = omega (arith, int-light (is_small i) (nat_lt (magnitude i) (2 ^ 64)))
item-light (item.Tuple n) = omega arith
item-light (item.Map n) = omega arith
item-light (item.Bin n) = omega (arith, bin-light (written_bytes n), few-bytes n)
item-light _ = omega arith

weight-append : (xs ys : List Item) → weight (xs ++ ys) ≡ weight xs + weight ys
weight-append [] ys = omega arith
weight-append (x ∷ xs) ys = omega (arith, weight-append xs ys)

mutual
  pub weight-term : (names : List (List ℕ)) (t : Term) → length (items_of names t) ≤ LONGEST_LINE → weight (items_of names t) ≡ build_words t + 1
  weight-term names (Int i) f = omega arith
  weight-term names (Atom x) f = refl
  weight-term names (Pid k) f = refl
  weight-term names (Held r) f = refl
  weight-term names (Listed ts) f = omega (arith, weight-listed names ts (item.Nil ∷ []) f)
  weight-term names (Barred ts t) f = omega (arith, weight-listed names ts (items_of names t) f, weight-term names t (tail-few names ts (items_of names t) f))
  weight-term names (Tuple ts) f = omega (arith, weight-all names ts (omega (arith, f)))
  weight-term names (Map qs) f = omega (arith, weight-pairs names qs (omega (arith, f)))
  weight-term names (Bin bytes) f =
      let same : fill_words (written_bytes (length bytes)) ≡ fill_words (length bytes) = ap fill_words (whole-bytes (length bytes) (omega (arith, f, length-map bytes item.Byte))) in
      omega (arith, same, bytes-weigh bytes)

  weight-listed : (names : List (List ℕ)) (ts : Terms) (tail : List Item) → length (listed_items names ts tail) ≤ LONGEST_LINE
      → weight (listed_items names ts tail) ≡ 2 * terms_len ts + build_words_of_all ts + weight tail
  weight-listed names end tail f = omega arith
  weight-listed names (t ▹ ts) tail f =
      let l = length-append (items_of names t) (listed_items names ts tail) in
      omega (arith, weight-term names t (omega (arith, f, l)), weight-listed names ts tail (omega (arith, f, l)), weight-append (items_of names t) (listed_items names ts tail))

  weight-all : (names : List (List ℕ)) (ts : Terms) → length (all_items names ts) ≤ LONGEST_LINE → weight (all_items names ts) ≡ terms_len ts + build_words_of_all ts
  weight-all names end f = refl
  weight-all names (t ▹ ts) f =
      let l = length-append (items_of names t) (all_items names ts) in
      omega (arith, weight-term names t (omega (arith, f, l)), weight-all names ts (omega (arith, f, l)), weight-append (items_of names t) (all_items names ts))

  weight-pairs : (names : List (List ℕ)) (qs : TermPairs) → length (pairs_items names qs) ≤ LONGEST_LINE → weight (pairs_items names qs) ≡ 2 * term_pairs_len qs + build_words_of_pairs qs
  weight-pairs names stop f = refl
  weight-pairs names (pair k v qs) f =
      let l = length-append (items_of names k) (items_of names v ++ pairs_items names qs) in
      let m = length-append (items_of names v) (pairs_items names qs) in
      omega (
        arith,
        weight-term names k (omega (arith, f, l)),
        weight-term names v (omega (arith, f, l, m)),
        weight-pairs names qs (omega (arith, f, l, m)),
        weight-append (items_of names k) (items_of names v ++ pairs_items names qs),
        weight-append (items_of names v) (pairs_items names qs),
      )

  tail-few : (names : List (List ℕ)) (ts : Terms) (tail : List Item) → length (listed_items names ts tail) ≤ LONGEST_LINE → length tail ≤ LONGEST_LINE
  tail-few names end tail f = f
  tail-few names (t ▹ ts) tail f = tail-few names ts tail (omega (arith, f, length-append (items_of names t) (listed_items names ts tail)))

-- Items of some weight are there.
pub some-items : (xs : List Item) → 0 < weight xs → 0 < length xs
some-items [] h = h
some-items (x ∷ xs) h = omega arith

-- What is weighed from a place on, and from the place before it.
weight-at : (xs : List Item) (j : ℕ) (d : Item) → j < length xs → weight (drop j xs) ≡ item_weight (get_or xs j d) + weight (drop (suc j) xs)
weight-at [] j d h = absurd (omega arith)
weight-at (x ∷ xs) zero d h = refl
weight-at (x ∷ xs) (suc j) d h = weight-at xs j d (omega arith)

pub weight-before : (xs : List Item) (i : ℕ) (d : Item) → 0 < i → i ≤ length xs → weight (drop (i - 1) xs) ≡ item_weight (get_or xs (i - 1) d) + weight (drop i xs)
weight-before xs i d some h =
    let next : suc (i - 1) ≡ i = omega arith in
    subst (λ z. weight (drop (i - 1) xs) ≡ item_weight (get_or xs (i - 1) d) + weight (drop z xs)) next (weight-at xs (i - 1) d (omega arith))

-- A register holds the tree of its item.
pub held-alone : (items : List Item) (r : ℕ) → get_or (map alone items) r Nil ≡ alone (get_or items r item.Nil)
held-alone [] r = refl
held-alone (x ∷ items) zero = refl
held-alone (x ∷ items) (suc r) = held-alone items r

-- A term that asks for no words is one item, which stands alone or names a register.
pub alone-is : (names : List (List ℕ)) (items : List Item) (levels : ℕ) (t : Term) (shared : List (List ℕ)) (d : Item) → IsBuiltTerm t → MayStand levels t → build_words t ≡ 0
    → tree_of names (map alone items) t shared ≡ (alone (put_item items (get_or (items_of names t) 0 d)), shared)
alone-is names items levels (Int i) shared d b m z = refl
alone-is names items levels (Atom x) shared d b m z = refl
alone-is names items levels (Pid k) shared d b m z = refl
alone-is names items levels (Held r) shared d b m z = ap (λ u. (u, shared)) (held-alone items r)
alone-is names items levels (Listed end) shared d b m z = refl
alone-is names items levels (Listed (t ▹ ts)) shared d b m z = absurd (omega (arith, z))
alone-is names items levels (Barred ts u) shared d b m z = absurd (omega (arith, z, m.1))
alone-is names items levels (Tuple ts) shared d b m z = absurd (omega (arith, z))
alone-is names items levels (Map qs) shared d b m z = absurd (omega (arith, z))
alone-is names items levels (Bin bytes) shared d b m z = absurd (omega (arith, some-words (length bytes), z))

-- Where a term is a register, it is one that a process has.
pub names-register : (names : List (List ℕ)) (levels : ℕ) (t : Term) (d : Item) → MayStand levels t → NamesRegister (get_or (items_of names t) 0 d)
names-register names levels (Held r) d m = m
names-register names levels (Listed end) d m = tt
names-register names levels (Listed (t ▹ ts)) d m = tt
names-register names levels (Barred end u) d m = absurd (omega (arith, m.1))
names-register names levels (Barred (t ▹ ts) u) d m = tt
names-register names levels t d m = tt

-- Nothing is wrong with a term that asks for no words, for it has no map.
pub no-flaw : (names : List (List ℕ)) (held : List Tree) (t : Term) (shared : List (List ℕ)) → build_words t ≡ 0 → flaw_of (is_big names held t shared) (is_wide names held t shared) ≡ None
no-flaw names held (Listed end) shared z = refl
no-flaw names held (Listed (t ▹ ts)) shared z = absurd (omega (arith, z))
no-flaw names held (Barred end u) shared z = no-flaw names held u shared (omega (arith, z))
no-flaw names held (Barred (t ▹ ts) u) shared z = absurd (omega (arith, z))
no-flaw names held (Tuple ts) shared z = absurd (omega (arith, z))
no-flaw names held (Map qs) shared z = absurd (omega (arith, z))
no-flaw names held _ shared z = refl
