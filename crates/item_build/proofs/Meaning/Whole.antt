-- What follows from items being whole: as many terms are read as they are, their names are known, and they take few words.
use Rattle.std.proofs.Common.{◌≡◌, ℕ, zero, suc, ◌+◌, ◌-◌, ◌*◌, ◌^◌, ◌<◌, ◌≤◌, ◌&&◌, ◌||◌, nat_lt, if◌then◌else◌, Bool, true, false, List, [], ◌∷◌, length, get_or, take, drop, slice_index_or, Option, Some, None, refl, ◌∙◌, ap, subst, arith, ltb-true}
use Rattle.std.proofs.lemmas.Bool.{and_from, and_parts, or_right}
use Rattle.std.proofs.Math.Seq.{drop-cons}
use Rattle.std.proofs.lemmas.Bool.Decides.{nat_tests}
use Rattle.std.proofs.lemmas.List.{length-drop}
use Rattle.plain_term.specs.declared.item.Item.{Item}
use Rattle.plain_term.specs.declared.item.Item.TheVariants.{Int, Atom, Pid, Nil, Cons, Tuple, Map, Bin, Byte, Held}
use Rattle.plain_term.specs.Tree.{Tree, Trees, Pairs, pairs_len}
use Rattle.plain_term.specs.Tree.{Tree as tree}
use Rattle.plain_term.specs.Tree.Trees.{end, ◌▹◌}
use Rattle.plain_term.specs.Measures.{bin_words, is_small, magnitude}
use Rattle.plain_term.specs.InOrder.{in_order}
use Rattle.term_tags.specs.declared.layouts.TheConstants.{MOST_KEYS}
use Rattle.term_order.specs.Named.{is_named, are_named, pairs_named}
use Rattle.term_maps.proofs.Named.{in-order-named}
use Rattle.item_build.specs.Reading.{AreWhole, HasParts, IsItem, all_of, bin_of_items, bytes_after, bytes_in, bytes_led, far_words_of, has_big_item, is_big_item, is_byte, is_long, item_words, long_bins}
use Rattle.item_build.specs.Reading.{near_words, own_words, own_words_of, paired, parts_after, read, read_item, long_record_words, terms_in, tree_where, tree_with, item_words_of}
use Rattle.item_build.specs.Building.{MarksNamed}
use Rattle.item_build.proofs.Turned.Marks.{named-all, named-drop, named-paired, named-take}

-- No more terms than items.
pub terms-few : (xs : List Item) → terms_in xs ≤ length xs
terms-few [] = omega arith
terms-few (x ∷ xs) = by (is_byte x) (terms-few xs)
  where
    by : (b : Bool) → terms_in xs ≤ length xs → (if b then terms_in xs else terms_in xs - parts_after x + 1) ≤ suc (length xs)
    by true few = omega (arith, few)
    by false few = omega (arith, few)

-- No more bytes than items.
pub led-within : (xs : List Item) → bytes_led xs ≤ length xs
led-within [] = omega arith
led-within (x ∷ xs) = by (is_byte x) (led-within xs)
  where
    by : (b : Bool) → bytes_led xs ≤ length xs → (if b then 1 + bytes_led xs else 0) ≤ suc (length xs)
    by true few = omega (arith, few)
    by false few = omega arith

-- The words of a binary are few, and those of its holder and record.
bin-few : (n : ℕ) → near_words n + ((if nat_lt 64 n then 6 else 0) + long_record_words n) ≤ 5 * n + 4
bin-few n = by (nat_lt 64 n) refl
  where
    by : (b : Bool) → nat_lt 64 n ≡ b → (if b then 0 else 2 + bin_words n) + ((if b then 6 else 0) + (if b then 4 + bin_words n else 0)) ≤ 5 * n + 4
    by true e = let above : 64 < n = ltb-true 64 n e in omega (arith, above)
    by false e = omega arith

-- An integer takes three words at most.
pub int-few : (small one : Bool) → (if small then 0 else (if one then 2 else 3)) ≤ 3
int-few true one = omega arith
int-few false true = omega arith
int-few false false = omega arith

-- The words that an item asks for are few.
pub item-few : (names held : ℕ) (x : Item) → IsItem names held x → item_words x ≤ parts_after x + 5 * bytes_after x + 4
item-few names held (Int i) is = omega (arith, int-few (is_small i) (nat_lt (magnitude i) (2 ^ 64)))
item-few names held (Atom k) is = omega arith
item-few names held (Pid n) is = omega arith
item-few names held Nil is = omega arith
item-few names held Cons is = omega arith
item-few names held (Tuple n) is = omega arith
item-few names held (Map n) is = omega arith
item-few names held (Bin n) is = omega (arith, bin-few n)
item-few names held (Byte b) is = omega arith
item-few names held (Held r) is = omega arith

byte-none : (x : Item) → is_byte x ≡ true → item_words x ≡ 0
byte-none (Byte b) e = refl
byte-none x e = absurd cc

-- As many words as five for each item.
words-within : (names held : ℕ) (xs : List Item) → AreWhole names held xs → item_words_of xs + terms_in xs + 5 * bytes_led xs ≤ 5 * length xs
words-within names held [] w = omega arith
words-within names held (x ∷ xs) w = by (is_byte x) refl (words-within names held xs w.2)
  where
    by : (b : Bool) → is_byte x ≡ b → item_words_of xs + terms_in xs + 5 * bytes_led xs ≤ 5 * length xs
        → item_words x + item_words_of xs + (if b then terms_in xs else terms_in xs - parts_after x + 1) + 5 * (if b then 1 + bytes_led xs else 0) ≤ 5 * suc (length xs)
    by true e few = omega (arith, few, byte-none x e)
    by false e few = omega (arith, few, item-few names held x w.0, w.1.0, w.1.1)

pub words-few : (names held : ℕ) (xs : List Item) → AreWhole names held xs → item_words_of xs + terms_in xs ≤ 5 * length xs
words-few names held xs w = omega (arith, words-within names held xs w)

-- The words that items ask for, by where they lie: of their own objects, of holders, of records.
pub words-apart : (xs : List Item) → item_words_of xs ≡ own_words_of xs + 6 * long_bins xs + far_words_of xs
words-apart [] = refl
words-apart (x ∷ xs) = omega (arith, six (is_long x), words-apart xs)
  where
    six : (b : Bool) → (if b then 6 else 0) ≡ 6 * (if b then 1 else 0)
    six true = refl
    six false = refl

-- What follows takes no more words, and is whole.

pub own-rest : (i : ℕ) (xs : List Item) → own_words_of (drop i xs) ≤ own_words_of xs
own-rest zero xs = omega arith
own-rest (suc i) [] = omega arith
own-rest (suc i) (x ∷ xs) = omega (arith, own-rest i xs)

pub longs-rest : (i : ℕ) (xs : List Item) → long_bins (drop i xs) ≤ long_bins xs
longs-rest zero xs = omega arith
longs-rest (suc i) [] = omega arith
longs-rest (suc i) (x ∷ xs) = omega (arith, longs-rest i xs)

pub whole-rest : (names held i : ℕ) (xs : List Item) → AreWhole names held xs → AreWhole names held (drop i xs)
whole-rest names held zero xs w = w
whole-rest names held (suc i) [] w = w
whole-rest names held (suc i) (x ∷ xs) w = whole-rest names held i xs w.2

-- The slice of what follows a place.
pub rest-is : (xs : List Item) (i : ℕ) → take (length xs - i) (drop i xs) ≡ drop i xs
rest-is xs i = take-whole (length xs - i) (drop i xs) (omega (arith, length-drop i xs))
  where
    take-whole : (n : ℕ) (ys : List Item) → length ys ≤ n → take n ys ≡ ys
    take-whole zero [] few = refl
    take-whole zero (y ∷ ys) few = absurd (omega (arith, few))
    take-whole (suc n) [] few = refl
    take-whole (suc n) (y ∷ ys) few = ap (λ z. y ∷ z) (take-whole n ys (omega (arith, few)))

pub rest-at : (xs : List Item) (i : ℕ) → 0 < i → take (length xs - (i - 1 + 1)) (drop (i - 1 + 1) xs) ≡ drop i xs
rest-at xs i some = let same : i - 1 + 1 ≡ i = omega arith in ap (λ k. take (length xs - k) (drop k xs)) same ∙ rest-is xs i

-- The item before a place, and what follows it.
pub open-at : (xs : List Item) (i : ℕ) (d : Item) → 0 < i → i ≤ length xs → drop (i - 1) xs ≡ get_or xs (i - 1) d ∷ drop i xs
open-at xs i d some within =
    let e : drop (i - 1) xs ≡ get_or xs (i - 1) d ∷ drop (suc (i - 1)) xs = drop-cons xs (i - 1) d (omega arith) in
    let same : suc (i - 1) ≡ i = omega arith in
    let P : ℕ → Type 0 = λ x. drop (i - 1) xs ≡ get_or xs (i - 1) d ∷ drop x xs in
    subst P same e

pub own-at : (xs : List Item) (i : ℕ) (d : Item) → 0 < i → i ≤ length xs → own_words_of (drop (i - 1) xs) ≡ own_words (get_or xs (i - 1) d) + own_words_of (drop i xs)
own-at xs i d some within = ap own_words_of (open-at xs i d some within)

pub longs-at : (xs : List Item) (i : ℕ) (d : Item) → 0 < i → i ≤ length xs → long_bins (drop (i - 1) xs) ≡ (if is_long (get_or xs (i - 1) d) then 1 else 0) + long_bins (drop i xs)
longs-at xs i d some within = ap long_bins (open-at xs i d some within)

-- The words of the next item are among those of all.
pub own-fit : (xs : List Item) (i : ℕ) (d : Item) → 0 < i → i ≤ length xs → own_words (get_or xs (i - 1) d) + own_words_of (drop i xs) ≤ own_words_of xs
own-fit xs i d some within = omega (arith, own-at xs i d some within, own-rest (i - 1) xs)

pub whole-at : (names held : ℕ) (xs : List Item) (i : ℕ) (d : Item) → 0 < i → i ≤ length xs → AreWhole names held xs
    → IsItem names held (get_or xs (i - 1) d) × HasParts (get_or xs (i - 1) d) (drop i xs) × AreWhole names held (drop i xs)
whole-at names held xs i d some within w =
    let P : List Item → Type 0 = λ x. AreWhole names held x in
    subst P (open-at xs i d some within) (whole-rest names held (i - 1) xs w)

module _ (names shared : List (List ℕ)) (held : List Tree) where
  -- As many terms are read as the items are.
  pub read-count : (xs : List Item) → length (read names shared held xs) ≡ terms_in xs
  read-count [] = refl
  read-count (x ∷ xs) = by (is_byte x) (read-count xs)
    where
      by : (b : Bool) → length (read names shared held xs) ≡ terms_in xs
          → length (if b then read names shared held xs else tree_where names shared held x xs (all_of (take (parts_after x) (read names shared held xs)))
          ∷ drop (parts_after x) (read names shared held xs))
          ≡ (if b then terms_in xs else terms_in xs - parts_after x + 1)
      by true same = same
      by false same = omega (arith, same, length-drop (parts_after x) (read names shared held xs))

  pub read-at : (xs : List Item) (i : ℕ) (d : Item) → 0 < i → i ≤ length xs
      → read names shared held (drop (i - 1) xs) ≡ read_item names shared held (get_or xs (i - 1) d) (drop i xs) (read names shared held (drop i xs))
  read-at xs i d some within = ap (read names shared held) (open-at xs i d some within)

  pub big-at : (xs : List Item) (i : ℕ) (d : Item) → 0 < i → i ≤ length xs
      → has_big_item names shared held (drop (i - 1) xs)
      ≡ is_big_item shared (get_or xs (i - 1) d) (take (parts_after (get_or xs (i - 1) d)) (read names shared held (drop i xs))) || has_big_item names shared held (drop i xs)
  big-at xs i d some within = ap (has_big_item names shared held) (open-at xs i d some within)

  -- A big key among what follows is one of all.
  pub big-rest : (i : ℕ) (xs : List Item) → has_big_item names shared held (drop i xs) ≡ true → has_big_item names shared held xs ≡ true
  big-rest zero xs h = h
  big-rest (suc i) [] h = h
  big-rest (suc i) (x ∷ xs) h = or_right (is_big_item shared x (take (parts_after x) (read names shared held xs))) (has_big_item names shared held xs) (big-rest i xs h)

  -- The trees that are read have names among the names, where those that are held have.
  module _ (n count : ℕ) (known : (r : ℕ) → r < count → is_named n (slice_index_or held r tree.Nil) ≡ true) where
    -- The tree, where it is there.
    abbrev MarkNamed : Option Tree → Type 0
    MarkNamed None = Unit {0}
    MarkNamed (Some t) = is_named n t ≡ true

    map-named : (given : Pairs) (many : Bool) → pairs_named n given ≡ true → MarkNamed (if many then None else Some (tree.Map (in_order names shared given)))
    map-named given true h = tt
    map-named given false h = in-order-named names shared n given h

    bin-named : (m : ℕ) (xs : List Item) → is_named n (bin_of_items shared m xs) ≡ true
    bin-named m xs = by (nat_lt 64 m)
      where
        by : (b : Bool) → is_named n (if b then tree.Shared (length shared - long_bins xs) else tree.Bin (bytes_in m xs)) ≡ true
        by true = refl
        by false = refl

    item-named : (x : Item) (xs : List Item) (ts : Trees) → IsItem n count x → are_named n ts ≡ true → MarkNamed (tree_with names shared held x xs ts)
    item-named (Int i) xs ts is h = refl
    item-named (Atom k) xs ts is h = let below : k < n = is.0 in grind (arith, nat_tests)
    item-named (Pid k) xs ts is h = refl
    item-named Nil xs ts is h = refl
    item-named Cons xs end is h = tt
    item-named Cons xs (t ▹ end) is h = tt
    item-named Cons xs (t ▹ u ▹ ts) is h =
        let others : is_named n u && are_named n ts ≡ true = (and_parts (is_named n t) (is_named n u && are_named n ts) h).1 in
        and_from (is_named n t) (is_named n u) (and_parts (is_named n t) (is_named n u && are_named n ts) h).0 (and_parts (is_named n u) (are_named n ts) others).0
    item-named (Tuple k) xs ts is h = h
    item-named (Map k) xs ts is h = map-named (paired ts) (nat_lt MOST_KEYS (pairs_len (in_order names shared (paired ts)))) (named-paired n ts h)
    item-named (Bin k) xs ts is h = bin-named k xs
    item-named (Byte b) xs ts is h = tt
    item-named (Held r) xs ts is h = known r is

    where-named : (x : Item) (xs : List Item) (ms : List (Option Tree)) (r : Option Trees) → all_of ms ≡ r → IsItem n count x → MarksNamed n ms → MarkNamed (tree_where names shared held x xs r)
    where-named x xs ms None e is h = tt
    where-named x xs ms (Some ts) e is h = item-named x xs ts is (named-all n ms ts h e)

    more-named : (m : Option Tree) (ms : List (Option Tree)) → MarkNamed m → MarksNamed n ms → MarksNamed n (m ∷ ms)
    more-named None ms a h = h
    more-named (Some t) ms a h = (a, h)

    pub read-named : (xs : List Item) → AreWhole n count xs → MarksNamed n (read names shared held xs)
    read-named [] w = tt
    read-named (x ∷ xs) w = by (is_byte x) (read-named xs w.2)
      where
        by : (b : Bool) → MarksNamed n (read names shared held xs)
            → MarksNamed n (if b then read names shared held xs else tree_where names shared held x xs (all_of (take (parts_after x) (read names shared held xs))) ∷ drop (parts_after x)
            (read names shared held xs))
        by true rest = rest
        by false rest =
            more-named (tree_where names shared held x xs (all_of (take (parts_after x) (read names shared held xs)))) (drop (parts_after x) (read names shared held xs))
            (where-named x xs (take (parts_after x) (read names shared held xs)) (all_of (take (parts_after x) (read names shared held xs))) refl w.0
            (named-take n (parts_after x) (read names shared held xs) rest)) (named-drop n (parts_after x) (read names shared held xs) rest)
