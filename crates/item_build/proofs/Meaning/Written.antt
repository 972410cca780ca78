-- A written term: its items are whole, what they come to is its tree or its flaw, and they take the words that it asks for.
use Rattle.std.proofs.Common.{◌≡◌, ℕ, suc, ◌+◌, ◌-◌, ◌*◌, ◌<◌, ◌≤◌, ◌^◌, Bool, true, false, if◌then◌else◌, Option, List, [], ◌∷◌, ◌++◌, length, map, nat_le, not, slice_index_or, append-nil, append_assoc, All, Result, Ok, Err, refl, sym, ◌∙◌, ap, subst, arith}
use Rattle.plain_term.specs.declared.item.Item.{Item}
use Rattle.plain_term.specs.declared.item.Item.TheVariants as item
use Rattle.plain_term.specs.Tree.{Tree}
use Rattle.plain_term.specs.Tree.{Tree as tree}
use Rattle.plain_term.specs.Measures.{bin_words}
use Rattle.term_order.specs.Named.{is_named}
use Rattle.script_grammar.specs.Written.{Term, Terms, TermPairs, terms_len, term_pairs_len}
use Rattle.script_grammar.specs.Written.Term.{Int, Atom, Pid, Held, Listed, Barred, Tuple, Map, Bin}
use Rattle.script_grammar.specs.Written.Terms.{end, ◌▹◌}
use Rattle.script_grammar.specs.Written.TermPairs.{stop, pair}
use Rattle.script_grammar.specs.Grammar.{MayStand, AllMayStand, PairsMayStand, IsBuiltTerm, AreBuiltTerms, AreBuiltPairs}
use Rattle.script_grammar.specs.Names.{items_of, listed_items, all_items, pairs_items}
use Rattle.plain_machine.specs.Made.{tree_of}
use Rattle.plain_machine.specs.Flaws.{is_wide, is_big}
use Rattle.plain_machine.specs.Tightness.{fill_words, build_words, build_words_of_all, build_words_of_pairs}
use Rattle.space_api.specs.Calls.{IsWrittenTerm, IsNamedBelow}
use Rattle.item_build.specs.declared.building.BuildStop.{BuildStop}
use Rattle.item_build.specs.declared.building.BuildStop.TheVariants as why
use Rattle.item_build.specs.Reading.{AreWhole, IsWritten, bins_of, bytes_led, item_words, outcome, read, terms_in, unless_wide, item_words_of}
use Rattle.item_build.specs.Reading.{has_big_item}
use Rattle.item_build.specs.Building.{MarksNamed}
use Rattle.plain_term.proofs.Known.{Knows}
use Rattle.item_build.proofs.Meaning.Growing.{long-flip, made}
use Rattle.item_build.proofs.Meaning.Terms.{big-term, mark, or-none, read-term}
use Rattle.item_build.proofs.Meaning.Whole.{read-named}
use Rattle.item_build.proofs.Meaning.Whole.{words-few as whole-few}

-- A fact of each of a row, one after the other.
abbrev pub Each : {X : Type 0} → (X → Type 0) → List X → Type 0
Each P [] = Unit {0}
Each P (x ∷ xs) = P x × Each P xs

pub each-of : {X : Type 0} (P : X → Type 0) (xs : List X) → All P xs → Each P xs
each-of P [] a = tt
each-of P (x ∷ xs) a = (a 0 x (omega arith), each-of P xs (λ k d below. a (suc k) d (omega arith)))

-- A fact of each of two rows.
all-both : {X : Type 0} (P : X → Type 0) (xs ys : List X) → Each P (xs ++ ys) → Each P xs × Each P ys
all-both P [] ys a = (tt, a)
all-both P (x ∷ xs) ys a = let two = all-both P xs ys a.1 in ((a.0, two.0), two.1)

words-append : (xs ys : List Item) → item_words_of (xs ++ ys) ≡ item_words_of xs + item_words_of ys
words-append [] ys = omega arith
words-append (x ∷ xs) ys = omega (arith, words-append xs ys)

-- A binary takes the words that it asks for, and its bytes take none.

bin-words-are : (n : ℕ) → item_words (item.Bin n) ≡ fill_words n
bin-words-are n =
    ap (λ z. (if z then 0 else 2 + bin_words n) + ((if z then 6 else 0) + (if z then 4 + bin_words n else 0))) (long-flip n) ∙ by (nat_le n 64)
  where
    by : (b : Bool) → (if not b then 0 else 2 + bin_words n) + ((if not b then 6 else 0) + (if not b then 4 + bin_words n else 0)) ≡ (if b then 2 + bin_words n else 10 + bin_words n)
    by true = omega arith
    by false = omega arith

words-bytes : (bytes : List ℕ) → item_words_of (map item.Byte bytes) ≡ 0
words-bytes [] = refl
words-bytes (b ∷ bytes) = omega (arith, words-bytes bytes)

-- The items take the words that the term asks for.
mutual
  words-term : (names : List (List ℕ)) (t : Term) → IsBuiltTerm t → item_words_of (items_of names t) ≡ build_words t
  words-term names (Int i) b = omega arith
  words-term names (Atom x) b = refl
  words-term names (Pid k) b = refl
  words-term names (Held r) b = refl
  words-term names (Listed ts) b = omega (arith, words-listed names ts (item.Nil ∷ []) b)
  words-term names (Barred ts t) b = omega (arith, words-listed names ts (items_of names t) b.0, words-term names t b.1)
  words-term names (Tuple ts) b = omega (arith, words-all names ts b)
  words-term names (Map qs) b = omega (arith, words-pairs names qs b)
  words-term names (Bin bytes) b = omega (arith, bin-words-are (length bytes), words-bytes bytes)

  words-listed : (names : List (List ℕ)) (ts : Terms) (tail : List Item) → AreBuiltTerms ts → item_words_of (listed_items names ts tail) ≡ 2 * terms_len ts + build_words_of_all ts + item_words_of tail
  words-listed names end tail b = omega arith
  words-listed names (t ▹ ts) tail b = omega (arith, words-term names t b.0, words-listed names ts tail b.1, words-append (items_of names t) (listed_items names ts tail))

  words-all : (names : List (List ℕ)) (ts : Terms) → AreBuiltTerms ts → item_words_of (all_items names ts) ≡ build_words_of_all ts
  words-all names end b = refl
  words-all names (t ▹ ts) b = omega (arith, words-term names t b.0, words-all names ts b.1, words-append (items_of names t) (all_items names ts))

  words-pairs : (names : List (List ℕ)) (qs : TermPairs) → AreBuiltPairs qs → item_words_of (pairs_items names qs) ≡ build_words_of_pairs qs
  words-pairs names stop b = refl
  words-pairs names (pair k v qs) b =
      omega (
        arith,
        words-term names k b.0,
        words-term names v b.1,
        words-pairs names qs b.2,
        words-append (items_of names k) (items_of names v ++ pairs_items names qs),
        words-append (items_of names v) (pairs_items names qs),
      )

pub term-words : (names : List (List ℕ)) (t : Term) (code : List Item) → IsWrittenTerm names code t → item_words_of code ≡ build_words t
term-words names t code is = ap item_words_of (sym is.items) ∙ words-term names t is.built

-- Bytes before items lead them, are whole and are no term.

bytes-led-by : (bytes : List ℕ) (rest : List Item) → length bytes ≤ bytes_led (map item.Byte bytes ++ rest)
bytes-led-by [] rest = omega arith
bytes-led-by (b ∷ bytes) rest = omega (arith, bytes-led-by bytes rest)

bytes-whole : (n count : ℕ) (bytes : List ℕ) (rest : List Item) → AreWhole n count rest → AreWhole n count (map item.Byte bytes ++ rest)
bytes-whole n count [] rest w = w
bytes-whole n count (b ∷ bytes) rest w = (tt, (omega arith, omega arith), bytes-whole n count bytes rest w)

bytes-no-terms : (bytes : List ℕ) (rest : List Item) → terms_in (map item.Byte bytes ++ rest) ≡ terms_in rest
bytes-no-terms [] rest = refl
bytes-no-terms (b ∷ bytes) rest = bytes-no-terms bytes rest

module _ (names : List (List ℕ)) (n count : ℕ) (few : n ≤ 16384) (all : 16 ≤ count) where
  -- The items of a term are whole before whole items, and one term more.
  mutual
    whole-term : (levels : ℕ) (t : Term) → IsBuiltTerm t → MayStand levels t → Each (IsNamedBelow n) (items_of names t) → (rest : List Item) → AreWhole n count rest
        → AreWhole n count (items_of names t ++ rest) × (terms_in (items_of names t ++ rest) ≡ terms_in rest + 1)
    whole-term levels (Int i) b m a rest w = ((m, (omega arith, omega arith), w), omega arith)
    whole-term levels (Atom x) b m a rest w = (((a.0, omega (arith, a.0)), (omega arith, omega arith), w), omega arith)
    whole-term levels (Pid k) b m a rest w = ((omega (arith, m.1), (omega arith, omega arith), w), omega arith)
    whole-term levels (Held r) b m a rest w = ((omega (arith, m), (omega arith, omega arith), w), omega arith)
    whole-term levels (Listed ts) b m a rest w = whole-listed (levels - 1) ts b m.1 (item.Nil ∷ []) a rest ((tt, (omega arith, omega arith), w), omega arith)
    whole-term levels (Barred ts t) b m a rest w = whole-listed (levels - 1) ts b.0 m.2 (items_of names t) a rest
        (whole-term (levels - 1) t b.1 m.3 (last-each ts (items_of names t) a) rest w)
    whole-term levels (Tuple ts) b m a rest w =
        let two = whole-all (levels - 1) ts b m.1 a.1 rest w in
        ((tt, (omega (arith, two.1), omega arith), two.0), omega (arith, two.1))
    whole-term levels (Map qs) b m a rest w =
        let two = whole-pairs (levels - 1) qs b m.1 a.1 rest w in
        ((tt, (omega (arith, two.1), omega arith), two.0), omega (arith, two.1))
    whole-term levels (Bin bytes) b m a rest w =
        ((tt, (omega arith, bytes-led-by bytes rest), bytes-whole n count bytes rest w), omega (arith, bytes-no-terms bytes rest))

    last-each : (ts : Terms) (tail : List Item) → Each (IsNamedBelow n) (listed_items names ts tail) → Each (IsNamedBelow n) tail
    last-each end tail a = a
    last-each (t ▹ ts) tail a = last-each ts tail (all-both (IsNamedBelow n) (items_of names t) (listed_items names ts tail) a.1).1

    whole-listed : (levels : ℕ) (ts : Terms) → AreBuiltTerms ts → AllMayStand levels ts → (tail : List Item) → Each (IsNamedBelow n) (listed_items names ts tail) → (rest : List Item)
        → AreWhole n count (tail ++ rest) × (terms_in (tail ++ rest) ≡ terms_in rest + 1)
        → AreWhole n count (listed_items names ts tail ++ rest) × (terms_in (listed_items names ts tail ++ rest) ≡ terms_in rest + 1)
    whole-listed levels end b m tail a rest w = w
    whole-listed levels (t ▹ ts) b m tail a rest w =
        let two = all-both (IsNamedBelow n) (items_of names t) (listed_items names ts tail) a.1 in
        let more = whole-listed levels ts b.1 m.1 tail two.1 rest w in
        let all_parts = whole-term levels t b.0 m.0 two.0 (listed_items names ts tail ++ rest) more.0 in
        let P : List Item → Type 0 = λ z. AreWhole n count (item.Cons ∷ z) × (terms_in (item.Cons ∷ z) ≡ terms_in rest + 1) in
        subst P (sym (append_assoc (items_of names t) (listed_items names ts tail) rest)) ((tt, (omega (arith, all_parts.1, more.1), omega arith), all_parts.0), omega (arith, all_parts.1, more.1))

    whole-all : (levels : ℕ) (ts : Terms) → AreBuiltTerms ts → AllMayStand levels ts → Each (IsNamedBelow n) (all_items names ts) → (rest : List Item) → AreWhole n count rest
        → AreWhole n count (all_items names ts ++ rest) × (terms_in (all_items names ts ++ rest) ≡ terms_in rest + terms_len ts)
    whole-all levels end b m a rest w = (w, omega arith)
    whole-all levels (t ▹ ts) b m a rest w =
        let two = all-both (IsNamedBelow n) (items_of names t) (all_items names ts) a in
        let more = whole-all levels ts b.1 m.1 two.1 rest w in
        let all_parts = whole-term levels t b.0 m.0 two.0 (all_items names ts ++ rest) more.0 in
        let P : List Item → Type 0 = λ z. AreWhole n count z × (terms_in z ≡ terms_in rest + (terms_len ts + 1)) in
        subst P (sym (append_assoc (items_of names t) (all_items names ts) rest)) (all_parts.0, omega (arith, all_parts.1, more.1))

    whole-pairs : (levels : ℕ) (qs : TermPairs) → AreBuiltPairs qs → PairsMayStand levels qs → Each (IsNamedBelow n) (pairs_items names qs) → (rest : List Item) → AreWhole n count rest
        → AreWhole n count (pairs_items names qs ++ rest) × (terms_in (pairs_items names qs ++ rest) ≡ terms_in rest + 2 * term_pairs_len qs)
    whole-pairs levels stop b m a rest w = (w, omega arith)
    whole-pairs levels (pair k v qs) b m a rest w =
        let two = all-both (IsNamedBelow n) (items_of names k) (items_of names v ++ pairs_items names qs) a in
        let others = all-both (IsNamedBelow n) (items_of names v) (pairs_items names qs) two.1 in
        let more = whole-pairs levels qs b.2 m.2 others.1 rest w in
        let values = whole-term levels v b.1 m.1 others.0 (pairs_items names qs ++ rest) more.0 in
        let all_parts = whole-term levels k b.0 m.0 two.0 (items_of names v ++ (pairs_items names qs ++ rest)) values.0 in
        let P : List Item → Type 0 = λ z. AreWhole n count z × (terms_in z ≡ terms_in rest + 2 * (term_pairs_len qs + 1)) in
        let Q : List Item → Type 0 = λ z. P (items_of names k ++ z) in
        subst P (sym (append_assoc (items_of names k) (items_of names v ++ pairs_items names qs) rest))
        (subst Q (sym (append_assoc (items_of names v) (pairs_items names qs) rest)) (all_parts.0, omega (arith, all_parts.1, values.1, more.1)))

-- The items of a written term can be built, where the first sixteen registers are held.
pub is-written : (names : List (List ℕ)) (code : List Item) (t : Term) (count : ℕ) → IsWrittenTerm names code t → All (IsNamedBelow (length names)) code → length names ≤ 16384 → 16 ≤ count
    → IsWritten (length names) count code
is-written names code t count is named few all =
    let P : List Item → Type 0 = λ x. Each (IsNamedBelow (length names)) x in
    let whole = whole-term names (length names) count few all 256 t is.built is.allowed (subst P (sym is.items) (each-of (IsNamedBelow (length names)) code named)) [] tt in
    let Q : List Item → Type 0 = λ x. AreWhole (length names) count x × (terms_in x ≡ 1) in
    let both = subst Q (append-nil (items_of names t) ∙ is.items) whole in
    record { whole = both.0; one = both.1 }

-- Its words are few.
pub words-few : (names count : ℕ) (code : List Item) → IsWritten names count code → length code ≤ 4096 → item_words_of code < 2 ^ 64 - 1
words-few names count code w few = omega (arith, whole-few names count code w.whole)

-- What a term comes to: its tree, or why there is none.
abbrev pub outcome_of : (big wide : Bool) → Tree → Result Tree BuildStop
outcome_of true wide t = Err why.Big
outcome_of false true t = Err why.Size
outcome_of false false t = Ok t

module _ (names : List (List ℕ)) (held : List Tree) (code : List Item) (t : Term) (shared : List (List ℕ)) (is : IsWrittenTerm names code t) where
  -- The shared binaries that it makes are those of its items.
  pub term-makes : (tree_of names held t shared).1 ≡ shared ++ bins_of code
  term-makes =
      sym (append-nil ((tree_of names held t shared).1)) ∙ sym (made names held t shared []) ∙ ap (λ z. shared ++ bins_of z) (append-nil (items_of names t) ∙ is.items)

  module _ (known : (r : ℕ) → Knows (length shared) (slice_index_or held r tree.Nil)) where
    all-there : shared ++ bins_of (items_of names t ++ []) ≡ shared ++ bins_of code
    all-there = ap (λ z. shared ++ bins_of z) (append-nil (items_of names t) ∙ is.items)

    read-is : read names (shared ++ bins_of code) held code ≡ mark (is_wide names held t shared) ((tree_of names held t shared).0) ∷ []
    read-is =
        ap (read names (shared ++ bins_of code) held) (sym is.items ∙ sym (append-nil (items_of names t)))
        ∙ read-term names held (shared ++ bins_of code) (length shared) known t shared [] (all-there, omega arith)

    big-is : has_big_item names (shared ++ bins_of code) held code ≡ is_big names held t shared
    big-is =
        ap (has_big_item names (shared ++ bins_of code) held) (sym is.items ∙ sym (append-nil (items_of names t)))
        ∙ big-term names held (shared ++ bins_of code) (length shared) known t shared [] (all-there, omega arith)
        ∙ or-none (is_big names held t shared)

    -- What its items come to is what it does.
    pub term-outcome : outcome names shared held code ≡ outcome_of (is_big names held t shared) (is_wide names held t shared) ((tree_of names held t shared).0)
    term-outcome =
        ap (λ z. if z then Err why.Big else unless_wide (read names (shared ++ bins_of code) held code)) big-is
        ∙ ap (λ z. if is_big names held t shared then Err why.Big else unless_wide z) read-is
        ∙ told (is_big names held t shared) (is_wide names held t shared)
      where
        told : (big wide : Bool)
            → (if big then Err why.Big else unless_wide (mark wide ((tree_of names held t shared).0) ∷ [])) ≡ outcome_of big wide ((tree_of names held t shared).0)
        told true wide = refl
        told false true = refl
        told false false = refl

    -- Its tree has names among the names, where the held trees have.
    pub term-named : (n count : ℕ) → IsWritten n count code → ((r : ℕ) → r < count → is_named n (slice_index_or held r tree.Nil) ≡ true) → is_wide names held t shared ≡ false
        → is_named n ((tree_of names held t shared).0) ≡ true
    term-named n count w below narrow =
        let P : List (Option Tree) → Type 0 = λ z. MarksNamed n z in
        let Q : Bool → Type 0 = λ z. MarksNamed n (mark z ((tree_of names held t shared).0) ∷ []) in
        (subst Q narrow (subst P read-is (read-named names (shared ++ bins_of code) held n count below code w.whole))).0
