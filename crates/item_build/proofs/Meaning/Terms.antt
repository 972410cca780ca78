-- The items of a written term read as its tree, or as none where the term is wide; they have a big key where it has one.
use Rattle.std.proofs.Common.{◌≡◌, ℕ, zero, suc, ◌+◌, ◌-◌, ◌*◌, ◌≤◌, ◌||◌, ◌&&◌, not, nat_le, if◌then◌else◌, Bool, true, false, List, [], ◌∷◌, ◌++◌, length, map, slice_index_or, length-append, take, drop, Option, Some, None, refl, sym, ◌∙◌, ap, subst, append_assoc, arith}
use Rattle.plain_term.specs.declared.item.Item.{Item}
use Rattle.plain_term.specs.declared.item.Item.TheVariants as item
use Rattle.plain_term.specs.Tree.{Tree, Trees, Pairs}
use Rattle.plain_term.specs.Tree.{Tree as tree}
use Rattle.plain_term.specs.Tree.{Trees as trees}
use Rattle.plain_term.specs.Tree.{Pairs as pairs}
use Rattle.plain_term.specs.Beyond.{is_beyond}
use Rattle.plain_term.specs.InOrder.{in_order}
use Rattle.script_grammar.specs.Written.{Term, Terms, TermPairs, terms_len, term_pairs_len}
use Rattle.script_grammar.specs.Written.Term.{Int, Atom, Pid, Held, Listed, Barred, Tuple, Map, Bin}
use Rattle.script_grammar.specs.Written.Terms.{end, ◌▹◌}
use Rattle.script_grammar.specs.Written.TermPairs.{stop, pair}
use Rattle.script_grammar.specs.Names.{items_of, listed_items, all_items, pairs_items}
use Rattle.plain_machine.specs.Made.{tree_of, trees_of_terms, trees_of_pairs, bin_tree, list_tree, too_many}
use Rattle.plain_machine.specs.Flaws.{is_wide, are_wide, are_wide_pairs, is_big, are_big, are_big_pairs, makes_big_key}
use Rattle.item_build.specs.Reading.{all_of, bin_of_items, bins_of, bytes_in, has_big_key, is_byte, long_bins, map_of, paired, parts_after, put_first, read, tree_where}
use Rattle.item_build.specs.Reading.{has_big_item, is_big_key}
use Rattle.plain_term.proofs.Known.{Knows, KnowsPairs, knows-beyond, knows-in-order}
use Rattle.item_build.proofs.Meaning.Growing.{binned, binned-is, bytes-no-longs, bytes-taken, long-flip, longs-are, made, made-listed, made-pairs, grows, all-grow, pairs-grow, term-knows, pairs-known}

-- A tree, or none where it is wide.
abbrev pub mark : Bool → Tree → Option Tree
mark true t = None
mark false t = Some t

-- Trees, or none where one is wide.
abbrev pub marks : Bool → Trees → Option Trees
marks true ts = None
marks false ts = Some ts

first-mark : (w u : Bool) (t : Tree) (ts : Trees) → put_first (mark w t) (marks u ts) ≡ marks (w || u) (trees.◌▹◌ t ts)
first-mark true u t ts = refl
first-mark false true t ts = refl
first-mark false false t ts = refl

-- The trees of pairs, by twos.
abbrev pub twos : Pairs → Trees
twos pairs.stop = trees.end
twos (pairs.pair k v ps) = trees.◌▹◌ k (trees.◌▹◌ v (twos ps))

paired-twos : (ps : Pairs) → paired (twos ps) ≡ ps
paired-twos pairs.stop = refl
paired-twos (pairs.pair k v ps) = ap (pairs.pair k v) (paired-twos ps)

-- Rows of options, the first and the others.

pub take-front : (xs ys : List (Option Tree)) (n : ℕ) → length xs ≡ n → take n (xs ++ ys) ≡ xs
take-front [] ys zero e = refl
take-front [] ys (suc n) e = absurd (omega (arith, e))
take-front (x ∷ xs) ys zero e = absurd (omega (arith, e))
take-front (x ∷ xs) ys (suc n) e = ap (λ z. x ∷ z) (take-front xs ys n (omega (arith, e)))

pub drop-front : (xs ys : List (Option Tree)) (n : ℕ) → length xs ≡ n → drop n (xs ++ ys) ≡ ys
drop-front [] ys zero e = refl
drop-front [] ys (suc n) e = absurd (omega (arith, e))
drop-front (x ∷ xs) ys zero e = absurd (omega (arith, e))
drop-front (x ∷ xs) ys (suc n) e = drop-front xs ys n (omega (arith, e))

-- Facts of one answer or another.

pub or-none : (a : Bool) → a || false ≡ a
or-none true = refl
or-none false = refl

or-join : (a b c : Bool) → (a || b) || c ≡ a || (b || c)
or-join true b c = refl
or-join false b c = refl

or-four : (k a b r s : Bool) → (k || r) || (a || (b || s)) ≡ (k || (a || (b || (r || s))))
or-four true a b r s = refl
or-four false true b true s = refl
or-four false true b false s = refl
or-four false false true true s = refl
or-four false false true false s = refl
or-four false false false r s = refl

module _ (names : List (List ℕ)) (held : List Tree) (S : List (List ℕ)) where
  -- What each term of a list is read as, and what each key and value in turn.

  abbrev pub each_mark : Terms → (shared : List (List ℕ)) → List (Option Tree)
  each_mark end shared = []
  each_mark (t ▹ ts) shared = mark (is_wide names held t shared) ((tree_of names held t shared).0) ∷ each_mark ts ((tree_of names held t shared).1)

  abbrev pub each_turn : TermPairs → (shared : List (List ℕ)) → List (Option Tree)
  each_turn stop shared = []
  each_turn (pair k v qs) shared = mark (is_wide names held k shared) ((tree_of names held k shared).0)
      ∷ mark (is_wide names held v ((tree_of names held k shared).1)) ((tree_of names held v ((tree_of names held k shared).1)).0)
      ∷ each_turn qs ((tree_of names held v ((tree_of names held k shared).1)).1)

  pub marks-len : (ts : Terms) (shared : List (List ℕ)) → length (each_mark ts shared) ≡ terms_len ts
  marks-len end shared = refl
  marks-len (t ▹ ts) shared = omega (arith, marks-len ts ((tree_of names held t shared).1))

  pub turns-len : (qs : TermPairs) (shared : List (List ℕ)) → length (each_turn qs shared) ≡ 2 * term_pairs_len qs
  turns-len stop shared = refl
  turns-len (pair k v qs) shared = omega (arith, turns-len qs ((tree_of names held v ((tree_of names held k shared).1)).1))

  marks-all : (ts : Terms) (shared : List (List ℕ)) → all_of (each_mark ts shared) ≡ marks (are_wide names held ts shared) ((trees_of_terms names held ts shared).0)
  marks-all end shared = refl
  marks-all (t ▹ ts) shared =
      ap (put_first (mark (is_wide names held t shared) ((tree_of names held t shared).0))) (marks-all ts ((tree_of names held t shared).1))
      ∙ first-mark (is_wide names held t shared) (are_wide names held ts ((tree_of names held t shared).1)) ((tree_of names held t shared).0)
      ((trees_of_terms names held ts ((tree_of names held t shared).1)).0)

  turns-all : (qs : TermPairs) (shared : List (List ℕ)) → all_of (each_turn qs shared) ≡ marks (are_wide_pairs names held qs shared) (twos ((trees_of_pairs names held qs shared).0))
  turns-all stop shared = refl
  turns-all (pair k v qs) shared =
      let key : Tree × List (List ℕ) = tree_of names held k shared in
      let value : Tree × List (List ℕ) = tree_of names held v key.1 in
      ap (λ z. put_first (mark (is_wide names held k shared) key.0) (put_first (mark (is_wide names held v key.1) value.0) z)) (turns-all qs value.1)
      ∙ ap (put_first (mark (is_wide names held k shared) key.0))
      (first-mark (is_wide names held v key.1) (are_wide_pairs names held qs value.1) value.0 (twos ((trees_of_pairs names held qs value.1).0)))
      ∙ first-mark (is_wide names held k shared) (is_wide names held v key.1 || are_wide_pairs names held qs value.1) key.0 (trees.◌▹◌ value.0 (twos ((trees_of_pairs names held qs value.1).0)))

  cons-mark : (xs : List Item) (w u : Bool) (h t : Tree) → tree_where names S held item.Cons xs (put_first (mark w h) (put_first (mark u t) (Some trees.end))) ≡ mark (w || u) (tree.Cons h t)
  cons-mark xs true u h t = refl
  cons-mark xs false true h t = refl
  cons-mark xs false false h t = refl

  tuple-mark : (n : ℕ) (xs : List Item) (w : Bool) (ts : Trees) → tree_where names S held (item.Tuple n) xs (marks w ts) ≡ mark w (tree.Tuple ts)
  tuple-mark n xs true ts = refl
  tuple-mark n xs false ts = refl

  map-mark : (n : ℕ) (xs : List Item) (w : Bool) (given : Pairs) → tree_where names S held (item.Map n) xs (marks w (twos given))
      ≡ mark (too_many (in_order names S given) || w) (tree.Map (in_order names S given))
  map-mark n xs true given = by (too_many (in_order names S given))
    where
      by : (b : Bool) → None ≡ mark (b || true) (tree.Map (in_order names S given))
      by true = refl
      by false = refl
  map-mark n xs false given =
      ap (map_of names S) (paired-twos given)
      ∙ by (too_many (in_order names S given)) (in_order names S given)
    where
      by : (b : Bool) (ps : Pairs) → (if b then None else Some (tree.Map ps)) ≡ mark (b || false) (tree.Map ps)
      by true ps = refl
      by false ps = refl

  map-at : (n : ℕ) (xs : List Item) (qs : TermPairs) (shared extra : List (List ℕ)) → (trees_of_pairs names held qs shared).1 ++ extra ≡ S
      → KnowsPairs (length ((trees_of_pairs names held qs shared).1)) ((trees_of_pairs names held qs shared).0)
      → tree_where names S held (item.Map n) xs (all_of (each_turn qs shared)) ≡ mark (is_wide names held (Map qs) shared) ((tree_of names held (Map qs) shared).0)
  map-at n xs qs shared extra e known =
      let all : Pairs × List (List ℕ) = trees_of_pairs names held qs shared in
      let P : List (List ℕ) → Type 0 = λ z. in_order names z all.0 ≡ in_order names all.1 all.0 in
      ap (tree_where names S held (item.Map n) xs) (turns-all qs shared) ∙ map-mark n xs (are_wide_pairs names held qs shared) all.0
      ∙ ap (λ z. mark (too_many z || are_wide_pairs names held qs shared) (tree.Map z)) (subst P e (knows-in-order names all.1 extra all.0 known))

  -- An item takes the terms of its parts off.
  put-row : (x : Item) (n : ℕ) → is_byte x ≡ false → parts_after x ≡ n → (code : List Item) (ms rest : List (Option Tree)) → length ms ≡ n → read names S held code ≡ ms ++ rest
      → read names S held (x ∷ code) ≡ tree_where names S held x code (all_of ms) ∷ rest
  put-row x n term same code ms rest len is =
      let at : length ms ≡ parts_after x = len ∙ sym same in
      ap (λ b. if b then read names S held code else tree_where names S held x code (all_of (take (parts_after x) (read names S held code))) ∷ drop (parts_after x) (read names S held code)) term
      ∙ ap (λ z. tree_where names S held x code (all_of (take (parts_after x) z)) ∷ drop (parts_after x) z) is
      ∙ ap (λ z. tree_where names S held x code (all_of z) ∷ drop (parts_after x) (ms ++ rest)) (take-front ms rest (parts_after x) at)
      ∙ ap (λ z. tree_where names S held x code (all_of ms) ∷ z) (drop-front ms rest (parts_after x) at)

  -- Bytes are no terms.

  read-bytes : (bytes : List ℕ) (rest : List Item) → read names S held (map item.Byte bytes ++ rest) ≡ read names S held rest
  read-bytes [] rest = refl
  read-bytes (b ∷ bytes) rest = read-bytes bytes rest

  big-bytes : (bytes : List ℕ) (rest : List Item) → has_big_item names S held (map item.Byte bytes ++ rest) ≡ has_big_item names S held rest
  big-bytes [] rest = refl
  big-bytes (b ∷ bytes) rest = big-bytes bytes rest

  -- A binary is read as its tree.
  bin-at : (bytes : List ℕ) (shared : List (List ℕ)) (rest : List Item) → (bin_tree bytes shared).1 ++ bins_of rest ≡ S
      → bin_of_items S (length bytes) (map item.Byte bytes ++ rest) ≡ (bin_tree bytes shared).0
  bin-at bytes shared rest e =
      ap (λ z. if z then tree.Shared (length S - long_bins (map item.Byte bytes ++ rest)) else tree.Bin (bytes_in (length bytes) (map item.Byte bytes ++ rest))) (long-flip (length bytes))
      ∙ ap (λ z. if not (nat_le (length bytes) 64) then tree.Shared (length S - long_bins (map item.Byte bytes ++ rest)) else tree.Bin z) (bytes-taken bytes rest)
      ∙ ap (λ z. if not (nat_le (length bytes) 64) then tree.Shared (length S - z) else tree.Bin bytes) (bytes-no-longs bytes rest)
      ∙ by (nat_le (length bytes) 64) (ap (λ (z : Tree × List (List ℕ)). z.1 ++ bins_of rest) (sym (binned-is bytes shared)) ∙ e)
      ∙ ap (λ (z : Tree × List (List ℕ)). z.0) (sym (binned-is bytes shared))
    where
      by : (b : Bool) → (binned bytes shared b).1 ++ bins_of rest ≡ S
          → (if not b then tree.Shared (length S - long_bins rest) else tree.Bin bytes) ≡ (binned bytes shared b).0
      by true at = refl
      by false at =
          let last : length S - long_bins rest ≡ length shared + 1 =
          omega (arith, ap length at, length-append (shared ++ bytes ∷ []) (bins_of rest), length-append shared (bytes ∷ []), longs-are rest) in
          ap tree.Shared last

  module _ (m : ℕ) (known : (r : ℕ) → Knows m (slice_index_or held r tree.Nil)) where
    -- What is there, with what the items make, is all that there is.
    abbrev At : (shared : List (List ℕ)) → List Item → Type 0
    At shared code = (shared ++ bins_of code ≡ S) × (m ≤ length shared)

    -- Behind a term, or terms.

    behind : (t : Term) (shared : List (List ℕ)) (rest : List Item) → At shared (items_of names t ++ rest) → At ((tree_of names held t shared).1) rest
    behind t shared rest a = (sym (made names held t shared rest) ∙ a.0, omega (arith, a.1, grows names held t shared))

    behind-listed : (ts : Terms) (shared : List (List ℕ)) (tail rest : List Item) → At shared (listed_items names ts tail ++ rest) → At ((trees_of_terms names held ts shared).1) (tail ++ rest)
    behind-listed ts shared tail rest a = (sym (made-listed names held ts shared tail rest) ∙ a.0, omega (arith, a.1, all-grow names held ts shared))

    behind-pairs : (qs : TermPairs) (shared : List (List ℕ)) (rest : List Item) → At shared (pairs_items names qs ++ rest) → At ((trees_of_pairs names held qs shared).1) rest
    behind-pairs qs shared rest a = (sym (made-pairs names held qs shared rest) ∙ a.0, omega (arith, a.1, pairs-grow names held qs shared))

    regroup : (xs ys rest : List Item) (shared : List (List ℕ)) → At shared ((xs ++ ys) ++ rest) → At shared (xs ++ (ys ++ rest))
    regroup xs ys rest shared a = (ap (λ z. shared ++ bins_of z) (sym (append_assoc xs ys rest)) ∙ a.0, a.1)

    -- The items are read as the marks.
    mutual
      pub read-term : (t : Term) (shared : List (List ℕ)) (rest : List Item) → At shared (items_of names t ++ rest)
          → read names S held (items_of names t ++ rest) ≡ mark (is_wide names held t shared) ((tree_of names held t shared).0) ∷ read names S held rest
      read-term (Int i) shared rest a = refl
      read-term (Atom x) shared rest a = refl
      read-term (Pid k) shared rest a = refl
      read-term (Held r) shared rest a = refl
      read-term (Listed ts) shared rest a =
          read-listed ts shared (item.Nil ∷ []) rest false tree.Nil a refl
          ∙ ap (λ z. mark z (list_tree ((trees_of_terms names held ts shared).0) tree.Nil) ∷ read names S held rest) (or-none (are_wide names held ts shared))
      read-term (Barred ts t) shared rest a =
          let after : List (List ℕ) = (trees_of_terms names held ts shared).1 in
          read-listed ts shared (items_of names t) rest (is_wide names held t after) ((tree_of names held t after).0) a
          (read-term t after rest (behind-listed ts shared (items_of names t) rest a))
      read-term (Tuple ts) shared rest a =
          put-row (item.Tuple (terms_len ts)) (terms_len ts) refl refl (all_items names ts ++ rest) (each_mark ts shared) (read names S held rest) (marks-len ts shared) (read-all ts shared rest a)
          ∙ ap (λ z. z ∷ read names S held rest)
          (ap (tree_where names S held (item.Tuple (terms_len ts)) (all_items names ts ++ rest)) (marks-all ts shared)
          ∙ tuple-mark (terms_len ts) (all_items names ts ++ rest) (are_wide names held ts shared) ((trees_of_terms names held ts shared).0))
      read-term (Map qs) shared rest a =
          put-row (item.Map (term_pairs_len qs)) (2 * term_pairs_len qs) refl refl (pairs_items names qs ++ rest) (each_turn qs shared) (read names S held rest) (turns-len qs shared)
          (read-pairs qs shared rest a) ∙ ap (λ z. z ∷ read names S held rest)
          (map-at (term_pairs_len qs) (pairs_items names qs ++ rest) qs shared (bins_of rest) (behind-pairs qs shared rest a).0 (pairs-known names held m known qs shared a.1))
      read-term (Bin bytes) shared rest a =
          ap (λ z. Some z ∷ read names S held (map item.Byte bytes ++ rest)) (bin-at bytes shared rest (behind (Bin bytes) shared rest a).0)
          ∙ ap (λ z. Some ((bin_tree bytes shared).0) ∷ z) (read-bytes bytes rest)

      pub read-listed : (ts : Terms) (shared : List (List ℕ)) (tail rest : List Item) (wide : Bool) (last : Tree) → At shared (listed_items names ts tail ++ rest)
          → read names S held (tail ++ rest) ≡ mark wide last ∷ read names S held rest
          → read names S held (listed_items names ts tail ++ rest) ≡ mark (are_wide names held ts shared || wide) (list_tree ((trees_of_terms names held ts shared).0) last) ∷ read names S held rest
      read-listed end shared tail rest wide last a is = is
      read-listed (t ▹ ts) shared tail rest wide last a is =
          let after : List (List ℕ) = (tree_of names held t shared).1 in
          let at : At shared (items_of names t ++ (listed_items names ts tail ++ rest)) = regroup (items_of names t) (listed_items names ts tail) rest shared a in
          let more = read-listed ts after tail rest wide last (behind t shared (listed_items names ts tail ++ rest) at) is in
          let all : read names S held ((items_of names t ++ listed_items names ts tail) ++ rest)
          ≡ mark (is_wide names held t shared) ((tree_of names held t shared).0)
          ∷ mark (are_wide names held ts after || wide) (list_tree ((trees_of_terms names held ts after).0) last) ∷ read names S held rest =
          ap (read names S held) (append_assoc (items_of names t) (listed_items names ts tail) rest)
          ∙ read-term t shared (listed_items names ts tail ++ rest) at ∙ ap (λ z. mark (is_wide names held t shared) ((tree_of names held t shared).0) ∷ z) more in
          ap (λ ms. tree_where names S held item.Cons ((items_of names t ++ listed_items names ts tail) ++ rest) (all_of (take 2 ms)) ∷ drop 2 ms) all
          ∙ ap (λ z. z ∷ read names S held rest)
          (cons-mark ((items_of names t ++ listed_items names ts tail) ++ rest) (is_wide names held t shared) (are_wide names held ts after || wide) ((tree_of names held t shared).0)
          (list_tree ((trees_of_terms names held ts after).0) last)
          ∙ ap (λ z. mark z (list_tree ((trees_of_terms names held (t ▹ ts) shared).0) last)) (sym (or-join (is_wide names held t shared) (are_wide names held ts after) wide)))

      pub read-all : (ts : Terms) (shared : List (List ℕ)) (rest : List Item) → At shared (all_items names ts ++ rest)
          → read names S held (all_items names ts ++ rest) ≡ each_mark ts shared ++ read names S held rest
      read-all end shared rest a = refl
      read-all (t ▹ ts) shared rest a =
          let at : At shared (items_of names t ++ (all_items names ts ++ rest)) = regroup (items_of names t) (all_items names ts) rest shared a in
          ap (read names S held) (append_assoc (items_of names t) (all_items names ts) rest)
          ∙ read-term t shared (all_items names ts ++ rest) at
          ∙ ap (λ z. mark (is_wide names held t shared) ((tree_of names held t shared).0) ∷ z)
          (read-all ts ((tree_of names held t shared).1) rest (behind t shared (all_items names ts ++ rest) at))

      pub read-pairs : (qs : TermPairs) (shared : List (List ℕ)) (rest : List Item) → At shared (pairs_items names qs ++ rest)
          → read names S held (pairs_items names qs ++ rest) ≡ each_turn qs shared ++ read names S held rest
      read-pairs stop shared rest a = refl
      read-pairs (pair k v qs) shared rest a =
          let key : Tree × List (List ℕ) = tree_of names held k shared in
          let value : Tree × List (List ℕ) = tree_of names held v key.1 in
          let first : At shared (items_of names k ++ ((items_of names v ++ pairs_items names qs) ++ rest)) = regroup (items_of names k) (items_of names v ++ pairs_items names qs) rest shared a in
          let second : At key.1 (items_of names v ++ (pairs_items names qs ++ rest)) =
          regroup (items_of names v) (pairs_items names qs) rest key.1 (behind k shared ((items_of names v ++ pairs_items names qs) ++ rest) first) in
          ap (read names S held) (append_assoc (items_of names k) (items_of names v ++ pairs_items names qs) rest)
          ∙ read-term k shared ((items_of names v ++ pairs_items names qs) ++ rest) first
          ∙ ap (λ z. mark (is_wide names held k shared) key.0 ∷ read names S held z) (append_assoc (items_of names v) (pairs_items names qs) rest)
          ∙ ap (λ z. mark (is_wide names held k shared) key.0 ∷ z)
          (read-term v key.1 (pairs_items names qs ++ rest) second
          ∙ ap (λ z. mark (is_wide names held v key.1) value.0 ∷ z) (read-pairs qs value.1 rest (behind v key.1 (pairs_items names qs ++ rest) second)))

    -- A key is big, of the keys of these pairs; or a key or a value has a map with one.

    abbrev keys_big : TermPairs → (shared : List (List ℕ)) → Bool
    keys_big stop shared = false
    keys_big (pair k v qs) shared = makes_big_key names held k shared || keys_big qs ((tree_of names held v ((tree_of names held k shared).1)).1)

    abbrev within_big : TermPairs → (shared : List (List ℕ)) → Bool
    within_big stop shared = false
    within_big (pair k v qs) shared = is_big names held k shared
        || (is_big names held v ((tree_of names held k shared).1) || within_big qs ((tree_of names held v ((tree_of names held k shared).1)).1))

    both-big : (qs : TermPairs) (shared : List (List ℕ)) → keys_big qs shared || within_big qs shared ≡ are_big_pairs names held qs shared
    both-big stop shared = refl
    both-big (pair k v qs) shared =
        let key : Tree × List (List ℕ) = tree_of names held k shared in
        let value : Tree × List (List ℕ) = tree_of names held v key.1 in
        or-four (makes_big_key names held k shared) (is_big names held k shared) (is_big names held v key.1) (keys_big qs value.1) (within_big qs value.1)
        ∙ ap (λ z. makes_big_key names held k shared || (is_big names held k shared || (is_big names held v key.1 || z))) (both-big qs value.1)

    key-mark : (w : Bool) (t : Tree) (shared extra : List (List ℕ)) → shared ++ extra ≡ S → Knows (length shared) t → is_big_key S (mark w t) ≡ not w && is_beyond shared t
    key-mark true t shared extra e k = refl
    key-mark false t shared extra e k = let P : List (List ℕ) → Type 0 = λ z. is_beyond z t ≡ is_beyond shared t in subst P e (knows-beyond names shared extra t k)

    keys-turn : (qs : TermPairs) (shared : List (List ℕ)) (rest : List Item) → At shared (pairs_items names qs ++ rest) → has_big_key S (each_turn qs shared) ≡ keys_big qs shared
    keys-turn stop shared rest a = refl
    keys-turn (pair k v qs) shared rest a =
        let key : Tree × List (List ℕ) = tree_of names held k shared in
        let value : Tree × List (List ℕ) = tree_of names held v key.1 in
        let first : At key.1 ((items_of names v ++ pairs_items names qs) ++ rest) =
        behind k shared ((items_of names v ++ pairs_items names qs) ++ rest) (regroup (items_of names k) (items_of names v ++ pairs_items names qs) rest shared a) in
        let second : At value.1 (pairs_items names qs ++ rest) = behind v key.1 (pairs_items names qs ++ rest) (regroup (items_of names v) (pairs_items names qs) rest key.1 first) in
        ap (λ z. z || has_big_key S (each_turn qs value.1))
        (key-mark (is_wide names held k shared) key.0 key.1 (bins_of ((items_of names v ++ pairs_items names qs) ++ rest)) first.0 (term-knows names held m known k shared a.1))
        ∙ ap (λ z. makes_big_key names held k shared || z) (keys-turn qs value.1 rest second)

    -- The items have a big key where the term has one.
    mutual
      pub big-term : (t : Term) (shared : List (List ℕ)) (rest : List Item) → At shared (items_of names t ++ rest)
          → has_big_item names S held (items_of names t ++ rest) ≡ is_big names held t shared || has_big_item names S held rest
      big-term (Int i) shared rest a = refl
      big-term (Atom x) shared rest a = refl
      big-term (Pid k) shared rest a = refl
      big-term (Held r) shared rest a = refl
      big-term (Listed ts) shared rest a = big-listed ts shared (item.Nil ∷ []) rest a
      big-term (Barred ts t) shared rest a =
          let after : List (List ℕ) = (trees_of_terms names held ts shared).1 in
          big-listed ts shared (items_of names t) rest a
          ∙ ap (λ z. are_big names held ts shared || z) (big-term t after rest (behind-listed ts shared (items_of names t) rest a))
          ∙ sym (or-join (are_big names held ts shared) (is_big names held t after) (has_big_item names S held rest))
      big-term (Tuple ts) shared rest a = big-all ts shared rest a
      big-term (Map qs) shared rest a =
          ap (λ z. has_big_key S (take (2 * term_pairs_len qs) z) || has_big_item names S held (pairs_items names qs ++ rest)) (read-pairs qs shared rest a)
          ∙ ap (λ z. has_big_key S z || has_big_item names S held (pairs_items names qs ++ rest))
          (take-front (each_turn qs shared) (read names S held rest) (2 * term_pairs_len qs) (turns-len qs shared))
          ∙ ap (λ z. z || has_big_item names S held (pairs_items names qs ++ rest)) (keys-turn qs shared rest a)
          ∙ ap (λ z. keys_big qs shared || z) (big-pairs qs shared rest a)
          ∙ sym (or-join (keys_big qs shared) (within_big qs shared) (has_big_item names S held rest))
          ∙ ap (λ z. z || has_big_item names S held rest) (both-big qs shared)
      big-term (Bin bytes) shared rest a = big-bytes bytes rest

      pub big-listed : (ts : Terms) (shared : List (List ℕ)) (tail rest : List Item) → At shared (listed_items names ts tail ++ rest)
          → has_big_item names S held (listed_items names ts tail ++ rest) ≡ are_big names held ts shared || has_big_item names S held (tail ++ rest)
      big-listed end shared tail rest a = refl
      big-listed (t ▹ ts) shared tail rest a =
          let after : List (List ℕ) = (tree_of names held t shared).1 in
          let at : At shared (items_of names t ++ (listed_items names ts tail ++ rest)) = regroup (items_of names t) (listed_items names ts tail) rest shared a in
          ap (has_big_item names S held) (append_assoc (items_of names t) (listed_items names ts tail) rest)
          ∙ big-term t shared (listed_items names ts tail ++ rest) at
          ∙ ap (λ z. is_big names held t shared || z) (big-listed ts after tail rest (behind t shared (listed_items names ts tail ++ rest) at))
          ∙ sym (or-join (is_big names held t shared) (are_big names held ts after) (has_big_item names S held (tail ++ rest)))

      pub big-all : (ts : Terms) (shared : List (List ℕ)) (rest : List Item) → At shared (all_items names ts ++ rest)
          → has_big_item names S held (all_items names ts ++ rest) ≡ are_big names held ts shared || has_big_item names S held rest
      big-all end shared rest a = refl
      big-all (t ▹ ts) shared rest a =
          let after : List (List ℕ) = (tree_of names held t shared).1 in
          let at : At shared (items_of names t ++ (all_items names ts ++ rest)) = regroup (items_of names t) (all_items names ts) rest shared a in
          ap (has_big_item names S held) (append_assoc (items_of names t) (all_items names ts) rest)
          ∙ big-term t shared (all_items names ts ++ rest) at
          ∙ ap (λ z. is_big names held t shared || z) (big-all ts after rest (behind t shared (all_items names ts ++ rest) at))
          ∙ sym (or-join (is_big names held t shared) (are_big names held ts after) (has_big_item names S held rest))

      pub big-pairs : (qs : TermPairs) (shared : List (List ℕ)) (rest : List Item) → At shared (pairs_items names qs ++ rest)
          → has_big_item names S held (pairs_items names qs ++ rest) ≡ within_big qs shared || has_big_item names S held rest
      big-pairs stop shared rest a = refl
      big-pairs (pair k v qs) shared rest a =
          let key : Tree × List (List ℕ) = tree_of names held k shared in
          let value : Tree × List (List ℕ) = tree_of names held v key.1 in
          let first : At shared (items_of names k ++ ((items_of names v ++ pairs_items names qs) ++ rest)) = regroup (items_of names k) (items_of names v ++ pairs_items names qs) rest shared a in
          let second : At key.1 (items_of names v ++ (pairs_items names qs ++ rest)) =
          regroup (items_of names v) (pairs_items names qs) rest key.1 (behind k shared ((items_of names v ++ pairs_items names qs) ++ rest) first) in
          ap (has_big_item names S held) (append_assoc (items_of names k) (items_of names v ++ pairs_items names qs) rest)
          ∙ big-term k shared ((items_of names v ++ pairs_items names qs) ++ rest) first
          ∙ ap (λ z. is_big names held k shared || has_big_item names S held z) (append_assoc (items_of names v) (pairs_items names qs) rest)
          ∙ ap (λ z. is_big names held k shared || z)
          (big-term v key.1 (pairs_items names qs ++ rest) second
          ∙ ap (λ z. is_big names held v key.1 || z) (big-pairs qs value.1 rest (behind v key.1 (pairs_items names qs ++ rest) second))
          ∙ sym (or-join (is_big names held v key.1) (within_big qs value.1) (has_big_item names S held rest)))
          ∙ sym (or-join (is_big names held k shared) (is_big names held v key.1 || within_big qs value.1) (has_big_item names S held rest))
