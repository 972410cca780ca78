-- What an item is made of, and what is built of it.
use Rattle.std.proofs.Common.{◌≡◌, ℕ, ◌+◌, ◌-◌, ◌*◌, ◌^◌, ◌<◌, ◌≤◌, nat_lt, if◌then◌else◌, inl, inr, Bool, true, false, List, [], ◌∷◌, ◌++◌, length, take, drop, slice_range, Option, Some, None, IfSome, ℤ, pos, negsuc, to_z, of_z, refl, sym, ◌∙◌, ap, subst, arith, lt-ltb}
use Rattle.std.proofs.lemmas.Bool.{le-ltb}
use Rattle.std.proofs.lemmas.List.{length-take}
use Rattle.std.proofs.lemmas.List.Folds.{drop_split}
use Rattle.std.proofs.lemmas.Int.{ints, to_z-of_z}
use Rattle.std.specs.Int.{w128}
use Rattle.plain_term.specs.Measures.{bin_words, int_flat, magnitude}
use Rattle.word_mem.specs.declared.ranges.Room.{Room}
use Rattle.plain_term.specs.declared.item.Item.{Item}
use Rattle.plain_term.specs.declared.item.Item.TheVariants.{Int, Atom, Pid, Nil, Cons, Tuple, Map, Bin, Byte, Held}
use Rattle.plain_term.specs.Tree.{Tree, Pairs, pairs_len}
use Rattle.plain_term.specs.Tree.{Tree as tree}
use Rattle.plain_term.specs.Tree.Pairs.{stop, pair}
use Rattle.term_tags.specs.declared.layouts.TheConstants.{MOST_KEYS}
use Rattle.term_words.specs.Role.{always}
use Rattle.term_words.specs.Stands.{Stands}
use Rattle.term_words.specs.Object.{IsSmallAs}
use Rattle.plain_term.specs.Tree.Trees.{end}
use Rattle.plain_term.specs.InOrder.{in_order}
use Rattle.term_tags.specs.Words.{boxed_word}
use Rattle.item_build.proofs.Meaning.Bytes.{bytes-len}
use Rattle.term_words.proofs.ByKind.Makes.{all-length, stands-small}
use Rattle.term_build.specs.Taken.{IsFree}
use Rattle.term_build.specs.Grows.{Grows, Built}
use Rattle.term_build.specs.Clear.{Uses}
use Rattle.term_build.proofs.Growing.{grows-none}
use Rattle.term_build.proofs.Rooms.{uses-none}
use Rattle.term_maps.specs.Stops.{has_beyond, why_not}
use Rattle.term_maps.specs.declared.maps.MapStop.TheVariants as why
use Rattle.term_maps.specs.Given.{CanMap, MapIsMade, KeysWithin, PairsStand, word_pairs}
use Rattle.plain_term.proofs.Putting.{in-order-few}
use Rattle.item_build.specs.Reading.{IsItem, all_of, is_byte, is_object, is_word, bin_of_items, bytes_in, long_bins, map_of, near_words, paired, is_big_item, parts_after, read_item, tree_where, tree_with}
use Rattle.item_build.specs.Building.{AreMarks, CanPut, FitsWord, HasNoBigKey, HeldStand, HolderStands, IsLeaf, MarkBuilt, MarksBuilt, UsesSome, holds_wide}
use Rattle.item_build.proofs.Turned.Marks.{in_turn, keep-marks, marks-more, marks-split, named-all, named-paired, narrow-all, paired-few, turns-big, turns-marks, twos-stand, wide-none}

-- Words that were taken are some of more words.
pub uses-some : (m n : ℕ) (x y : Room) (mem mem2 : List ℕ) → Uses m x y mem mem2 → m ≤ n → UsesSome n x y mem mem2
uses-some m n x y mem mem2 u few = record { used = m; few = few; uses = u }

pub uses-nothing : (n : ℕ) (x : Room) (mem : List ℕ) → UsesSome n x x mem mem
uses-nothing n x mem = uses-some 0 n x x mem mem (uses-none x mem) (omega arith)

-- An object of m words was built.
pub built-mark : (c : ℕ → ℕ → Bool) (m : ℕ) (x y : Room) (mem mem2 : List ℕ) (shared : List (List ℕ)) (w : ℕ) (t : Tree) → Uses m x y mem mem2 → Built c x.top m mem mem2 shared w t
    → MarkBuilt c x.top (y.top - x.top) mem mem2 shared w (Some t)
built-mark c m x y mem mem2 shared w t u b =
    let same : m ≡ y.top - x.top = omega (arith, u.moved) in
    let P : ℕ → Type 0 = λ n. Grows c b.test x.top n mem mem2 in
    record { test = b.test; grows = subst P same b.grows; made = b.made }

-- None was.

pub grows-nothing : (c : ℕ → ℕ → Bool) (top : ℕ) (mem : List ℕ) → Grows c c top (top - top) mem mem
grows-nothing c top mem =
    let same : 0 ≡ top - top = omega arith in
    let P : ℕ → Type 0 = λ n. Grows c c top n mem mem in
    subst P same (grows-none c top mem)

pub there-mark : (c : ℕ → ℕ → Bool) (x : Room) (mem : List ℕ) (shared : List (List ℕ)) (w : ℕ) (t : Tree) → Stands c shared mem w t → MarkBuilt c x.top (x.top - x.top) mem mem shared w (Some t)
there-mark c x mem shared w t s = record { test = c; grows = grows-nothing c x.top mem; made = s }

pub wide-mark : (c : ℕ → ℕ → Bool) (x : Room) (mem : List ℕ) (shared : List (List ℕ)) (w : ℕ) (m : Option Tree) → w ≡ 0 → m ≡ None → MarkBuilt c x.top (x.top - x.top) mem mem shared w m
wide-mark c x mem shared w m zero_word none =
    let P : Option Tree → Type 0 = λ z. MarkBuilt c x.top (x.top - x.top) mem mem shared w z in
    subst P (sym none) (record { test = c; grows = grows-nothing c x.top mem; made = zero_word })

-- The room of another name.
pub at-room : (c : ℕ → ℕ → Bool) (x y : Room) (mem mem2 : List ℕ) (shared : List (List ℕ)) (w : ℕ) (m : Option Tree) → y ≡ x → mem2 ≡ mem
    → MarkBuilt c x.top (x.top - x.top) mem mem shared w m → MarkBuilt c x.top (y.top - x.top) mem mem2 shared w m
at-room c x y mem mem2 shared w m room words b =
    let P : Room → Type 0 = λ z. MarkBuilt c x.top (z.top - x.top) mem mem2 shared w m in
    let Q : List ℕ → Type 0 = λ z. MarkBuilt c x.top (x.top - x.top) mem z shared w m in
    subst P (sym room) (subst Q (sym words) b)

module _ (names : List (List ℕ)) (held n : ℕ) (room : Room) (mem ws : List ℕ) (can : CanPut (length names) held room mem ws (Map n)) (exact : length ws ≡ 2 * n) where
  -- The map of these words can be made, as far as the keys go.
  pub can-map : holds_wide ws ≡ false → CanMap names room mem (word_pairs ws)
  can-map narrow =
      let all = narrow-all always can.shared mem ws can.marks can.standing narrow in
      let few : pairs_len (paired all.0) ≤ n = paired-few all.0 n (sym (all-length always can.shared mem ws all.0 all.1.1) ∙ exact) in
      let fewer : pairs_len (in_order names can.shared (paired all.0)) ≤ pairs_len (paired all.0) = in-order-few names can.shared (paired all.0) in
      record {
        shared = can.shared;
        given = paired all.0;
        standing = twos-stand always can.shared mem ws all.0 all.1.1;
        named = named-paired (length names) all.0 (named-all (length names) can.marks all.0 can.named all.1.0);
        fits = λ most. omega (arith, can.words, few, fewer);
      }

  pub keys-within : HasNoBigKey mem ws (Map n) → KeysWithin mem (word_pairs ws)
  keys-within none = record { each = λ c shared given stand. sym (turns-big shared given) ∙ none.each c shared (in_turn given) (turns-marks c shared mem ws given n exact stand) }

-- No more pairs stand in turn than half of the words.
pub pairs-many : (c : ℕ → ℕ → Bool) (shared : List (List ℕ)) (mem ws : List ℕ) (ps : Pairs) → PairsStand c shared mem (word_pairs ws) ps → 2 * pairs_len ps ≤ length ws
unfolding PairsStand
pairs-many c shared mem [] stop all = omega arith
pairs-many c shared mem [] (pair k v ps) all = absurd all
pairs-many c shared mem (w ∷ []) stop all = omega arith
pairs-many c shared mem (w ∷ []) (pair k v ps) all = absurd all
pairs-many c shared mem (w ∷ x ∷ ws) stop all = absurd all
pairs-many c shared mem (w ∷ x ∷ ws) (pair k v ps) all = omega (arith, pairs-many c shared mem ws ps all.1)

-- Of pairs with no key beyond the limit there is a map, or there are too many keys.

is-map : (beyond many : Bool) (ps : Pairs) → (if beyond then Some why.Big else (if many then Some why.Size else None)) ≡ None → (if many then None else Some (tree.Map ps)) ≡ Some (tree.Map ps)
is-map true many ps e = absurd cc
is-map false true ps e = absurd cc
is-map false false ps e = refl

too-many : (beyond many : Bool) (ps : Pairs) → (if beyond then Some why.Big else (if many then Some why.Size else None)) ≡ Some why.Size → (if many then None else Some (tree.Map ps)) ≡ None
too-many true many ps e = absurd cc
too-many false true ps e = refl
too-many false false ps e = absurd cc

pub made-map : (c : ℕ → ℕ → Bool) (names shared : List (List ℕ)) (given : Pairs) (x y : Room) (mem mem2 : List ℕ) (w : ℕ) → MapIsMade c names shared given x y mem mem2 w
    → IsFree c x.top (x.top + (4 + 2 * pairs_len given)) → MarkBuilt c x.top (y.top - x.top) mem mem2 shared w (map_of names shared given)
made-map c names shared given x y mem mem2 w made free =
    let fewer : pairs_len (in_order names shared given) ≤ pairs_len given = in-order-few names shared given in
    let P : Option Tree → Type 0 = λ z. MarkBuilt c x.top (y.top - x.top) mem mem2 shared w z in
    let b = built-mark c (4 + 2 * pairs_len (in_order names shared given)) x y mem mem2 shared w (tree.Map (in_order names shared given)) made.uses
    (made.built (λ a k h. elim (free a k h) [ inl low ↦ inl low | inr high ↦ inr (omega (arith, high, fewer)) ])) in
    subst P (sym (is-map (has_beyond shared given) (nat_lt MOST_KEYS (pairs_len (in_order names shared given))) (in_order names shared given) made.none)) b

pub no-map : (names shared : List (List ℕ)) (given : Pairs) → why_not names shared given ≡ Some why.Size → map_of names shared given ≡ None
no-map names shared given is = too-many (has_beyond shared given) (nat_lt MOST_KEYS (pairs_len (in_order names shared given))) (in_order names shared given) is

-- Fewer words are free where more are.
pub fewer-free : (c : ℕ → ℕ → Bool) (top n m : ℕ) → m ≤ n → IsFree c top (top + n) → IsFree c top (top + m)
fewer-free c top n m few free = λ a k h. elim (free a k h) [ inl low ↦ inl low | inr high ↦ inr (omega (arith, high, few)) ]

-- An integer fits its type.
pub int-kept : (i : ℤ) → magnitude i < 2 ^ 127 → to_z w128 (of_z w128 i) ≡ i
int-kept (pos n) s = to_z-of_z w128 (pos n) (omega (arith, ints, s))
int-kept (negsuc n) s = to_z-of_z w128 (negsuc n) (omega (arith, ints, s))

pub int-mark : (c : ℕ → ℕ → Bool) (j i : ℤ) (x y : Room) (mem mem2 : List ℕ) (shared : List (List ℕ)) (w : ℕ) → j ≡ i → Uses (int_flat j) x y mem mem2
    → (IsFree c x.top (x.top + int_flat j) → Built c x.top (int_flat j) mem mem2 shared w (tree.Int j)) → IsFree c x.top (x.top + int_flat i)
    → MarkBuilt c x.top (y.top - x.top) mem mem2 shared w (Some (tree.Int i))
int-mark c j i x y mem mem2 shared w same u built free =
    let P : ℤ → Type 0 = λ z. MarkBuilt c x.top (y.top - x.top) mem mem2 shared w (Some (tree.Int z)) in
    let Q : ℤ → Type 0 = λ z. IsFree c x.top (x.top + int_flat z) in
    subst P same (built-mark c (int_flat j) x y mem mem2 shared w (tree.Int j) u (built (subst Q (sym same) free)))

-- Where a part is wide, so is the whole.
pub whole-wide : (c : ℕ → ℕ → Bool) (names shared : List (List ℕ)) (trees : List Tree) (mem ws : List ℕ) (ms : List (Option Tree)) (x : Item) (xs : List Item) → AreMarks c shared mem ws ms
    → holds_wide ws ≡ true → tree_where names shared trees x xs (all_of ms) ≡ None
whole-wide c names shared trees mem ws ms x xs all wide = ap (tree_where names shared trees x xs) (wide-none c shared mem ws ms all wide)

-- The word of an item stands before the others.
pub marks-put : (c : ℕ → ℕ → Bool) (top n : ℕ) (old new : List ℕ) (shared : List (List ℕ)) (w : ℕ) (rest row : List ℕ) (m : Option Tree) (ms : List (Option Tree)) → row ≡ w ∷ rest
    → MarkBuilt c top n old new shared w m → AreMarks c shared old rest ms → MarksBuilt c top n old new shared row (m ∷ ms)
marks-put c top n old new shared w rest row m ms is b all =
    let P : List ℕ → Type 0 = λ x. AreMarks b.test shared new x (m ∷ ms) in
    record {
      test = b.test;
      grows = b.grows;
      made = subst P (sym is) (marks-more b.test shared new w rest m ms b.made (keep-marks c b.test old new b.grows.kept shared rest ms all));
    }

-- The words of the parts that an item takes off, and those that are left.
pub parts-split : (c : ℕ → ℕ → Bool) (shared : List (List ℕ)) (mem row : List ℕ) (sp n p : ℕ) (ms : List (Option Tree)) → p ≡ n → n ≤ length (drop sp row)
    → AreMarks c shared mem (drop sp row) ms → AreMarks c shared mem (slice_range row sp (sp + p)) (take n ms) × AreMarks c shared mem (drop (sp + p) row) (drop n ms)
parts-split c shared mem row sp n p ms same fits all =
    let P : List ℕ → Type 0 = λ x. AreMarks c shared mem x ms in
    let cut : drop sp row ≡ slice_range row sp (sp + p) ++ drop (sp + p) row = drop_split row sp (sp + p) (omega arith) in
    let len : length (slice_range row sp (sp + p)) ≡ n = length-take (sp + p - sp) (drop sp row) ∙ omega (arith, same, fits) in
    marks-split c shared mem (slice_range row sp (sp + p)) (drop (sp + p) row) ms n len (subst P cut all)

-- The holder of a long binary is its word.
pub long-word : (c : ℕ → ℕ → Bool) (x : Room) (mem : List ℕ) (shared : List (List ℕ)) (w bin n : ℕ) (xs : List Item) → 64 < n → w ≡ boxed_word bin
    → HolderStands c shared mem bin (Bin n) (long_bins xs) → MarkBuilt c x.top (x.top - x.top) mem mem shared w (Some (bin_of_items shared n xs))
long-word c x mem shared w bin n xs long is holder =
    let e : nat_lt 64 n ≡ true = lt-ltb 64 n long in
    let P : ℕ → Type 0 = λ z. Stands c shared mem z (tree.Shared (length shared - long_bins xs)) in
    let tree_is : bin_of_items shared n xs ≡ tree.Shared (length shared - long_bins xs) = rw e refl in
    let Q : Tree → Type 0 = λ z. MarkBuilt c x.top (x.top - x.top) mem mem shared w (Some z) in
    subst Q (sym tree_is) (there-mark c x mem shared w (tree.Shared (length shared - long_bins xs)) (subst P (sym is) (holder.stands e)))

-- A short binary is built of its bytes.
pub short-word : (c : ℕ → ℕ → Bool) (x y : Room) (mem mem2 : List ℕ) (shared : List (List ℕ)) (w n : ℕ) (xs : List Item) (bytes : List ℕ) → n ≤ 64 → n ≤ length xs → bytes ≡ bytes_in n xs
    → Uses (2 + bin_words (length bytes)) x y mem mem2
    → (IsFree c x.top (x.top + (2 + bin_words (length bytes))) → Built c x.top (2 + bin_words (length bytes)) mem mem2 shared w (tree.Bin bytes))
    → IsFree c x.top (x.top + near_words n) → MarkBuilt c x.top (y.top - x.top) mem mem2 shared w (Some (bin_of_items shared n xs))
short-word c x y mem mem2 shared w n xs bytes short inside is u built free =
    let e : nat_lt 64 n ≡ false = le-ltb 64 n short in
    let len : length bytes ≡ n = ap length is ∙ bytes-len n xs inside in
    let words : near_words n ≡ 2 + bin_words (length bytes) = near-is n e ∙ ap (λ z. 2 + bin_words z) (sym len) in
    let F : ℕ → Type 0 = λ z. IsFree c x.top (x.top + z) in
    let tree_is : bin_of_items shared n xs ≡ tree.Bin bytes = bin-is e ∙ ap tree.Bin (sym is) in
    let Q : Tree → Type 0 = λ z. MarkBuilt c x.top (y.top - x.top) mem mem2 shared w (Some z) in
    subst Q (sym tree_is) (built-mark c (2 + bin_words (length bytes)) x y mem mem2 shared w (tree.Bin bytes) u (built (subst F words free)))
  where
    near-is : (n : ℕ) → nat_lt 64 n ≡ false → near_words n ≡ 2 + bin_words n
    near-is n e = rw e refl

    bin-is : nat_lt 64 n ≡ false → bin_of_items shared n xs ≡ tree.Bin (bytes_in n xs)
    bin-is e = rw e refl

-- A small integer is a word.
pub leaf-small : (held : List ℕ) (i j : ℤ) (r : Option ℕ) → j ≡ i → IfSome r (λ w. IsSmallAs w j) → IfSome r (λ w. IsLeaf held (Int i) w)
leaf-small held i j None same s = tt
leaf-small held i j (Some w) same s =
    let P : ℤ → Type 0 = λ z. IsSmallAs w z in
    let is : IsSmallAs w i = subst P same s in
    record {
      parts = refl;
      term = refl;
      small = λ shared ms. refl;
      stands = λ k names shared mem trees xs h. stands-small k shared mem w i is.small is.word;
    }

-- A word is put before terms.
pub leaf-marks : (c : ℕ → ℕ → Bool) (names shared : List (List ℕ)) (trees : List Tree) (x : Item) (xs : List Item) (room : Room) (mem held : List ℕ) (w : ℕ) (rest row : List ℕ)
    (ms : List (Option Tree))
    → IsLeaf held x w → HeldStand c shared mem held trees → row ≡ w ∷ rest → AreMarks c shared mem rest ms
    → (is_big_item shared x (take (parts_after x) ms) ≡ false) × MarksBuilt c room.top (room.top - room.top) mem mem shared row (read_item names shared trees x xs ms)
leaf-marks c names shared trees x xs room mem held w rest row ms leaf h is all =
    let P : Bool → Type 0 = λ b. MarksBuilt c room.top (room.top - room.top) mem mem shared row
    (if b then ms else tree_where names shared trees x xs (all_of (take (parts_after x) ms)) ∷ drop (parts_after x) ms) in
    let Q : ℕ → Type 0 = λ n. MarksBuilt c room.top (room.top - room.top) mem mem shared row (tree_where names shared trees x xs (all_of (take n ms)) ∷ drop n ms) in
    let R : List ℕ → Type 0 = λ ws. AreMarks c shared mem ws (tree_with names shared trees x xs end ∷ ms) in (
      leaf.small shared (take (parts_after x) ms),
      subst P (sym leaf.term) (subst Q (sym leaf.parts) (record {
        test = c;
        grows = grows-nothing c room.top mem;
        made = subst R (sym is) (marks-more c shared mem w rest (tree_with names shared trees x xs end) ms (leaf.stands c names shared mem trees xs h) all);
      })),
    )

pub item-fits : (names held : ℕ) (x : Item) → IsItem names held x → FitsWord held x
item-fits names held (Int i) is = is
item-fits names held (Atom k) is = is.1
item-fits names held (Pid n) is = is
item-fits names held (Held r) is = is
item-fits names held Nil is = tt
item-fits names held Cons is = tt
item-fits names held (Tuple n) is = tt
item-fits names held (Map n) is = tt
item-fits names held (Bin n) is = tt
item-fits names held (Byte b) is = tt

pub object-is : (x : Item) → is_byte x ≡ false → is_word x ≡ false → is_object x ≡ true
object-is x a b = rw (a, b) refl
