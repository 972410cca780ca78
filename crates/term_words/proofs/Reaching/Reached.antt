-- What standing roots reach stands.
use Rattle.std.proofs.Common.{◌≡◌, ℕ, zero, suc, ◌+◌, ◌-◌, ◌*◌, ◌/◌, ◌%◌, ◌<◌, ◌≤◌, Bool, true, false, List, length, get_or, refl, sym, ◌∙◌, ap, subst, arith, inl, inr, ℤ, pos, negsuc, Option, if◌then◌else◌, ◌==◌, nat_le}
use Rattle.std.proofs.lemmas.Bool.Decides.{nat_tests}
use Rattle.plain_term.specs.Measures.{bin_words, int_flat, flat, flat_of_all, flat_of_pairs}
use Rattle.plain_term.specs.Tree.{Tree, Trees, Pairs, trees_len, pairs_len, keys_of, values_of}
use Rattle.plain_term.specs.Tree.Tree.{Int, Atom, Pid, Ref, Nil, Cons, Tuple, Map, Bin, Shared, Part, Fun}
use Rattle.plain_term.specs.Tree.Trees.{end, ◌▹◌}
use Rattle.plain_term.specs.Tree.Pairs.{stop, pair}
use Rattle.term_tags.specs.Table.{layout_for, layout_at, row_layout}
use Rattle.term_tags.specs.declared.layouts.Layout.{Layout}
use Rattle.term_words.specs.Object.{IsTuple, IsInt, IsPointer, object_words}
use Rattle.term_words.specs.Stands.{tree_at, Stands, RowStands, AllStand}
use Rattle.term_words.specs.Reach.{first_of, first_traced, parts_of, Reach, root, part}
use Rattle.term_words.proofs.ByKind.Makes.{all-length}
use Rattle.term_words.proofs.Placing.Apart.{words-cons, words-boxed}
use Rattle.term_words.proofs.ByKind.Pairs.{keys-row, values-row, keys-len, values-len}
use Rattle.term_words.proofs.ByKind.Sizes.{flat-one, flat-two}
use Rattle.term_words.proofs.ByKind.Shapes.{row-at, all-at}

-- The layout of a header is that of its subtag and its arity.
pub layout-parts : (h arity subtag : ℕ) → subtag < 16 → h ≡ arity * 64 + subtag * 4 → layout_for h ≡ layout_at subtag arity
layout-parts h arity subtag small e =
    let low : h % 4 ≡ 0 = omega arith in
    let tag : h / 4 % 16 ≡ subtag = omega arith in
    let size : h / 64 ≡ arity = omega arith in
    rw (low, tag, size) refl

-- A row of the table, where the arity is in its bounds.
row-traced : (arity least most first n : ℕ) → least ≤ arity → arity ≤ most → first_of (row_layout arity least most first) n ≡ first
row-traced arity least most first n low high =
    let a : nat_le least arity ≡ true = grind (arith, nat_tests) in
    let b : nat_le arity most ≡ true = grind (arith, nat_tests) in
    rw (a, b) refl

-- The first traced word of a boxed object.
boxed-traced : (mem : List ℕ) (w subtag arity least most first : ℕ) → w % 4 ≡ 2 → get_or mem (w / 4) 0 ≡ arity * 64 + subtag * 4 → subtag < 16
    → layout_at subtag arity ≡ row_layout arity least most first → least ≤ arity → arity ≤ most → first_traced mem w ≡ first
boxed-traced mem w subtag arity least most first tag header small row low high =
    let two : (w % 4 == 1) ≡ false = grind (arith, nat_tests) in
    let h : ℕ = get_or mem (w / 4) 0 in
    let n : ℕ = object_words mem w in
    let pick : Bool → ℕ = λ b. if b then 0 else first_of (layout_for (get_or mem (w / 4) 0)) (object_words mem w) in
    let read : Option Layout → ℕ = λ l. first_of l (object_words mem w) in
    ap pick two ∙ ap read (layout-parts (get_or mem (w / 4) 0) arity subtag small header ∙ row) ∙ row-traced arity least most first (object_words mem w) low high

pub cons-traced : (mem : List ℕ) (w : ℕ) → w % 4 ≡ 1 → first_traced mem w ≡ 0
cons-traced mem w tag = grind (arith, nat_tests)

-- An object's traced words stand for the parts of its tree, and are its last.

int-traced : (c : ℕ → ℕ → Bool) (mem : List ℕ) (w : ℕ) (i : ℤ) → IsInt c mem w i → IsPointer w → (first_traced mem w ≡ object_words mem w) × (object_words mem w ≡ int_flat i)
int-traced c mem w i (inl s) p = absurd (omega (arith, p))
int-traced c mem w (pos n) (inr (inl o)) p =
    let first : first_traced mem w ≡ 2 = boxed-traced mem w 2 1 1 2 2 o.boxed.tag o.boxed.header (omega arith) refl (omega arith) (omega arith) in
    let words : object_words mem w ≡ 2 = words-boxed mem w 1 8 o.boxed.tag o.boxed.header (omega arith) in
    (first ∙ sym words, words ∙ sym (flat-one (pos n) o.big o.range))
int-traced c mem w (negsuc n) (inr (inl o)) p =
    let first : first_traced mem w ≡ 2 = boxed-traced mem w 3 1 1 2 2 o.boxed.tag o.boxed.header (omega arith) refl (omega arith) (omega arith) in
    let words : object_words mem w ≡ 2 = words-boxed mem w 1 12 o.boxed.tag o.boxed.header (omega arith) in
    (first ∙ sym words, words ∙ sym (flat-one (negsuc n) o.big o.range))
int-traced c mem w (pos n) (inr (inr o)) p =
    let first : first_traced mem w ≡ 3 = boxed-traced mem w 2 2 1 2 3 o.boxed.tag o.boxed.header (omega arith) refl (omega arith) (omega arith) in
    let words : object_words mem w ≡ 3 = words-boxed mem w 2 8 o.boxed.tag o.boxed.header (omega arith) in
    (first ∙ sym words, words ∙ sym (flat-two (pos n) (omega (arith, o.high, o.digits))))
int-traced c mem w (negsuc n) (inr (inr o)) p =
    let first : first_traced mem w ≡ 3 = boxed-traced mem w 3 2 1 2 3 o.boxed.tag o.boxed.header (omega arith) refl (omega arith) (omega arith) in
    let words : object_words mem w ≡ 3 = words-boxed mem w 2 12 o.boxed.tag o.boxed.header (omega arith) in
    (first ∙ sym words, words ∙ sym (flat-two (negsuc n) (omega (arith, o.high, o.digits))))

pub pairs-flat : (ps : Pairs) → flat_of_pairs ps ≡ flat_of_all (keys_of ps) + flat_of_all (values_of ps)
pairs-flat stop = refl
pairs-flat (pair x y ps) = omega (arith, pairs-flat ps)

-- What scanning an object finds: its parts stand in a row, up to its end, and what is left of the flat size is theirs.
pub record IsScanned (c : ℕ → ℕ → Bool) (shared : List (List ℕ)) (mem : List ℕ) (w : ℕ) (t : Tree) : Type 0 where
  pub row : RowStands c shared mem (w / 4 + first_traced mem w) (parts_of t)
  pub ends : first_traced mem w + trees_len (parts_of t) ≡ object_words mem w
  pub left : flat t ≡ object_words mem w + flat_of_all (parts_of t)

at-row : (c : ℕ → ℕ → Bool) (shared : List (List ℕ)) (mem : List ℕ) (p q : ℕ) (ts : Trees) → q ≡ p → RowStands c shared mem p ts → RowStands c shared mem q ts
at-row c shared mem p q ts e row = let P : ℕ → Type 0 = λ x. RowStands c shared mem x ts in subst P (sym e) row

-- Nothing is traced.
leaf : (c : ℕ → ℕ → Bool) (shared : List (List ℕ)) (mem : List ℕ) (w : ℕ) (t : Tree) → parts_of t ≡ end → first_traced mem w ≡ object_words mem w → flat t ≡ object_words mem w
    → IsScanned c shared mem w t
unfolding RowStands
leaf c shared mem w t none first size =
    let P : Trees → Type 0 = λ x. RowStands c shared mem (w / 4 + first_traced mem w) x in
    let len : trees_len (parts_of t) ≡ 0 = ap trees_len none in
    let more : flat_of_all (parts_of t) ≡ 0 = ap flat_of_all none in
    record { row = subst P (sym none) tt; ends = omega arith; left = omega arith }

pub scanned : (c : ℕ → ℕ → Bool) (shared : List (List ℕ)) (mem : List ℕ) (w : ℕ) (t : Tree) → Stands c shared mem w t → IsPointer w → IsScanned c shared mem w t
unfolding Stands RowStands
scanned c shared mem w (Cons h t) (o, sh, st) p =
    let first : first_traced mem w ≡ 0 = cons-traced mem w o.tag in
    let words : object_words mem w ≡ 2 = words-cons mem w o.tag in
    record { row = at-row c shared mem (w / 4) (w / 4 + first_traced mem w) (h ▹ t ▹ end) (omega arith) (sh, (st, tt)); ends = omega arith; left = omega arith }
scanned c shared mem w (Tuple ts) (o, row) p =
    let first : first_traced mem w ≡ 1 = boxed-traced mem w 0 (trees_len ts) 0 65536 1 o.boxed.tag o.boxed.header (omega arith) refl (omega arith) o.range in
    let words : object_words mem w ≡ 1 + trees_len ts = words-boxed mem w (trees_len ts) (0 * 4) o.boxed.tag o.boxed.header (omega arith) in
    record { row = at-row c shared mem (w / 4 + 1) (w / 4 + first_traced mem w) ts (omega arith) row; ends = omega arith; left = omega arith }
scanned c shared mem w (Map ps) (o, ks, vs) p =
    let first : first_traced mem w ≡ 2 = boxed-traced mem w 15 (pairs_len ps + 2) 2 34 2 o.boxed.tag o.boxed.header (omega arith) refl (omega arith) (omega (arith, o.range)) in
    let words : object_words mem w ≡ 1 + (pairs_len ps + 2) = words-boxed mem w (pairs_len ps + 2) 60 o.boxed.tag o.boxed.header (omega arith) in
    let n : ℕ → Type 0 = λ x. IsTuple c mem (get_or mem (w / 4 + 2) 0) x in
    let keys : Stands c shared mem (get_or mem (w / 4 + 2) 0) (Tuple (keys_of ps)) = (subst n (sym (keys-len ps)) o.keys, keys-row c shared mem (get_or mem (w / 4 + 2) 0 / 4 + 1) ps ks) in
    let values : RowStands c shared mem (w / 4 + 2 + 1) (values_of ps) = at-row c shared mem (w / 4 + 3) (w / 4 + 2 + 1) (values_of ps) (omega arith) (values-row c shared mem (w / 4 + 3) ps vs) in
    record {
      row = at-row c shared mem (w / 4 + 2) (w / 4 + first_traced mem w) (Tuple (keys_of ps) ▹ values_of ps) (omega arith) (keys, values);
      ends = omega (arith, values-len ps);
      left = omega (arith, pairs-flat ps, keys-len ps);
    }
scanned c shared mem w (Part base offset len) (o, is, sb) p =
    let first : first_traced mem w ≡ 4 = boxed-traced mem w 10 4 4 4 4 o.boxed.tag o.boxed.header (omega arith) refl (omega arith) (omega arith) in
    let words : object_words mem w ≡ 5 = words-boxed mem w 4 40 o.boxed.tag o.boxed.header (omega arith) in
    record { row = at-row c shared mem (w / 4 + 4) (w / 4 + first_traced mem w) (base ▹ end) (omega arith) (sb, tt); ends = omega arith; left = omega arith }
scanned c shared mem w (Fun name arity creator env) (o, row) p =
    let first : first_traced mem w ≡ 6 = boxed-traced mem w 5 (trees_len env + 5) 5 69 6 o.tag o.header (omega arith) refl (omega arith) (omega (arith, o.range)) in
    let words : object_words mem w ≡ 1 + (trees_len env + 5) = words-boxed mem w (trees_len env + 5) 20 o.tag o.header (omega arith) in
    record { row = at-row c shared mem (w / 4 + 6) (w / 4 + first_traced mem w) env (omega arith) row; ends = omega arith; left = omega arith }
scanned c shared mem w (Int i) s p = let (first, size) = int-traced c mem w i s p in leaf c shared mem w (Int i) refl first (sym size)
scanned c shared mem w (Ref n m) s p =
    let first : first_traced mem w ≡ 3 = boxed-traced mem w 4 2 2 2 3 s.boxed.tag s.boxed.header (omega arith) refl (omega arith) (omega arith) in
    let words : object_words mem w ≡ 3 = words-boxed mem w 2 16 s.boxed.tag s.boxed.header (omega arith) in
    leaf c shared mem w (Ref n m) refl (omega arith) (omega arith)
scanned c shared mem w (Bin bytes) s p =
    let first : first_traced mem w ≡ 1 + (1 + bin_words (length bytes)) =
    boxed-traced mem w 9 (1 + bin_words (length bytes)) 1 9 (1 + (1 + bin_words (length bytes))) s.boxed.tag s.boxed.header (omega arith) refl (omega arith) (omega (arith, s.range)) in
    let words : object_words mem w ≡ 1 + (1 + bin_words (length bytes)) = words-boxed mem w (1 + bin_words (length bytes)) 36 s.boxed.tag s.boxed.header (omega arith) in
    leaf c shared mem w (Bin bytes) refl (first ∙ sym words) (omega arith)
scanned c shared mem w (Shared id) s p =
    let first : first_traced mem w ≡ 6 = boxed-traced mem w 8 5 5 5 6 s.holder.tag s.holder.header (omega arith) refl (omega arith) (omega arith) in
    let words : object_words mem w ≡ 6 = words-boxed mem w 5 32 s.holder.tag s.holder.header (omega arith) in
    leaf c shared mem w (Shared id) refl (omega arith) (omega arith)
scanned c shared mem w (Atom n) s p = absurd (omega (arith, p))
scanned c shared mem w (Pid n) s p = absurd (omega (arith, p))
scanned c shared mem w Nil s p = absurd (omega (arith, p))

-- A tree of a list has at most the flat words of the list.
flat-at : (ts : Trees) (i : ℕ) → i < trees_len ts → flat (tree_at ts i) ≤ flat_of_all ts
flat-at end i below = absurd (omega arith)
flat-at (t ▹ ts) zero below = omega arith
flat-at (t ▹ ts) (suc i) below = omega (arith, flat-at ts i (omega arith))

-- A traced word stands, for a tree within what is left of the flat words.
pub part-stands : (c : ℕ → ℕ → Bool) (shared : List (List ℕ)) (mem : List ℕ) (w : ℕ) (t : Tree) (k : ℕ) → Stands c shared mem w t → IsPointer w → first_traced mem w ≤ k → k < object_words mem w
    → (u : Tree) × (Stands c shared mem (get_or mem (w / 4 + k) 0) u × (flat u ≤ flat t))
part-stands c shared mem w t k s p from below =
    let scan : IsScanned c shared mem w t = scanned c shared mem w t s p in
    let P : ℕ → Type 0 = λ x. Stands c shared mem (get_or mem x 0) (tree_at (parts_of t) (k - first_traced mem w)) in
    let there : w / 4 + first_traced mem w + (k - first_traced mem w) ≡ w / 4 + k = omega arith in
    let among : k - first_traced mem w < trees_len (parts_of t) = omega (arith, scan.ends) in (
      tree_at (parts_of t) (k - first_traced mem w),
      (
        subst P there (row-at c shared mem (w / 4 + first_traced mem w) (parts_of t) (k - first_traced mem w) scan.row among),
        omega (arith, scan.left, flat-at (parts_of t) (k - first_traced mem w) among),
      ),
    )

-- What standing roots reach stands, for a tree within the flat words of theirs.
within : (c : ℕ → ℕ → Bool) (shared : List (List ℕ)) (mem roots : List ℕ) (ts : Trees) → AllStand c shared mem roots ts → (w : ℕ) → Reach mem roots w
    → (u : Tree) × (Stands c shared mem w u × (flat u ≤ flat_of_all ts))
within c shared mem roots ts all w (root i x below e) =
    let P : ℕ → Type 0 = λ x. Stands c shared mem x (tree_at ts i) in
    (tree_at ts i, (subst P (sym e) (all-at c shared mem roots ts i all below), flat-at ts i (omega (arith, all-length c shared mem roots ts all))))
within c shared mem roots ts all w (part v k x r p from below e) =
    let (t, (s, small)) = within c shared mem roots ts all v r in
    let (u, (q, less)) = part-stands c shared mem v t k s p from below in
    let P : ℕ → Type 0 = λ x. Stands c shared mem x u in
    (u, (subst P (sym e) q, omega (arith, small, less)))

pub reached : (c : ℕ → ℕ → Bool) (shared : List (List ℕ)) (mem roots : List ℕ) (ts : Trees) → AllStand c shared mem roots ts → (w : ℕ) → Reach mem roots w → (u : Tree) × Stands c shared mem w u
reached c shared mem roots ts all w r = let (u, (s, small)) = within c shared mem roots ts all w r in (u, s)

-- Each object that standing roots reach has at most the flat words of their trees.
pub reached-words : (c : ℕ → ℕ → Bool) (shared : List (List ℕ)) (mem roots : List ℕ) (ts : Trees) (w : ℕ) → AllStand c shared mem roots ts → Reach mem roots w → IsPointer w
    → object_words mem w ≤ flat_of_all ts
reached-words c shared mem roots ts w all r p =
    let (u, (s, small)) = within c shared mem roots ts all w r in
    omega (arith, small, (scanned c shared mem w u s p).left)
