-- A word stands for one tree at most.
use Rattle.std.proofs.Common.{◌≡◌, ℕ, ◌+◌, ◌/◌, Bool, List, length, get_or, refl, sym, ◌∙◌, ap, subst, arith, inl, inr, ℤ, pos, negsuc}
use Rattle.std.proofs.lemmas.Bool.Decides.{nat_tests}
use Rattle.std.proofs.lemmas.List.{ext_get_or}
use Rattle.plain_term.specs.Tree.{Tree, Trees, Pairs, trees_len, pairs_len}
use Rattle.plain_term.specs.Tree.Tree.{Int, Atom, Pid, Ref, Nil, Cons, Tuple, Map, Bin, Shared, Part, Fun}
use Rattle.plain_term.specs.Tree.Trees.{end, ◌▹◌}
use Rattle.plain_term.specs.Tree.Pairs.{stop, pair}
use Rattle.term_words.specs.Object.{BytesLie, IsInt, IsHeapBin}
use Rattle.term_words.specs.Stands.{Stands, RowStands, KeysStand, ValuesStand}
use Rattle.term_words.proofs.ByKind.Shapes.{un-int, told, shape-cons, shape-atom, shape-pid, shape-nil, shape-small, shape-big, shape-ref, shape-tuple, shape-map, shape-bin, shape-shared, shape-part, shape-fun}

int-one : (c d : ℕ → ℕ → Bool) (mem : List ℕ) (w : ℕ) (i j : ℤ) → IsInt c mem w i → IsInt d mem w j → i ≡ j
int-one c d mem w (pos n) (pos m) a b = ap pos (grind (arith, nat_tests, a, b))
int-one c d mem w (negsuc n) (negsuc m) a b = ap negsuc (grind (arith, nat_tests, a, b))
int-one c d mem w (pos n) (negsuc m) a b = absurd (grind (arith, nat_tests, a, b))
int-one c d mem w (negsuc n) (pos m) a b = absurd (grind (arith, nat_tests, a, b))

int-tree : (c d : ℕ → ℕ → Bool) (shared other : List (List ℕ)) (mem : List ℕ) (w : ℕ) (i : ℤ) (u : Tree) → IsInt c mem w i → Stands d other mem w u → (j : ℤ) × (u ≡ Int j) → Int i ≡ u
int-tree c d shared other mem w i u s r (j, e) =
    let P : Tree → Type 0 = λ x. Stands d other mem w x in
    ap Int (int-one c d mem w i j s (un-int d other mem w j (subst P e r))) ∙ sym e

int-single : (c d : ℕ → ℕ → Bool) (shared other : List (List ℕ)) (mem : List ℕ) (w : ℕ) (i : ℤ) (u : Tree) → IsInt c mem w i → Stands d other mem w u → Int i ≡ u
int-single c d shared other mem w i u (inl s) r =
    int-tree c d shared other mem w i u (inl s) r (shape-small u w (get_or mem (w / 4) 0) (told d other mem w u r) (omega arith))
int-single c d shared other mem w (pos n) u (inr (inl o)) r =
    int-tree c d shared other mem w (pos n) u (inr (inl o)) r (shape-big u w (get_or mem (w / 4) 0) (told d other mem w u r) o.boxed.tag (inl (omega arith)))
int-single c d shared other mem w (negsuc n) u (inr (inl o)) r =
    int-tree c d shared other mem w (negsuc n) u (inr (inl o)) r (shape-big u w (get_or mem (w / 4) 0) (told d other mem w u r) o.boxed.tag (inr (omega arith)))
int-single c d shared other mem w (pos n) u (inr (inr o)) r =
    int-tree c d shared other mem w (pos n) u (inr (inr o)) r (shape-big u w (get_or mem (w / 4) 0) (told d other mem w u r) o.boxed.tag (inl (omega arith)))
int-single c d shared other mem w (negsuc n) u (inr (inr o)) r =
    int-tree c d shared other mem w (negsuc n) u (inr (inr o)) r (shape-big u w (get_or mem (w / 4) 0) (told d other mem w u r) o.boxed.tag (inr (omega arith)))

-- Two byte lists that lie at one place and are equally long are one.
bytes-one : (mem : List ℕ) (q : ℕ) (xs ys : List ℕ) → length xs ≡ length ys → BytesLie mem q xs → BytesLie mem q ys → xs ≡ ys
bytes-one mem q xs ys same a b = ext_get_or 0 xs ys same (λ i below.
    sym (a.each i (q + i / 8) (omega arith) refl) ∙ b.each i (q + i / 8) (omega arith) refl)

bin-one : (c d : ℕ → ℕ → Bool) (mem : List ℕ) (w : ℕ) (xs ys : List ℕ) → IsHeapBin c mem w xs → IsHeapBin d mem w ys → xs ≡ ys
bin-one c d mem w xs ys a b = bytes-one mem (w / 4 + 2) xs ys (sym a.size ∙ b.size) a.content b.content

module _ (c d : ℕ → ℕ → Bool) (shared other : List (List ℕ)) (mem : List ℕ) where
  mutual
    unfolding Stands RowStands KeysStand ValuesStand

    pub single : (w : ℕ) (t u : Tree) → Stands c shared mem w t → Stands d other mem w u → t ≡ u
    single w (Int i) u s r = int-single c d shared other mem w i u s r
    single w (Atom k) u s r =
        let (j, e) = shape-atom u w (get_or mem (w / 4) 0) (told d other mem w u r) (omega arith) in
        let P : Tree → Type 0 = λ x. Stands d other mem w x in
        let there : Stands d other mem w (Atom j) = subst P e r in
        ap Atom (omega arith) ∙ sym e
    single w (Pid n) u s r =
        let (j, e) = shape-pid u w (get_or mem (w / 4) 0) (told d other mem w u r) (omega arith) in
        let P : Tree → Type 0 = λ x. Stands d other mem w x in
        let there : Stands d other mem w (Pid j) = subst P e r in
        ap Pid (omega arith) ∙ sym e
    single w (Ref n k) u s r =
        let (m, j, e) = shape-ref u w (get_or mem (w / 4) 0) (told d other mem w u r) s.boxed.tag (omega arith) in
        let P : Tree → Type 0 = λ x. Stands d other mem w x in
        let there : Stands d other mem w (Ref m j) = subst P e r in
        let a : n ≡ m = sym s.number ∙ there.number in
        let b : k ≡ j = sym s.count ∙ there.count in
        ap (λ x. Ref x k) a ∙ ap (λ x. Ref m x) b ∙ sym e
    single w Nil u s r = sym (shape-nil u w (get_or mem (w / 4) 0) (told d other mem w u r) s)
    single w (Cons h t) u (o, sh, st) r =
        let (x, y, e) = shape-cons u w (get_or mem (w / 4) 0) (told d other mem w u r) o.tag in
        let P : Tree → Type 0 = λ z. Stands d other mem w z in
        let there : Stands d other mem w (Cons x y) = subst P e r in
        ap (λ z. Cons z t) (single (get_or mem (w / 4) 0) h x sh there.1) ∙ ap (λ z. Cons x z) (single (get_or mem (w / 4 + 1) 0) t y st there.2) ∙ sym e
    single w (Tuple ts) u (o, row) r =
        let (us, e) = shape-tuple u w (get_or mem (w / 4) 0) (told d other mem w u r) o.boxed.tag (omega arith) in
        let P : Tree → Type 0 = λ z. Stands d other mem w z in
        let there : Stands d other mem w (Tuple us) = subst P e r in
        ap Tuple (single-row (w / 4 + 1) ts us (omega (arith, o.boxed.header, there.0.boxed.header)) row there.1) ∙ sym e
    single w (Map ps) u (o, ks, vs) r =
        let (qs, e) = shape-map u w (get_or mem (w / 4) 0) (told d other mem w u r) o.boxed.tag (omega arith) in
        let P : Tree → Type 0 = λ z. Stands d other mem w z in
        let there : Stands d other mem w (Map qs) = subst P e r in
        ap Map (single-pairs (get_or mem (w / 4 + 2) 0 / 4 + 1) (w / 4 + 3) ps qs (sym o.count ∙ there.0.count) ks vs there.1 there.2) ∙ sym e
    single w (Bin bytes) u s r =
        let (ys, e) = shape-bin u w (get_or mem (w / 4) 0) (told d other mem w u r) s.boxed.tag (omega arith) in
        let P : Tree → Type 0 = λ z. Stands d other mem w z in
        let there : Stands d other mem w (Bin ys) = subst P e r in
        ap Bin (bin-one c d mem w bytes ys s there) ∙ sym e
    single w (Shared id) u s r =
        let (j, e) = shape-shared u w (get_or mem (w / 4) 0) (told d other mem w u r) s.holder.tag (omega arith) in
        let P : Tree → Type 0 = λ z. Stands d other mem w z in
        let there : Stands d other mem w (Shared j) = subst P e r in
        ap Shared (sym s.record_is.owner ∙ there.record_is.owner) ∙ sym e
    single w (Part base offset len) u (o, is, sb) r =
        let (bs, off, n, e) = shape-part u w (get_or mem (w / 4) 0) (told d other mem w u r) o.boxed.tag (omega arith) in
        let P : Tree → Type 0 = λ z. Stands d other mem w z in
        let there : Stands d other mem w (Part bs off n) = subst P e r in
        ap (λ z. Part z offset len) (single (get_or mem (w / 4 + 4) 0) base bs sb there.2) ∙ ap (λ z. Part bs z len) (sym o.start ∙ there.0.start) ∙ ap (λ z. Part bs off z)
        (sym o.size ∙ there.0.size) ∙ sym e
    single w (Fun name arity creator env) u (o, row) r =
        let (m, a, cr, us, e) = shape-fun u w (get_or mem (w / 4) 0) (told d other mem w u r) o.tag (omega arith) in
        let P : Tree → Type 0 = λ z. Stands d other mem w z in
        let there : Stands d other mem w (Fun m a cr us) = subst P e r in
        let e0 : name ≡ m = omega (arith, o.record_is.owner, there.0.record_is.owner, o.record_is.arity_range, there.0.record_is.arity_range) in
        let e1 : arity ≡ a = sym o.arity_word ∙ there.0.arity_word in
        let e2 : creator ≡ cr = omega (arith, o.creator_word, there.0.creator_word) in
        ap (λ z. Fun z arity creator env) e0 ∙ ap (λ z. Fun m z creator env) e1 ∙ ap (λ z. Fun m a z env) e2
        ∙ ap (λ z. Fun m a cr z) (single-row (w / 4 + 6) env us (sym o.size ∙ there.0.size) row there.1) ∙ sym e

    pub single-row : (p : ℕ) (ts us : Trees) → trees_len ts ≡ trees_len us → RowStands c shared mem p ts → RowStands d other mem p us → ts ≡ us
    single-row p end end same row other_row = refl
    single-row p end (u ▹ us) same row other_row = absurd (omega arith)
    single-row p (t ▹ ts) end same row other_row = absurd (omega arith)
    single-row p (t ▹ ts) (u ▹ us) same (first, rest) (one, more) =
        ap (λ z. z ▹ ts) (single (get_or mem p 0) t u first one) ∙ ap (λ z. u ▹ z) (single-row (p + 1) ts us (omega arith) rest more)

    single-pairs : (p q : ℕ) (ps qs : Pairs) → pairs_len ps ≡ pairs_len qs → KeysStand c shared mem p ps → ValuesStand c shared mem q ps → KeysStand d other mem p qs → ValuesStand d other mem q qs
        → ps ≡ qs
    single-pairs p q stop stop same ks vs kt vt = refl
    single-pairs p q stop (pair x y qs) same ks vs kt vt = absurd (omega arith)
    single-pairs p q (pair x y ps) stop same ks vs kt vt = absurd (omega arith)
    single-pairs p q (pair x y ps) (pair a b qs) same (k, ks) (v, vs) (l, ls) (u, us) =
        ap (λ z. pair z y ps) (single (get_or mem p 0) x a k l) ∙ ap (λ z. pair a z ps) (single (get_or mem q 0) y b v u)
        ∙ ap (λ z. pair a b z) (single-pairs (p + 1) (q + 1) ps qs (omega arith) ks vs ls us)
