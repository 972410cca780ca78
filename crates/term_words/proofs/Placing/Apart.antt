-- Two objects that stand by a test with one role a place are one or apart; so are two records, and an
-- object and a record.
use Rattle.std.proofs.Common.{◌≡◌, ℕ, ◌+◌, ◌*◌, ◌/◌, ◌%◌, ◌<◌, ◌≤◌, ◌⊎◌, ◌==◌, Bool, true, false, List, length, get_or, refl, sym, ◌∙◌, subst, arith, inl, inr, ℤ, pos, negsuc}
use Rattle.std.proofs.lemmas.Bool.Decides.{nat_tests}
use Rattle.plain_term.specs.Measures.{bin_words}
use Rattle.plain_term.specs.Tree.{Tree, trees_len, pairs_len}
use Rattle.plain_term.specs.Tree.Tree.{Int, Atom, Pid, Ref, Nil, Cons, Tuple, Map, Bin, Shared, Part, Fun}
use Rattle.term_words.specs.Role.{IsSingle}
use Rattle.term_words.specs.Object.{IsObject, IsBoxed, IsHolder, IsFun, IsInt, IsBinRecord, IsFunRecord, IsPointer, object_words}
use Rattle.term_words.specs.Stands.{Stands}
use Rattle.term_words.proofs.ByKind.Shapes.{told, Told}

-- The words from place p on begin something at p and nowhere else: its first word has role k.
pub record IsWhole (c : ℕ → ℕ → Bool) (k p n : ℕ) : Type 0 where
  pub first : c p k ≡ true
  pub others : (q : ℕ) → p < q → q < p + n → c q k ≡ true → ⊥

cut : (a b : ℕ) → (a ≤ b) ⊎ (b < a)
cut a b = grind arith

pub whole-apart : (c : ℕ → ℕ → Bool) (k p n q m : ℕ) → IsWhole c k p n → IsWhole c k q m → (p ≡ q) ⊎ ((p + n ≤ q) ⊎ (q + m ≤ p))
whole-apart c k p n q m a b =
    let order : (p ≡ q) ⊎ ((p < q) ⊎ (q < p)) = grind arith in
    elim order [
      | inl same ↦ inl same
      | inr (inl less) ↦ inr (inl (elim (cut (p + n) q) [ inl far ↦ far | inr near ↦ absurd (a.others q less near b.first) ]))
      | inr (inr more) ↦ inr (inr (elim (cut (q + m) p) [ inl far ↦ far | inr near ↦ absurd (b.others p more near a.first) ]))
    ]

-- Each kind of object, and each kind of record, is whole.

whole-object : (c : ℕ → ℕ → Bool) (mem : List ℕ) (p n : ℕ) → IsSingle c → IsObject c mem p n → IsWhole c 3 p n
whole-object c mem p n single o = record {
  first = o.first;
  others = λ q above below h.
      let e : 4 ≡ 3 = single.one q 4 3 (o.others q above below) h in
      omega arith;
}

-- A word with another role is no first word.
not-first : (c : ℕ → ℕ → Bool) (a k : ℕ) → IsSingle c → c a k ≡ true → (k ≡ 3 → ⊥) → (q : ℕ) → q ≡ a → c q 3 ≡ true → ⊥
not-first c a k single h other q same first =
    let P : ℕ → Type 0 = λ x. c x 3 ≡ true in
    other (single.one a k 3 h (subst P same first))

whole-holder : (c : ℕ → ℕ → Bool) (mem : List ℕ) (w len : ℕ) → IsSingle c → IsHolder c mem w len → IsWhole c 3 (w / 4) 6
whole-holder c mem w len single o = record {
  first = o.first;
  others = λ q above below h.
      let which : (q ≡ w / 4 + 1) ⊎ ((q ≡ w / 4 + 2) ⊎ ((q ≡ w / 4 + 3) ⊎ ((q ≡ w / 4 + 4) ⊎ (q ≡ w / 4 + 5)))) = grind arith in
      elim which [
        | inl a ↦ not-first c (w / 4 + 1) 4 single o.second (λ e. omega arith) q a h
        | inr (inl a) ↦ not-first c (w / 4 + 2) 1 single o.next (λ e. omega arith) q a h
        | inr (inr (inl a)) ↦ not-first c (w / 4 + 3) 5 single o.names (λ e. omega arith) q a h
        | inr (inr (inr (inl a))) ↦ not-first c (w / 4 + 4) 4 single o.fifth (λ e. omega arith) q a h
        | inr (inr (inr (inr a))) ↦ not-first c (w / 4 + 5) 4 single o.sixth (λ e. omega arith) q a h
      ];
}

whole-fun : (c : ℕ → ℕ → Bool) (mem : List ℕ) (w name arity creator k : ℕ) → IsSingle c → IsFun c mem w name arity creator k → IsWhole c 3 (w / 4) (6 + k)
whole-fun c mem w name arity creator k single o = record {
  first = o.first;
  others = λ q above below h.
      let which : (q ≡ w / 4 + 1) ⊎ ((q ≡ w / 4 + 2) ⊎ (w / 4 + 2 < q)) = grind arith in
      elim which [
        | inl a ↦ not-first c (w / 4 + 1) 5 single o.names (λ e. omega arith) q a h
        | inr (inl a) ↦ not-first c (w / 4 + 2) 1 single o.next (λ e. omega arith) q a h
        | inr (inr far) ↦ not-first c q 4 single (o.others q far below) (λ e. omega arith) q refl h
      ];
}

pub whole-bin : (c : ℕ → ℕ → Bool) (mem : List ℕ) (v serial : ℕ) (bytes : List ℕ) → IsSingle c → IsBinRecord c mem v serial bytes → IsWhole c 8 v (4 + bin_words (length bytes))
whole-bin c mem v serial bytes single o = record {
  first = o.first;
  others = λ q above below h.
      let which : (q ≡ v + 1) ⊎ ((q ≡ v + 2) ⊎ (v + 3 ≤ q)) = grind arith in
      let P : ℕ → Type 0 = λ x. c x 8 ≡ true in
      elim which [
        | inl a ↦ (let e : 6 ≡ 8 = single.one (v + 1) 6 8 o.second (subst P a h) in omega arith)
        | inr (inl a) ↦ (let e : 2 ≡ 8 = single.one (v + 2) 2 8 o.counted (subst P a h) in omega arith)
        | inr (inr far) ↦ (let e : 6 ≡ 8 = single.one q 6 8 (o.others q far below) h in omega arith)
      ];
}

pub whole-fun_record : (c : ℕ → ℕ → Bool) (mem : List ℕ) (v name arity : ℕ) → IsSingle c → IsFunRecord c mem v name arity → IsWhole c 8 v 4
whole-fun_record c mem v name arity single o = record {
  first = o.first;
  others = λ q above below h.
      let which : (q ≡ v + 1) ⊎ ((q ≡ v + 2) ⊎ (q ≡ v + 3)) = grind arith in
      let P : ℕ → Type 0 = λ x. c x 8 ≡ true in
      elim which [
        | inl a ↦ (let e : 6 ≡ 8 = single.one (v + 1) 6 8 o.second (subst P a h) in omega arith)
        | inr (inl a) ↦ (let e : 2 ≡ 8 = single.one (v + 2) 2 8 o.counted (subst P a h) in omega arith)
        | inr (inr a) ↦ (let e : 6 ≡ 8 = single.one (v + 3) 6 8 o.fourth (subst P a h) in omega arith)
      ];
}

-- The size of an object is read from its pointer's tag and its header.

pub words-cons : (mem : List ℕ) (w : ℕ) → w % 4 ≡ 1 → object_words mem w ≡ 2
words-cons mem w tag = grind (arith, nat_tests)

pub words-header : (mem : List ℕ) (w : ℕ) → w % 4 ≡ 2 → object_words mem w ≡ 1 + get_or mem (w / 4) 0 / 64
words-header mem w tag = let two : (w % 4 == 1) ≡ false = grind (arith, nat_tests) in rw two refl

pub words-boxed : (mem : List ℕ) (w arity low : ℕ) → w % 4 ≡ 2 → get_or mem (w / 4) 0 ≡ arity * 64 + low → low < 64 → object_words mem w ≡ 1 + arity
words-boxed mem w arity low tag header small =
    let size : get_or mem (w / 4) 0 / 64 ≡ arity = omega arith in
    grind (arith, nat_tests)

pub at-size : (c : ℕ → ℕ → Bool) (k p n m : ℕ) → m ≡ n → IsWhole c k p n → IsWhole c k p m
at-size c k p n m same o = let P : ℕ → Type 0 = λ x. IsWhole c k p x in subst P (sym same) o

whole-boxed : (c : ℕ → ℕ → Bool) (mem : List ℕ) (w subtag arity : ℕ) → IsSingle c → subtag < 16 → IsBoxed c mem w subtag arity → IsWhole c 3 (w / 4) (object_words mem w)
whole-boxed c mem w subtag arity single small o =
    at-size c 3 (w / 4) (1 + arity) (object_words mem w) (words-boxed mem w arity (subtag * 4) o.tag o.header (omega arith)) (whole-object c mem (w / 4) (1 + arity) single o.object)

whole-int : (c : ℕ → ℕ → Bool) (mem : List ℕ) (w : ℕ) (i : ℤ) → IsSingle c → IsInt c mem w i → w % 4 ≡ 2 → IsWhole c 3 (w / 4) (object_words mem w)
whole-int c mem w i single (inl s) tag = absurd (omega arith)
whole-int c mem w (pos n) single (inr (inl o)) tag = whole-boxed c mem w 2 1 single (omega arith) o.boxed
whole-int c mem w (negsuc n) single (inr (inl o)) tag = whole-boxed c mem w 3 1 single (omega arith) o.boxed
whole-int c mem w (pos n) single (inr (inr o)) tag = whole-boxed c mem w 2 2 single (omega arith) o.boxed
whole-int c mem w (negsuc n) single (inr (inr o)) tag = whole-boxed c mem w 3 2 single (omega arith) o.boxed

-- What a pointer that stands leads to is whole.
pub whole : (c : ℕ → ℕ → Bool) (shared : List (List ℕ)) (mem : List ℕ) (w : ℕ) (t : Tree) → IsSingle c → Stands c shared mem w t → IsPointer w → IsWhole c 3 (w / 4) (object_words mem w)
unfolding Stands
whole c shared mem w (Cons h t) single (o, sh, st) p = at-size c 3 (w / 4) 2 (object_words mem w) (words-cons mem w o.tag) (whole-object c mem (w / 4) 2 single o.object)
whole c shared mem w (Int i) single s p = whole-int c mem w i single s (elim (told c shared mem w (Int i) s) [ inl low ↦ omega (arith, p) | inr big ↦ big.0 ])
whole c shared mem w (Ref n k) single s p = whole-boxed c mem w 4 2 single (omega arith) s.boxed
whole c shared mem w (Tuple ts) single (o, row) p = whole-boxed c mem w 0 (trees_len ts) single (omega arith) o.boxed
whole c shared mem w (Map ps) single (o, ks, vs) p = whole-boxed c mem w 15 (pairs_len ps + 2) single (omega arith) o.boxed
whole c shared mem w (Bin bytes) single o p = whole-boxed c mem w 9 (1 + bin_words (length bytes)) single (omega arith) o.boxed
whole c shared mem w (Shared id) single o p = at-size c 3 (w / 4) 6 (object_words mem w) (words-boxed mem w 5 32 o.holder.tag o.holder.header (omega arith)) (whole-holder c mem w _ single o.holder)
whole c shared mem w (Part base offset len) single (o, is, sb) p = whole-boxed c mem w 10 4 single (omega arith) o.boxed
whole c shared mem w (Fun name arity creator env) single (o, row) p =
    at-size c 3 (w / 4) (6 + trees_len env) (object_words mem w) (words-boxed mem w (trees_len env + 5) 20 o.tag o.header (omega arith) ∙ omega arith)
    (whole-fun c mem w name arity creator (trees_len env) single o)
whole c shared mem w (Atom k) single s p = absurd (omega (arith, p))
whole c shared mem w (Pid n) single s p = absurd (omega (arith, p))
whole c shared mem w Nil single s p = absurd (omega (arith, p))

-- A word that stands is no header, and a boxed one leads to a header.

pub no-header : (t : Tree) (w h : ℕ) → Told t w h → w % 4 ≡ 0 → ⊥
no-header (Int i) w h s e = omega (arith, s)
no-header _ w h s e = omega arith

pub header-there : (t : Tree) (w h : ℕ) → Told t w h → w % 4 ≡ 2 → h % 4 ≡ 0
header-there (Int (pos i)) w h s e = omega (arith, s)
header-there (Int (negsuc i)) w h s e = omega (arith, s)
header-there _ w h s e = omega arith

pub head-no-header : (c : ℕ → ℕ → Bool) (shared : List (List ℕ)) (mem : List ℕ) (w : ℕ) (t : Tree) → Stands c shared mem w t → w % 4 ≡ 1 → get_or mem (w / 4) 0 % 4 ≡ 0 → ⊥
unfolding Stands
head-no-header c shared mem w (Cons h t) (o, sh, st) tag e = no-header h (get_or mem (w / 4) 0) _ (told c shared mem (get_or mem (w / 4) 0) h sh) e
head-no-header c shared mem w (Int i) s tag e = omega (arith, told c shared mem w (Int i) s)
head-no-header c shared mem w (Atom k) s tag e = omega arith
head-no-header c shared mem w (Pid n) s tag e = omega arith
head-no-header c shared mem w Nil s tag e = omega arith
head-no-header c shared mem w t s tag e = absurd (omega (arith, told c shared mem w t s))

never-both : (c : ℕ → ℕ → Bool) (shared : List (List ℕ)) (mem : List ℕ) (w v : ℕ) (t u : Tree) → Stands c shared mem w t → Stands c shared mem v u → w % 4 ≡ 1 → v % 4 ≡ 2 → w / 4 ≡ v / 4 → ⊥
never-both c shared mem w v t u s r a b same =
    let there : get_or mem (v / 4) 0 % 4 ≡ 0 = header-there u v _ (told c shared mem v u r) b in
    let P : ℕ → Type 0 = λ x. get_or mem x 0 % 4 ≡ 0 in
    head-no-header c shared mem w t s a (subst P (sym same) there)

one-pointer : (c : ℕ → ℕ → Bool) (shared : List (List ℕ)) (mem : List ℕ) (w v : ℕ) (t u : Tree) → Stands c shared mem w t → Stands c shared mem v u → IsPointer w → IsPointer v → w / 4 ≡ v / 4 → w ≡ v
one-pointer c shared mem w v t u s r (inl a) (inl b) same = omega arith
one-pointer c shared mem w v t u s r (inr a) (inr b) same = omega arith
one-pointer c shared mem w v t u s r (inl a) (inr b) same = absurd (never-both c shared mem w v t u s r a b same)
one-pointer c shared mem w v t u s r (inr a) (inl b) same = absurd (never-both c shared mem v w u t r s b a (sym same))

-- Two standing objects are one or apart.
pub objects-apart : (c : ℕ → ℕ → Bool) (shared : List (List ℕ)) (mem : List ℕ) (w v : ℕ) (t u : Tree) → IsSingle c → Stands c shared mem w t → Stands c shared mem v u → IsPointer w → IsPointer v
    → (w ≡ v) ⊎ ((w / 4 + object_words mem w ≤ v / 4) ⊎ (v / 4 + object_words mem v ≤ w / 4))
objects-apart c shared mem w v t u single s r p q =
    elim (whole-apart c 3 (w / 4) (object_words mem w) (v / 4) (object_words mem v) (whole c shared mem w t single s p) (whole c shared mem v u single r q)) [
      | inr far ↦ inr far
      | inl same ↦ inl (one-pointer c shared mem w v t u s r p q same)
    ]
