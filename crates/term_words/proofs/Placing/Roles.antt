-- The words of a standing object have roles of an object's words, those of a record roles of a record's; so these are apart.
use Rattle.std.proofs.Common.{◌≡◌, ℕ, ◌+◌, ◌*◌, ◌/◌, ◌<◌, ◌≤◌, ◌⊎◌, Bool, true, List, length, refl, sym, subst, arith, inl, inr, ℤ, pos, negsuc}
use Rattle.std.proofs.lemmas.Bool.Decides.{nat_tests}
use Rattle.plain_term.specs.Tree.{Tree, trees_len, pairs_len}
use Rattle.plain_term.specs.Tree.Tree.{Int, Atom, Pid, Ref, Nil, Cons, Tuple, Map, Bin, Shared, Part, Fun}
use Rattle.plain_term.specs.Measures.{bin_words}
use Rattle.term_words.specs.Role.{IsSingle, OfObject, OfRecord}
use Rattle.term_words.specs.Object.{IsObject, IsBoxed, IsInt, IsRecord, IsPointer, object_words}
use Rattle.term_words.specs.Stands.{Stands}
use Rattle.term_words.proofs.Placing.Apart.{IsWhole, whole-apart, whole-bin, whole-fun_record, at-size, words-cons, words-boxed}

-- A place given by its number has the role that is known there.
at-place : (c : ℕ → ℕ → Bool) (q a k : ℕ) → OfObject k → c a k ≡ true → q ≡ a → (r : ℕ) × (OfObject r × (c q r ≡ true))
at-place c q a k small h e = let P : ℕ → Type 0 = λ x. c x k ≡ true in (k, (small, subst P (sym e) h))

-- Each word of a standing object has a role of an object's word.

role-of : (c : ℕ → ℕ → Bool) (mem : List ℕ) (a n q : ℕ) → IsObject c mem a n → a ≤ q → q < a + n → (k : ℕ) × (OfObject k × (c q k ≡ true))
role-of c mem a n q o from below =
    let which : (q ≡ a) ⊎ (a < q) = grind arith in
    elim which [ inl e ↦ at-place c q a 3 (inr (omega arith, omega arith)) o.first e | inr far ↦ at-place c q q 4 (inr (omega arith, omega arith)) (o.others q far below) refl ]

role-boxed : (c : ℕ → ℕ → Bool) (mem : List ℕ) (w subtag arity q : ℕ) → subtag < 16 → IsBoxed c mem w subtag arity → w / 4 ≤ q → q < w / 4 + object_words mem w
    → (k : ℕ) × (OfObject k × (c q k ≡ true))
role-boxed c mem w subtag arity q small o from below =
    role-of c mem (w / 4) (1 + arity) q o.object from (omega (arith, words-boxed mem w arity (subtag * 4) o.tag o.header (omega arith)))

role-int : (c : ℕ → ℕ → Bool) (mem : List ℕ) (w : ℕ) (i : ℤ) (q : ℕ) → IsInt c mem w i → IsPointer w → w / 4 ≤ q → q < w / 4 + object_words mem w → (k : ℕ) × (OfObject k × (c q k ≡ true))
role-int c mem w i q (inl s) p from below = absurd (omega (arith, s.word, p))
role-int c mem w (pos n) q (inr (inl o)) p from below = role-boxed c mem w 2 1 q (omega arith) o.boxed from below
role-int c mem w (negsuc n) q (inr (inl o)) p from below = role-boxed c mem w 3 1 q (omega arith) o.boxed from below
role-int c mem w (pos n) q (inr (inr o)) p from below = role-boxed c mem w 2 2 q (omega arith) o.boxed from below
role-int c mem w (negsuc n) q (inr (inr o)) p from below = role-boxed c mem w 3 2 q (omega arith) o.boxed from below

pub object-role : (c : ℕ → ℕ → Bool) (shared : List (List ℕ)) (mem : List ℕ) (w : ℕ) (t : Tree) (q : ℕ) → Stands c shared mem w t → IsPointer w → w / 4 ≤ q → q < w / 4 + object_words mem w
    → (k : ℕ) × (OfObject k × (c q k ≡ true))
unfolding Stands
object-role c shared mem w (Int i) q s p from below = role-int c mem w i q s p from below
object-role c shared mem w (Ref n k) q s p from below = role-boxed c mem w 4 2 q (omega arith) s.boxed from below
object-role c shared mem w (Cons h t) q (o, sh, st) p from below = role-of c mem (w / 4) 2 q o.object from (omega (arith, words-cons mem w o.tag))
object-role c shared mem w (Tuple ts) q (o, row) p from below = role-boxed c mem w 0 (trees_len ts) q (omega arith) o.boxed from below
object-role c shared mem w (Map ps) q (o, ks, vs) p from below = role-boxed c mem w 15 (pairs_len ps + 2) q (omega arith) o.boxed from below
object-role c shared mem w (Bin bytes) q o p from below = role-boxed c mem w 9 (1 + bin_words (length bytes)) q (omega arith) o.boxed from below
object-role c shared mem w (Shared id) q o p from below =
    let size6 : object_words mem w ≡ 6 = words-boxed mem w 5 32 o.holder.tag o.holder.header (omega arith) in
    let which : (q ≡ w / 4) ⊎ ((q ≡ w / 4 + 1) ⊎ ((q ≡ w / 4 + 2) ⊎ ((q ≡ w / 4 + 3) ⊎ ((q ≡ w / 4 + 4) ⊎ (q ≡ w / 4 + 5))))) = grind arith in
    elim which [
      | inl e ↦ at-place c q (w / 4) 3 (inr (omega arith, omega arith)) o.holder.first e
      | inr (inl e) ↦ at-place c q (w / 4 + 1) 4 (inr (omega arith, omega arith)) o.holder.second e
      | inr (inr (inl e)) ↦ at-place c q (w / 4 + 2) 1 (inl refl) o.holder.next e
      | inr (inr (inr (inl e))) ↦ at-place c q (w / 4 + 3) 5 (inr (omega arith, omega arith)) o.holder.names e
      | inr (inr (inr (inr (inl e)))) ↦ at-place c q (w / 4 + 4) 4 (inr (omega arith, omega arith)) o.holder.fifth e
      | inr (inr (inr (inr (inr e)))) ↦ at-place c q (w / 4 + 5) 4 (inr (omega arith, omega arith)) o.holder.sixth e
    ]
object-role c shared mem w (Part base offset len) q (o, is, sb) p from below = role-boxed c mem w 10 4 q (omega arith) o.boxed from below
object-role c shared mem w (Fun name arity creator env) q (o, row) p from below =
    let words : object_words mem w ≡ 1 + (trees_len env + 5) = words-boxed mem w (trees_len env + 5) 20 o.tag o.header (omega arith) in
    let which : (q ≡ w / 4) ⊎ ((q ≡ w / 4 + 1) ⊎ ((q ≡ w / 4 + 2) ⊎ (w / 4 + 2 < q))) = grind arith in
    elim which [
      | inl e ↦ at-place c q (w / 4) 3 (inr (omega arith, omega arith)) o.first e
      | inr (inl e) ↦ at-place c q (w / 4 + 1) 5 (inr (omega arith, omega arith)) o.names e
      | inr (inr (inl e)) ↦ at-place c q (w / 4 + 2) 1 (inl refl) o.next e
      | inr (inr (inr far)) ↦ at-place c q q 4 (inr (omega arith, omega arith)) (o.others q far (omega arith)) refl
    ]
object-role c shared mem w (Atom k) q s p from below = absurd (omega (arith, s.word, p))
object-role c shared mem w (Pid n) q s p from below = absurd (omega (arith, s.word, p))
object-role c shared mem w Nil q s p from below = absurd (omega (arith, s, p))

-- Its first word has the role of first words.

first-int : (c : ℕ → ℕ → Bool) (mem : List ℕ) (w : ℕ) (i : ℤ) → IsInt c mem w i → IsPointer w → c (w / 4) 3 ≡ true
first-int c mem w i (inl s) p = absurd (omega (arith, s.word, p))
first-int c mem w i (inr (inl o)) p = o.boxed.object.first
first-int c mem w i (inr (inr o)) p = o.boxed.object.first

pub first-role : (c : ℕ → ℕ → Bool) (shared : List (List ℕ)) (mem : List ℕ) (w : ℕ) (t : Tree) → Stands c shared mem w t → IsPointer w → c (w / 4) 3 ≡ true
unfolding Stands
first-role c shared mem w (Int i) s p = first-int c mem w i s p
first-role c shared mem w (Ref n k) s p = s.boxed.object.first
first-role c shared mem w (Cons h t) (o, sh, st) p = o.object.first
first-role c shared mem w (Tuple ts) (o, row) p = o.boxed.object.first
first-role c shared mem w (Map ps) (o, ks, vs) p = o.boxed.object.first
first-role c shared mem w (Bin bytes) o p = o.boxed.object.first
first-role c shared mem w (Shared id) o p = o.holder.first
first-role c shared mem w (Part base offset len) (o, is, sb) p = o.boxed.object.first
first-role c shared mem w (Fun name arity creator env) (o, row) p = o.first
first-role c shared mem w (Atom k) s p = absurd (omega (arith, s.word, p))
first-role c shared mem w (Pid n) s p = absurd (omega (arith, s.word, p))
first-role c shared mem w Nil s p = absurd (omega (arith, s, p))

-- Each word of a record has a role of a record's word.

at-record : (c : ℕ → ℕ → Bool) (q a k : ℕ) → OfRecord k → c a k ≡ true → q ≡ a → (r : ℕ) × (OfRecord r × (c q r ≡ true))
at-record c q a k is h e = let P : ℕ → Type 0 = λ x. c x k ≡ true in (k, (is, subst P (sym e) h))

pub record-role : (c : ℕ → ℕ → Bool) (mem : List ℕ) (v n q : ℕ) → IsRecord c mem v n → v ≤ q → q < v + n → (k : ℕ) × (OfRecord k × (c q k ≡ true))
record-role c mem v n q (inl (serial, bytes, o, words)) from below =
    let which : (q ≡ v) ⊎ ((q ≡ v + 1) ⊎ ((q ≡ v + 2) ⊎ (v + 3 ≤ q))) = grind arith in
    elim which [
      | inl e ↦ at-record c q v 8 (inr (inr refl)) o.first e
      | inr (inl e) ↦ at-record c q (v + 1) 6 (inr (inl refl)) o.second e
      | inr (inr (inl e)) ↦ at-record c q (v + 2) 2 (inl refl) o.counted e
      | inr (inr (inr far)) ↦ at-record c q q 6 (inr (inl refl)) (o.others q far (omega arith)) refl
    ]
record-role c mem v n q (inr (name, arity, o, words)) from below =
    let which : (q ≡ v) ⊎ ((q ≡ v + 1) ⊎ ((q ≡ v + 2) ⊎ (q ≡ v + 3))) = grind arith in
    elim which [
      | inl e ↦ at-record c q v 8 (inr (inr refl)) o.first e
      | inr (inl e) ↦ at-record c q (v + 1) 6 (inr (inl refl)) o.second e
      | inr (inr (inl e)) ↦ at-record c q (v + 2) 2 (inl refl) o.counted e
      | inr (inr (inr e)) ↦ at-record c q (v + 3) 6 (inr (inl refl)) o.fourth e
    ]

whole-record : (c : ℕ → ℕ → Bool) (mem : List ℕ) (v n : ℕ) → IsSingle c → IsRecord c mem v n → IsWhole c 8 v n
whole-record c mem v n single (inl (serial, bytes, o, words)) = at-size c 8 v (4 + bin_words (length bytes)) n words (whole-bin c mem v serial bytes single o)
whole-record c mem v n single (inr (name, arity, o, words)) = at-size c 8 v 4 n words (whole-fun_record c mem v name arity single o)

-- Two records are one or apart.
pub records-apart : (c : ℕ → ℕ → Bool) (mem : List ℕ) (v n u m : ℕ) → IsSingle c → IsRecord c mem v n → IsRecord c mem u m → (v ≡ u) ⊎ ((v + n ≤ u) ⊎ (u + m ≤ v))
records-apart c mem v n u m single a b = whole-apart c 8 v n u m (whole-record c mem v n single a) (whole-record c mem u m single b)

-- No word is one of an object and of a record.
no-common : (c : ℕ → ℕ → Bool) (shared : List (List ℕ)) (mem : List ℕ) (w v n : ℕ) (t : Tree) → IsSingle c → Stands c shared mem w t → IsPointer w → IsRecord c mem v n
    → (q : ℕ) → w / 4 ≤ q → q < w / 4 + object_words mem w → v ≤ q → q < v + n → ⊥
no-common c shared mem w v n t single s p r q from below low high =
    let (k, (of_object, h)) = object-role c shared mem w t q s p from below in
    let (l, (of_record, g)) = record-role c mem v n q r low high in
    let e : k ≡ l = single.one q k l h g in
    omega (arith, of_object, of_record)

-- Two rows of words are apart, or one begins in the other.
meet : (a n b m : ℕ) → (a + n ≤ b) ⊎ ((b + m ≤ a) ⊎ (((a ≤ b) × (b < a + n)) ⊎ ((b ≤ a) × (a < b + m))))
meet a n b m = grind arith

pub object-some : (mem : List ℕ) (w : ℕ) → 0 < object_words mem w
object-some mem w = grind (arith, nat_tests)

pub record-some : (c : ℕ → ℕ → Bool) (mem : List ℕ) (v n : ℕ) → IsRecord c mem v n → 0 < n
record-some c mem v n (inl (serial, bytes, o, words)) = omega arith
record-some c mem v n (inr (name, arity, o, words)) = omega arith

pub object-record-apart : (c : ℕ → ℕ → Bool) (shared : List (List ℕ)) (mem : List ℕ) (w v n : ℕ) (t : Tree) → IsSingle c → Stands c shared mem w t → IsPointer w → IsRecord c mem v n
    → (w / 4 + object_words mem w ≤ v) ⊎ (v + n ≤ w / 4)
object-record-apart c shared mem w v n t single s p r = elim (meet (w / 4) (object_words mem w) v n) [
  | inl far ↦ inl far
  | inr (inl far) ↦ inr far
  | inr (inr (inl (from, below))) ↦ absurd (no-common c shared mem w v n t single s p r v from below (omega arith) (omega (arith, record-some c mem v n r)))
  | inr (inr (inr (low, high))) ↦ absurd (no-common c shared mem w v n t single s p r (w / 4) (omega arith) (omega (arith, object-some mem w)) low high)
]
