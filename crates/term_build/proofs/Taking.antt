-- Words are taken for an object under any test: what stood stands still, and the object stands.
use Rattle.std.proofs.Common.{◌≡◌, ℕ, zero, suc, ◌+◌, ◌-◌, ◌*◌, ◌<◌, ◌≤◌, ◌⊎◌, Bool, true, false, List, [], ◌∷◌, length, get_or, refl, sym, ◌∙◌, subst, arith, inl, inr, nat_le, nat_lt}
use Rattle.std.proofs.lemmas.Bool.{le-leb}
use Rattle.std.proofs.lemmas.Bool.Decides.{nat_tests}
use Rattle.word_mem.specs.declared.ranges.Room.{Room}
use Rattle.plain_term.specs.Tree.{Tree, Trees, trees_len}
use Rattle.plain_term.specs.Tree.Tree.{Cons, Tuple}
use Rattle.term_tags.specs.Words.{list_word, boxed_word, head_word}
use Rattle.term_tags.specs.declared.layouts.TheConstants.{TUPLE, MOST_PARTS}
use Rattle.term_words.specs.Role.{NEXT, FIRST, FURTHER, IsSingle, OfObject}
use Rattle.term_words.specs.Stands.{Stands, AllStand}
use Rattle.term_words.specs.Kept.{Kept, Keeps}
use Rattle.term_words.proofs.ByKind.Makes.{stands-cons, stands-tuple, row-of-all, all-length}
use Rattle.term_words.proofs.Framing.Frames.{frame, keep-all}
use Rattle.term_build.specs.Grows.{IsPlain}
use Rattle.term_build.specs.Taken.{Taken, Lie, plain, of_holder, of_fun, of_map, with_object}
use Rattle.term_build.specs.Clear.{Uses}

-- Words in a row, one after the other.

pub lie-none : (mem : List ℕ) (p : ℕ) → Lie mem p []
lie-none mem p = record { each = λ j q below e. absurd (omega arith) }

pub lie-first : (mem : List ℕ) (p w : ℕ) (ws : List ℕ) → get_or mem p 0 ≡ w → Lie mem (p + 1) ws → Lie mem p (w ∷ ws)
lie-first mem p w ws first rest = record { each = λ j q below e. at j q below e }
  where
    at : (j q : ℕ) → j < length (w ∷ ws) → q ≡ p + j → get_or mem q 0 ≡ get_or (w ∷ ws) j 0
    at zero q below e = let same : p ≡ q = omega arith in let P : ℕ → Type 0 = λ x. get_or mem x 0 ≡ w in subst P same first
    at (suc j) q below e = rest.each j q (omega arith) (omega arith)

-- Taking words that have no role keeps all content, and so every tree.

pub taken-content : (roles : ℕ → ℕ) (c d : ℕ → ℕ → Bool) (n : ℕ) (old new : Room) (mem mem2 : List ℕ) → Uses n old new mem mem2 → Taken roles c d old.top n → Kept c d mem mem2
taken-content roles c d n old new mem mem2 u t = record { longer = omega (arith, u.same_len); weaker = t.more; same = λ a k content h. u.others a (t.free a k h) }

pub taken-kept : (roles : ℕ → ℕ) (c d : ℕ → ℕ → Bool) (n : ℕ) (old new : Room) (mem mem2 : List ℕ) → Uses n old new mem mem2 → Taken roles c d old.top n → Keeps c d mem mem2
taken-kept roles c d n old new mem mem2 u t = frame c d mem mem2 (taken-content roles c d n old new mem mem2 u t)

plain-after : (j : ℕ) → 0 < j → plain j ≡ FURTHER
plain-after zero some = absurd (omega arith)
plain-after (suc j) some = grind (arith, nat_tests)

-- What the test allows at the taken words but the first.
pub taken-other : (c d : ℕ → ℕ → Bool) (top n q : ℕ) → Taken plain c d top n → top < q → q < top + n → d q FURTHER ≡ true
taken-other c d top n q t above below =
    let P : ℕ → Type 0 = λ k. d q k ≡ true in
    subst P (plain-after (q - top) (omega arith)) (t.new (q - top) q (omega arith) (omega arith))

pub taken-first : (c d : ℕ → ℕ → Bool) (top n : ℕ) → Taken plain c d top n → 0 < n → d top FIRST ≡ true
taken-first c d top n t some = t.new 0 top some (omega arith)

-- A cons at the taken words.
pub cons-made : (c d : ℕ → ℕ → Bool) (top : ℕ) (old new : List ℕ) (h t r : ℕ) → top + 2 ≤ length new → Lie new top (h ∷ t ∷ []) → r ≡ list_word top → Taken plain c d top 2 → Keeps c d old new
    → (shared : List (List ℕ)) (a b : Tree) → Stands c shared old h a → Stands c shared old t b → Stands d shared new r (Cons a b)
cons-made c d top old new h t r inside lie is taken k shared a b sa sb =
    let P : ℕ → Type 0 = λ x. Stands d shared new x a in
    let Q : ℕ → Type 0 = λ x. Stands d shared new x b in
    stands-cons d shared new r top a b is inside (taken-first c d top 2 taken (omega arith)) (taken-other c d top 2 (top + 1) taken (omega arith) (omega arith))
    (subst P (sym (lie.each 0 top (omega arith) (omega arith))) (k.each shared h a sa))
    (subst Q (sym (lie.each 1 (top + 1) (omega arith) refl)) (k.each shared t b sb))

-- A tuple at the taken words.
pub tuple-made : (c d : ℕ → ℕ → Bool) (top n : ℕ) (old new parts : List ℕ) (r : ℕ) → n ≡ length parts → n ≤ MOST_PARTS → top + (1 + n) ≤ length new
    → Lie new top (head_word TUPLE n ∷ parts) → r ≡ boxed_word top → Taken plain c d top (1 + n) → Keeps c d old new → (shared : List (List ℕ)) (ts : Trees) → AllStand c shared old parts ts
    → Stands d shared new r (Tuple ts)
tuple-made c d top n old new parts r count few inside lie is taken k shared ts all =
    let moved : AllStand d shared new parts ts = keep-all c d old new k shared parts ts all in
    let same : length parts ≡ trees_len ts = all-length d shared new parts ts moved in
    let head : get_or new top 0 ≡ head_word TUPLE n = lie.each 0 top (omega arith) (omega arith) in
    stands-tuple d shared new r top ts is (omega arith) (omega arith) (omega arith)
    (taken-first c d top (1 + n) taken (omega arith))
    (λ q above below. taken-other c d top (1 + n) q taken above (omega arith))
    (row-of-all d shared new (top + 1) parts ts moved (λ j below. lie.each (suc j) (top + 1 + j) (omega arith) (omega arith)))

-- The test with an object's roles beside.

pub beside-new : (roles : ℕ → ℕ) (c : ℕ → ℕ → Bool) (top n a k : ℕ) → top ≤ a → a < top + n → with_object roles c top n a k ≡ true → roles (a - top) ≡ k
unfolding with_object
beside-new roles c top n a k from below h = grind (arith, nat_tests)

pub beside-old : (roles : ℕ → ℕ) (c : ℕ → ℕ → Bool) (top n a k : ℕ) → (a < top) ⊎ (top + n ≤ a) → with_object roles c top n a k ≡ c a k
unfolding with_object
beside-old roles c top n a k apart = grind (arith, nat_tests, apart)

new-beside : (roles : ℕ → ℕ) (c : ℕ → ℕ → Bool) (top n j q : ℕ) → j < n → q ≡ top + j → with_object roles c top n q (roles j) ≡ true
unfolding with_object
new-beside roles c top n j q below e =
    let same : q - top ≡ j = omega arith in
    let low : nat_le top q ≡ true = grind (arith, nat_tests) in
    let high : nat_lt q (top + n) ≡ true = grind (arith, nat_tests) in
    rw (same, low, high) (grind (arith, nat_tests))

cut : (top n a : ℕ) → ((a < top) ⊎ (top + n ≤ a)) ⊎ ((top ≤ a) × (a < top + n))
cut top n a =
    let which : (a < top) ⊎ ((top + n ≤ a) ⊎ ((top ≤ a) × (a < top + n))) = grind arith in
    elim which [ inl low ↦ inl (inl low) | inr (inl high) ↦ inl (inr high) | inr (inr inner) ↦ inr inner ]

pub with-object-taken : (roles : ℕ → ℕ) (c : ℕ → ℕ → Bool) (top n : ℕ) → ((a k : ℕ) → c a k ≡ true → (a < top) ⊎ (top + n ≤ a)) → Taken roles c (with_object roles c top n) top n
with-object-taken roles c top n free = record {
  free = free;
  more = λ a k h. beside-old roles c top n a k (free a k h) ∙ h;
  new = λ j q below e. new-beside roles c top n j q below e;
}

pub with-object-single : (roles : ℕ → ℕ) (c : ℕ → ℕ → Bool) (top n : ℕ) → IsSingle c → IsSingle (with_object roles c top n)
with-object-single roles c top n single = record {
  one = λ a j k h l. elim (cut top n a) [
    | inl apart ↦ single.one a j k (sym (beside-old roles c top n a j apart) ∙ h) (sym (beside-old roles c top n a k apart) ∙ l)
    | inr inner ↦ sym (beside-new roles c top n a j inner.0 inner.1 h) ∙ beside-new roles c top n a k inner.0 inner.1 l
  ];
}

pub with-object-within : (roles : ℕ → ℕ) (c : ℕ → ℕ → Bool) (top n a k : ℕ) → with_object roles c top n a k ≡ true → (c a k ≡ true) ⊎ ((top ≤ a) × (a < top + n))
with-object-within roles c top n a k h = elim (cut top n a) [ inl apart ↦ inl (sym (beside-old roles c top n a k apart) ∙ h) | inr inner ↦ inr inner ]

-- New roles are those of the object.
pub with-object-of : (Of : ℕ → Type 0) (roles : ℕ → ℕ) (c : ℕ → ℕ → Bool) (top n a k : ℕ) → ((j : ℕ) → Of (roles j)) → with_object roles c top n a k ≡ true → (c a k ≡ true) ⊎ Of k
with-object-of Of roles c top n a k of_object h = elim (cut top n a) [
  | inl apart ↦ inl (sym (beside-old roles c top n a k apart) ∙ h)
  | inr inside ↦ inr (subst Of (beside-new roles c top n a k inside.0 inside.1 h) (of_object (a - top)))
]

pub plain-object : (j : ℕ) → IsPlain (plain j)
plain-object zero = inl refl
plain-object (suc j) = inr (plain-after (suc j) (omega arith))

-- The roles of a holder and of a fun past the words that have one of their own.

holder-after : (j : ℕ) → 3 < j → of_holder j ≡ FURTHER
holder-after j above = grind (arith, nat_tests)

pub fun-after : (j : ℕ) → 2 < j → of_fun j ≡ FURTHER
fun-after j above = grind (arith, nat_tests)

pub holder-object : (j : ℕ) → OfObject (of_holder j)
holder-object zero = inr (omega arith, omega arith)
holder-object (suc zero) = inr (omega arith, omega arith)
holder-object (suc (suc zero)) = inl refl
holder-object (suc (suc (suc zero))) = inr (omega arith, omega arith)
holder-object (suc (suc (suc (suc j)))) = subst OfObject (sym (holder-after (suc (suc (suc (suc j)))) (omega arith))) (inr (omega arith, omega arith))

pub fun-object : (j : ℕ) → OfObject (of_fun j)
fun-object zero = inr (omega arith, omega arith)
fun-object (suc zero) = inr (omega arith, omega arith)
fun-object (suc (suc zero)) = inl refl
fun-object (suc (suc (suc j))) = subst OfObject (sym (fun-after (suc (suc (suc j))) (omega arith))) (inr (omega arith, omega arith))

-- The word `next` is word 2 of either.

pub holder-next : (j : ℕ) → of_holder j ≡ NEXT → j ≡ 2
holder-next zero e = absurd (omega (arith, e))
holder-next (suc zero) e = absurd (omega (arith, e))
holder-next (suc (suc zero)) e = refl
holder-next (suc (suc (suc zero))) e = absurd (omega (arith, e))
holder-next (suc (suc (suc (suc j)))) e = absurd (omega (arith, e, holder-after (suc (suc (suc (suc j)))) (omega arith)))

pub fun-next : (j : ℕ) → of_fun j ≡ NEXT → j ≡ 2
fun-next zero e = absurd (omega (arith, e))
fun-next (suc zero) e = absurd (omega (arith, e))
fun-next (suc (suc zero)) e = refl
fun-next (suc (suc (suc j))) e = absurd (omega (arith, e, fun-after (suc (suc (suc j))) (omega arith)))

pub with-object-next : (roles : ℕ → ℕ) (c : ℕ → ℕ → Bool) (top n a : ℕ) → ((j : ℕ) → roles j ≡ NEXT → j ≡ 2) → with_object roles c top n a NEXT ≡ true → (c a NEXT ≡ true) ⊎ (a ≡ top + 2)
with-object-next roles c top n a two h = elim (cut top n a) [
  | inl apart ↦ inl (sym (beside-old roles c top n a NEXT apart) ∙ h)
  | inr inside ↦ inr (omega (arith, inside, two (a - top) (beside-new roles c top n a NEXT inside.0 inside.1 h)))
]

-- The words of a map are those of two objects.

map-low : (n j : ℕ) → j ≤ n → of_map n j ≡ plain j
map-low n j low = rw (le-leb j n low) refl

map-high : (n j : ℕ) → of_map n (1 + n + j) ≡ plain j
map-high n j =
    let past : nat_le (1 + n + j) n ≡ false = grind (arith, nat_tests) in
    let back : 1 + n + j - (1 + n) ≡ j = omega arith in
    rw (past, back) refl

pub map-object : (n j : ℕ) → IsPlain (of_map n j)
map-object n j = elim (le-or n j) [ inl low ↦ subst IsPlain (sym (map-low n j low)) (plain-object j) | inr high ↦ subst IsPlain (high-role high) (plain-object (j - (1 + n))) ]
  where
    le-or : (n j : ℕ) → (j ≤ n) ⊎ (n < j)
    le-or n j = grind arith

    high-role : n < j → plain (j - (1 + n)) ≡ of_map n j
    high-role high =
        let back : 1 + n + (j - (1 + n)) ≡ j = omega arith in
        let P : ℕ → Type 0 = λ x. plain (j - (1 + n)) ≡ of_map n x in
        subst P back (sym (map-high n (j - (1 + n))))

pub taken-keys : (c d : ℕ → ℕ → Bool) (top n : ℕ) → Taken (of_map n) c d top (4 + 2 * n) → Taken plain c d top (1 + n)
taken-keys c d top n t = record {
  free = λ a k h. elim (t.free a k h) [ inl low ↦ inl low | inr high ↦ inr (omega arith) ];
  more = t.more;
  new = λ j q below e. let P : ℕ → Type 0 = λ k. d q k ≡ true in subst P (map-low n j (omega arith)) (t.new j q (omega arith) e);
}

pub taken-map : (c d : ℕ → ℕ → Bool) (top n : ℕ) → Taken (of_map n) c d top (4 + 2 * n) → Taken plain c d (top + (1 + n)) (3 + n)
taken-map c d top n t = record {
  free = λ a k h. elim (t.free a k h) [ inl low ↦ inl (omega arith) | inr high ↦ inr (omega arith) ];
  more = t.more;
  new = λ j q below e. let P : ℕ → Type 0 = λ k. d q k ≡ true in subst P (map-high n j) (t.new (1 + n + j) q (omega arith) (omega arith));
}
