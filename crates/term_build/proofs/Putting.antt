-- What a builder's clauses follow from: the words that it wrote, and that its object stands where they are taken.
use Rattle.std.proofs.Common.{◌≡◌, ℕ, zero, suc, ◌+◌, ◌*◌, ◌<◌, ◌≤◌, Bool, List, [], ◌∷◌, ◌++◌, length, replicate, get_or, sym, ◌∙◌, subst, arith, inl}
use Rattle.std.proofs.lemmas.List.{length-append, length-replicate, get_or_append_left, get_or-replicate}
use Rattle.word_mem.specs.declared.ranges.Room.{Room}
use Rattle.plain_term.specs.Tree.{Tree}
use Rattle.term_words.specs.Role.{NEXT, outside, OfObject}
use Rattle.term_words.specs.Stands.{Stands}
use Rattle.term_build.specs.Taken.{Taken, IsFree, Lie, with_object}
use Rattle.term_build.specs.Clear.{Clear, Uses}
use Rattle.term_build.specs.Grows.{Built, BuiltLink, IsPlain}
use Rattle.term_build.proofs.Taking.{with-object-taken}
use Rattle.term_build.proofs.Growing.{grown, grown-link}
use Rattle.term_build.proofs.Rooms.{room-taken, room-moved, uses-then}

-- Where the object stands by every test that takes its words, it is built ..
pub built-by : (roles : ℕ → ℕ) (c : ℕ → ℕ → Bool) (n : ℕ) (old new : Room) (mem mem2 : List ℕ) (shared : List (List ℕ)) (w : ℕ) (t : Tree) → ((j : ℕ) → IsPlain (roles j))
    → IsFree c old.top (old.top + n) → Uses n old new mem mem2 → ((d : ℕ → ℕ → Bool) → Taken roles c d old.top n → Stands d shared mem2 w t) → Built c old.top n mem mem2 shared w t
built-by roles c n old new mem mem2 shared w t of_object free u stands = record {
  test = with_object roles c old.top n;
  grows = grown roles c n old new mem mem2 of_object free u;
  made = stands (with_object roles c old.top n) (with-object-taken roles c old.top n free);
}

pub built-link : (roles : ℕ → ℕ) (c : ℕ → ℕ → Bool) (n : ℕ) (old new : Room) (mem mem2 : List ℕ) (shared : List (List ℕ)) (w : ℕ) (t : Tree) → ((j : ℕ) → OfObject (roles j))
    → ((j : ℕ) → roles j ≡ NEXT → j ≡ 2)
    → IsFree c old.top (old.top + n) → Uses n old new mem mem2 → ((d : ℕ → ℕ → Bool) → Taken roles c d old.top n → Stands d shared mem2 w t) → BuiltLink c old.top n mem mem2 shared w t
built-link roles c n old new mem mem2 shared w t of_object two free u stands = record {
  test = with_object roles c old.top n;
  grows = grown-link roles c n old new mem mem2 of_object two free u;
  made = stands (with_object roles c old.top n) (with-object-taken roles c old.top n free);
}

-- .. and is clear of the room.
pub clear-by : (roles : ℕ → ℕ) (n : ℕ) (old new : Room) (mem mem2 : List ℕ) (shared : List (List ℕ)) (w : ℕ) (t : Tree) → old.top + n ≤ old.end → Uses n old new mem mem2
    → ((d : ℕ → ℕ → Bool) → Taken roles (outside old.top old.end) d old.top n → Stands d shared mem2 w t) → Clear new shared mem2 w t
clear-by roles n old new mem mem2 shared w t fits u stands =
    room-moved n old new mem mem2 (λ d. Stands d shared mem2 w t) u (stands (outside (old.top + n) old.end) (room-taken roles n old.top old.end fits))

-- Words lie still where the next ones are taken.
pub lie-still : (xs : List ℕ) (n : ℕ) (y z : Room) (mem mem2 : List ℕ) (p : ℕ) → y.top ≡ p + length xs → Uses n y z mem mem2 → Lie mem p xs → Lie mem2 p xs
lie-still xs n y z mem mem2 p next u lie = record { each = λ j q below e. u.others q (inl (omega arith)) ∙ lie.each j q below e }

-- Words lie after others.
pub lie-join : (xs ys : List ℕ) (mem : List ℕ) (p q : ℕ) → q ≡ p + length xs → Lie mem p xs → Lie mem q ys → Lie mem p (xs ++ ys)
lie-join [] ys mem p q next a b = let same : q ≡ p = omega arith in let P : ℕ → Type 0 = λ x. Lie mem x ys in subst P same b
lie-join (x ∷ xs) ys mem p q next a b =
    let more : Lie mem (p + 1) (xs ++ ys) = lie-join xs ys mem (p + 1) q (omega arith) (record { each = λ j r below e. a.each (suc j) r (omega arith) (omega arith) }) b in
    record { each = λ j r below e. at more j r below e }
  where
    at : Lie mem (p + 1) (xs ++ ys) → (j r : ℕ) → j < length (x ∷ (xs ++ ys)) → r ≡ p + j → get_or mem r 0 ≡ get_or (x ∷ (xs ++ ys)) j 0
    at more zero r below e = a.each 0 r (omega arith) e
    at more (suc j) r below e = more.each j r (omega arith) (omega arith)

-- The first of joined words, and the last.

pub lie-front : (xs ys : List ℕ) (mem : List ℕ) (p : ℕ) → Lie mem p (xs ++ ys) → Lie mem p xs
lie-front xs ys mem p lie = record {
  each = λ j q below e. lie.each j q (omega (arith, length-append xs ys)) e ∙ get_or_append_left xs ys 0 j below;
}

pub lie-back : (xs ys : List ℕ) (mem : List ℕ) (p q : ℕ) → q ≡ p + length xs → Lie mem p (xs ++ ys) → Lie mem q ys
lie-back [] ys mem p q next lie = let same : p ≡ q = omega arith in let P : ℕ → Type 0 = λ x. Lie mem x ys in subst P same lie
lie-back (x ∷ xs) ys mem p q next lie =
    lie-back xs ys mem (p + 1) q (omega arith) (record { each = λ j r below e. lie.each (suc j) r (omega arith) (omega arith) })

-- The same word n times lies where each word is that one.
pub lie-same : (n i w p : ℕ) (mem : List ℕ) → n ≤ i → ((q j : ℕ) → j < i → q ≡ p + j → get_or mem q 0 ≡ w) → Lie mem p (replicate n w)
lie-same n i w p mem all row = record {
  each = λ j q below e.
      let few : j < n = omega (arith, length-replicate n w) in
      row q j (omega arith) e ∙ sym (get_or-replicate n j w 0 few);
}

-- Words that are taken one after the other.
pub uses-both : (m n : ℕ) (x y z : Room) (mem mem2 mem3 : List ℕ) → Uses m x y mem mem2 → Uses n y z mem2 mem3 → Uses (m + n) x z mem mem3
uses-both m n x y z mem mem2 mem3 a b =
    let turned : n + m ≡ m + n = omega arith in
    let P : ℕ → Type 0 = λ k. Uses k x z mem mem3 in
    subst P turned (uses-then m n x y z mem mem2 mem3 a b)

-- A tuple of keys and the map behind it, written part by part.
pub map-lies : (n h g b : ℕ) (keys values : List ℕ) (x y z u v : Room) (m0 m1 m2 m3 m4 : List ℕ) → length keys ≡ n → length values ≡ n
    → Uses 1 x y m0 m1 → Lie m1 x.top (h ∷ []) → Uses (length keys) y z m1 m2 → Lie m2 y.top keys
    → Uses 3 z u m2 m3 → Lie m3 z.top (g ∷ n ∷ b ∷ []) → Uses (length values) u v m3 m4 → Lie m4 u.top values
    → Uses (4 + 2 * n) x v m0 m4 × (Lie m4 x.top (h ∷ keys) × Lie m4 (x.top + (1 + n)) (g ∷ n ∷ b ∷ values))
map-lies n h g b keys values x y z u v m0 m1 m2 m3 m4 few same u1 l1 u2 l2 u3 l3 u4 l4 =
    let front : Uses (1 + length keys) x z m0 m2 = uses-both 1 (length keys) x y z m0 m1 m2 u1 u2 in
    let back : Uses (3 + length values) z v m2 m4 = uses-both 3 (length values) z u v m2 m3 m4 u3 u4 in
    let all : (1 + length keys) + (3 + length values) ≡ 4 + 2 * n = omega arith in
    let at : z.top ≡ x.top + (1 + n) = omega (arith, front.moved) in
    let P : ℕ → Type 0 = λ k. Uses k x v m0 m4 in
    let Q : ℕ → Type 0 = λ p. Lie m4 p (g ∷ n ∷ b ∷ values) in
    let low : Lie m2 x.top (h ∷ keys) = lie-join (h ∷ []) keys m2 x.top y.top u1.moved (lie-still (h ∷ []) (length keys) y z m1 m2 x.top u1.moved u2 l1) l2 in
    let high : Lie m4 z.top (g ∷ n ∷ b ∷ values) =
    lie-join (g ∷ n ∷ b ∷ []) values m4 z.top u.top u3.moved (lie-still (g ∷ n ∷ b ∷ []) (length values) u v m3 m4 z.top u3.moved u4 l3) l4 in (
      subst P all (uses-both (1 + length keys) (3 + length values) x z v m0 m2 m4 front back),
      (lie-still (h ∷ keys) (3 + length values) z v m2 m4 x.top (omega (arith, front.moved)) back low, subst Q at high),
    )
