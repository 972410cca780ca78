-- Lists that one place joins, owners that rise, and places of a table by their numbers.
use Rattle.std.proofs.Common.{◌≡◌, ℕ, zero, suc, ◌+◌, ◌<◌, ◌≤◌, ◌⊎◌, List, [], ◌∷◌, ◌++◌, length, get_or, take, drop, refl, sym, ap, subst, arith, inl, inr}
use Rattle.term_words.specs.Counted.{In, Distinct}
use Rattle.term_words.proofs.Totals.Members.{both-distinct, in-both, in-left, in-right, in-at}
use Rattle.shared_rec.specs.Record.{owner_in}
use Rattle.off_heap_list.specs.Links.{named, naming}
use Rattle.off_heap_list.proofs.Chaining.Chained.{no-naming}
use Rattle.off_heap_list.proofs.Chaining.Exact.{distinct-left, distinct-right}
use Rattle.record_move.specs.Tables.{OwnersRise}

-- The new list has the place and all of the old one.
pub record Joins (v : ℕ) (old new : List ℕ) : Type 0 where
  pub comes : (u : ℕ) → In u new → (u ≡ v) ⊎ In u old
  pub there : In v new
  pub stays : (u : ℕ) → In u old → In u new
  pub once : Distinct old → (In v old → ⊥) → Distinct new

in-same : (u v : ℕ) (xs : List ℕ) → u ≡ v → In u xs → In v xs
in-same u v xs e i = let P : ℕ → Type 0 = λ z. In z xs in subst P e i

pub joins-end : (v : ℕ) (xs : List ℕ) → Joins v xs (xs ++ v ∷ [])
joins-end v xs = record {
  comes = λ u i. elim (in-both u xs (v ∷ []) i) [ inl a ↦ inr a | inr b ↦ elim b [ inl e ↦ inl e | inr n ↦ absurd n ] ];
  there = in-right v xs (v ∷ []) (inl refl);
  stays = λ u i. in-left u xs (v ∷ []) i;
  once = λ d fresh. both-distinct xs (v ∷ []) d ((λ i. i), tt) (λ u i j. elim j [ inl e ↦ fresh (in-same u v xs e i) | inr n ↦ n ]);
}

pub distinct-apart : (xs ys : List ℕ) → Distinct (xs ++ ys) → (u : ℕ) → In u xs → In u ys → ⊥
distinct-apart [] ys d u i j = i
distinct-apart (x ∷ xs) ys (n, d) u (inl e) j = n (in-right x xs ys (in-same u x ys e j))
distinct-apart (x ∷ xs) ys (n, d) u (inr i) j = distinct-apart xs ys d u i j

pub joins-left : (v : ℕ) (xs xs2 ys : List ℕ) → Joins v xs xs2 → Joins v (xs ++ ys) (xs2 ++ ys)
joins-left v xs xs2 ys o = record {
  comes = λ u i. elim (in-both u xs2 ys i) [
    | inl a ↦ elim (o.comes u a) [ inl e ↦ inl e | inr b ↦ inr (in-left u xs ys b) ]
    | inr b ↦ inr (in-right u xs ys b)
  ];
  there = in-left v xs2 ys o.there;
  stays = λ u i. elim (in-both u xs ys i) [ inl a ↦ in-left u xs2 ys (o.stays u a) | inr b ↦ in-right u xs2 ys b ];
  once = λ d fresh. both-distinct xs2 ys (o.once (distinct-left xs ys d) (λ i. fresh (in-left v xs ys i))) (distinct-right xs ys d)
      (λ u i j. elim (o.comes u i) [ inl e ↦ fresh (in-right v xs ys (in-same u v ys e j)) | inr k ↦ distinct-apart xs ys d u k j ]);
}

pub joins-right : (v : ℕ) (xs ys ys2 : List ℕ) → Joins v ys ys2 → Joins v (xs ++ ys) (xs ++ ys2)
joins-right v xs ys ys2 o = record {
  comes = λ u i. elim (in-both u xs ys2 i) [
    | inl a ↦ inr (in-left u xs ys a)
    | inr b ↦ elim (o.comes u b) [ inl e ↦ inl e | inr k ↦ inr (in-right u xs ys k) ]
  ];
  there = in-right v xs ys2 o.there;
  stays = λ u i. elim (in-both u xs ys i) [ inl a ↦ in-left u xs ys2 a | inr b ↦ in-right u xs ys2 (o.stays u b) ];
  once = λ d fresh. both-distinct xs ys2 (distinct-left xs ys d) (o.once (distinct-right xs ys d) (λ i. fresh (in-right v xs ys i)))
      (λ u i j. elim (o.comes u j) [ inl e ↦ fresh (in-left v xs ys (in-same u v xs e i)) | inr k ↦ distinct-apart xs ys d u i k ]);
}

pub joins-middle : (v : ℕ) (xs ys : List ℕ) → Joins v (xs ++ ys) (xs ++ v ∷ ys)
joins-middle v xs ys = joins-right v xs ys (v ∷ ys) (record {
  comes = λ u i. elim i [ inl e ↦ inl e | inr k ↦ inr k ];
  there = inl refl;
  stays = λ u i. inr i;
  once = λ d fresh. (fresh, d);
})

-- Where the owners are the same they rise still, and the table may get one that is above all others.

pub rise-same : (mem mem2 : List ℕ) (vs : List ℕ) → ((u : ℕ) → In u vs → owner_in mem2 u ≡ owner_in mem u) → OwnersRise mem vs → OwnersRise mem2 vs
rise-same mem mem2 [] same r = tt
rise-same mem mem2 (v ∷ vs) same (first, rest) =
    ((λ w i. omega (arith, first w i, same v (inl refl), same w (inr i))), rise-same mem mem2 vs (λ u i. same u (inr i)) rest)

pub rise-end : (mem mem2 : List ℕ) (v : ℕ) (vs : List ℕ) → ((u : ℕ) → In u vs → owner_in mem2 u ≡ owner_in mem u) → ((u : ℕ) → In u vs → owner_in mem u < owner_in mem2 v)
    → OwnersRise mem vs → OwnersRise mem2 (vs ++ v ∷ [])
rise-end mem mem2 v [] same below r = ((λ w i. absurd i), tt)
rise-end mem mem2 v (u ∷ vs) same below (first, rest) = (
  (λ w i. elim (in-both w vs (v ∷ []) i) [
    | inl a ↦ omega (arith, first w a, same u (inl refl), same w (inr a))
    | inr b ↦ elim b [ inl e ↦ omega (arith, below u (inl refl), same u (inl refl), ap (λ z. owner_in mem2 z) e) | inr n ↦ absurd n ]
  ]),
  rise-end mem mem2 v vs (λ w i. same w (inr i)) (λ w i. below w (inr i)) rest,
)

pub rise-middle : (mem mem2 : List ℕ) (v : ℕ) (xs ys : List ℕ) → ((u : ℕ) → In u (xs ++ ys) → owner_in mem2 u ≡ owner_in mem u) → ((u : ℕ) → In u xs → owner_in mem u < owner_in mem2 v)
    → ((u : ℕ) → In u ys → owner_in mem2 v < owner_in mem u) → OwnersRise mem (xs ++ ys) → OwnersRise mem2 (xs ++ v ∷ ys)
rise-middle mem mem2 v [] ys same below above r = ((λ w i. omega (arith, above w i, same w i)), rise-same mem mem2 ys same r)
rise-middle mem mem2 v (u ∷ xs) ys same below above (first, rest) = (
  (λ w i. elim (in-both w xs (v ∷ ys) i) [
    | inl a ↦ omega (arith, first w (in-left w xs ys a), same u (inl refl), same w (inr (in-left w xs ys a)))
    | inr (inl e) ↦ omega (arith, below u (inl refl), same u (inl refl), ap (λ z. owner_in mem2 z) e)
    | inr (inr b) ↦ omega (arith, first w (in-right w xs ys b), same u (inl refl), same w (inr (in-right w xs ys b)))
  ]),
  rise-middle mem mem2 v xs ys (λ w i. same w (inr i)) (λ w i. below w (inr i)) above rest,
)

-- Places of a table by their numbers.

pub rise-pair : (mem : List ℕ) (vs : List ℕ) (i j : ℕ) → i < j → j < length vs → OwnersRise mem vs → owner_in mem (get_or vs i 0) < owner_in mem (get_or vs j 0)
rise-pair mem [] i j less inside r = absurd (omega (arith, inside))
rise-pair mem (v ∷ vs) i zero less inside r = absurd (omega (arith, less))
rise-pair mem (v ∷ vs) zero (suc j) less inside (first, rest) = first (get_or vs j 0) (in-at vs j (omega (arith, inside)))
rise-pair mem (v ∷ vs) (suc i) (suc j) less inside (first, rest) = rise-pair mem vs i j (omega (arith, less)) (omega (arith, inside)) rest

-- A place is one of a table's before a number, or from it on.
pub record Numbered (vs : List ℕ) (u from to : ℕ) : Type 0 where
  pub number : ℕ
  pub above : from ≤ number
  pub below : number < to
  pub inside : number < length vs
  pub is : get_or vs number 0 ≡ u

pub in-take : (vs : List ℕ) (i u : ℕ) → In u (take i vs) → Numbered vs u 0 i
in-take [] zero u h = absurd h
in-take [] (suc i) u h = absurd h
in-take (v ∷ vs) zero u h = absurd h
in-take (v ∷ vs) (suc i) u (inl e) = record { number = 0; above = omega arith; below = omega arith; inside = omega arith; is = sym e }
in-take (v ∷ vs) (suc i) u (inr h) =
    let n = in-take vs i u h in
    record { number = suc n.number; above = omega arith; below = omega (arith, n.below); inside = omega (arith, n.inside); is = n.is }

in-number : (vs : List ℕ) (u : ℕ) → In u vs → Numbered vs u 0 (length vs)
in-number [] u h = absurd h
in-number (v ∷ vs) u (inl e) = record { number = 0; above = omega arith; below = omega arith; inside = omega arith; is = sym e }
in-number (v ∷ vs) u (inr h) =
    let n = in-number vs u h in
    record { number = suc n.number; above = omega arith; below = omega (arith, n.below); inside = omega (arith, n.inside); is = n.is }

pub in-drop : (vs : List ℕ) (i u : ℕ) → In u (drop i vs) → Numbered vs u i (length vs)
in-drop [] zero u h = absurd h
in-drop [] (suc i) u h = absurd h
in-drop (v ∷ vs) zero u h = in-number (v ∷ vs) u h
in-drop (v ∷ vs) (suc i) u h =
    let n = in-drop vs i u h in
    record { number = suc n.number; above = omega (arith, n.above); below = omega (arith, n.below); inside = omega (arith, n.inside); is = n.is }

-- None of the objects names the record.
pub naming-none : (mem : List ℕ) (v : ℕ) (os : List ℕ) → ((p : ℕ) → In p os → named mem p ≡ v → ⊥) → naming mem v os ≡ 0
naming-none mem v [] none = refl
naming-none mem v (p ∷ os) none =
    let which : (named mem p ≡ v) ⊎ ((named mem p < v) ⊎ (v < named mem p)) = grind arith in
    elim which [
      | inl e ↦ absurd (none p (inl refl) e)
      | inr far ↦ omega (arith, no-naming (named mem p) v far, naming-none mem v os (λ q i. none q (inr i)))
    ]

-- One step of halving.
module _ (mem funs : List ℕ) (code m : ℕ) (rise : OwnersRise mem funs) (inside : m < length funs) where
  pub below-there : owner_in mem (get_or funs m 0) < code → (j : ℕ) → j < m + 1 → owner_in mem (get_or funs j 0) < code
  below-there less j under =
      let which : (j < m) ⊎ (j ≡ m) = grind (arith, under) in
      elim which [ inl before ↦ omega (arith, rise-pair mem funs j m before inside rise, less) | inr e ↦ rw e less ]

  pub above-there : code ≤ owner_in mem (get_or funs m 0) → (j : ℕ) → m ≤ j → j < length funs → code ≤ owner_in mem (get_or funs j 0)
  above-there most j over within =
      let which : (m < j) ⊎ (j ≡ m) = grind (arith, over) in
      elim which [ inl after ↦ omega (arith, rise-pair mem funs m j after within rise, most) | inr e ↦ rw e most ]
