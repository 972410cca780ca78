-- No two places of stacks and queues have a word in common: what keeps that.
use Rattle.std.proofs.Common.{◌≡◌, ℕ, zero, suc, ◌+◌, ◌-◌, ◌<◌, ◌≤◌, ◌⊎◌, Bool, List, [], ◌∷◌, ◌++◌, length, get_or, set, remove, refl, sym, ◌∙◌, ap, subst, arith, inl, inr}
use Rattle.plain_machine.specs.State.{Process}
use Rattle.term_words.specs.Counted.{In}
use Rattle.term_words.proofs.Totals.Members.{in-both, in-left, in-right}
use Rattle.two_halves.specs.Stack.{AreApart, IsPlace, IsStack, place_list}
use Rattle.two_halves.specs.Halves.{ProcsStand, all_places, places_of}
use Rattle.two_halves.specs.Rows.{HaveStacks}
use Rattle.two_halves.specs.declared.table.Proc.{Proc}
use Rattle.two_halves.proofs.Standing.Held.{have-stacks}
use Rattle.two_halves.proofs.Standing.Stacks.{AreKept, next-kept}

-- Two places have no word in common.
abbrev pub AreTwo : (p q : ℕ) → Type 0
AreTwo p q = (p + 2 ≤ q) ⊎ (q + 2 ≤ p)

pub places-kept : (c : ℕ → ℕ → Bool) (mem mem2 : List ℕ) (low limit from n : ℕ) → AreKept c mem mem2 low limit → IsStack c mem low limit from n → place_list mem2 from n ≡ place_list mem from n
places-kept c mem mem2 low limit from zero same s = refl
places-kept c mem mem2 low limit from (suc n) same (here, rest) =
    ap (λ z. from ∷ place_list mem2 z n) (next-kept c mem mem2 low limit from same here)
    ∙ ap (λ z. from ∷ z) (places-kept c mem mem2 low limit (get_or mem (from + 1) 0) n same rest)

pub all-kept : (c : ℕ → ℕ → Bool) (mem mem2 : List ℕ) (low limit : ℕ) (ps : List Proc) → AreKept c mem mem2 low limit → HaveStacks c mem low limit ps → all_places mem2 ps ≡ all_places mem ps
all-kept c mem mem2 low limit [] same s = refl
all-kept c mem mem2 low limit (p ∷ ps) same (first, (second, rest)) =
    ap (λ z. (z ++ place_list mem2 p.queue p.waiting) ++ all_places mem2 ps) (places-kept c mem mem2 low limit p.stack p.depth same first)
    ∙ ap (λ z. (place_list mem p.stack p.depth ++ z) ++ all_places mem2 ps) (places-kept c mem mem2 low limit p.queue p.waiting same second)
    ∙ ap (λ z. places_of mem p ++ z) (all-kept c mem mem2 low limit ps same rest)

-- Where the words of places are the same, places are apart still.
pub apart-kept : (c : ℕ → ℕ → Bool) (shared : List (List ℕ)) (mem mem2 : List ℕ) (low limit named : ℕ) (ps : List Proc) (qs : List Process) → AreKept c mem mem2 low limit
    → ProcsStand c shared mem low limit named ps qs → AreApart (all_places mem ps) → AreApart (all_places mem2 ps)
apart-kept c shared mem mem2 low limit named ps qs same s a =
    subst AreApart (sym (all-kept c mem mem2 low limit ps same (have-stacks c shared mem low limit named ps qs s))) a

-- Places lie between the bounds.

pub place-within : (c : ℕ → ℕ → Bool) (mem : List ℕ) (low limit from n q : ℕ) → IsStack c mem low limit from n → In q (place_list mem from n) → IsPlace c low limit q
place-within c mem low limit from zero q s i = absurd i
place-within c mem low limit from (suc n) q (here, rest) (inl e) = subst (IsPlace c low limit) (sym e) here
place-within c mem low limit from (suc n) q (here, rest) (inr i) = place-within c mem low limit (get_or mem (from + 1) 0) n q rest i

pub all-within : (c : ℕ → ℕ → Bool) (mem : List ℕ) (low limit : ℕ) (ps : List Proc) (q : ℕ) → HaveStacks c mem low limit ps → In q (all_places mem ps) → IsPlace c low limit q
all-within c mem low limit [] q s i = absurd i
all-within c mem low limit (p ∷ ps) q (first, (second, rest)) i = elim (in-both q (places_of mem p) (all_places mem ps) i) [
  | inl a ↦ elim (in-both q (place_list mem p.stack p.depth) (place_list mem p.queue p.waiting) a) [
    | inl b ↦ place-within c mem low limit p.stack p.depth q first b
    | inr b ↦ place-within c mem low limit p.queue p.waiting q second b
  ]
  | inr a ↦ all-within c mem low limit ps q rest a
]

-- Lists side by side.

pub apart-both : (xs ys : List ℕ) → AreApart xs → AreApart ys → ((x y : ℕ) → In x xs → In y ys → AreTwo x y) → AreApart (xs ++ ys)
apart-both [] ys a b two = b
apart-both (x ∷ xs) ys (f, a) b two = (
  (λ q i. elim (in-both q xs ys i) [ inl j ↦ f q j | inr j ↦ two x q (inl refl) j ]),
  apart-both xs ys a b (λ z y i j. two z y (inr i) j),
)

pub apart-left : (xs ys : List ℕ) → AreApart (xs ++ ys) → AreApart xs
apart-left [] ys a = tt
apart-left (x ∷ xs) ys (f, a) = ((λ q i. f q (in-left q xs ys i)), apart-left xs ys a)

pub apart-right : (xs ys : List ℕ) → AreApart (xs ++ ys) → AreApart ys
apart-right [] ys a = a
apart-right (x ∷ xs) ys (f, a) = apart-right xs ys a

pub apart-cross : (xs ys : List ℕ) (x y : ℕ) → AreApart (xs ++ ys) → In x xs → In y ys → AreTwo x y
apart-cross [] ys x y a i j = absurd i
apart-cross (z ∷ xs) ys x y (f, a) (inl e) j = let P : ℕ → Type 0 = λ v. AreTwo v y in subst P (sym e) (f y (in-right y xs ys j))
apart-cross (z ∷ xs) ys x y (f, a) (inr i) j = apart-cross xs ys x y a i j

-- Another row, each of whose places is one of the old row, or lies below all others.
module _ (mem : List ℕ) (p d : Proc) (low : ℕ) where
  places-from : (ps : List Proc) (i q : ℕ) → ((x : ℕ) → In x (places_of mem p) → In x (places_of mem (get_or ps i d)) ⊎ (x + 2 ≤ low)) → In q (all_places mem (set ps i p))
      → In q (all_places mem ps) ⊎ (q + 2 ≤ low)
  places-from [] i q from h = absurd h
  places-from (r ∷ ps) zero q from h = elim (in-both q (places_of mem p) (all_places mem ps) h) [
    | inl a ↦ elim (from q a) [ inl b ↦ inl (in-left q (places_of mem r) (all_places mem ps) b) | inr b ↦ inr b ]
    | inr a ↦ inl (in-right q (places_of mem r) (all_places mem ps) a)
  ]
  places-from (r ∷ ps) (suc i) q from h = elim (in-both q (places_of mem r) (all_places mem (set ps i p)) h) [
    | inl a ↦ inl (in-left q (places_of mem r) (all_places mem ps) a)
    | inr a ↦ elim (places-from ps i q from a) [ inl b ↦ inl (in-right q (places_of mem r) (all_places mem ps) b) | inr b ↦ inr b ]
  ]

  pub apart-set : (ps : List Proc) (i : ℕ) → ((x : ℕ) → In x (places_of mem p) → In x (places_of mem (get_or ps i d)) ⊎ (x + 2 ≤ low)) → AreApart (places_of mem p)
      → ((q : ℕ) → In q (all_places mem ps) → low ≤ q) → AreApart (all_places mem ps) → AreApart (all_places mem (set ps i p))
  apart-set [] i from own above a = tt
  apart-set (r ∷ ps) zero from own above a =
      apart-both (places_of mem p) (all_places mem ps) own (apart-right (places_of mem r) (all_places mem ps) a)
      (λ x y i j. elim (from x i) [
        | inl b ↦ apart-cross (places_of mem r) (all_places mem ps) x y a b j
        | inr b ↦ inl (omega (arith, b, above y (in-right y (places_of mem r) (all_places mem ps) j)))
      ])
  apart-set (r ∷ ps) (suc i) from own above a =
      apart-both (places_of mem r) (all_places mem (set ps i p)) (apart-left (places_of mem r) (all_places mem ps) a)
      (apart-set ps i from own (λ q j. above q (in-right q (places_of mem r) (all_places mem ps) j)) (apart-right (places_of mem r) (all_places mem ps) a))
      (λ x y j k. elim (places-from ps i y from k) [
        | inl b ↦ apart-cross (places_of mem r) (all_places mem ps) x y a j b
        | inr b ↦ inr (omega (arith, b, above x (in-left x (places_of mem r) (all_places mem ps) j)))
      ])

pub apart-at : (mem : List ℕ) (ps : List Proc) (i : ℕ) (d : Proc) → i < length ps → AreApart (all_places mem ps) → AreApart (places_of mem (get_or ps i d))
apart-at mem [] i d less a = absurd (omega (arith, less))
apart-at mem (r ∷ ps) zero d less a = apart-left (places_of mem r) (all_places mem ps) a
apart-at mem (r ∷ ps) (suc i) d less a = apart-at mem ps i d (omega (arith, less)) (apart-right (places_of mem r) (all_places mem ps) a)

-- A row with the same places.
pub apart-same : (mem : List ℕ) (ps : List Proc) (i : ℕ) (p old : Proc) → i < length ps → old ≡ get_or ps i old → places_of mem p ≡ places_of mem old → AreApart (all_places mem ps)
    → AreApart (all_places mem (set ps i p))
apart-same mem ps i p old less is same a =
    let here : places_of mem p ≡ places_of mem (get_or ps i old) = same ∙ ap (places_of mem) is in
    apart-set mem p old 0 ps i (λ x j. inl (subst (In x) here j)) (subst AreApart (sym here) (apart-at mem ps i old less a)) (λ q j. omega arith) a

-- A row without the last thing pushed.
pub apart-popped : (mem : List ℕ) (ps : List Proc) (i : ℕ) (p old : Proc) → i < length ps → old ≡ get_or ps i old → (old.depth ≡ 0 → ⊥) → p.stack ≡ get_or mem (old.stack + 1) 0
    → p.depth ≡ old.depth - 1 → place_list mem p.queue p.waiting ≡ place_list mem old.queue old.waiting → AreApart (all_places mem ps) → AreApart (all_places mem (set ps i p))
apart-popped mem ps i p old less is some next fewer queue a = by old.depth refl
  where
    by : (n : ℕ) → old.depth ≡ n → AreApart (all_places mem (set ps i p))
    by zero e = absurd (some e)
    by (suc n) e =
        let depth : p.depth ≡ n = omega (arith, fewer, e) in
        let under : ℕ = get_or mem (old.stack + 1) 0 in
        let stack : place_list mem p.stack p.depth ≡ place_list mem under n = ap (λ z. place_list mem z p.depth) next ∙ ap (place_list mem under) depth in
        let here : places_of mem p ≡ place_list mem under n ++ place_list mem old.queue old.waiting =
        ap (λ z. z ++ place_list mem p.queue p.waiting) stack ∙ ap (λ z. place_list mem under n ++ z) queue in
        let whole : places_of mem (get_or ps i old) ≡ old.stack ∷ (place_list mem under n ++ place_list mem old.queue old.waiting) =
        ap (places_of mem) (sym is) ∙ ap (λ z. place_list mem old.stack z ++ place_list mem old.queue old.waiting) e in
        let all : AreApart (old.stack ∷ (place_list mem under n ++ place_list mem old.queue old.waiting)) = subst AreApart whole (apart-at mem ps i old less a) in
        apart-set mem p old 0 ps i (λ x j. inl (subst (In x) (sym whole) (inr (subst (In x) here j)))) (subst AreApart (sym here) all.1) (λ q j. omega arith) a

-- A row with a place more on its stack, below all others.
pub apart-pushed : (c : ℕ → ℕ → Bool) (mem : List ℕ) (low limit : ℕ) (ps : List Proc) (i : ℕ) (p old : Proc) → i < length ps → old ≡ get_or ps i old → HaveStacks c mem low limit ps
    → p.stack + 2 ≤ low → get_or mem (p.stack + 1) 0 ≡ old.stack → p.depth ≡ old.depth + 1 → place_list mem p.queue p.waiting ≡ place_list mem old.queue old.waiting
    → AreApart (all_places mem ps) → AreApart (all_places mem (set ps i p))
apart-pushed c mem low limit ps i p old less is s below next more queue a =
    let depth : p.depth ≡ suc old.depth = omega (arith, more) in
    let here : places_of mem p ≡ p.stack ∷ places_of mem old =
    ap (λ z. place_list mem p.stack z ++ place_list mem p.queue p.waiting) depth ∙ ap (λ z. p.stack ∷ (place_list mem z old.depth ++ place_list mem p.queue p.waiting)) next
    ∙ ap (λ z. p.stack ∷ (place_list mem old.stack old.depth ++ z)) queue in
    let above : (q : ℕ) → In q (all_places mem ps) → low ≤ q = λ q j. let w = all-within c mem low limit ps q s j in w.above in
    let own : AreApart (places_of mem old) = (let P : Proc → Type 0 = λ z. AreApart (places_of mem z) in subst P (sym is) (apart-at mem ps i old less a)) in
    let inner : (q : ℕ) → In q (places_of mem old) → low ≤ q = λ q j. (let P : Proc → Type 0 = λ z. In q (places_of mem z) in above q (row-in ps i q less (subst P is j))) in
    apart-set mem p old low ps i
    (λ x j. elim (subst (In x) here j) [ inl e ↦ inr (omega (arith, e, below)) | inr k ↦ inl (let P : Proc → Type 0 = λ z. In x (places_of mem z) in subst P is k) ])
    (subst AreApart (sym here) ((λ q j. inl (omega (arith, below, inner q j))), own)) above a
  where
    row-in : (rs : List Proc) (k q : ℕ) → k < length rs → In q (places_of mem (get_or rs k old)) → In q (all_places mem rs)
    row-in [] k q small j = absurd (omega (arith, small))
    row-in (r ∷ rs) zero q small j = in-left q (places_of mem r) (all_places mem rs) j
    row-in (r ∷ rs) (suc k) q small j = in-right q (places_of mem r) (all_places mem rs) (row-in rs k q (omega (arith, small)) j)

-- A row fewer.

removed-in : (mem : List ℕ) (ps : List Proc) (i q : ℕ) → In q (all_places mem (remove ps i)) → In q (all_places mem ps)
removed-in mem [] zero q h = absurd h
removed-in mem [] (suc i) q h = absurd h
removed-in mem (r ∷ ps) zero q h = in-right q (places_of mem r) (all_places mem ps) h
removed-in mem (r ∷ ps) (suc i) q h = elim (in-both q (places_of mem r) (all_places mem (remove ps i)) h) [
  | inl a ↦ in-left q (places_of mem r) (all_places mem ps) a
  | inr a ↦ in-right q (places_of mem r) (all_places mem ps) (removed-in mem ps i q a)
]

pub apart-removed : (mem : List ℕ) (ps : List Proc) (i : ℕ) → AreApart (all_places mem ps) → AreApart (all_places mem (remove ps i))
apart-removed mem [] zero a = tt
apart-removed mem [] (suc i) a = tt
apart-removed mem (r ∷ ps) zero a = apart-right (places_of mem r) (all_places mem ps) a
apart-removed mem (r ∷ ps) (suc i) a =
    apart-both (places_of mem r) (all_places mem (remove ps i)) (apart-left (places_of mem r) (all_places mem ps) a)
    (apart-removed mem ps i (apart-right (places_of mem r) (all_places mem ps) a)) (λ x y j k. apart-cross (places_of mem r) (all_places mem ps) x y a j (removed-in mem ps i y k))

-- A row more that has no places.

pub places-more : (mem : List ℕ) (ps : List Proc) (p : Proc) → p.depth ≡ 0 → p.waiting ≡ 0 → all_places mem (ps ++ p ∷ []) ≡ all_places mem ps
places-more mem [] p flat none = ap (λ z. (place_list mem p.stack z ++ place_list mem p.queue p.waiting) ++ []) flat ∙ ap (λ z. place_list mem p.queue z ++ []) none
places-more mem (r ∷ ps) p flat none = ap (λ z. places_of mem r ++ z) (places-more mem ps p flat none)

pub apart-more : (mem : List ℕ) (ps : List Proc) (p : Proc) → p.depth ≡ 0 → p.waiting ≡ 0 → AreApart (all_places mem ps) → AreApart (all_places mem (ps ++ p ∷ []))
apart-more mem ps p flat none a = subst AreApart (sym (places-more mem ps p flat none)) a
