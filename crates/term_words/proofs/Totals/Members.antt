-- Words in lists without repetition.
use Rattle.std.proofs.Common.{◌≡◌, ℕ, zero, suc, ◌+◌, ◌%◌, ◌<◌, ◌≤◌, ◌⊎◌, Bool, true, List, [], ◌∷◌, ◌++◌, length, get_or, refl, sym, ◌∙◌, ap, subst, arith, inl, inr, filter, cond}
use Rattle.std.proofs.lemmas.Bool.{cases_eq, cases_Bool}
use Rattle.term_words.specs.Object.{IsPointer}
use Rattle.term_words.specs.Counted.{In, Distinct, total}

pub pointer-or-not : (w : ℕ) → IsPointer w ⊎ (IsPointer w → ⊥)
pointer-or-not w =
    elim (cases_eq (w % 4) 1) [
      | inl a ↦ inl (inl a)
      | inr a ↦ elim (cases_eq (w % 4) 2) [ inl b ↦ inl (inr b) | inr b ↦ inr (λ x. elim x [ inl c ↦ a c | inr c ↦ b c ]) ]
    ]

pub in-or-not : (v : ℕ) (us : List ℕ) → In v us ⊎ (In v us → ⊥)
in-or-not v [] = inr (λ i. i)
in-or-not v (u ∷ us) = elim (cases_eq v u) [
  | inl e ↦ inl (inl e)
  | inr n ↦ elim (in-or-not v us) [ inl i ↦ inl (inr i) | inr m ↦ inr (λ x. elim x [ inl e ↦ n e | inr i ↦ m i ]) ]
]

-- A list without a word, which stands in it once at most.
pub record Less (size : ℕ → ℕ) (w : ℕ) (vs : List ℕ) : Type 0 where
  pub rest : List ℕ
  pub once : Distinct rest
  pub inner : (v : ℕ) → In v rest → In v vs × (v ≡ w → ⊥)
  pub words : total size vs ≤ total size rest + size w

pub less : (size : ℕ → ℕ) (w : ℕ) (vs : List ℕ) → Distinct vs → Less size w vs
less size w [] d = record { rest = []; once = tt; inner = λ v i. absurd i; words = omega arith }
less size w (v ∷ vs) (n, d) =
    elim (cases_eq v w) [
      | inl e ↦ record {
        rest = vs;
        once = d;
        inner = λ u i. (inr i, λ f. let P : ℕ → Type 0 = λ z. In z vs in n (subst P (f ∙ sym e) i));
        words = omega (arith, ap size e);
      }
      | inr ne ↦ (let o : Less size w vs = less size w vs d in
          record {
            rest = v ∷ o.rest;
            once = ((λ i. n (o.inner v i).0), o.once);
            inner = λ u i. elim i [ inl e ↦ (inl e, λ f. ne (sym e ∙ f)) | inr j ↦ (inr (o.inner u j).0, (o.inner u j).1) ];
            words = omega (arith, o.words);
          })
    ]

-- Lists side by side.

pub in-both : (v : ℕ) (xs zs : List ℕ) → In v (xs ++ zs) → In v xs ⊎ In v zs
in-both v [] zs i = inr i
in-both v (a ∷ xs) zs (inl e) = inl (inl e)
in-both v (a ∷ xs) zs (inr i) = elim (in-both v xs zs i) [ inl z ↦ inl (inr z) | inr z ↦ inr z ]

pub in-at : (vs : List ℕ) (i : ℕ) → i < length vs → In (get_or vs i 0) vs
in-at [] i less = absurd (omega (arith, less))
in-at (v ∷ vs) zero less = inl refl
in-at (v ∷ vs) (suc i) less = inr (in-at vs i (omega (arith, less)))

pub in-left : (v : ℕ) (xs zs : List ℕ) → In v xs → In v (xs ++ zs)
in-left v [] zs i = absurd i
in-left v (a ∷ xs) zs (inl e) = inl e
in-left v (a ∷ xs) zs (inr i) = inr (in-left v xs zs i)

pub in-right : (v : ℕ) (xs zs : List ℕ) → In v zs → In v (xs ++ zs)
in-right v [] zs i = i
in-right v (a ∷ xs) zs i = inr (in-right v xs zs i)

pub both-distinct : (xs zs : List ℕ) → Distinct xs → Distinct zs → ((v : ℕ) → In v xs → In v zs → ⊥) → Distinct (xs ++ zs)
both-distinct [] zs d e n = e
both-distinct (a ∷ xs) zs (f, d) e n = ((λ i. elim (in-both a xs zs i) [ inl z ↦ f z | inr z ↦ n a (inl refl) z ]), both-distinct xs zs d e (λ v i j. n v (inr i) j))

pub both-total : (size : ℕ → ℕ) (xs zs : List ℕ) → total size (xs ++ zs) ≡ total size xs + total size zs
both-total size [] zs = omega arith
both-total size (a ∷ xs) zs = omega (arith, both-total size xs zs)

-- Those of a list that pass a test.

pub in-filter : (f : ℕ → Bool) (v : ℕ) (vs : List ℕ) → In v (filter f vs) → In v vs × (f v ≡ true)
in-filter f v [] i = absurd i
in-filter f v (u ∷ us) i =
    let P : Bool → Type 0 = λ b. In v (cond b (u ∷ filter f us) (filter f us)) in
    elim (cases_Bool (f u)) [
      | inl t ↦ (let j : In v (u ∷ filter f us) = subst P t i in
          elim j [ inl same ↦ (inl same, ap f same ∙ t) | inr k ↦ (inr (in-filter f v us k).0, (in-filter f v us k).1) ])
      | inr n ↦ (let k : In v (filter f us) = subst P n i in (inr (in-filter f v us k).0, (in-filter f v us k).1))
    ]

pub filter-in : (f : ℕ → Bool) (v : ℕ) (vs : List ℕ) → In v vs → f v ≡ true → In v (filter f vs)
filter-in f v [] i p = absurd i
filter-in f v (u ∷ us) i p =
    let P : Bool → Type 0 = λ b. In v (cond b (u ∷ filter f us) (filter f us)) in
    elim i [
      | inl same ↦ subst P (sym (ap f (sym same) ∙ p)) (inl same)
      | inr j ↦ elim (cases_Bool (f u)) [ inl t ↦ subst P (sym t) (inr (filter-in f v us j p)) | inr n ↦ subst P (sym n) (filter-in f v us j p) ]
    ]

pub filter-distinct : (f : ℕ → Bool) (vs : List ℕ) → Distinct vs → Distinct (filter f vs)
filter-distinct f [] d = tt
filter-distinct f (u ∷ us) (n, d) =
    let P : Bool → Type 0 = λ b. Distinct (cond b (u ∷ filter f us) (filter f us)) in
    elim (cases_Bool (f u)) [
      | inl t ↦ subst P (sym t) ((λ i. n (in-filter f u us i).0), filter-distinct f us d)
      | inr m ↦ subst P (sym m) (filter-distinct f us d)
    ]
