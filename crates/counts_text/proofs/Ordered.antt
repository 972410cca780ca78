-- The order of funs' records.
use Rattle.std.proofs.Common.{◌≡◌, ◌≢◌, ℕ, zero, suc, ◌+◌, ◌/◌, ◌%◌, ◌<◌, ◌⊎◌, if◌then◌else◌, true, false, List, [], ◌∷◌, length, take, get_or, Option, Some, None}
use Rattle.std.proofs.Common.{refl, sym, ◌∙◌, ap, subst, arith, inl, inr}
use Rattle.std.proofs.lemmas.Bool.{false≢true, cases_eq, cases_Bool}
use Rattle.std.specs.Ordering.{is_lt, nat_cmp, ordering_then}
use Rattle.std.specs.Cmp.{IsTotalOrder, tied_itself}
use Rattle.std.specs.Cmp.Lexicographic.{slice_cmp}
use Rattle.std.specs.declared.cmp.Ordering.{Ordering}
use Rattle.std.specs.declared.cmp.Ordering.TheVariants.{Less, Equal, Greater}
use Rattle.std.proofs.lemmas.Cmp.{ranked, nat_cmp_total, nat_list_cmp_total, on_total, then_total}
use Rattle.std.proofs.lemmas.List.{take_more}
use Rattle.std.proofs.lemmas.Map.Lookups.{exact_bytes}
use Rattle.plain_term.specs.Order.{name_of}
use Rattle.plain_term.proofs.LawLemmas.{neither}
use Rattle.plain_term.proofs.Rising.{is-less}
use Rattle.atom_names.specs.Names.{AreNames, index_of}
use Rattle.term_words.specs.Counted.{In}
use Rattle.term_words.proofs.Totals.Members.{in-both, in-left, in-right}
use Rattle.shared_rec.specs.Record.{owner_in}
use Rattle.record_move.proofs.Renewing.{member-at}
use Rattle.counts_text.specs.Told.{record_order, is_before, inserted, by_name, is_after, is_better, FunsDiffer, CanReadTables, CanReadSome, IsLeast, IsBest}

not-less : (o : Ordering) → is_lt o ≡ false → o ≢ Less
not-less o h e = false≢true (sym h ∙ ap is_lt e)

both-equal : (a b : Ordering) → ordering_then a b ≡ Equal → (a ≡ Equal) × (b ≡ Equal)
both-equal Less b e = absurd cc
both-equal Equal b e = (refl, e)
both-equal Greater b e = absurd cc

value-of : Option ℕ → ℕ
value-of None = 0
value-of (Some n) = n

-- No name has two numbers.
names-one : (names : List (List ℕ)) (j k : ℕ) → AreNames names → j < length names → k < length names → name_of names j ≡ name_of names k → j ≡ k
unfolding value-of
names-one names j k n below under e = ap value-of (sym (n.once j below) ∙ (ap (λ z. index_of names z) e ∙ n.once k under))

module _ (mem : List ℕ) (names : List (List ℕ)) where
  order-total : IsTotalOrder (record_order mem names)
  order-total = then_total (on_total (λ v. name_of names (owner_in mem v / 256)) nat_list_cmp_total) (on_total (λ v. owner_in mem v % 256) nat_cmp_total)

  pub before-trans : (x y z : ℕ) → is_before mem names x y ≡ true → is_before mem names y z ≡ true → is_before mem names x z ≡ true
  before-trans x y z a b = ap is_lt (order-total.trans x y z (is-less (record_order mem names x y) a) (is-less (record_order mem names y z) b))

  pub before-none : (x : ℕ) → is_before mem names x x ≡ true → ⊥
  before-none x a = false≢true (sym (ap is_lt (tied_itself order-total x)) ∙ a)

  pub before-back : (x y : ℕ) → is_before mem names x y ≡ true → is_before mem names y x ≡ true → ⊥
  before-back x y a b = before-none x (before-trans x y x a b)

  -- Two records of which neither is less are of one name and arity.
  pub same-owner : (x y : ℕ) → AreNames names → CanReadTables mem names x → CanReadTables mem names y → is_before mem names x y ≡ false → is_before mem names y x ≡ false
      → owner_in mem x ≡ owner_in mem y
  same-owner x y n rx ry a b =
      let tie : record_order mem names x y ≡ Equal =
      (neither (record_order mem names x y) (record_order mem names y x) (order-total.antisymm x y)).1 (not-less (record_order mem names x y) a, not-less (record_order mem names y x) b) in
      let two = both-equal (slice_cmp nat_cmp (name_of names (owner_in mem x / 256)) (name_of names (owner_in mem y / 256))) (nat_cmp (owner_in mem x % 256) (owner_in mem y % 256)) tie in
      let name : owner_in mem x / 256 ≡ owner_in mem y / 256 =
      names-one names (owner_in mem x / 256) (owner_in mem y / 256) n rx.known ry.known (exact_bytes (name_of names (owner_in mem x / 256)) (name_of names (owner_in mem y / 256)) two.0) in
      let arity : owner_in mem x % 256 ≡ owner_in mem y % 256 = ranked (owner_in mem x % 256) (owner_in mem y % 256) Equal (sym two.1) in
      omega (arith, name, arity)

  -- Each record of a list is less than all after it.
  unfoldable pub Rising : List ℕ → Type 0
  Rising [] = Unit {0}
  Rising (v ∷ vs) = ((w : ℕ) → In w vs → is_before mem names v w ≡ true) × Rising vs

  pub in-inserted : (v x : ℕ) (ws : List ℕ) → In x (inserted mem names v ws) → (x ≡ v) ⊎ In x ws
  in-inserted v x [] i = i
  in-inserted v x (w ∷ ws) i = elim (cases_Bool (is_before mem names w v)) [
    | inl b ↦
        let here : In x (w ∷ inserted mem names v ws) = rw b at i in
        elim here [ inl e ↦ inr (inl e) | inr j ↦ elim (in-inserted v x ws j) [ inl e ↦ inl e | inr k ↦ inr (inr k) ] ]
    | inr b ↦
        let here : In x (v ∷ w ∷ ws) = rw b at i in
        here
  ]

  pub inserted-in : (v x : ℕ) (ws : List ℕ) → (x ≡ v) ⊎ In x ws → In x (inserted mem names v ws)
  inserted-in v x [] i = i
  inserted-in v x (w ∷ ws) i = elim (cases_Bool (is_before mem names w v)) [
    | inl b ↦ rw b (elim i [
      | inl e ↦ inr (inserted-in v x ws (inl e))
      | inr j ↦ elim j [ inl e ↦ inl e | inr k ↦ inr (inserted-in v x ws (inr k)) ]
    ])
    | inr b ↦ rw b i
  ]

  inserted-length : (v : ℕ) (ws : List ℕ) → length (inserted mem names v ws) ≡ length ws + 1
  inserted-length v [] = refl
  inserted-length v (w ∷ ws) = elim (cases_Bool (is_before mem names w v)) [ inl b ↦ rw b (omega (arith, inserted-length v ws)) | inr b ↦ rw b (omega arith) ]

  pub named-length : (vs : List ℕ) → length (by_name mem names vs) ≡ length vs
  named-length [] = refl
  named-length (v ∷ vs) = omega (arith, inserted-length v (by_name mem names vs), named-length vs)

  pub in-named : (x : ℕ) (vs : List ℕ) → In x (by_name mem names vs) → In x vs
  in-named x [] i = i
  in-named x (v ∷ vs) i = elim (in-inserted v x (by_name mem names vs) i) [ inl e ↦ inl e | inr j ↦ inr (in-named x vs j) ]

  pub named-in : (x : ℕ) (vs : List ℕ) → In x vs → In x (by_name mem names vs)
  named-in x [] i = i
  named-in x (v ∷ vs) (inl e) = inserted-in v x (by_name mem names vs) (inl e)
  named-in x (v ∷ vs) (inr i) = inserted-in v x (by_name mem names vs) (inr (named-in x vs i))

  insert-rises : (v : ℕ) (ws : List ℕ) → ((w : ℕ) → In w ws → is_before mem names w v ≡ false → is_before mem names v w ≡ true) → Rising ws → Rising (inserted mem names v ws)
  unfolding Rising
  insert-rises v [] other r = ((λ w i. absurd i), tt)
  insert-rises v (w ∷ ws) other (first, rest) = elim (cases_Bool (is_before mem names w v)) [
    | inl b ↦ rw b (
      (λ x i. elim (in-inserted v x ws i) [
        | inl e ↦ (let P : ℕ → Type 0 = λ z. is_before mem names w z ≡ true in subst P (sym e) b)
        | inr j ↦ first x j
      ]),
      insert-rises v ws (λ x i. other x (inr i)) rest,
    )
    | inr b ↦
        let here : is_before mem names v w ≡ true = other w (inl refl) b in
        rw b (
          (λ x i. elim i [
            | inl e ↦ (let P : ℕ → Type 0 = λ z. is_before mem names v z ≡ true in subst P (sym e) here)
            | inr j ↦ before-trans v w x here (first x j)
          ]),
          (first, rest),
        )
  ]

  fewer-apart : (v : ℕ) (vs : List ℕ) → FunsDiffer mem (v ∷ vs) → FunsDiffer mem vs
  fewer-apart v vs a = record { once = a.once.1; differ = λ x y i j e. a.differ x y (inr i) (inr j) e }

  -- So are they in order.
  pub named-rises : (vs : List ℕ) → AreNames names → ((v : ℕ) → In v vs → CanReadTables mem names v) → FunsDiffer mem vs → Rising (by_name mem names vs)
  unfolding Rising
  named-rises [] n read a = tt
  named-rises (v ∷ vs) n read a =
      insert-rises v (by_name mem names vs)
      (λ w i none. elim (cases_Bool (is_before mem names v w)) [
        | inl b ↦ b
        | inr b ↦
            absurd
            (let inside : In w vs = in-named w vs i in
            let same : v ≡ w = a.differ v w (inl refl) (inr inside) (same-owner v w n (read v (inl refl)) (read w (inr inside)) b none) in
            let P : ℕ → Type 0 = λ z. In z vs in
            a.once.0 (subst P (sym same) inside))
      ])
      (named-rises vs n (λ w i. read w (inr i)) (fewer-apart v vs a))

  -- By index.

  rising-at : (vs : List ℕ) (j k : ℕ) → Rising vs → j < k → k < length vs → is_before mem names (get_or vs j 0) (get_or vs k 0) ≡ true
  unfolding Rising
  rising-at [] j k r less below = absurd (omega arith)
  rising-at (v ∷ vs) zero zero r less below = absurd (omega arith)
  rising-at (v ∷ vs) zero (suc k) (first, rest) less below = first (get_or vs k 0) (member-at vs k (omega arith))
  rising-at (v ∷ vs) (suc j) zero r less below = absurd (omega arith)
  rising-at (v ∷ vs) (suc j) (suc k) (first, rest) less below = rising-at vs j k rest (omega arith) (omega arith)

  place-of : (x : ℕ) (vs : List ℕ) → In x vs → (j : ℕ) × ((j < length vs) × (get_or vs j 0 ≡ x))
  place-of x [] i = absurd i
  place-of x (v ∷ vs) (inl e) = (0, (omega arith, sym e))
  place-of x (v ∷ vs) (inr i) = let (j, (below, e)) = place-of x vs i in (suc j, (omega arith, e))

  -- The record that was written last, when so many were written.
  abbrev pub LastIs : (vs : List ℕ) (i : ℕ) → Option ℕ → Type 0
  LastIs vs zero last = last ≡ None
  LastIs vs (suc k) last = last ≡ Some (get_or vs k 0)

  pub last-more : (vs : List ℕ) (i v : ℕ) → v ≡ get_or vs i 0 → LastIs vs (i + 1) (Some v)
  last-more vs i v e =
      let more : suc i ≡ i + 1 = omega arith in
      let P : ℕ → Type 0 = λ n. LastIs vs n (Some v) in
      subst P more (ap Some e)

  module _ (vs : List ℕ) (r : Rising vs) where
    -- The record at a place comes after the last one.
    comes-next : (i : ℕ) (last : Option ℕ) → LastIs vs i last → i < length vs → is_after mem names last (get_or vs i 0) ≡ true
    comes-next zero last e below = ap (λ z. is_after mem names z (get_or vs 0 0)) e
    comes-next (suc k) last e below = ap (λ z. is_after mem names z (get_or vs (suc k) 0)) e ∙ rising-at vs k (suc k) r (omega arith) below

    -- One that comes after it stands no earlier.
    no-earlier : (i j : ℕ) (last : Option ℕ) → LastIs vs i last → i < length vs → j < i → is_after mem names last (get_or vs j 0) ≡ true → ⊥
    no-earlier zero j last e below less after = omega (arith, less)
    no-earlier (suc k) j last e below less after =
        let here : is_before mem names (get_or vs k 0) (get_or vs j 0) ≡ true = ap (λ z. is_after mem names z (get_or vs j 0)) (sym e) ∙ after in
        elim (cases_eq j k) [
          | inl same ↦ (let P : ℕ → Type 0 = λ z. is_before mem names (get_or vs k 0) (get_or vs z 0) ≡ true in before-none (get_or vs k 0) (subst P same here))
          | inr far ↦ before-back (get_or vs k 0) (get_or vs j 0) here (rising-at vs j k r (omega (arith, less, far)) (omega (arith, below)))
        ]

-- The next record of a table is the one in order.
pub next-is : (mem : List ℕ) (names : List (List ℕ)) (funs : List ℕ) (i v : ℕ) (last : Option ℕ) → Rising mem names (by_name mem names funs) → i < length funs
    → LastIs mem names (by_name mem names funs) i last → IsLeast mem names last funs v → v ≡ get_or (by_name mem names funs) i 0
next-is mem names funs i v last r below l n =
    let vs : List ℕ = by_name mem names funs in
    let under : i < length (by_name mem names funs) = omega (arith, below, named-length mem names funs) in
    let (j, (inside, e)) = place-of mem names v (by_name mem names funs) (named-in mem names v funs n.inside) in
    let which : (j < i) ⊎ ((j ≡ i) ⊎ (i < j)) = grind arith in
    elim which [
      | inl less ↦
          absurd
          (let P : ℕ → Type 0 = λ z. is_after mem names last z ≡ true in
          no-earlier mem names (by_name mem names funs) r i j last l under less (subst P (sym e) n.after))
      | inr (inl same) ↦ sym e ∙ ap (λ z. get_or (by_name mem names funs) z 0) same
      | inr (inr more) ↦
          absurd
          (let x : ℕ = get_or (by_name mem names funs) i 0 in
          let P : ℕ → Type 0 = λ z. is_before mem names (get_or (by_name mem names funs) i 0) z ≡ true in
          let less : is_before mem names (get_or (by_name mem names funs) i 0) v ≡ true = subst P e (rising-at mem names (by_name mem names funs) i j r more inside) in
          let none : is_before mem names (get_or (by_name mem names funs) i 0) v ≡ false =
          n.least (get_or (by_name mem names funs) i 0) (in-named mem names (get_or (by_name mem names funs) i 0) funs (member-at (by_name mem names funs) i under))
          (comes-next mem names (by_name mem names funs) r i last l under) in
          false≢true (sym none ∙ less))
    ]

-- There is a next one where not all were written.
pub next-there : (mem : List ℕ) (names : List (List ℕ)) (funs : List ℕ) (i : ℕ) (last : Option ℕ) → Rising mem names (by_name mem names funs) → i < length funs
    → LastIs mem names (by_name mem names funs) i last → IsBest mem names last funs None → ⊥
next-there mem names funs i last r below l none =
    let under : i < length (by_name mem names funs) = omega (arith, below, named-length mem names funs) in
    false≢true
    (sym (none (get_or (by_name mem names funs) i 0) (in-named mem names (get_or (by_name mem names funs) i 0) funs (member-at (by_name mem names funs) i under)))
    ∙ comes-next mem names (by_name mem names funs) r i last l under)

-- The least so far of a table that is gone through.
module _ (mem : List ℕ) (names : List (List ℕ)) (last : Option ℕ) where
  later-in : (w : ℕ) (vs : List ℕ) (i : ℕ) → i < length vs → In w (take (i + 1) vs) → In w (take i vs) ⊎ (w ≡ get_or vs i 0)
  later-in w vs i below inside =
      let P : List ℕ → Type 0 = λ z. In w z in
      elim (in-both w (take i vs) (get_or vs i 0 ∷ []) (subst P (take_more vs i 0 below) inside)) [
        | inl a ↦ inl a
        | inr b ↦ elim b [ inl e ↦ inr e | inr z ↦ absurd z ]
      ]

  earlier-in : (w : ℕ) (vs : List ℕ) (i : ℕ) → i < length vs → In w (take i vs) → In w (take (i + 1) vs)
  earlier-in w vs i below inside = let P : List ℕ → Type 0 = λ z. In w z in subst P (sym (take_more vs i 0 below)) (in-left w (take i vs) (get_or vs i 0 ∷ []) inside)

  this-in : (vs : List ℕ) (i : ℕ) → i < length vs → In (get_or vs i 0) (take (i + 1) vs)
  this-in vs i below = let P : List ℕ → Type 0 = λ z. In (get_or vs i 0) z in subst P (sym (take_more vs i 0 below)) (in-right (get_or vs i 0) (take i vs) (get_or vs i 0 ∷ []) (inl refl))

  -- A record that does not come after the last one changes nothing.
  pub best-same : (vs : List ℕ) (i : ℕ) (best : Option ℕ) → i < length vs → is_after mem names last (get_or vs i 0) ≡ false → IsBest mem names last (take i vs) best
      → IsBest mem names last (take (i + 1) vs) best
  best-same vs i None below out b = λ w inside. elim (later-in w vs i below inside) [
    | inl a ↦ b w a
    | inr e ↦ (let P : ℕ → Type 0 = λ z. is_after mem names last z ≡ false in subst P (sym e) out)
  ]
  best-same vs i (Some x) below out b = record {
    inside = earlier-in x vs i below b.inside;
    after = b.after;
    least = λ w inside after. elim (later-in w vs i below inside) [
      | inl a ↦ b.least w a after
      | inr e ↦ absurd (let P : ℕ → Type 0 = λ z. is_after mem names last z ≡ true in false≢true (sym out ∙ subst P e after))
    ];
  }

  one-less : (x y z : ℕ) → is_before mem names x y ≡ true → is_before mem names z y ≡ false → is_before mem names z x ≡ false
  one-less x y z a b = elim (cases_Bool (is_before mem names z x)) [
    | inl c ↦ absurd (false≢true (sym b ∙ before-trans mem names z x y c a))
    | inr c ↦ c
  ]

  none-self : (x : ℕ) → is_before mem names x x ≡ false
  none-self x = elim (cases_Bool (is_before mem names x x)) [ inl c ↦ absurd (before-none mem names x c) | inr c ↦ c ]

  -- One that does is the best where it is less.
  pub best-more : (vs : List ℕ) (i : ℕ) (best : Option ℕ) → i < length vs → is_after mem names last (get_or vs i 0) ≡ true → IsBest mem names last (take i vs) best
      → IsBest mem names last (take (i + 1) vs) (if is_better mem names (get_or vs i 0) best then Some (get_or vs i 0) else best)
  best-more vs i None below comes b = record {
    inside = this-in vs i below;
    after = comes;
    least = λ w inside after. elim (later-in w vs i below inside) [
      | inl a ↦ absurd (false≢true (sym (b w a) ∙ after))
      | inr e ↦ (let P : ℕ → Type 0 = λ z. is_before mem names z (get_or vs i 0) ≡ false in subst P (sym e) (none-self (get_or vs i 0)))
    ];
  }
  best-more vs i (Some x) below comes b = elim (cases_Bool (is_before mem names (get_or vs i 0) x)) [
    | inl c ↦ rw c (record {
      inside = this-in vs i below;
      after = comes;
      least = λ w inside after. elim (later-in w vs i below inside) [
        | inl a ↦ one-less (get_or vs i 0) x w c (b.least w a after)
        | inr e ↦ (let P : ℕ → Type 0 = λ z. is_before mem names z (get_or vs i 0) ≡ false in subst P (sym e) (none-self (get_or vs i 0)))
      ];
    })
    | inr c ↦ rw c (record {
      inside = earlier-in x vs i below b.inside;
      after = b.after;
      least = λ w inside after. elim (later-in w vs i below inside) [
        | inl a ↦ b.least w a after
        | inr e ↦ (let P : ℕ → Type 0 = λ z. is_before mem names z x ≡ false in subst P (sym e) c)
      ];
    })
  ]

  pub better-read : (v : ℕ) (best : Option ℕ) → CanReadTables mem names v → CanReadSome mem names best → CanReadSome mem names (if is_better mem names v best then Some v else best)
  better-read v None r b = r
  better-read v (Some x) r b = elim (cases_Bool (is_before mem names v x)) [ inl c ↦ rw c r | inr c ↦ rw c b ]
