-- What occurs in the trees of roots, and what reached objects name.
use Rattle.std.proofs.Common.{◌≡◌, ℕ, ◌+◌, ◌*◌, ◌/◌, ◌%◌, ◌≤◌, ◌⊎◌, ◌==◌, if◌then◌else◌, Bool, true, false, List, [], ◌∷◌, ◌++◌, map, get_or}
use Rattle.std.proofs.Common.{refl, sym, ◌∙◌, ap, subst, arith, inl, inr}
use Rattle.std.proofs.lemmas.Bool.{cases_eq, cases_Bool}
use Rattle.std.proofs.lemmas.Bool.Decides.{nat_tests}
use Rattle.plain_term.specs.Tree.{Tree, Trees, Pairs, keys_of, values_of}
use Rattle.plain_term.specs.Tree.Tree.{Int, Atom, Pid, Ref, Nil, Cons, Tuple, Map, Bin, Shared, Part, Fun}
use Rattle.plain_term.specs.Tree.Trees.{end, ◌▹◌}
use Rattle.plain_term.specs.Tree.Pairs.{stop, pair}
use Rattle.plain_term.specs.Bytes.{shared_bytes}
use Rattle.plain_machine.specs.Tightness.{ids_in, ids_in_all, ids_in_pairs, funs_in, funs_in_all, funs_in_pairs}
use Rattle.plain_machine.specs.Maps.{occurrences}
use Rattle.term_words.specs.Object.{IsBinRecord, IsFunRecord}
use Rattle.term_words.specs.Stands.{Stands, RowStands, KeysStand, ValuesStand, AllStand, IsBase}
use Rattle.term_words.specs.Reach.{Reach, parts_of}
use Rattle.term_words.specs.Counted.{In, Distinct, total}
use Rattle.term_words.proofs.Totals.Members.{in-both}
use Rattle.term_words.proofs.ByKind.Shapes.{told, shape-shared, shape-fun}
use Rattle.term_words.proofs.Reaching.Reached.{reached}
use Rattle.off_heap_list.specs.Links.{names_it, name_place, named, naming, IsLink, IsLinkHeader}
use Rattle.off_heap_list.proofs.Chaining.Chained.{one-naming}
use Rattle.record_move.proofs.Walking.{no-name}
use Rattle.counted_records.specs.Occurs.{AreHeld, BinOccurs, FunOccurs}
use Rattle.counted_records.proofs.Weighing.{weighed, own, weights-cover, HasWeights}

-- Occurrences in lists.

pub occurrences-both : (n : ℕ) (xs ys : List ℕ) → occurrences n (xs ++ ys) ≡ occurrences n xs + occurrences n ys
occurrences-both n [] ys = omega arith
occurrences-both n (x ∷ xs) ys =
    elim (cases_Bool (x == n)) [
      | inl e ↦ rw e (omega (arith, occurrences-both n xs ys))
      | inr e ↦ rw e (omega (arith, occurrences-both n xs ys))
    ]

occurs-first : (n m : ℕ) (ms : List ℕ) → m ≡ n → occurrences n (m ∷ ms) ≡ occurrences n ms + 1
occurs-first n m ms e = let b : (m == n) ≡ true = grind (arith, nat_tests, e) in rw b refl

in-occurrences : (n : ℕ) (xs : List ℕ) → 1 ≤ occurrences n xs → In n xs
in-occurrences n [] h = absurd (omega (arith, h))
in-occurrences n (x ∷ xs) h = elim (cases_eq n x) [
  | inl e ↦ inl e
  | inr far ↦
      let b : (x == n) ≡ false = grind (arith, nat_tests, far) in
      inr (in-occurrences n xs (rw b at h))
]

-- The weight of a tree is how often an id, or a fun, occurs in it.

id-weight : ℕ → Tree → ℕ
id-weight n t = occurrences n (ids_in t)

fun-weight : ℕ → Tree → ℕ
fun-weight n t = occurrences n (funs_in t)

ids-weighed : (n : ℕ) (ts : Trees) → weighed (id-weight n) ts ≡ occurrences n (ids_in_all ts)
unfolding id-weight
ids-weighed n end = refl
ids-weighed n (t ▹ ts) = omega (arith, occurrences-both n (ids_in t) (ids_in_all ts), ids-weighed n ts)

funs-weighed : (n : ℕ) (ts : Trees) → weighed (fun-weight n) ts ≡ occurrences n (funs_in_all ts)
unfolding fun-weight
funs-weighed n end = refl
funs-weighed n (t ▹ ts) = omega (arith, occurrences-both n (funs_in t) (funs_in_all ts), funs-weighed n ts)

ids-of-pairs : (n : ℕ) (ps : Pairs) → occurrences n (ids_in_pairs ps) ≡ occurrences n (ids_in_all (keys_of ps)) + occurrences n (ids_in_all (values_of ps))
ids-of-pairs n stop = refl
ids-of-pairs n (pair k v ps) =
    omega (
      arith,
      occurrences-both n (ids_in k) (ids_in v ++ ids_in_pairs ps),
      occurrences-both n (ids_in v) (ids_in_pairs ps),
      occurrences-both n (ids_in k) (ids_in_all (keys_of ps)),
      occurrences-both n (ids_in v) (ids_in_all (values_of ps)),
      ids-of-pairs n ps,
    )

funs-of-pairs : (n : ℕ) (ps : Pairs) → occurrences n (funs_in_pairs ps) ≡ occurrences n (funs_in_all (keys_of ps)) + occurrences n (funs_in_all (values_of ps))
funs-of-pairs n stop = refl
funs-of-pairs n (pair k v ps) =
    omega (
      arith,
      occurrences-both n (funs_in k) (funs_in v ++ funs_in_pairs ps),
      occurrences-both n (funs_in v) (funs_in_pairs ps),
      occurrences-both n (funs_in k) (funs_in_all (keys_of ps)),
      occurrences-both n (funs_in v) (funs_in_all (values_of ps)),
      funs-of-pairs n ps,
    )

ids-heavy : (n : ℕ) (t : Tree) → weighed (id-weight n) (parts_of t) ≤ id-weight n t
unfolding id-weight
ids-heavy n (Cons h t) = omega (arith, occurrences-both n (ids_in h) (ids_in t))
ids-heavy n (Tuple ts) = omega (arith, ids-weighed n ts)
ids-heavy n (Map ps) = omega (arith, ids-of-pairs n ps, ids-weighed n (values_of ps))
ids-heavy n (Part base offset len) = omega arith
ids-heavy n (Fun name arity creator env) = omega (arith, ids-weighed n env)
ids-heavy n _ = omega arith

no-fun : (n : ℕ) (base : Tree) → IsBase base → fun-weight n base ≡ 0
unfolding fun-weight
no-fun n (Bin bytes) b = refl
no-fun n (Shared id) b = refl
no-fun n _ b = absurd b

funs-after : (n m : ℕ) (ms : List ℕ) → occurrences n ms ≤ occurrences n (m ∷ ms)
funs-after n m ms = elim (cases_Bool (m == n)) [ inl e ↦ rw e (omega arith) | inr e ↦ rw e (omega arith) ]

funs-heavy : (c : ℕ → ℕ → Bool) (shared : List (List ℕ)) (mem : List ℕ) (n w : ℕ) (t : Tree) → Stands c shared mem w t → weighed (fun-weight n) (parts_of t) ≤ fun-weight n t
unfolding Stands fun-weight
funs-heavy c shared mem n w (Cons h t) s = omega (arith, occurrences-both n (funs_in h) (funs_in t))
funs-heavy c shared mem n w (Tuple ts) s = omega (arith, funs-weighed n ts)
funs-heavy c shared mem n w (Map ps) s = omega (arith, funs-of-pairs n ps, funs-weighed n (values_of ps))
funs-heavy c shared mem n w (Part base offset len) (o, is, sb) = omega (arith, no-fun n base is)
funs-heavy c shared mem n w (Fun name arity creator env) s = omega (arith, funs-weighed n env, funs-after n (256 * name + arity) (funs_in_all env))
funs-heavy c shared mem n w _ s = omega arith

-- An object that can be chained is a shared binary or a fun.

module _ (c : ℕ → ℕ → Bool) (shared : List (List ℕ)) (mem : List ℕ) where
  link-kind : (w : ℕ) (t : Tree) → Stands c shared mem w t → w % 4 ≡ 2 → IsLinkHeader (get_or mem (w / 4) 0)
      → ((id : ℕ) × (t ≡ Shared id)) ⊎ ((name arity creator : ℕ) × (env : Trees) × (t ≡ Fun name arity creator env))
  link-kind w t s tag (inl e) = inl (shape-shared t w (get_or mem (w / 4) 0) (told c shared mem w t s) tag (omega (arith, e)))
  link-kind w t s tag (inr (k, (le, e))) = inr (shape-fun t w (get_or mem (w / 4) 0) (told c shared mem w t s) tag (omega (arith, e)))

  bin-named : (w id : ℕ) → Stands c shared mem w (Shared id) → IsBinRecord c mem (named mem (w / 4)) id (shared_bytes shared id)
  unfolding Stands
  bin-named w id s =
      let at : w / 4 + 3 ≡ name_place mem (w / 4) = grind (arith, nat_tests, s.holder.header) in
      rw (at) at s.record_is

  fun-named : (w name arity creator : ℕ) (env : Trees) → Stands c shared mem w (Fun name arity creator env) → IsFunRecord c mem (named mem (w / 4)) name arity
  unfolding Stands
  fun-named w name arity creator env (o, row) =
      let at : w / 4 + 1 ≡ name_place mem (w / 4) = grind (arith, nat_tests, o.header) in
      rw (at) at o.record_is

  kinds-differ : (v serial : ℕ) (bytes : List ℕ) (name arity : ℕ) → IsBinRecord c mem v serial bytes → IsFunRecord c mem v name arity → ⊥
  kinds-differ v serial bytes name arity b f = omega (arith, b.header, f.header)

  -- What the word of an object weighs: 1 where it names this record, else 0.
  pub names-here : ℕ → ℕ → ℕ
  names-here v w = names_it (named mem (w / 4)) v

  names-most : (x v : ℕ) → names_it x v ≤ 1
  names-most x v = elim (cases_Bool (x == v)) [ inl e ↦ rw e (omega arith) | inr e ↦ rw e (omega arith) ]

  id-step : (v serial : ℕ) (bytes : List ℕ) → IsBinRecord c mem v serial bytes → (w : ℕ) (t : Tree) → Stands c shared mem w t
      → total (names-here v) (own w t) + weighed (id-weight serial) (parts_of t) ≤ id-weight serial t
  unfolding id-weight names-here
  id-step v serial bytes there w (Shared id) s = elim (cases_eq (named mem (w / 4)) v) [
    | inl e ↦
        let here : IsBinRecord c mem v id (shared_bytes shared id) = rw e at (bin-named w id s) in
        omega (arith, occurs-first serial id [] (sym here.owner ∙ there.owner), names-most (named mem (w / 4)) v)
    | inr far ↦ omega (arith, no-name (named mem (w / 4)) v far)
  ]
  id-step v serial bytes there w (Fun name arity creator env) s =
      omega (
        arith,
        no-name (named mem (w / 4)) v (λ e. kinds-differ v serial bytes name arity there (rw e at (fun-named w name arity creator env s))),
        ids-weighed serial env,
      )
  id-step v serial bytes there w t s = omega (arith, ids-heavy serial t)

  fun-step : (v name arity : ℕ) → IsFunRecord c mem v name arity → (w : ℕ) (t : Tree) → Stands c shared mem w t
      → total (names-here v) (own w t) + weighed (fun-weight (256 * name + arity)) (parts_of t) ≤ fun-weight (256 * name + arity) t
  unfolding fun-weight names-here
  fun-step v name arity there w (Shared id) s =
      omega (arith, no-name (named mem (w / 4)) v (λ e. kinds-differ v id (shared_bytes shared id) name arity (rw e at (bin-named w id s)) there))
  fun-step v name arity there w (Fun name2 arity2 creator env) s = elim (cases_eq (named mem (w / 4)) v) [
    | inl e ↦
        let here : IsFunRecord c mem v name2 arity2 = rw e at (fun-named w name2 arity2 creator env s) in
        let same : 256 * name2 + arity2 ≡ 256 * name + arity = omega (arith, here.owner, there.owner) in
        omega (
          arith,
          occurs-first (256 * name + arity) (256 * name2 + arity2) (funs_in_all env) same,
          names-most (named mem (w / 4)) v,
          funs-weighed (256 * name + arity) env,
        )
    | inr far ↦
        omega (
          arith,
          no-name (named mem (w / 4)) v far,
          funs-weighed (256 * name + arity) env,
          funs-after (256 * name + arity) (256 * name2 + arity2) (funs_in_all env),
        )
  ]
  fun-step v name arity there w t s = omega (arith, funs-heavy c shared mem (256 * name + arity) w t s)

-- Places as words.

word-of : ℕ → ℕ
word-of p = p * 4 + 2

in-words : (w : ℕ) (ps : List ℕ) → In w (map word-of ps) → (p : ℕ) × (In p ps × (w ≡ p * 4 + 2))
unfolding word-of
in-words w [] i = absurd i
in-words w (p ∷ ps) (inl e) = (p, (inl refl, e))
in-words w (p ∷ ps) (inr i) = let (q, (j, e)) = in-words w ps i in (q, (inr j, e))

words-once : (ps : List ℕ) → Distinct ps → Distinct (map word-of ps)
unfolding word-of
words-once [] d = tt
words-once (p ∷ ps) (fresh, d) = (
  λ i.
      let (q, (j, e)) = in-words (p * 4 + 2) ps i in
      let same : p ≡ q = omega (arith, e) in
      fresh (rw same j),
  words-once ps d,
)

-- Together the words weigh as many as the namings.
namings-weigh : (c : ℕ → ℕ → Bool) (shared : List (List ℕ)) (mem : List ℕ) (v : ℕ) (ps : List ℕ) → total (names-here c shared mem v) (map word-of ps) ≡ naming mem v ps
unfolding word-of names-here
namings-weigh c shared mem v [] = refl
namings-weigh c shared mem v (p ∷ ps) =
    let at : (p * 4 + 2) / 4 ≡ p = omega arith in
    omega (arith, ap (λ x. names_it (named mem x) v) at, namings-weigh c shared mem v ps)

module _ (c : ℕ → ℕ → Bool) (shared : List (List ℕ)) (mem roots : List ℕ) (ts : Trees) (os : List ℕ) (all : AllStand c shared mem roots ts) (h : AreHeld c mem roots os) where
  word-reached : (w : ℕ) → In w (map word-of os) → Reach mem roots w
  word-reached w i =
      let (p, (inside, e)) = in-words w os i in
      simp e (h.reached p inside)

  word-own : (w : ℕ) (t : Tree) → In w (map word-of os) → Stands c shared mem w t → In w (own w t)
  word-own w t i s =
      let (p, (inside, e)) = in-words w os i in
      let at : w / 4 ≡ p = omega (arith, e) in
      let P : Tree → Type 0 = λ x. In w (own w x) in
      elim (link-kind c shared mem w t s (omega (arith, e)) (simp (at) (h.links p inside).kind)) [
        | inl (id, is) ↦ subst P (sym is) (inl refl)
        | inr (name, arity, creator, env, is) ↦ subst P (sym is) (inl refl)
      ]

  pub bin-namings : Distinct os → (v serial : ℕ) (bytes : List ℕ) → IsBinRecord c mem v serial bytes → naming mem v os ≤ occurrences serial (ids_in_all ts)
  bin-namings once v serial bytes there =
      let weights : HasWeights c shared mem (names-here c shared mem v) (id-weight serial) = record { each = id-step c shared mem v serial bytes there } in
      omega (
        arith,
        weights-cover c shared mem roots ts (names-here c shared mem v) (id-weight serial) (map word-of os) all weights (words-once os once) word-reached word-own,
        namings-weigh c shared mem v os,
        ids-weighed serial ts,
      )

  pub fun-namings : Distinct os → (v name arity : ℕ) → IsFunRecord c mem v name arity → naming mem v os ≤ occurrences (256 * name + arity) (funs_in_all ts)
  fun-namings once v name arity there =
      let weights : HasWeights c shared mem (names-here c shared mem v) (fun-weight (256 * name + arity)) = record { each = fun-step c shared mem v name arity there } in
      omega (
        arith,
        weights-cover c shared mem roots ts (names-here c shared mem v) (fun-weight (256 * name + arity)) (map word-of os) all weights (words-once os once) word-reached word-own,
        namings-weigh c shared mem v os,
        funs-weighed (256 * name + arity) ts,
      )

-- One object alone.

module _ (c : ℕ → ℕ → Bool) (shared : List (List ℕ)) (mem roots : List ℕ) (ts : Trees) (os : List ℕ) (all : AllStand c shared mem roots ts) (h : AreHeld c mem roots os) (p : ℕ)
    (inside : In p os) where
  alone : AreHeld c mem roots (p ∷ [])
  alone = record {
    reached = λ q i. elim i [ inl e ↦ rw e (h.reached p inside) | inr z ↦ absurd z ];
    links = λ q i. elim i [ inl e ↦ rw e (h.links p inside) | inr z ↦ absurd z ];
  }

  once : Distinct (p ∷ [])
  once = ((λ i. i), tt)

  pub bin-occurs : (serial : ℕ) (bytes : List ℕ) → IsBinRecord c mem (named mem p) serial bytes → In serial (ids_in_all ts)
  bin-occurs serial bytes there =
      in-occurrences serial (ids_in_all ts)
      (omega (arith, bin-namings c shared mem roots ts (p ∷ []) all alone once (named mem p) serial bytes there, one-naming (named mem p) (named mem p) refl))

  pub fun-occurs : (name arity : ℕ) → IsFunRecord c mem (named mem p) name arity → In (256 * name + arity) (funs_in_all ts)
  fun-occurs name arity there =
      in-occurrences (256 * name + arity) (funs_in_all ts)
      (omega (arith, fun-namings c shared mem roots ts (p ∷ []) all alone once (named mem p) name arity there, one-naming (named mem p) (named mem p) refl))

  -- Its record is that of a shared binary, with its bytes, or that of a fun.
  pub record-kind : ((id : ℕ) × (In id (ids_in_all ts) × IsBinRecord c mem (named mem p) id (shared_bytes shared id)))
      ⊎ ((name arity : ℕ) × (In (256 * name + arity) (funs_in_all ts) × IsFunRecord c mem (named mem p) name arity))
  record-kind =
      let (t, s) = reached c shared mem roots ts all (p * 4 + 2) (h.reached p inside) in
      let at : (p * 4 + 2) / 4 ≡ p = omega arith in
      elim (link-kind c shared mem (p * 4 + 2) t s (omega arith) (rw (at) (h.links p inside).kind)) [
        | inl (id, is) ↦
            let there : IsBinRecord c mem (named mem p) id (shared_bytes shared id) = rw (at) at (bin-named c shared mem (p * 4 + 2) id (rw is at s)) in
            inl (id, (bin-occurs id (shared_bytes shared id) there, there))
        | inr (name, arity, creator, env, is) ↦
            let there : IsFunRecord c mem (named mem p) name arity = rw (at) at (fun-named c shared mem (p * 4 + 2) name arity creator env (rw is at s)) in
            inr (name, arity, (fun-occurs name arity there, there))
      ]

-- What occurs in a tree that stands has a record that stands.

module _ (c : ℕ → ℕ → Bool) (shared : List (List ℕ)) (mem : List ℕ) (n : ℕ) where
  mutual
    unfolding Stands RowStands KeysStand ValuesStand

    ids-stand : (w : ℕ) (t : Tree) → Stands c shared mem w t → In n (ids_in t) → BinOccurs c shared mem n
    ids-stand w (Int i) s j = absurd j
    ids-stand w (Atom k) s j = absurd j
    ids-stand w (Pid k) s j = absurd j
    ids-stand w (Ref m k) s j = absurd j
    ids-stand w Nil s j = absurd j
    ids-stand w (Cons h t) (o, sh, st) j = elim (in-both n (ids_in h) (ids_in t) j) [
      | inl a ↦ ids-stand (get_or mem (w / 4) 0) h sh a
      | inr b ↦ ids-stand (get_or mem (w / 4 + 1) 0) t st b
    ]
    ids-stand w (Tuple ts) (o, row) j = ids-row (w / 4 + 1) ts row j
    ids-stand w (Map ps) (o, ks, vs) j = ids-pairs (get_or mem (w / 4 + 2) 0 / 4 + 1) (w / 4 + 3) ps ks vs j
    ids-stand w (Bin bytes) s j = absurd j
    ids-stand w (Shared id) s (inl e) =
        record { v = get_or mem (w / 4 + 3) 0; is = rw e s.record_is }
    ids-stand w (Shared id) s (inr z) = absurd z
    ids-stand w (Part base offset len) (o, b, sb) j = ids-stand (get_or mem (w / 4 + 4) 0) base sb j
    ids-stand w (Fun name arity creator env) (o, row) j = ids-row (w / 4 + 6) env row j

    ids-row : (p : ℕ) (ts : Trees) → RowStands c shared mem p ts → In n (ids_in_all ts) → BinOccurs c shared mem n
    ids-row p end row j = absurd j
    ids-row p (t ▹ ts) (first, rest) j = elim (in-both n (ids_in t) (ids_in_all ts) j) [
      | inl a ↦ ids-stand (get_or mem p 0) t first a
      | inr b ↦ ids-row (p + 1) ts rest b
    ]

    ids-pairs : (p q : ℕ) (ps : Pairs) → KeysStand c shared mem p ps → ValuesStand c shared mem q ps → In n (ids_in_pairs ps) → BinOccurs c shared mem n
    ids-pairs p q stop ks vs j = absurd j
    ids-pairs p q (pair x y ps) (k, ks) (v, vs) j = elim (in-both n (ids_in x) (ids_in y ++ ids_in_pairs ps) j) [
      | inl a ↦ ids-stand (get_or mem p 0) x k a
      | inr b ↦ elim (in-both n (ids_in y) (ids_in_pairs ps) b) [
        | inl d ↦ ids-stand (get_or mem q 0) y v d
        | inr e ↦ ids-pairs (p + 1) (q + 1) ps ks vs e
      ]
    ]

  mutual
    unfolding Stands RowStands KeysStand ValuesStand

    funs-stand : (w : ℕ) (t : Tree) → Stands c shared mem w t → In n (funs_in t) → FunOccurs c mem n
    funs-stand w (Int i) s j = absurd j
    funs-stand w (Atom k) s j = absurd j
    funs-stand w (Pid k) s j = absurd j
    funs-stand w (Ref m k) s j = absurd j
    funs-stand w Nil s j = absurd j
    funs-stand w (Cons h t) (o, sh, st) j = elim (in-both n (funs_in h) (funs_in t) j) [
      | inl a ↦ funs-stand (get_or mem (w / 4) 0) h sh a
      | inr b ↦ funs-stand (get_or mem (w / 4 + 1) 0) t st b
    ]
    funs-stand w (Tuple ts) (o, row) j = funs-row (w / 4 + 1) ts row j
    funs-stand w (Map ps) (o, ks, vs) j = funs-pairs (get_or mem (w / 4 + 2) 0 / 4 + 1) (w / 4 + 3) ps ks vs j
    funs-stand w (Bin bytes) s j = absurd j
    funs-stand w (Shared id) s j = absurd j
    funs-stand w (Part base offset len) s j = absurd j
    funs-stand w (Fun name arity creator env) (o, row) (inl e) =
        record { v = get_or mem (w / 4 + 1) 0; name = name; arity = arity; is = o.record_is; code_is = e }
    funs-stand w (Fun name arity creator env) (o, row) (inr j) = funs-row (w / 4 + 6) env row j

    funs-row : (p : ℕ) (ts : Trees) → RowStands c shared mem p ts → In n (funs_in_all ts) → FunOccurs c mem n
    funs-row p end row j = absurd j
    funs-row p (t ▹ ts) (first, rest) j = elim (in-both n (funs_in t) (funs_in_all ts) j) [
      | inl a ↦ funs-stand (get_or mem p 0) t first a
      | inr b ↦ funs-row (p + 1) ts rest b
    ]

    funs-pairs : (p q : ℕ) (ps : Pairs) → KeysStand c shared mem p ps → ValuesStand c shared mem q ps → In n (funs_in_pairs ps) → FunOccurs c mem n
    funs-pairs p q stop ks vs j = absurd j
    funs-pairs p q (pair x y ps) (k, ks) (v, vs) j = elim (in-both n (funs_in x) (funs_in y ++ funs_in_pairs ps) j) [
      | inl a ↦ funs-stand (get_or mem p 0) x k a
      | inr b ↦ elim (in-both n (funs_in y) (funs_in_pairs ps) b) [
        | inl d ↦ funs-stand (get_or mem q 0) y v d
        | inr e ↦ funs-pairs (p + 1) (q + 1) ps ks vs e
      ]
    ]

  pub ids-all-stand : (ws : List ℕ) (ts : Trees) → AllStand c shared mem ws ts → In n (ids_in_all ts) → BinOccurs c shared mem n
  unfolding AllStand
  ids-all-stand [] end all j = absurd j
  ids-all-stand [] (t ▹ ts) all j = absurd all
  ids-all-stand (w ∷ ws) end all j = absurd all
  ids-all-stand (w ∷ ws) (t ▹ ts) (first, rest) j = elim (in-both n (ids_in t) (ids_in_all ts) j) [
    | inl a ↦ ids-stand w t first a
    | inr b ↦ ids-all-stand ws ts rest b
  ]

  pub funs-all-stand : (ws : List ℕ) (ts : Trees) → AllStand c shared mem ws ts → In n (funs_in_all ts) → FunOccurs c mem n
  unfolding AllStand
  funs-all-stand [] end all j = absurd j
  funs-all-stand [] (t ▹ ts) all j = absurd all
  funs-all-stand (w ∷ ws) end all j = absurd all
  funs-all-stand (w ∷ ws) (t ▹ ts) (first, rest) j = elim (in-both n (funs_in t) (funs_in_all ts) j) [
    | inl a ↦ funs-stand w t first a
    | inr b ↦ funs-all-stand ws ts rest b
  ]
