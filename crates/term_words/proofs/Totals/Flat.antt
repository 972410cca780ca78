-- The words of the objects that roots reach, each once, and what their words and the roots owe for references that leave a set
-- of places, are at most the flat words of the roots' trees.
use Rattle.std.proofs.Common.{◌≡◌, ℕ, zero, suc, ◌+◌, ◌-◌, ◌/◌, ◌%◌, ◌<◌, ◌≤◌, ◌⊎◌, ◌==◌, Bool, false, List, [], ◌∷◌, length, get_or, refl, sym, ◌∙◌, ap, subst, arith, inl, inr, true}
use Rattle.std.proofs.lemmas.Bool.Decides.{nat_tests}
use Rattle.std.proofs.lemmas.Bool.{true≢false, cases_Bool}
use Rattle.plain_term.specs.Measures.{flat_of_all}
use Rattle.plain_term.specs.Tree.{Tree, Trees, trees_len, trees_append}
use Rattle.plain_term.specs.Tree.Trees.{end, ◌▹◌}
use Rattle.plain_term.proofs.ListLemmas.{flat_of_all-append}
use Rattle.term_words.specs.Object.{IsPointer, object_words}
use Rattle.term_words.specs.Reach.{Reach, root, part, first_traced, parts_of}
use Rattle.term_words.specs.Stands.{Stands, RowStands, AllStand}
use Rattle.term_words.specs.Counted.{In, Distinct, total, owed_row, words_and_owed, OwesReferences, Listed}
use Rattle.term_words.proofs.Placing.Apart.{words-cons}
use Rattle.term_words.proofs.Reaching.Reached.{scanned, IsScanned, part-stands}
use Rattle.term_words.proofs.Totals.Members.{pointer-or-not, in-or-not, Less, less}

module _ (mem : List ℕ) where
  -- The words of a row, one for each tree, before other words; and the trees before others.

  pub onto : ℕ → Trees → List ℕ → List ℕ
  onto p end ws = ws
  onto p (t ▹ ts) ws = get_or mem p 0 ∷ onto (p + 1) ts ws

  length-onto : (p : ℕ) (ts : Trees) (ws : List ℕ) → length (onto p ts ws) ≡ trees_len ts + length ws
  unfolding onto
  length-onto p end ws = omega arith
  length-onto p (t ▹ ts) ws = omega (arith, length-onto (p + 1) ts ws)

  all-onto : (c : ℕ → ℕ → Bool) (shared : List (List ℕ)) (p : ℕ) (ts : Trees) (ws : List ℕ) (us : Trees) → RowStands c shared mem p ts → AllStand c shared mem ws us
      → AllStand c shared mem (onto p ts ws) (trees_append ts us)
  unfolding onto RowStands AllStand
  all-onto c shared p end ws us row all = all
  all-onto c shared p (t ▹ ts) ws us (s, row) all = (s, all-onto c shared (p + 1) ts ws us row all)

  wider : (x : ℕ) (ws : List ℕ) (v : ℕ) → Reach mem ws v → Reach mem (x ∷ ws) v
  wider x ws v (root i y below e) = root (suc i) v (omega arith) e
  wider x ws v (part u k y r q from below e) = part u k v (wider x ws u r) q from below e

  onto-rest : (p : ℕ) (ts : Trees) (ws : List ℕ) (v : ℕ) → Reach mem ws v → Reach mem (onto p ts ws) v
  unfolding onto
  onto-rest p end ws v r = r
  onto-rest p (t ▹ ts) ws v r = wider (get_or mem p 0) (onto (p + 1) ts ws) v (onto-rest (p + 1) ts ws v r)

  onto-first : (p : ℕ) (ts : Trees) (ws : List ℕ) (j v : ℕ) → j < trees_len ts → v ≡ get_or mem (p + j) 0 → Reach mem (onto p ts ws) v
  unfolding onto
  onto-first p end ws j v below e = absurd (omega arith)
  onto-first p (t ▹ ts) ws zero v below e = root 0 v (omega arith) (e ∙ ap (λ z. get_or mem z 0) (omega arith))
  onto-first p (t ▹ ts) ws (suc j) v below e = wider (get_or mem p 0) (onto (p + 1) ts ws) v (onto-first (p + 1) ts ws j v (omega arith) (e ∙ ap (λ z. get_or mem z 0) (omega arith)))

  -- What a pointer and other words reach is the pointer, or is reached from its parts and the other words.
  split : (w : ℕ) (ts : Trees) (ws : List ℕ) → first_traced mem w + trees_len ts ≡ object_words mem w → (v : ℕ) → Reach mem (w ∷ ws) v → (v ≡ w) ⊎ Reach mem (onto (w / 4 + first_traced mem w) ts ws) v
  split w ts ws ends v (root zero y below e) = inl e
  split w ts ws ends v (root (suc i) y below e) = inr (onto-rest (w / 4 + first_traced mem w) ts ws v (root i v (omega arith) e))
  split w ts ws ends v (part u k y r q from below e) =
      elim (split w ts ws ends u r) [
        | inl same ↦ (let P : ℕ → Type 0 = λ z. (first_traced mem z ≤ k) × (k < object_words mem z) in
            let b : (first_traced mem w ≤ k) × (k < object_words mem w) = subst P same (from, below) in
            let place : w / 4 + first_traced mem w + (k - first_traced mem w) ≡ u / 4 + k = omega (arith, b, same) in
            inr (onto-first (w / 4 + first_traced mem w) ts ws (k - first_traced mem w) v (omega (arith, b, ends)) (e ∙ ap (λ z. get_or mem z 0) (sym place))))
        | inr s ↦ inr (part u k v s q from below e)
      ]

  split-none : (w : ℕ) (ws : List ℕ) → (IsPointer w → ⊥) → (v : ℕ) → Reach mem (w ∷ ws) v → (v ≡ w) ⊎ Reach mem ws v
  split-none w ws n v (root zero y below e) = inl e
  split-none w ws n v (root (suc i) y below e) = inr (root i v (omega arith) e)
  split-none w ws n v (part u k y r q from below e) =
      elim (split-none w ws n u r) [
        | inl same ↦ absurd (let P : ℕ → Type 0 = λ z. IsPointer z in n (subst P same q))
        | inr s ↦ inr (part u k v s q from below e)
      ]

  pub nothing : (v : ℕ) → Reach mem [] v → ⊥
  nothing v (root i y below e) = omega arith
  nothing v (part u k y r q from below e) = nothing u r

  pub words-some : (w : ℕ) → IsPointer w → 0 < object_words mem w
  words-some w (inl tag) = omega (arith, words-cons mem w tag)
  words-some w (inr tag) = let one : (w % 4 == 1) ≡ false = grind (arith, nat_tests) in rw one (omega arith)

  not-same : (v w : ℕ) → (IsPointer w → ⊥) → IsPointer v → v ≡ w → ⊥
  not-same v w n p e = let P : ℕ → Type 0 = λ z. IsPointer z in n (subst P e p)

  owed-onto : (owed : ℕ → ℕ) (p : ℕ) (ts : Trees) (ws : List ℕ) → total owed (onto p ts ws) ≡ owed_row owed mem p (trees_len ts) + total owed ws
  unfolding onto
  owed-onto owed p end ws = omega arith
  owed-onto owed p (t ▹ ts) ws =
      let one : trees_len (t ▹ ts) ≡ suc (trees_len ts) = omega arith in
      let first : owed_row owed mem p (trees_len (t ▹ ts)) ≡ owed (get_or mem p 0) + owed_row owed mem (p + 1) (trees_len ts) = ap (λ n. owed_row owed mem p n) one in
      omega (arith, first, owed-onto owed (p + 1) ts ws)

  module _ (c : ℕ → ℕ → Bool) (shared : List (List ℕ)) (s : ℕ → Bool) (owed : ℕ → ℕ) (o : OwesReferences c shared mem s owed) where
    weight : ℕ → ℕ
    weight v = words_and_owed owed mem v

    none-left : (vs : List ℕ) → ((v : ℕ) → In v vs → Reach mem [] v) → total weight vs ≡ 0
    none-left [] r = refl
    none-left (v ∷ vs) r = absurd (nothing v (r v (inl refl)))

    weight-is : (w : ℕ) (t : Tree) → IsScanned c shared mem w t → weight w ≡ object_words mem w + owed_row owed mem (w / 4 + first_traced mem w) (trees_len (parts_of t))
    unfolding weight
    weight-is w t sc =
        let left : object_words mem w - first_traced mem w ≡ trees_len (parts_of t) = omega (arith, sc.ends) in
        ap (λ n. object_words mem w + owed_row owed mem (w / 4 + first_traced mem w) n) left

    -- What a pointer into the set and other words reach lies in the set, or is reached from the other words.
    leads : (w : ℕ) (t : Tree) (ws : List ℕ) → Stands c shared mem w t → IsPointer w → s (w / 4) ≡ true → (v : ℕ) → Reach mem (w ∷ ws) v
        → (IsPointer v → (s (v / 4) ≡ true) × ((u : Tree) × Stands c shared mem v u)) ⊎ Reach mem ws v
    leads w t ws st y here v (root zero x below e) = inl (λ p.
        let P : ℕ → Type 0 = λ z. (s (z / 4) ≡ true) × ((u : Tree) × Stands c shared mem z u) in
        subst P (sym e) (here, (t, st)))
    leads w t ws st y here v (root (suc i) x below e) = inr (root i v (omega arith) e)
    leads w t ws st y here v (part u k x r q from below e) = elim (leads w t ws st y here u r) [
      | inr z ↦ inr (part u k v z q from below e)
      | inl f ↦ inl (λ p.
          let (inside, (a, stands)) = f q in
          let (b, (part_is, less)) = part-stands c shared mem u a k stands q from below in
          let P : ℕ → Type 0 = λ z. (s (z / 4) ≡ true) × ((n : Tree) × Stands c shared mem z n) in
          let Q : ℕ → Type 0 = λ z. IsPointer z in
          subst P (sym e) (o.closed u k a stands q inside from below (subst Q e p), (b, part_is)))
    ]

    beyond : (w : ℕ) (t : Tree) (ws : List ℕ) → Stands c shared mem w t → IsPointer w → s (w / 4) ≡ true → (v : ℕ) → Reach mem (w ∷ ws) v → IsPointer v → s (v / 4) ≡ false → Reach mem ws v
    beyond w t ws st y here v r p out = elim (leads w t ws st y here v r) [ inr z ↦ z | inl f ↦ absurd (true≢false (sym (f p).0 ∙ out)) ]

    -- A bound on the work that is left goes down with each word.
    bounded : (n : ℕ) (ws : List ℕ) (ts : Trees) → AllStand c shared mem ws ts → flat_of_all ts + length ws ≤ n
        → (vs : List ℕ) → Distinct vs → ((v : ℕ) → In v vs → IsPointer v × (Reach mem ws v × (s (v / 4) ≡ false))) → total weight vs + total owed ws ≤ flat_of_all ts
    unfolding AllStand
    bounded n [] end all le vs d r = omega (arith, none-left vs (λ v i. (r v i).1.0))
    bounded n [] (t ▹ ts) all le vs d r = absurd all
    bounded n (w ∷ ws) end all le vs d r = absurd all
    bounded zero (w ∷ ws) (t ▹ ts) all le vs d r = absurd (omega arith)
    bounded (suc n) (w ∷ ws) (t ▹ ts) (st, all) le vs d r =
        elim (pointer-or-not w) [
          | inr nt ↦ (let low : total weight vs + total owed ws ≤ flat_of_all ts = bounded n ws ts all (omega arith) vs d (λ v i. (
            (r v i).0,
            (elim (split-none w ws nt v (r v i).1.0) [ inl e ↦ absurd (not-same v w nt (r v i).0 e) | inr z ↦ z ], (r v i).1.1),
          )) in
              omega (arith, low, o.others w (λ p h. nt p)))
          | inl y ↦ elim (cases_Bool (s (w / 4))) [
            | inl here ↦ (let low : total weight vs + total owed ws ≤ flat_of_all ts =
                bounded n ws ts all (omega arith) vs d (λ v i. ((r v i).0, (beyond w t ws st y here v (r v i).1.0 (r v i).0 (r v i).1.1, (r v i).1.1))) in
                omega (arith, low, o.into w t st y here))
            | inr out ↦ (let sc : IsScanned c shared mem w t = scanned c shared mem w t st y in
                let l : Less weight w vs = less weight w vs d in
                let some : 0 < object_words mem w = words-some w y in
                let low : total weight l.rest + total owed (onto (w / 4 + first_traced mem w) (parts_of t) ws) ≤ flat_of_all (trees_append (parts_of t) ts) =
                bounded n (onto (w / 4 + first_traced mem w) (parts_of t) ws) (trees_append (parts_of t) ts)
                (all-onto c shared (w / 4 + first_traced mem w) (parts_of t) ws ts sc.row all)
                (omega (arith, le, sc.left, sc.ends, some, flat_of_all-append (parts_of t) ts, length-onto (w / 4 + first_traced mem w) (parts_of t) ws))
                l.rest l.once
                (λ v i. (
                  (r v (l.inner v i).0).0,
                  (
                    elim (split w (parts_of t) ws sc.ends v (r v (l.inner v i).0).1.0) [ inl e ↦ absurd ((l.inner v i).1 e) | inr z ↦ z ],
                    (r v (l.inner v i).0).1.1,
                  ),
                )) in
                omega (
                  arith,
                  low,
                  l.words,
                  sc.left,
                  flat_of_all-append (parts_of t) ts,
                  owed-onto owed (w / 4 + first_traced mem w) (parts_of t) ws,
                  weight-is w t sc,
                  o.others w (λ p h. true≢false (sym h ∙ out)),
                ))
          ]
        ]

  -- A word of the row or of the others is one of these.
  onto-place : (p : ℕ) (ts : Trees) (ws : List ℕ) (i v : ℕ) → i < length (onto p ts ws) → v ≡ get_or (onto p ts ws) i 0
      → ((j : ℕ) × ((j < trees_len ts) × (v ≡ get_or mem (p + j) 0))) ⊎ ((j : ℕ) × ((j < length ws) × (v ≡ get_or ws j 0)))
  unfolding onto
  onto-place p end ws i v below e = inr (i, (below, e))
  onto-place p (t ▹ ts) ws zero v below e = inl (0, (omega arith, e ∙ ap (λ z. get_or mem z 0) (omega arith)))
  onto-place p (t ▹ ts) ws (suc i) v below e =
      elim (onto-place (p + 1) ts ws i v (omega arith) e) [
        | inl (j, (l, f)) ↦ inl (suc j, (omega arith, f ∙ ap (λ z. get_or mem z 0) (omega arith)))
        | inr o ↦ inr o
      ]

  -- What the parts of a pointer and other words reach, the pointer and these reach.
  back : (w : ℕ) (ts : Trees) (ws : List ℕ) → IsPointer w → first_traced mem w + trees_len ts ≡ object_words mem w → (v : ℕ) → Reach mem (onto (w / 4 + first_traced mem w) ts ws) v
      → Reach mem (w ∷ ws) v
  back w ts ws y ends v (root i x below e) =
      elim (onto-place (w / 4 + first_traced mem w) ts ws i v below e) [
        | inl (j, (l, f)) ↦ part w (first_traced mem w + j) v (root 0 w (omega arith) refl) y (omega arith) (omega (arith, ends)) (f ∙ ap (λ z. get_or mem z 0) (omega arith))
        | inr (j, (l, f)) ↦ root (suc j) v (omega arith) f
      ]
  back w ts ws y ends v (part u k x r q from below e) = part u k v (back w ts ws y ends u r) q from below e

  -- The list of what is reached grows by the first word where this is an object and is not in it.
  with-first : (w : ℕ) (ws us : List ℕ) (o : Listed mem us) → IsPointer w → ((v : ℕ) → Reach mem (w ∷ ws) v → (v ≡ w) ⊎ Reach mem us v) → ((v : ℕ) → Reach mem us v → Reach mem (w ∷ ws) v)
      → Listed mem (w ∷ ws)
  with-first w ws us o y out into =
      elim (in-or-not w o.each) [
        | inl there ↦ record {
          each = o.each;
          once = o.once;
          all = λ v r p. elim (out v r) [ inl e ↦ (let P : ℕ → Type 0 = λ z. In z o.each in subst P (sym e) there) | inr z ↦ o.all v z p ];
          only = λ v i. ((o.only v i).0, into v (o.only v i).1);
        }
        | inr fresh ↦ record {
          each = w ∷ o.each;
          once = (fresh, o.once);
          all = λ v r p. elim (out v r) [ inl e ↦ inl e | inr z ↦ inr (o.all v z p) ];
          only = λ v i. elim i [
            | inl e ↦ (let P : ℕ → Type 0 = λ z. IsPointer z × Reach mem (w ∷ ws) z in subst P (sym e) (y, root 0 w (omega arith) refl))
            | inr j ↦ ((o.only v j).0, into v (o.only v j).1)
          ];
        }
      ]

  listing : (n : ℕ) (c : ℕ → ℕ → Bool) (shared : List (List ℕ)) (ws : List ℕ) (ts : Trees) → AllStand c shared mem ws ts → flat_of_all ts + length ws ≤ n → Listed mem ws
  unfolding AllStand
  listing n c shared [] end all le = record { each = []; once = tt; all = λ v r p. absurd (nothing v r); only = λ v i. absurd i }
  listing n c shared [] (t ▹ ts) all le = absurd all
  listing n c shared (w ∷ ws) end all le = absurd all
  listing zero c shared (w ∷ ws) (t ▹ ts) all le = absurd (omega arith)
  listing (suc n) c shared (w ∷ ws) (t ▹ ts) (s, all) le =
      elim (pointer-or-not w) [
        | inr nt ↦ (let o : Listed mem ws = listing n c shared ws ts all (omega arith) in
            record {
              each = o.each;
              once = o.once;
              all = λ v r p. elim (split-none w ws nt v r) [ inl e ↦ absurd (not-same v w nt p e) | inr z ↦ o.all v z p ];
              only = λ v i. ((o.only v i).0, wider w ws v (o.only v i).1);
            })
        | inl y ↦ (let sc : IsScanned c shared mem w t = scanned c shared mem w t s y in
            let some : 0 < object_words mem w = words-some w y in
            let o : Listed mem (onto (w / 4 + first_traced mem w) (parts_of t) ws) =
            listing n c shared (onto (w / 4 + first_traced mem w) (parts_of t) ws) (trees_append (parts_of t) ts)
            (all-onto c shared (w / 4 + first_traced mem w) (parts_of t) ws ts sc.row all)
            (omega (arith, le, sc.left, sc.ends, some, flat_of_all-append (parts_of t) ts, length-onto (w / 4 + first_traced mem w) (parts_of t) ws)) in
            with-first w ws (onto (w / 4 + first_traced mem w) (parts_of t) ws) o y (split w (parts_of t) ws sc.ends) (back w (parts_of t) ws y sc.ends))
      ]

pub references : (c : ℕ → ℕ → Bool) (shared : List (List ℕ)) (mem roots : List ℕ) (ts : Trees) (vs : List ℕ) (s : ℕ → Bool) (owed : ℕ → ℕ) → AllStand c shared mem roots ts
    → OwesReferences c shared mem s owed → Distinct vs → ((v : ℕ) → In v vs → IsPointer v × (Reach mem roots v × (s (v / 4) ≡ false)))
    → total (words_and_owed owed mem) vs + total owed roots ≤ flat_of_all ts
unfolding weight
references c shared mem roots ts vs s owed all o d r = bounded mem c shared s owed o (flat_of_all ts + length roots) roots ts all (omega arith) vs d r

total-more : (f g : ℕ → ℕ) (vs : List ℕ) → ((v : ℕ) → f v ≤ g v) → total f vs ≤ total g vs
total-more f g [] more = omega arith
total-more f g (v ∷ vs) more = omega (arith, more v, total-more f g vs more)

-- Where nothing is in the set, nothing is owed.
pub flat-total : (c : ℕ → ℕ → Bool) (shared : List (List ℕ)) (mem roots : List ℕ) (ts : Trees) (vs : List ℕ) → AllStand c shared mem roots ts → Distinct vs
    → ((v : ℕ) → In v vs → IsPointer v × Reach mem roots v)
    → total (object_words mem) vs ≤ flat_of_all ts
flat-total c shared mem roots ts vs all d r =
    let none : OwesReferences c shared mem (λ q. false) (λ v. 0) = record {
      closed = λ v k t st y h from below p. h;
      into = λ v t st y h. absurd (true≢false (sym h));
      others = λ v n. refl;
    } in
    let sum : total (words_and_owed (λ v. 0) mem) vs + total (λ v. 0) roots ≤ flat_of_all ts =
    references c shared mem roots ts vs (λ q. false) (λ v. 0) all none d (λ v i. ((r v i).0, ((r v i).1, refl))) in
    omega (arith, sum, total-more (object_words mem) (words_and_owed (λ v. 0) mem) vs (λ v. omega arith))

pub listed : (c : ℕ → ℕ → Bool) (shared : List (List ℕ)) (mem roots : List ℕ) (ts : Trees) → AllStand c shared mem roots ts → Listed mem roots
listed c shared mem roots ts all = listing mem (flat_of_all ts + length roots) c shared roots ts all (omega arith)
