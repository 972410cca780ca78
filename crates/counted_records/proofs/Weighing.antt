-- What weighs no more in a tree than the tree weighs no more among all that roots reach.
use Rattle.std.proofs.Common.{◌≡◌, ℕ, zero, suc, ◌+◌, ◌-◌, ◌/◌, ◌<◌, ◌≤◌, Bool, List, [], ◌∷◌, ◌++◌, length, get_or}
use Rattle.std.proofs.Common.{refl, sym, ◌∙◌, ap, subst, arith, inl, inr}
use Rattle.plain_term.specs.Measures.{flat, flat_of_all}
use Rattle.plain_term.specs.Tree.{Tree, Trees, trees_len}
use Rattle.plain_term.specs.Tree.Tree.{Cons, Tuple, Map, Shared, Part, Fun}
use Rattle.plain_term.specs.Tree.Trees.{end, ◌▹◌}
use Rattle.term_words.specs.Object.{IsPointer, object_words}
use Rattle.term_words.specs.Stands.{Stands, RowStands, AllStand, tree_at}
use Rattle.term_words.specs.Reach.{Reach, root, part, first_traced, parts_of}
use Rattle.term_words.specs.Counted.{In, Distinct, total}
use Rattle.term_words.proofs.ByKind.Makes.{all-length}
use Rattle.term_words.proofs.Totals.Members.{pointer-or-not, in-left, in-right, both-total, Less, less}
use Rattle.term_words.proofs.ByKind.Shapes.{Told, told, row-at, all-at}
use Rattle.term_words.proofs.Reaching.Reached.{IsScanned, scanned}
use Rattle.term_words.proofs.Totals.Flat.{words-some}

-- A list without repetition whose words are all in another list has no greater sizes together.
pub total-within : (size : ℕ → ℕ) (vs us : List ℕ) → Distinct vs → ((v : ℕ) → In v vs → In v us) → total size vs ≤ total size us
total-within size [] [] d inside = omega arith
total-within size (v ∷ vs) [] d inside = absurd (inside v (inl refl))
total-within size vs (u ∷ us) d inside =
    let o : Less size u vs = less size u vs d in
    let low : total size o.rest ≤ total size us = total-within size o.rest us o.once (λ v i. elim (inside v (o.inner v i).0) [ inl e ↦ absurd ((o.inner v i).1 e) | inr j ↦ j ]) in
    omega (arith, low, o.words)

-- The weights of all trees of a list.
abbrev pub weighed : (Tree → ℕ) → Trees → ℕ
weighed weigh end = 0
weighed weigh (t ▹ ts) = weigh t + weighed weigh ts

weighed-at : (weigh : Tree → ℕ) (ts : Trees) (i : ℕ) → i < trees_len ts → weigh (tree_at ts i) ≤ weighed weigh ts
weighed-at weigh end i below = absurd (omega arith)
weighed-at weigh (t ▹ ts) zero below = omega arith
weighed-at weigh (t ▹ ts) (suc i) below = omega (arith, weighed-at weigh ts i (omega arith))

weighed-flat : (ts : Trees) → weighed flat ts ≡ flat_of_all ts
weighed-flat end = refl
weighed-flat (t ▹ ts) = omega (arith, weighed-flat ts)

-- The word itself, where its tree is of a kind that names a record.
abbrev pub own : ℕ → Tree → List ℕ
own w (Shared id) = w ∷ []
own w (Fun name arity creator env) = w ∷ []
own w _ = []

-- An immediate has no parts.
no-parts : (t : Tree) (w h : ℕ) → Told t w h → (IsPointer w → ⊥) → parts_of t ≡ end
no-parts (Cons x y) w h s n = absurd (n (inl s))
no-parts (Tuple ts) w h s n = absurd (n (inr s.0))
no-parts (Map ps) w h s n = absurd (n (inr s.0))
no-parts (Part base offset len) w h s n = absurd (n (inr s.0))
no-parts (Fun name arity creator env) w h s n = absurd (n (inr s.0))
no-parts _ w h s n = refl

module _ (c : ℕ → ℕ → Bool) (shared : List (List ℕ)) (mem : List ℕ) where
  -- All words of a row, and all words within a tree so many levels deep, that name records.

  row : (ℕ → Tree → List ℕ) → ℕ → Trees → List ℕ
  row f p end = []
  row f p (t ▹ ts) = f (get_or mem p 0) t ++ row f (p + 1) ts

  links : ℕ → ℕ → Tree → List ℕ
  links zero w t = []
  links (suc n) w t = own w t ++ row (links n) (w / 4 + first_traced mem w) (parts_of t)

  all-links : ℕ → List ℕ → Trees → List ℕ
  all-links n (w ∷ ws) (t ▹ ts) = links n w t ++ all-links n ws ts
  all-links n _ _ = []

  -- A part's words are among them.

  in-row : (f : ℕ → Tree → List ℕ) (p : ℕ) (ts : Trees) (j x : ℕ) → j < trees_len ts → In x (f (get_or mem (p + j) 0) (tree_at ts j)) → In x (row f p ts)
  unfolding row
  in-row f p end j x below i = absurd (omega arith)
  in-row f p (t ▹ ts) zero x below i =
      let here : p + 0 ≡ p = omega arith in
      let P : ℕ → Type 0 = λ q. In x (f (get_or mem q 0) t) in
      in-left x (f (get_or mem p 0) t) (row f (p + 1) ts) (subst P here i)
  in-row f p (t ▹ ts) (suc j) x below i =
      let there : p + suc j ≡ (p + 1) + j = omega arith in
      let P : ℕ → Type 0 = λ q. In x (f (get_or mem q 0) (tree_at ts j)) in
      in-right x (f (get_or mem p 0) t) (row f (p + 1) ts) (in-row f (p + 1) ts j x (omega arith) (subst P there i))

  in-all : (n : ℕ) (ws : List ℕ) (ts : Trees) (j x : ℕ) → AllStand c shared mem ws ts → j < length ws → In x (links n (get_or ws j 0) (tree_at ts j)) → In x (all-links n ws ts)
  unfolding all-links AllStand
  in-all n [] ts j x all below i = absurd (omega arith)
  in-all n (w ∷ ws) end j x all below i = absurd all
  in-all n (w ∷ ws) (t ▹ ts) zero x all below i = in-left x (links n w t) (all-links n ws ts) i
  in-all n (w ∷ ws) (t ▹ ts) (suc j) x (first, rest) below i = in-right x (links n w t) (all-links n ws ts) (in-all n ws ts j x rest (omega arith) i)

  -- A word that was reached stands, and those within its tree are among the roots'.
  record Seen (roots : List ℕ) (ts : Trees) (w : ℕ) : Type 0 where
    pub tree : Tree
    pub standing : Stands c shared mem w tree
    pub deep : ℕ
    pub enough : flat tree ≤ deep
    pub among : (x : ℕ) → In x (links (suc deep) w tree) → In x (all-links (suc (flat_of_all ts)) roots ts)

  -- A part of an object that was seen.
  seen-part : (roots : List ℕ) (ts : Trees) (v w j : ℕ) (s : Seen roots ts v) → j < trees_len (parts_of s.tree) → Stands c shared mem w (tree_at (parts_of s.tree) j)
      → get_or mem (v / 4 + first_traced mem v + j) 0 ≡ w → flat (tree_at (parts_of s.tree) j) < flat s.tree → Seen roots ts w
  unfolding links
  seen-part roots ts v w j s few standing word less = record {
    tree = tree_at (parts_of s.tree) j;
    standing = standing;
    deep = s.deep - 1;
    enough = omega (arith, less, s.enough);
    among = λ y inside.
        let same : suc (s.deep - 1) ≡ s.deep = omega (arith, less, s.enough) in
        let P : ℕ → Type 0 = λ n. In y (links n w (tree_at (parts_of s.tree) j)) in
        let Q : ℕ → Type 0 = λ z. In y (links s.deep z (tree_at (parts_of s.tree) j)) in
        s.among y
        (in-right y (own v s.tree) (row (links s.deep) (v / 4 + first_traced mem v) (parts_of s.tree))
        (in-row (links s.deep) (v / 4 + first_traced mem v) (parts_of s.tree) j y few (subst Q (sym word) (subst P same inside))));
  }

  seen : (roots : List ℕ) (ts : Trees) → AllStand c shared mem roots ts → (w : ℕ) → Reach mem roots w → Seen roots ts w
  seen roots ts all w (root i x below e) =
      let P : ℕ → Type 0 = λ y. Stands c shared mem y (tree_at ts i) in
      let few : i < trees_len ts = omega (arith, all-length c shared mem roots ts all) in
      record {
        tree = tree_at ts i;
        standing = subst P (sym e) (all-at c shared mem roots ts i all below);
        deep = flat_of_all ts;
        enough = omega (arith, weighed-at flat ts i few, weighed-flat ts);
        among = λ y inside.
            let Q : ℕ → Type 0 = λ z. In y (links (suc (flat_of_all ts)) z (tree_at ts i)) in
            in-all (suc (flat_of_all ts)) roots ts i y all below (subst Q e inside);
      }
  seen roots ts all w (part v k x r p from below e) =
      let s : Seen roots ts v = seen roots ts all v r in
      let sc : IsScanned c shared mem v s.tree = scanned c shared mem v s.tree s.standing p in
      let few : k - first_traced mem v < trees_len (parts_of s.tree) = omega (arith, sc.ends, from, below) in
      let at : v / 4 + first_traced mem v + (k - first_traced mem v) ≡ v / 4 + k = omega (arith, from) in
      let S : ℕ → Type 0 = λ q. Stands c shared mem q (tree_at (parts_of s.tree) (k - first_traced mem v)) in
      let word : get_or mem (v / 4 + first_traced mem v + (k - first_traced mem v)) 0 ≡ w = ap (λ q. get_or mem q 0) at ∙ sym e in
      let some : 0 < object_words mem v = words-some mem v p in
      let less : flat (tree_at (parts_of s.tree) (k - first_traced mem v)) < flat s.tree =
      omega (arith, sc.left, some, weighed-at flat (parts_of s.tree) (k - first_traced mem v) few, weighed-flat (parts_of s.tree)) in
      seen-part roots ts v w (k - first_traced mem v) s few (subst S word (row-at c shared mem (v / 4 + first_traced mem v) (parts_of s.tree) (k - first_traced mem v) sc.row few)) word less

  -- An object that names a record is among its own tree's words.
  own-among : (roots : List ℕ) (ts : Trees) → AllStand c shared mem roots ts → (w : ℕ) → Reach mem roots w → ((t : Tree) → Stands c shared mem w t → In w (own w t))
      → In w (all-links (suc (flat_of_all ts)) roots ts)
  unfolding links
  own-among roots ts all w r is =
      let s : Seen roots ts w = seen roots ts all w r in
      s.among w (in-left w (own w s.tree) (row (links s.deep) (w / 4 + first_traced mem w) (parts_of s.tree)) (is s.tree s.standing))

  -- What the words of a tree weigh, where each weighs no more than its tree beside its parts.

  pub record HasWeights (size : ℕ → ℕ) (weigh : Tree → ℕ) : Type 0 where
    pub each : (w : ℕ) (t : Tree) → Stands c shared mem w t → total size (own w t) + weighed weigh (parts_of t) ≤ weigh t

  parts-stand : (w : ℕ) (t : Tree) → Stands c shared mem w t → RowStands c shared mem (w / 4 + first_traced mem w) (parts_of t)
  unfolding RowStands
  parts-stand w t s = elim (pointer-or-not w) [
    | inl p ↦ (scanned c shared mem w t s p).row
    | inr n ↦
        let P : Trees → Type 0 = λ us. RowStands c shared mem (w / 4 + first_traced mem w) us in
        subst P (sym (no-parts t w (get_or mem (w / 4) 0) (told c shared mem w t s) n)) tt
  ]

  row-weighs : (size : ℕ → ℕ) (weigh : Tree → ℕ) (f : ℕ → Tree → List ℕ) → ((w : ℕ) (t : Tree) → Stands c shared mem w t → total size (f w t) ≤ weigh t) → (p : ℕ) (ts : Trees)
      → RowStands c shared mem p ts → total size (row f p ts) ≤ weighed weigh ts
  unfolding row RowStands
  row-weighs size weigh f each p end r = omega arith
  row-weighs size weigh f each p (t ▹ ts) (first, rest) =
      omega (arith, both-total size (f (get_or mem p 0) t) (row f (p + 1) ts), each (get_or mem p 0) t first, row-weighs size weigh f each (p + 1) ts rest)

  links-weigh : (size : ℕ → ℕ) (weigh : Tree → ℕ) (h : HasWeights size weigh) (n w : ℕ) (t : Tree) → Stands c shared mem w t → total size (links n w t) ≤ weigh t
  unfolding links
  links-weigh size weigh h zero w t s = omega arith
  links-weigh size weigh h (suc n) w t s =
      omega (
        arith,
        both-total size (own w t) (row (links n) (w / 4 + first_traced mem w) (parts_of t)),
        h.each w t s,
        row-weighs size weigh (links n) (λ x u q. links-weigh size weigh h n x u q) (w / 4 + first_traced mem w) (parts_of t) (parts-stand w t s),
      )

  all-weigh : (size : ℕ → ℕ) (weigh : Tree → ℕ) (h : HasWeights size weigh) (n : ℕ) (ws : List ℕ) (ts : Trees) → AllStand c shared mem ws ts → total size (all-links n ws ts) ≤ weighed weigh ts
  unfolding all-links AllStand
  all-weigh size weigh h n [] end all = omega arith
  all-weigh size weigh h n [] (t ▹ ts) all = absurd all
  all-weigh size weigh h n (w ∷ ws) end all = absurd all
  all-weigh size weigh h n (w ∷ ws) (t ▹ ts) (first, rest) =
      omega (arith, both-total size (links n w t) (all-links n ws ts), links-weigh size weigh h n w t first, all-weigh size weigh h n ws ts rest)

  -- Words that are reached, each once, weigh together no more than the roots' trees.
  pub weights-cover : (roots : List ℕ) (ts : Trees) (size : ℕ → ℕ) (weigh : Tree → ℕ) (vs : List ℕ) → AllStand c shared mem roots ts → HasWeights size weigh → Distinct vs
      → ((v : ℕ) → In v vs → Reach mem roots v) → ((v : ℕ) (t : Tree) → In v vs → Stands c shared mem v t → In v (own v t)) → total size vs ≤ weighed weigh ts
  weights-cover roots ts size weigh vs all h once reached is =
      omega (
        arith,
        total-within size vs (all-links (suc (flat_of_all ts)) roots ts) once (λ v i. own-among roots ts all v (reached v i) (λ t s. is v t i s)),
        all-weigh size weigh h (suc (flat_of_all ts)) roots ts all,
      )
