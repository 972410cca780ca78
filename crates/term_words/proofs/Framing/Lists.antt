-- Words that stand side by side.
use Rattle.std.proofs.Common.{◌≡◌, ℕ, suc, ◌+◌, ◌<◌, Bool, List, [], ◌∷◌, ◌++◌, length, get_or, refl, sym, ap, subst, arith, inl, inr}
use Rattle.plain_term.specs.Tree.{Tree, Trees, trees_len, trees_append}
use Rattle.plain_term.specs.Tree.Trees.{end, ◌▹◌}
use Rattle.term_words.specs.Stands.{tree_at, Stands, RowStands, AllStand}
use Rattle.term_words.specs.Counted.{In}
use Rattle.term_words.proofs.ByKind.Shapes.{row-at}

module _ (c : ℕ → ℕ → Bool) (shared : List (List ℕ)) (mem : List ℕ) where
  -- The words of two rows, one after the other.
  pub all-join : (xs ys : List ℕ) (ts us : Trees) → AllStand c shared mem xs ts → AllStand c shared mem ys us → AllStand c shared mem (xs ++ ys) (trees_append ts us)
  unfolding AllStand
  all-join [] ys end us none more = more
  all-join [] ys (t ▹ ts) us some more = absurd some
  all-join (x ∷ xs) ys end us some more = absurd some
  all-join (x ∷ xs) ys (t ▹ ts) us (first, rest) more = (first, all-join xs ys ts us rest more)

  -- The words of two rows, by the trees of each.
  pub all-split : (xs ys : List ℕ) (ts us : Trees) → length xs ≡ trees_len ts → AllStand c shared mem (xs ++ ys) (trees_append ts us) → AllStand c shared mem xs ts × AllStand c shared mem ys us
  unfolding AllStand
  all-split [] ys end us e all = (tt, all)
  all-split [] ys (t ▹ ts) us e all = absurd (omega arith)
  all-split (x ∷ xs) ys end us e all = absurd (omega arith)
  all-split (x ∷ xs) ys (t ▹ ts) us e (first, others) =
      let two = all-split xs ys ts us (omega arith) others in
      ((first, two.0), two.1)

  -- The trees of two rows, by the words of each.
  pub all-cut : (xs ys : List ℕ) (vs : Trees) → AllStand c shared mem (xs ++ ys) vs → (ts us : Trees) × ((vs ≡ trees_append ts us) × (AllStand c shared mem xs ts × AllStand c shared mem ys us))
  unfolding AllStand
  all-cut [] ys vs all = (end, vs, (refl, (tt, all)))
  all-cut (x ∷ xs) ys end all = absurd all
  all-cut (x ∷ xs) ys (v ▹ vs) (first, others) =
      let (ts, us, (e, (a, b))) = all-cut xs ys vs others in
      (v ▹ ts, us, (ap (λ z. v ▹ z) e, ((first, a), b)))

  -- Words one by one, and the list of them.

  pub all-at-each : (ws : List ℕ) (ts : Trees) → length ws ≡ trees_len ts → ((i : ℕ) → i < length ws → Stands c shared mem (get_or ws i 0) (tree_at ts i)) → AllStand c shared mem ws ts
  unfolding AllStand
  all-at-each [] end same each = tt
  all-at-each [] (t ▹ ts) same each = absurd (omega arith)
  all-at-each (w ∷ ws) end same each = absurd (omega arith)
  all-at-each (w ∷ ws) (t ▹ ts) same each = (each 0 (omega arith), all-at-each ws ts (omega arith) (λ i below. each (suc i) (omega arith)))

  pub all-of-members : (ws : List ℕ) → ((w : ℕ) → In w ws → (t : Tree) × Stands c shared mem w t) → (ts : Trees) × AllStand c shared mem ws ts
  unfolding AllStand
  all-of-members [] each = (end, tt)
  all-of-members (w ∷ ws) each =
      let (t, first) = each w (inl refl) in
      let (ts, rest) = all-of-members ws (λ v i. each v (inr i)) in
      (t ▹ ts, (first, rest))

  pub member-stands : (ws : List ℕ) (ts : Trees) → AllStand c shared mem ws ts → (w : ℕ) → In w ws → (t : Tree) × Stands c shared mem w t
  unfolding AllStand
  member-stands [] ts all w i = absurd i
  member-stands (v ∷ ws) end all w i = absurd all
  member-stands (v ∷ ws) (t ▹ ts) (first, rest) w (inl e) = (t, (let P : ℕ → Type 0 = λ x. Stands c shared mem x t in subst P (sym e) first))
  member-stands (v ∷ ws) (t ▹ ts) (first, rest) w (inr i) = member-stands ws ts rest w i

  -- Words that stand in the memory side by side.

  pub all-row : (p : ℕ) (ws : List ℕ) (ts : Trees) → length ws ≡ trees_len ts → ((j : ℕ) → j < length ws → get_or mem (p + j) 0 ≡ get_or ws j 0) → RowStands c shared mem p ts
      → AllStand c shared mem ws ts
  all-row p ws ts count same row = all-at-each ws ts count (λ j below. let P : ℕ → Type 0 = λ x. Stands c shared mem x (tree_at ts j) in subst P (same j below)
      (row-at c shared mem p ts j row (omega arith)))
