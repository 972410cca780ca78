-- A pair is put at a spot: its words among those of the rows, and the pairs that stand there then.
use Rattle.std.proofs.Common.{◌≡◌, ℕ, zero, suc, ◌+◌, ◌<◌, ◌≤◌, Bool, List, [], ◌∷◌, length, set, take, drop, insert, refl, sym, ◌∙◌, ap, subst, arith}
use Rattle.std.specs.Ordering.{match_ordering}
use Rattle.std.proofs.Math.Seq.{drop-cons}
use Rattle.std.specs.declared.cmp.Ordering.TheVariants.{Less, Equal}
use Rattle.plain_term.specs.Tree.{Tree, Trees, Pairs, trees_len, pairs_len, keys_of, values_of}
use Rattle.plain_term.specs.Tree.Trees.{end, ◌▹◌}
use Rattle.plain_term.specs.Tree.Pairs.{stop, pair}
use Rattle.plain_term.specs.Order.{order}
use Rattle.plain_term.specs.InOrder.{put_pair}
use Rattle.term_words.specs.Stands.{Stands, RowStands, AllStand, tree_at}
use Rattle.term_words.proofs.ByKind.Pairs.{keys-len}
use Rattle.term_words.proofs.ByKind.Shapes.{row-first}
use Rattle.term_maps.specs.Spots.{Finds, IsAbove}
use Rattle.term_maps.specs.declared.sorted.Spot.{Spot}
use Rattle.term_maps.specs.declared.sorted.Spot.TheVariants as spot
use Rattle.term_verbs.specs.Placed.{count_placed, pair_insert, pair_set, put_at_spot, word_placed}

-- The words of a row as a list.
pub row-all : (c : ℕ → ℕ → Bool) (shared : List (List ℕ)) (mem : List ℕ) (p n : ℕ) (ts : Trees) → RowStands c shared mem p ts → trees_len ts ≡ n → p + n ≤ length mem
    → AllStand c shared mem (take n (drop p mem)) ts
unfolding AllStand
row-all c shared mem p zero end row e inside = tt
row-all c shared mem p (suc n) end row e inside = absurd (omega (arith, e))
row-all c shared mem p zero (t ▹ ts) row e inside = absurd (omega (arith, e))
row-all c shared mem p (suc n) (t ▹ ts) row e inside =
    let parts = row-first c shared mem p t ts row in
    let next : p + 1 ≡ suc p = omega arith in
    let P : ℕ → Type 0 = λ z. RowStands c shared mem z ts in
    let Q : List ℕ → Type 0 = λ z. AllStand c shared mem (take (suc n) z) (t ▹ ts) in
    subst Q (sym (drop-cons mem p 0 (omega (arith, inside)))) (parts.0, row-all c shared mem (suc p) n ts (subst P next parts.1) (omega (arith, e)) (omega (arith, inside)))

module _ (c : ℕ → ℕ → Bool) (shared : List (List ℕ)) (mem : List ℕ) (k v : Tree) where
  keys-set : (ws : List ℕ) (ps : Pairs) (i w : ℕ) → Stands c shared mem w k → AllStand c shared mem ws (keys_of ps) → AllStand c shared mem (set ws i w) (keys_of (pair_set i k v ps))
  unfolding AllStand
  keys-set [] stop i w s a = tt
  keys-set (x ∷ ws) stop i w s a = absurd a
  keys-set [] (pair j u ps) i w s a = absurd a
  keys-set (x ∷ ws) (pair j u ps) zero w s a = (s, a.1)
  keys-set (x ∷ ws) (pair j u ps) (suc i) w s a = (a.0, keys-set ws ps i w s a.1)

  values-set : (ws : List ℕ) (ps : Pairs) (i w : ℕ) → Stands c shared mem w v → AllStand c shared mem ws (values_of ps) → AllStand c shared mem (set ws i w) (values_of (pair_set i k v ps))
  unfolding AllStand
  values-set [] stop i w s a = tt
  values-set (x ∷ ws) stop i w s a = absurd a
  values-set [] (pair j u ps) i w s a = absurd a
  values-set (x ∷ ws) (pair j u ps) zero w s a = (s, a.1)
  values-set (x ∷ ws) (pair j u ps) (suc i) w s a = (a.0, values-set ws ps i w s a.1)

  keys-insert : (ws : List ℕ) (ps : Pairs) (i w : ℕ) → Stands c shared mem w k → AllStand c shared mem ws (keys_of ps) → AllStand c shared mem (insert ws i w) (keys_of (pair_insert i k v ps))
  unfolding AllStand
  keys-insert [] stop zero w s a = (s, tt)
  keys-insert [] stop (suc i) w s a = (s, tt)
  keys-insert (x ∷ ws) stop i w s a = absurd a
  keys-insert [] (pair j u ps) i w s a = absurd a
  keys-insert (x ∷ ws) (pair j u ps) zero w s a = (s, a)
  keys-insert (x ∷ ws) (pair j u ps) (suc i) w s a = (a.0, keys-insert ws ps i w s a.1)

  values-insert : (ws : List ℕ) (ps : Pairs) (i w : ℕ) → Stands c shared mem w v → AllStand c shared mem ws (values_of ps) → AllStand c shared mem (insert ws i w) (values_of (pair_insert i k v ps))
  unfolding AllStand
  values-insert [] stop zero w s a = (s, tt)
  values-insert [] stop (suc i) w s a = (s, tt)
  values-insert (x ∷ ws) stop i w s a = absurd a
  values-insert [] (pair j u ps) i w s a = absurd a
  values-insert (x ∷ ws) (pair j u ps) zero w s a = (s, a)
  values-insert (x ∷ ws) (pair j u ps) (suc i) w s a = (a.0, values-insert ws ps i w s a.1)

  pub keys-placed : (x : Spot) (ws : List ℕ) (ps : Pairs) (w : ℕ) → Stands c shared mem w k → AllStand c shared mem ws (keys_of ps)
      → AllStand c shared mem (word_placed x w ws) (keys_of (put_at_spot x k v ps))
  keys-placed (spot.Same i) ws ps w s a = keys-set ws ps i w s a
  keys-placed (spot.New i) ws ps w s a = keys-insert ws ps i w s a

  pub values-placed : (x : Spot) (ws : List ℕ) (ps : Pairs) (w : ℕ) → Stands c shared mem w v → AllStand c shared mem ws (values_of ps)
      → AllStand c shared mem (word_placed x w ws) (values_of (put_at_spot x k v ps))
  values-placed (spot.Same i) ws ps w s a = values-set ws ps i w s a
  values-placed (spot.New i) ws ps w s a = values-insert ws ps i w s a

-- How many words there are.
insert-length : (ws : List ℕ) (i w : ℕ) → length (insert ws i w) ≡ length ws + 1
insert-length [] zero w = refl
insert-length [] (suc i) w = refl
insert-length (x ∷ ws) zero w = omega arith
insert-length (x ∷ ws) (suc i) w = omega (arith, insert-length ws i w)

set-length : (ws : List ℕ) (i w : ℕ) → length (set ws i w) ≡ length ws
set-length [] i w = refl
set-length (x ∷ ws) zero w = refl
set-length (x ∷ ws) (suc i) w = ap suc (set-length ws i w)

pub placed-length : (x : Spot) (ws : List ℕ) (w : ℕ) → length (word_placed x w ws) ≡ count_placed x (length ws)
placed-length (spot.Same i) ws w = set-length ws i w
placed-length (spot.New i) ws w = insert-length ws i w

-- How many pairs there are.
set-count : (ps : Pairs) (i : ℕ) (k v : Tree) → pairs_len (pair_set i k v ps) ≡ pairs_len ps
set-count stop i k v = refl
set-count (pair j u ps) zero k v = refl
set-count (pair j u ps) (suc i) k v = ap (λ n. n + 1) (set-count ps i k v)

insert-count : (ps : Pairs) (i : ℕ) (k v : Tree) → pairs_len (pair_insert i k v ps) ≡ pairs_len ps + 1
insert-count stop i k v = refl
insert-count (pair j u ps) zero k v = refl
insert-count (pair j u ps) (suc i) k v = ap (λ n. n + 1) (insert-count ps i k v)

pub placed-count : (x : Spot) (ps : Pairs) (k v : Tree) → pairs_len (put_at_spot x k v ps) ≡ count_placed x (pairs_len ps)
placed-count (spot.Same i) ps k v = set-count ps i k v
placed-count (spot.New i) ps k v = insert-count ps i k v

-- At the spot where its key is found, a pair is put in order.
module _ (names shared : List (List ℕ)) (k v : Tree) where
  set-put : (ps : Pairs) (i : ℕ) → i < pairs_len ps → IsAbove names shared (keys_of ps) k i → order names shared k (tree_at (keys_of ps) i) ≡ Equal
      → pair_set i k v ps ≡ put_pair names shared k v ps
  set-put stop i below above same = absurd (omega arith)
  set-put (pair j u ps) zero below above same = sym (ap (λ o. match_ordering o (pair k v (pair j u ps)) (pair k v ps) (pair j u (put_pair names shared k v ps))) same)
  set-put (pair j u ps) (suc i) below above same =
      ap (λ z. pair j u z) (set-put ps i (omega arith) (λ n less. above (suc n) (omega arith)) same)
      ∙ sym (ap (λ o. match_ordering o (pair k v (pair j u ps)) (pair k v ps) (pair j u (put_pair names shared k v ps))) (above 0 (omega arith)))

  insert-put : (ps : Pairs) (i : ℕ) → i ≤ pairs_len ps → IsAbove names shared (keys_of ps) k i → (i < pairs_len ps → order names shared k (tree_at (keys_of ps) i) ≡ Less)
      → pair_insert i k v ps ≡ put_pair names shared k v ps
  insert-put stop i within above less = refl
  insert-put (pair j u ps) zero within above less = sym (ap (λ o. match_ordering o (pair k v (pair j u ps)) (pair k v ps) (pair j u (put_pair names shared k v ps))) (less (omega arith)))
  insert-put (pair j u ps) (suc i) within above less =
      ap (λ z. pair j u z) (insert-put ps i (omega arith) (λ n below. above (suc n) (omega arith)) (λ below. less (omega arith)))
      ∙ sym (ap (λ o. match_ordering o (pair k v (pair j u ps)) (pair k v ps) (pair j u (put_pair names shared k v ps))) (above 0 (omega arith)))

  pub placed-put : (x : Spot) (ps : Pairs) → Finds names shared (keys_of ps) k x → put_at_spot x k v ps ≡ put_pair names shared k v ps
  placed-put (spot.Same i) ps f = set-put ps i (omega (arith, f.0, keys-len ps)) f.1.0 f.1.1
  placed-put (spot.New i) ps f = insert-put ps i (omega (arith, f.0, keys-len ps)) f.1.0 (λ below. f.1.1 (omega (arith, below, keys-len ps)))
