-- The keys of a map against a key that is looked for.
use Rattle.std.proofs.Common.{◌≡◌, ℕ, zero, suc, ◌+◌, ◌<◌, ◌≤◌, ◌⊎◌, ◌&&◌, Bool, true, false, List, length, get_or, refl, ◌∙◌, ap, subst, arith}
use Rattle.std.proofs.lemmas.Bool.{and_parts}
use Rattle.std.proofs.Math.Decide.{dec_le}
use Rattle.std.specs.Ordering.{is_lt, ordering_reverse}
use Rattle.std.specs.declared.cmp.Ordering.TheVariants.{Less, Equal, Greater}
use Rattle.plain_term.specs.Tree.{Tree, Trees, Pairs, pairs_len, keys_of}
use Rattle.plain_term.specs.Tree.Pairs.{stop, pair}
use Rattle.plain_term.specs.Beyond.{is_beyond}
use Rattle.plain_term.specs.Order.{order}
use Rattle.plain_term.specs.Proper.{keys_rise}
use Rattle.plain_term.proofs.TokenLemmas.{order-total}
use Rattle.plain_term.proofs.Rising.{is-less as is-less-than}
use Rattle.term_words.specs.Role.{always}
use Rattle.term_words.specs.Stands.{Stands, tree_at}
use Rattle.term_words.proofs.ByKind.Pairs.{keys-len, keys-row}
use Rattle.term_words.proofs.ByKind.Shapes.{row-at}
use Rattle.term_read.specs.declared.looks.PairRows.{PairRows}
use Rattle.term_order.specs.Named.{is_named, pairs_named}
use Rattle.term_order.specs.Compared.{AreNamed, Compares, answer_of}
use Rattle.term_order.specs.declared.compared.Compared.{Compared}
use Rattle.term_order.specs.declared.compared.Compared.TheVariants as answer
use Rattle.term_maps.specs.Spots.{Finds, IsAbove}
use Rattle.term_maps.specs.declared.sorted.Spot.TheVariants as spot
use Rattle.term_maps.proofs.Compares.{is-equal, is-greater, is-less, compared-within}
use Rattle.term_maps.proofs.Putting.{key-within}
use Rattle.term_verbs.specs.Found.{AreKeys, AreSorted, CanFind}

-- The word of a key stands for its tree.
pub key-stands : (c : ℕ → ℕ → Bool) (shared : List (List ℕ)) (mem : List ℕ) (rows : PairRows) (ps : Pairs) (i : ℕ) → AreKeys c shared mem rows ps → i < rows.len
    → Stands c shared mem (get_or mem (rows.keys + i) 0) (tree_at (keys_of ps) i)
key-stands c shared mem rows ps i a below = row-at c shared mem rows.keys (keys_of ps) i (keys-row c shared mem rows.keys ps a.keys) (omega (arith, below, a.count, keys-len ps))

key-named : (n : ℕ) (ps : Pairs) (i : ℕ) → pairs_named n ps ≡ true → i < pairs_len ps → is_named n (tree_at (keys_of ps) i) ≡ true
key-named n stop i h below = absurd (omega arith)
key-named n (pair k v ps) zero h below = (and_parts (is_named n k) (is_named n v) (and_parts (is_named n k && is_named n v) (pairs_named n ps) h).0).0
key-named n (pair k v ps) (suc i) h below = key-named n ps i (and_parts (is_named n k && is_named n v) (pairs_named n ps) h).1 (omega arith)

pub can-compare : (mem : List ℕ) (names : List (List ℕ)) (rows : PairRows) (key i : ℕ) → CanFind mem names rows key → i < rows.len → AreNamed mem names key (get_or mem (rows.keys + i) 0)
can-compare mem names rows key i f below = record {
  shared = f.shared;
  first = f.tree;
  second = tree_at (keys_of f.pairs) i;
  first_stands = f.standing;
  second_stands = key-stands always f.shared mem rows f.pairs i f.keys below;
  first_named = f.key_is_named;
  second_named = key-named (length names) f.pairs i f.pairs_are_named (omega (arith, below, f.keys.count));
}

module _ (names shared : List (List ℕ)) where
  -- The first key is less than all others.
  pub first-below : (k v : Tree) (ps : Pairs) (j : ℕ) → keys_rise names shared (pair k v ps) ≡ true → j < pairs_len ps → order names shared k (tree_at (keys_of ps) j) ≡ Less
  first-below k v stop j h below = absurd (omega arith)
  first-below k v (pair i w ps) zero h below = is-less-than (order names shared k i) (and_parts (is_lt (order names shared k i)) (keys_rise names shared (pair i w ps)) h).0
  first-below k v (pair i w ps) (suc j) h below =
      (order-total names shared).trans k i (tree_at (keys_of ps) j) (is-less-than (order names shared k i) (and_parts (is_lt (order names shared k i)) (keys_rise names shared (pair i w ps)) h).0)
      (first-below i w ps j (and_parts (is_lt (order names shared k i)) (keys_rise names shared (pair i w ps)) h).1 (omega arith))

  pub rise-rest : (k v : Tree) (ps : Pairs) → keys_rise names shared (pair k v ps) ≡ true → keys_rise names shared ps ≡ true
  rise-rest k v stop h = refl
  rise-rest k v (pair i w ps) h = (and_parts (is_lt (order names shared k i)) (keys_rise names shared (pair i w ps)) h).1

  pub rise-pair : (ps : Pairs) (i j : ℕ) → keys_rise names shared ps ≡ true → i < j → j < pairs_len ps → order names shared (tree_at (keys_of ps) i) (tree_at (keys_of ps) j) ≡ Less
  rise-pair stop i j h less below = absurd (omega arith)
  rise-pair (pair k v ps) i zero h less below = absurd (omega arith)
  rise-pair (pair k v ps) zero (suc j) h less below = first-below k v ps j h (omega arith)
  rise-pair (pair k v ps) (suc i) (suc j) h less below = rise-pair ps i j (rise-rest k v ps h) (omega arith) (omega arith)

  -- Greater the other way round.
  turned : (a b : Tree) → order names shared a b ≡ Greater → order names shared b a ≡ Less
  turned a b e = (order-total names shared).antisymm b a ∙ ap ordering_reverse e

  turned-back : (a b : Tree) → order names shared a b ≡ Less → order names shared b a ≡ Greater
  turned-back a b e = (order-total names shared).antisymm b a ∙ ap ordering_reverse e

  -- A key that is greater than one is greater than those before it.
  pub above-upto : (ps : Pairs) (k : Tree) (m : ℕ) → keys_rise names shared ps ≡ true → m < pairs_len ps → order names shared k (tree_at (keys_of ps) m) ≡ Greater
      → IsAbove names shared (keys_of ps) k (m + 1)
  above-upto ps k m h below e j less = elim (dec_le m j) [
    | yes up ↦
        let same : m ≡ j = omega arith in
        let P : ℕ → Type 0 = λ z. order names shared k (tree_at (keys_of ps) z) ≡ Greater in
        subst P same e
    | no down ↦
        turned-back (tree_at (keys_of ps) j) k
        ((order-total names shared).trans (tree_at (keys_of ps) j) (tree_at (keys_of ps) m) k (rise-pair ps j m h (omega arith) below) (turned k (tree_at (keys_of ps) m) e))
  ]

  -- One that is the same as a key is greater than those before it.
  pub above-same : (ps : Pairs) (k : Tree) (m : ℕ) → keys_rise names shared ps ≡ true → m < pairs_len ps → order names shared k (tree_at (keys_of ps) m) ≡ Equal
      → IsAbove names shared (keys_of ps) k m
  above-same ps k m h below e j less =
      (order-total names shared).congr k (tree_at (keys_of ps) m) (tree_at (keys_of ps) j) e ∙ turned-back (tree_at (keys_of ps) j) (tree_at (keys_of ps) m) (rise-pair ps j m h less below)

-- The order that a comparison tells.
pub told : (c : ℕ → ℕ → Bool) (names shared : List (List ℕ)) (mem : List ℕ) (rows : PairRows) (key i : ℕ) (ps : Pairs) (k : Tree) (r : Compared)
    → Compares mem names key (get_or mem (rows.keys + i) 0) r → i < rows.len → AreKeys c shared mem rows ps → AreSorted names shared ps → Stands c shared mem key k → is_beyond shared k ≡ false
    → r ≡ answer_of (order names shared k (tree_at (keys_of ps) i))
told c names shared mem rows key i ps k r compares below a sorted s within =
    compares.each c shared k (tree_at (keys_of ps) i) s (key-stands c shared mem rows ps i a below)
    ∙ compared-within names shared k (tree_at (keys_of ps) i) within (key-within shared ps i sorted.within (omega (arith, below, a.count)))

-- The key is greater than those before `low`, and less than the one at `high` where there is one.
pub record Between (names shared : List (List ℕ)) (ks : Trees) (k : Tree) (low high len : ℕ) : Type 0 where
  pub above : IsAbove names shared ks k low
  pub below : high < len → order names shared k (tree_at ks high) ≡ Less

pub between-first : (names shared : List (List ℕ)) (ks : Trees) (k : Tree) (len : ℕ) → Between names shared ks k 0 len len
between-first names shared ks k len = record { above = λ j less. absurd (omega arith); below = λ less. absurd (omega arith) }

module _ (c : ℕ → ℕ → Bool) (names shared : List (List ℕ)) (mem : List ℕ) (rows : PairRows) (key m : ℕ) (ps : Pairs) (k : Tree) (r : Compared)
    (compares : Compares mem names key (get_or mem (rows.keys + m) 0) r) (below : m < rows.len) (a : AreKeys c shared mem rows ps) (sorted : AreSorted names shared ps)
    (s : Stands c shared mem key k) (within : is_beyond shared k ≡ false) where
  here : r ≡ answer_of (order names shared k (tree_at (keys_of ps) m))
  here = told c names shared mem rows key m ps k r compares below a sorted s within

  inside : m < pairs_len ps
  inside = omega (arith, below, a.count)

  pub finds-same : r ≡ answer.Same → Finds names shared (keys_of ps) k (spot.Same m)
  finds-same is =
      let e : order names shared k (tree_at (keys_of ps) m) ≡ Equal = is-equal (order names shared k (tree_at (keys_of ps) m)) r is here in
      (omega (arith, inside, keys-len ps), (above-same names shared ps k m sorted.rise inside e, e))

  pub below-found : r ≡ answer.Less → (low high : ℕ) → Between names shared (keys_of ps) k low high rows.len → Between names shared (keys_of ps) k low m rows.len
  below-found is low high b = record { above = b.above; below = λ less. is-less (order names shared k (tree_at (keys_of ps) m)) r is here }

  pub above-found : (r ≡ answer.More) ⊎ (r ≡ answer.Beyond) → (low high : ℕ) → Between names shared (keys_of ps) k low high rows.len → Between names shared (keys_of ps) k (m + 1) high rows.len
  above-found is low high b = record {
    above = above-upto names shared ps k m sorted.rise inside (is-greater (order names shared k (tree_at (keys_of ps) m)) r is here);
    below = b.below;
  }

pub finds-new : (c : ℕ → ℕ → Bool) (names shared : List (List ℕ)) (mem : List ℕ) (rows : PairRows) (ps : Pairs) (k : Tree) (low high : ℕ) → low ≤ high → high ≤ rows.len → high ≤ low
    → AreKeys c shared mem rows ps → Between names shared (keys_of ps) k low high rows.len → Finds names shared (keys_of ps) k (spot.New low)
finds-new c names shared mem rows ps k low high order_is within end a b =
    let same : high ≡ low = omega (arith, order_is, end) in
    let P : ℕ → Type 0 = λ z. z < rows.len → order names shared k (tree_at (keys_of ps) z) ≡ Less in
    let less : low < rows.len → order names shared k (tree_at (keys_of ps) low) ≡ Less = subst P same b.below in
    (omega (arith, order_is, within, a.count, keys-len ps), (b.above, λ below. less (omega (arith, below, a.count, keys-len ps))))
