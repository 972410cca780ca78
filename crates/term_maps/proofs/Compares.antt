-- What an answer of a comparison tells of the order.
use Rattle.std.proofs.Common.{◌≡◌, ℕ, ◌+◌, ◌<◌, ◌⊎◌, Bool, false, List, length, get_or, refl, sym, ◌∙◌, subst, arith, inl, inr}
use Rattle.std.specs.declared.cmp.Ordering.{Ordering}
use Rattle.std.specs.declared.cmp.Ordering.TheVariants.{Less, Equal, Greater}
use Rattle.plain_term.specs.Tree.{Tree, Trees, Pairs, pairs_len, keys_of, values_of}
use Rattle.plain_term.specs.Beyond.{is_beyond}
use Rattle.plain_term.specs.Order.{order}
use Rattle.term_words.specs.Stands.{Stands, AllStand, tree_at}
use Rattle.term_words.proofs.ByKind.Shapes.{all-at}
use Rattle.term_words.proofs.ByKind.Makes.{all-length}
use Rattle.term_words.proofs.ByKind.Pairs.{keys-len, values-len}
use Rattle.term_order.specs.Compared.{answer_of, compared, Compares}
use Rattle.term_maps.specs.Stops.{has_beyond}
use Rattle.term_maps.specs.Spots.{IsAbove}
use Rattle.term_order.specs.declared.compared.Compared.{Compared}
use Rattle.term_order.specs.declared.compared.Compared.TheVariants as answer
use Rattle.term_maps.proofs.Putting.{key-within}

pub compared-within : (names shared : List (List ℕ)) (s t : Tree) → is_beyond shared s ≡ false → is_beyond shared t ≡ false → compared names shared s t ≡ answer_of (order names shared s t)
compared-within names shared s t hs ht = rw (hs, ht) refl

-- As many keys as words.
pub keys-many : (c : ℕ → ℕ → Bool) (shared : List (List ℕ)) (mem ws : List ℕ) (ps : Pairs) → AllStand c shared mem ws (keys_of ps) → length ws ≡ pairs_len ps
keys-many c shared mem ws ps all = all-length c shared mem ws (keys_of ps) all ∙ keys-len ps

-- As many values as words.
pub values-many : (c : ℕ → ℕ → Bool) (shared : List (List ℕ)) (mem ws : List ℕ) (ps : Pairs) → AllStand c shared mem ws (values_of ps) → length ws ≡ pairs_len ps
values-many c shared mem ws ps all = all-length c shared mem ws (values_of ps) all ∙ values-len ps

-- A key against key i of others.
pub order-told : (c : ℕ → ℕ → Bool) (names shared : List (List ℕ)) (mem : List ℕ) (key : ℕ) (keys : List ℕ) (ps : Pairs) (k : Tree) (i : ℕ) (result : Compared)
    → Compares mem names key (get_or keys i 0) result → i < length keys → AllStand c shared mem keys (keys_of ps) → Stands c shared mem key k → has_beyond shared ps ≡ false
    → is_beyond shared k ≡ false
    → result ≡ answer_of (order names shared k (tree_at (keys_of ps) i))
order-told c names shared mem key keys ps k i result told below all s within small =
    told.each c shared k (tree_at (keys_of ps) i) s (all-at c shared mem keys (keys_of ps) i all below)
    ∙ compared-within names shared k (tree_at (keys_of ps) i) small (key-within shared ps i within (omega (arith, keys-many c shared mem keys ps all)))

-- What each answer says.

pub is-less : (o : Ordering) (r : Compared) → r ≡ answer.Less → r ≡ answer_of o → o ≡ Less
is-less Less r is told = refl
is-less Equal r is told = absurd cc
is-less Greater r is told = absurd cc

pub is-equal : (o : Ordering) (r : Compared) → r ≡ answer.Same → r ≡ answer_of o → o ≡ Equal
is-equal Less r is told = absurd cc
is-equal Equal r is told = refl
is-equal Greater r is told = absurd cc

pub is-greater : (o : Ordering) (r : Compared) → (r ≡ answer.More) ⊎ (r ≡ answer.Beyond) → r ≡ answer_of o → o ≡ Greater
is-greater Less r (inl is) told = absurd cc
is-greater Less r (inr is) told = absurd cc
is-greater Equal r (inl is) told = absurd cc
is-greater Equal r (inr is) told = absurd cc
is-greater Greater r is told = refl

-- A key that is greater than the next one too.
pub above-more : (names shared : List (List ℕ)) (ks : Trees) (k : Tree) (i : ℕ) → IsAbove names shared ks k i → order names shared k (tree_at ks i) ≡ Greater → IsAbove names shared ks k (i + 1)
above-more names shared ks k i above here = λ j below. elim (before j i below) [
  | inl earlier ↦ above j earlier
  | inr same ↦ let P : ℕ → Type 0 = λ x. order names shared k (tree_at ks x) ≡ Greater in subst P (sym same) here
]
  where
    before : (j i : ℕ) → j < i + 1 → (j < i) ⊎ (j ≡ i)
    before j i below = grind arith
