-- A pair is put at the spot of its key.
use Rattle.std.proofs.Common.{◌≡◌, ℕ, zero, suc, ◌+◌, ◌<◌, ◌≤◌, ◌==◌, ◌||◌, Bool, true, false, List, [], ◌∷◌, set, insert, refl, sym, subst, arith}
use Rattle.std.proofs.lemmas.Bool.{or_parts, or_from}
use Rattle.std.proofs.lemmas.Bool.Decides.{nat_tests}
use Rattle.std.specs.Ordering.{match_ordering}
use Rattle.std.specs.declared.cmp.Ordering.{Ordering}
use Rattle.std.specs.declared.cmp.Ordering.TheVariants.{Less, Equal, Greater}
use Rattle.plain_term.specs.Tree.{Tree, Pairs, pairs_len, keys_of, values_of}
use Rattle.plain_term.specs.Tree.Pairs.{stop, pair}
use Rattle.plain_term.specs.Beyond.{is_beyond}
use Rattle.plain_term.specs.Order.{order}
use Rattle.plain_term.specs.InOrder.{put_pair, in_order}
use Rattle.plain_term.proofs.Putting.{put-keeps, all-keep}
use Rattle.term_words.specs.Stands.{Stands, AllStand, tree_at}
use Rattle.term_maps.specs.Stops.{has_beyond}
use Rattle.term_maps.specs.Spots.{IsAbove}

module _ (c : ℕ → ℕ → Bool) (names shared : List (List ℕ)) (mem : List ℕ) (kw vw : ℕ) (k v : Tree) (sk : Stands c shared mem kw k) (sv : Stands c shared mem vw v) where
  -- The words stand for the keys and the values.
  abbrev BothStand : List ℕ → List ℕ → Pairs → Type 0
  BothStand ks vs ps = AllStand c shared mem ks (keys_of ps) × AllStand c shared mem vs (values_of ps)

  pub new-stands : (ks vs : List ℕ) (ps : Pairs) (i : ℕ) → AllStand c shared mem ks (keys_of ps) → AllStand c shared mem vs (values_of ps) → i ≤ pairs_len ps
      → IsAbove names shared (keys_of ps) k i → (i < pairs_len ps → order names shared k (tree_at (keys_of ps) i) ≡ Less)
      → AllStand c shared mem (insert ks i kw) (keys_of (put_pair names shared k v ps)) × AllStand c shared mem (insert vs i vw) (values_of (put_pair names shared k v ps))
  unfolding AllStand
  new-stands [] [] stop zero hk hv few above less = ((sk, tt), (sv, tt))
  new-stands ks vs stop (suc i) hk hv few above less = absurd (omega arith)
  new-stands (x ∷ ks) vs stop zero hk hv few above less = absurd hk
  new-stands [] (y ∷ vs) stop zero hk hv few above less = absurd hv
  new-stands [] vs (pair j w ps) i hk hv few above less = absurd hk
  new-stands (x ∷ ks) [] (pair j w ps) i hk hv few above less = absurd hv
  new-stands (x ∷ ks) (y ∷ vs) (pair j w ps) zero hk hv few above less =
      let P : Ordering → Type 0 = λ o. BothStand (kw ∷ x ∷ ks) (vw ∷ y ∷ vs) (match_ordering o (pair k v (pair j w ps)) (pair k v ps) (pair j w (put_pair names shared k v ps))) in
      subst P (sym (less (omega arith))) ((sk, hk), (sv, hv))
  new-stands (x ∷ ks) (y ∷ vs) (pair j w ps) (suc i) hk hv few above less =
      let P : Ordering → Type 0 = λ o. BothStand (x ∷ insert ks i kw) (y ∷ insert vs i vw)
      (match_ordering o (pair k v (pair j w ps)) (pair k v ps) (pair j w (put_pair names shared k v ps))) in
      let rest = new-stands ks vs ps i hk.1 hv.1 (omega arith) (λ n below. above (suc n) (omega arith)) (λ below. less (omega arith)) in
      subst P (sym (above 0 (omega arith))) ((hk.0, rest.0), (hv.0, rest.1))

  pub same-stands : (ks vs : List ℕ) (ps : Pairs) (i : ℕ) → AllStand c shared mem ks (keys_of ps) → AllStand c shared mem vs (values_of ps) → i < pairs_len ps
      → IsAbove names shared (keys_of ps) k i → order names shared k (tree_at (keys_of ps) i) ≡ Equal
      → AllStand c shared mem (set ks i kw) (keys_of (put_pair names shared k v ps)) × AllStand c shared mem (set vs i vw) (values_of (put_pair names shared k v ps))
  unfolding AllStand
  same-stands ks vs stop i hk hv few above equal = absurd (omega arith)
  same-stands [] vs (pair j w ps) i hk hv few above equal = absurd hk
  same-stands (x ∷ ks) [] (pair j w ps) i hk hv few above equal = absurd hv
  same-stands (x ∷ ks) (y ∷ vs) (pair j w ps) zero hk hv few above equal =
      let P : Ordering → Type 0 = λ o. BothStand (kw ∷ ks) (vw ∷ vs) (match_ordering o (pair k v (pair j w ps)) (pair k v ps) (pair j w (put_pair names shared k v ps))) in
      subst P (sym equal) ((sk, hk.1), (sv, hv.1))
  same-stands (x ∷ ks) (y ∷ vs) (pair j w ps) (suc i) hk hv few above equal =
      let P : Ordering → Type 0 = λ o. BothStand (x ∷ set ks i kw) (y ∷ set vs i vw)
      (match_ordering o (pair k v (pair j w ps)) (pair k v ps) (pair j w (put_pair names shared k v ps))) in
      let rest = same-stands ks vs ps i hk.1 hv.1 (omega arith) (λ n below. above (suc n) (omega arith)) equal in
      subst P (sym (above 0 (omega arith))) ((hk.0, rest.0), (hv.0, rest.1))

-- A new key is one more.
pub new-count : (names shared : List (List ℕ)) (k v : Tree) (ps : Pairs) (i : ℕ) → i ≤ pairs_len ps → IsAbove names shared (keys_of ps) k i
    → (i < pairs_len ps → order names shared k (tree_at (keys_of ps) i) ≡ Less) → pairs_len (put_pair names shared k v ps) ≡ pairs_len ps + 1
new-count names shared k v stop i few above less = refl
new-count names shared k v (pair j w ps) zero few above less =
    let P : Ordering → Type 0 = λ o. pairs_len (match_ordering o (pair k v (pair j w ps)) (pair k v ps) (pair j w (put_pair names shared k v ps))) ≡ pairs_len ps + 1 + 1 in
    subst P (sym (less (omega arith))) refl
new-count names shared k v (pair j w ps) (suc i) few above less =
    let P : Ordering → Type 0 = λ o. pairs_len (match_ordering o (pair k v (pair j w ps)) (pair k v ps) (pair j w (put_pair names shared k v ps))) ≡ pairs_len ps + 1 + 1 in
    let rest : pairs_len (put_pair names shared k v ps) ≡ pairs_len ps + 1 = new-count names shared k v ps i (omega arith) (λ n below. above (suc n) (omega arith)) (λ below. less (omega arith)) in
    subst P (sym (above 0 (omega arith))) (omega arith)

-- A full row.
pub full-len : (n most : ℕ) (full : Bool) → full ≡ (n == most) → full ≡ true → n ≡ most
full-len n most full is holds = grind (arith, nat_tests)

-- Keys within the walk limit stay so.
module _ (names shared : List (List ℕ)) where
  abbrev AreWithin : Pairs → Type 0
  AreWithin ps = has_beyond shared ps ≡ false

  abbrev IsWithinLimit : Tree → Tree → Type 0
  IsWithinLimit k v = is_beyond shared k ≡ false

  within-parts : (k v : Tree) (ps : Pairs) → AreWithin (pair k v ps) → IsWithinLimit k v × AreWithin ps
  within-parts k v ps = or_parts (is_beyond shared k) (has_beyond shared ps)

  within-from : (k v : Tree) (ps : Pairs) → IsWithinLimit k v → AreWithin ps → AreWithin (pair k v ps)
  within-from k v ps = or_from (is_beyond shared k) (has_beyond shared ps)

  pub put-within : (k v : Tree) (ps : Pairs) → is_beyond shared k ≡ false → has_beyond shared ps ≡ false → has_beyond shared (put_pair names shared k v ps) ≡ false
  put-within = put-keeps names shared AreWithin IsWithinLimit within-parts within-from

  pub in-order-within : (given : Pairs) → has_beyond shared given ≡ false → has_beyond shared (in_order names shared given) ≡ false
  in-order-within given = all-keep names shared AreWithin IsWithinLimit within-parts within-from stop given refl

pub key-within : (shared : List (List ℕ)) (ps : Pairs) (i : ℕ) → has_beyond shared ps ≡ false → i < pairs_len ps → is_beyond shared (tree_at (keys_of ps) i) ≡ false
key-within shared stop i h below = absurd (omega arith)
key-within shared (pair k v ps) zero h below = (or_parts (is_beyond shared k) (has_beyond shared ps) h).0
key-within shared (pair k v ps) (suc i) h below = key-within shared ps i (or_parts (is_beyond shared k) (has_beyond shared ps) h).1 (omega arith)
