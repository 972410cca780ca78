-- A look that is one at a map.
use Rattle.std.proofs.Common.{◌≡◌, ℕ, ◌+◌, ◌<◌, ◌≤◌, Bool, true, false, not, List, length, take, drop, refl, sym, ◌∙◌, ap, subst, arith, inl, inr, Err}
use Rattle.std.proofs.lemmas.List.{length-drop, length-take-le}
use Rattle.plain_term.specs.Tree.{Tree, Pairs, pairs_len, keys_of, values_of}
use Rattle.plain_term.specs.Tree.Tree.{Int, Atom, Pid, Ref, Nil, Cons, Tuple, Map, Bin, Shared, Part, Fun}
use Rattle.plain_term.specs.Beyond.{is_beyond}
use Rattle.term_tags.specs.declared.layouts.TheConstants.{MOST_KEYS}
use Rattle.term_words.specs.Stands.{Stands, KeysStand, ValuesStand, AllStand}
use Rattle.term_words.proofs.ByKind.Pairs.{keys-len, keys-row, values-len, values-row}
use Rattle.term_read.specs.Look.{IsSeen}
use Rattle.term_read.specs.declared.looks.PairRows.{PairRows}
use Rattle.term_read.specs.declared.looks.Look.{Look}
use Rattle.term_read.specs.declared.looks.Look.TheVariants as look
use Rattle.term_maps.specs.Spots.{Finds}
use Rattle.term_maps.specs.declared.sorted.Spot.{Spot}
use Rattle.term_verbs.specs.declared.pairs.PutStop.TheVariants.{Full}
use Rattle.term_verbs.specs.Found.{AreKeys, AreSorted}
use Rattle.term_verbs.specs.Placed.{IsPlaceInMap, count_placed, put_at_spot, word_placed}
use Rattle.term_verbs.proofs.Placing.{keys-placed, placed-count, placed-length, placed-put, row-all, values-placed}

-- The words of the rows stand for these pairs.
pub record RowsAre (c : ℕ → ℕ → Bool) (shared : List (List ℕ)) (mem : List ℕ) (rows : PairRows) (t : Tree) : Type 0 where
  pub pairs : Pairs
  pub is : t ≡ Map pairs
  pub count : rows.len ≡ pairs_len pairs
  pub keys : KeysStand c shared mem rows.keys pairs
  pub values : ValuesStand c shared mem rows.values pairs

-- The rows of a look at a map.
abbrev rows_in : Look → PairRows
rows_in (look.Map rows) = rows
rows_in _ = record { keys = 0; values = 0; len = 0 }

pub seen-map : (c : ℕ → ℕ → Bool) (shared : List (List ℕ)) (mem : List ℕ) (w : ℕ) (t : Tree) (rows : PairRows) → IsSeen c shared mem w t (look.Map rows) → RowsAre c shared mem rows t
seen-map c shared mem w (Int i) rows (inl s) = absurd cc
seen-map c shared mem w (Int i) rows (inr s) = absurd cc
seen-map c shared mem w (Atom k) rows s = absurd cc
seen-map c shared mem w (Pid n) rows s = absurd cc
seen-map c shared mem w (Ref n k) rows s = absurd cc
seen-map c shared mem w Nil rows s = absurd cc
seen-map c shared mem w (Cons h t) rows s = absurd cc
seen-map c shared mem w (Tuple ts) rows s = absurd cc
seen-map c shared mem w (Map ps) rows s =
    let same = ap rows_in s.0 in
    let P : ℕ → Type 0 = λ z. KeysStand c shared mem z ps in
    let Q : ℕ → Type 0 = λ z. ValuesStand c shared mem z ps in
    record { pairs = ps; is = refl; count = ap (λ r. r.len) same; keys = subst P (sym (ap (λ r. r.keys) same)) s.3; values = subst Q (sym (ap (λ r. r.values) same)) s.4 }
seen-map c shared mem w (Bin bytes) rows s = absurd cc
seen-map c shared mem w (Shared id) rows s = absurd cc
seen-map c shared mem w (Part base offset len) rows s = absurd cc
seen-map c shared mem w (Fun name arity creator env) rows s = absurd cc

-- There are too many keys with one at its spot.
pub full-place : (c : ℕ → ℕ → Bool) (names shared : List (List ℕ)) (mem : List ℕ) (w : ℕ) (t k : Tree) (rows : PairRows) (x : Spot) → IsSeen c shared mem w t (look.Map rows)
    → is_beyond shared k ≡ false
    → ((ps : Pairs) → AreKeys c shared mem rows ps → AreSorted names shared ps → Finds names shared (keys_of ps) k x) → MOST_KEYS < count_placed x rows.len → IsPlaceInMap names shared t k (Err Full)
full-place c names shared mem w t k rows x seen small finds many =
    let m = seen-map c shared mem w t rows seen in
    let P : Tree → Type 0 = λ z. IsPlaceInMap names shared z k (Err Full) in
    let Q : ℕ → Type 0 = λ z. MOST_KEYS < z in
    subst P (sym m.is) (record {
      small = small;
      many = λ v sorted. subst Q
          (ap (count_placed x) m.count ∙ sym (placed-count x m.pairs k v) ∙ ap pairs_len (placed-put names shared k v x m.pairs (finds m.pairs (record { count = m.count; keys = m.keys }) sorted)))
          many;
    })

-- The words of the rows with others at the spot stand for the pairs with one there.
module _ (c : ℕ → ℕ → Bool) (shared : List (List ℕ)) (mem : List ℕ) (w : ℕ) (ps : Pairs) (k v : Tree) (rows : PairRows) (x : Spot) (key value : ℕ) (words : List ℕ)
    (seen : IsSeen c shared mem w (Map ps) (look.Map rows)) where
  pub keys-there : Stands c shared mem key k → rows.keys + rows.len ≤ length mem → words ≡ word_placed x key (take rows.len (drop rows.keys mem))
      → AllStand c shared mem words (keys_of (put_at_spot x k v ps))
  keys-there s inside is =
      let same = ap rows_in seen.0 in
      let P : List ℕ → Type 0 = λ z. AllStand c shared mem z (keys_of (put_at_spot x k v ps)) in
      let Q : ℕ → Type 0 = λ z. KeysStand c shared mem z ps in
      let row = subst Q (sym (ap (λ r. r.keys) same)) seen.3 in
      subst P (sym is) (keys-placed c shared mem k v x (take rows.len (drop rows.keys mem)) ps key s
      (row-all c shared mem rows.keys rows.len (keys_of ps) (keys-row c shared mem rows.keys ps row) (keys-len ps ∙ sym (ap (λ r. r.len) same)) inside))

  pub values-there : Stands c shared mem value v → rows.values + rows.len ≤ length mem → words ≡ word_placed x value (take rows.len (drop rows.values mem))
      → AllStand c shared mem words (values_of (put_at_spot x k v ps))
  values-there s inside is =
      let same = ap rows_in seen.0 in
      let P : List ℕ → Type 0 = λ z. AllStand c shared mem z (values_of (put_at_spot x k v ps)) in
      let Q : ℕ → Type 0 = λ z. ValuesStand c shared mem z ps in
      let row = subst Q (sym (ap (λ r. r.values) same)) seen.4 in
      subst P (sym is) (values-placed c shared mem k v x (take rows.len (drop rows.values mem)) ps value s
      (row-all c shared mem rows.values rows.len (values_of ps) (values-row c shared mem rows.values ps row) (values-len ps ∙ sym (ap (λ r. r.len) same)) inside))

  pub length-there : rows.keys + rows.len ≤ length mem → words ≡ word_placed x key (take rows.len (drop rows.keys mem)) → length words ≡ count_placed x (pairs_len ps)
  length-there inside is =
      ap length is ∙ placed-length x (take rows.len (drop rows.keys mem)) key
      ∙ ap (count_placed x) (length-take-le rows.len (drop rows.keys mem) (omega (arith, inside, length-drop rows.keys mem)) ∙ ap (λ r. r.len) (ap rows_in seen.0))

pub is-within : (b : Bool) → true ≡ not b → b ≡ false
is-within true e = absurd cc
is-within false e = refl
