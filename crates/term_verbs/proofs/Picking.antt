-- The part that is picked: what its word stands for.
use Rattle.std.proofs.Common.{◌≡◌, ℕ, zero, suc, ◌+◌, ◌/◌, ◌<◌, ◌≤◌, ◌&&◌, Bool, true, false, List, get_or, Option, Some, None, if◌then◌else◌, nat_lt, refl, sym, ◌∙◌, subst, arith}
use Rattle.std.proofs.lemmas.Bool.{and_parts}
use Rattle.std.proofs.lemmas.Option.{same_Some}
use Rattle.std.specs.Option.{IfSome}
use Rattle.std.specs.Ordering.{is_eq}
use Rattle.std.specs.declared.cmp.Ordering.{Ordering}
use Rattle.std.specs.declared.cmp.Ordering.TheVariants.{Less, Equal, Greater}
use Rattle.plain_term.specs.Tree.{Tree, Trees, Pairs, pairs_len, keys_of, values_of}
use Rattle.plain_term.specs.Tree.Tree.{Cons, Tuple, Map, Fun}
use Rattle.plain_term.specs.Tree.Trees.{end, ◌▹◌}
use Rattle.plain_term.specs.Tree.Pairs.{stop, pair}
use Rattle.plain_term.specs.Beyond.{is_beyond}
use Rattle.plain_term.specs.Order.{order}
use Rattle.plain_term.specs.Proper.{keys_rise}
use Rattle.plain_term.specs.Parts.{part_at, place_of, head_in, tail_in, element_of, env_in}
use Rattle.plain_term.proofs.TokenLemmas.{order-total}
use Rattle.plain_machine.specs.Parts.{value_in, value_of}
use Rattle.term_words.specs.Stands.{Stands, tree_at}
use Rattle.term_words.proofs.ByKind.Pairs.{keys-len, values-len, values-row}
use Rattle.term_words.proofs.ByKind.Shapes.{row-at}
use Rattle.term_read.specs.Parts.{AnswersPart}
use Rattle.term_read.specs.Look.{IsSeen}
use Rattle.term_read.specs.declared.looks.PairRows.{PairRows}
use Rattle.term_read.specs.declared.looks.Look.{Look}
use Rattle.term_read.specs.declared.looks.Look.TheVariants as look
use Rattle.term_order.specs.Named.{is_named, are_named, pairs_named}
use Rattle.term_maps.specs.Spots.{Finds, IsAbove}
use Rattle.term_maps.specs.declared.sorted.Spot.TheVariants as spot
use Rattle.term_verbs.specs.Found.{AreKeys, AreSorted}
use Rattle.term_verbs.specs.Picked.{HasSorted, IsPart}
use Rattle.term_verbs.proofs.Mapping.{RowsAre, seen-map}
use Rattle.term_verbs.proofs.Seeking.{first-below, rise-rest}

-- The names of a part are names of the whole.
named-as : (n : ℕ) (t u : Tree) → Some t ≡ Some u → is_named n t ≡ true → is_named n u ≡ true
named-as n t u e h = let P : Tree → Type 0 = λ z. is_named n z ≡ true in subst P (same_Some t u e) h

-- The part that f names has no names but those of the tree.
abbrev pub KeepsNames : (Tree → Option Tree) → Type 0
KeepsNames f = (t u : Tree) (n : ℕ) → f t ≡ Some u → is_named n t ≡ true → is_named n u ≡ true

pub head-named : KeepsNames head_in
head-named (Cons h t) u n e named = named-as n h u e (and_parts (is_named n h) (is_named n t) named).0
head-named _ u n e named = absurd cc

pub tail-named : KeepsNames tail_in
tail-named (Cons h t) u n e named = named-as n t u e (and_parts (is_named n h) (is_named n t) named).1
tail-named _ u n e named = absurd cc

part-named : (ts : Trees) (i : ℕ) (u : Tree) (n : ℕ) → part_at ts i ≡ Some u → are_named n ts ≡ true → is_named n u ≡ true
part-named end i u n e named = absurd cc
part-named (t ▹ ts) zero u n e named = named-as n t u e (and_parts (is_named n t) (are_named n ts) named).0
part-named (t ▹ ts) (suc i) u n e named = part-named ts i u n e (and_parts (is_named n t) (are_named n ts) named).1

place-named : (ts : Trees) (i : ℕ) (u : Tree) (n : ℕ) → place_of ts i ≡ Some u → are_named n ts ≡ true → is_named n u ≡ true
place-named ts zero u n e named = absurd cc
place-named ts (suc i) u n e named = part-named ts i u n e named

pub element-named : (i : ℕ) → KeepsNames (element_of i)
element-named i (Tuple ts) u n e named = place-named ts i u n e named
element-named i _ u n e named = absurd cc

pub env-named : (i : ℕ) → KeepsNames (env_in i)
env-named i (Fun name arity creator env) u n e named = place-named env i u n e (and_parts (nat_lt name n) (are_named n env) named).1
env-named i _ u n e named = absurd cc

value-named : (n : ℕ) (ps : Pairs) (i : ℕ) → pairs_named n ps ≡ true → i < pairs_len ps → is_named n (tree_at (values_of ps) i) ≡ true
value-named n stop i h below = absurd (omega arith)
value-named n (pair k v ps) zero h below = (and_parts (is_named n k) (is_named n v) (and_parts (is_named n k && is_named n v) (pairs_named n ps) h).0).1
value-named n (pair k v ps) (suc i) h below = value-named n ps i (and_parts (is_named n k && is_named n v) (pairs_named n ps) h).1 (omega arith)

-- A word that a reader answers stands for a part.
answered : (c : ℕ → ℕ → Bool) (shared : List (List ℕ)) (mem : List ℕ) (f : Tree → Option Tree) (keeps : KeepsNames f) (t : Tree) (v : ℕ) (o : Option Tree) → f t ≡ o
    → AnswersPart c shared mem o (Some v)
    → IsPart c shared mem t v
answered c shared mem f keeps t v None e a = absurd cc
answered c shared mem f keeps t v (Some u) e a =
    let same : a.0 ≡ v = cc in
    let P : ℕ → Type 0 = λ z. Stands c shared mem z u in
    record { tree = u; standing = subst P same a.2; named = λ n named. keeps t u n e named }

pub parts-are : (mem : List ℕ) (w : ℕ) (f : Tree → Option Tree) → KeepsNames f → (r : Option ℕ)
    → ((c : ℕ → ℕ → Bool) (shared : List (List ℕ)) (t : Tree) → Stands c shared mem w t → AnswersPart c shared mem (f t) r)
    → IfSome r (λ v. (c : ℕ → ℕ → Bool) (shared : List (List ℕ)) (t : Tree) → Stands c shared mem w t → IsPart c shared mem t v)
parts-are mem w f keeps None a = tt
parts-are mem w f keeps (Some v) a = λ c shared t s. answered c shared mem f keeps t v (f t) refl (a c shared t s)

-- The value of a key that was found.
module _ (names shared : List (List ℕ)) (k : Tree) where
  skip : (o : Ordering) (v : Tree) (rest : Option Tree) → o ≡ Greater → (if is_eq o then Some v else rest) ≡ rest
  skip Less v rest e = refl
  skip Equal v rest e = absurd cc
  skip Greater v rest e = refl

  pass : (o : Ordering) (v : Tree) (rest : Option Tree) → o ≡ Less → (if is_eq o then Some v else rest) ≡ rest
  pass Less v rest e = refl
  pass Equal v rest e = absurd cc
  pass Greater v rest e = refl

  take-it : (o : Ordering) (v : Tree) (rest : Option Tree) → o ≡ Equal → (if is_eq o then Some v else rest) ≡ Some v
  take-it Less v rest e = absurd cc
  take-it Equal v rest e = refl
  take-it Greater v rest e = absurd cc

  value-same : (ps : Pairs) (i : ℕ) → i < pairs_len ps → IsAbove names shared (keys_of ps) k i → order names shared k (tree_at (keys_of ps) i) ≡ Equal
      → value_of names shared k ps ≡ Some (tree_at (values_of ps) i)
  value-same stop i below above same = absurd (omega arith)
  value-same (pair j v ps) zero below above same = take-it (order names shared k j) v (value_of names shared k ps) same
  value-same (pair j v ps) (suc i) below above same =
      skip (order names shared k j) v (value_of names shared k ps) (above 0 (omega arith)) ∙ value-same ps i (omega arith) (λ n less. above (suc n) (omega arith)) same

  -- A key that is less than the first is none of those that rise.
  value-less : (j v : Tree) (ps : Pairs) → keys_rise names shared (pair j v ps) ≡ true → order names shared k j ≡ Less → value_of names shared k (pair j v ps) ≡ None
  value-less j v stop rise less = pass (order names shared k j) v None less
  value-less j v (pair i u ps) rise less =
      pass (order names shared k j) v (value_of names shared k (pair i u ps)) less
      ∙ value-less i u ps (rise-rest names shared j v (pair i u ps) rise) ((order-total names shared).trans k j i less (first-below names shared j v (pair i u ps) 0 rise (omega arith)))

  value-none : (ps : Pairs) (i : ℕ) → i ≤ pairs_len ps → IsAbove names shared (keys_of ps) k i → (i < pairs_len ps → order names shared k (tree_at (keys_of ps) i) ≡ Less)
      → keys_rise names shared ps ≡ true → value_of names shared k ps ≡ None
  value-none stop i within above less rise = refl
  value-none (pair j v ps) zero within above less rise = value-less j v ps rise (less (omega arith))
  value-none (pair j v ps) (suc i) within above less rise =
      skip (order names shared k j) v (value_of names shared k ps) (above 0 (omega arith))
      ∙ value-none ps i (omega arith) (λ n below. above (suc n) (omega arith)) (λ below. less (omega arith)) (rise-rest names shared j v ps rise)

unless : (b : Bool) (o : Option Tree) → b ≡ false → o ≡ (if b then None else o)
unless true o e = absurd cc
unless false o e = refl

module _ (c : ℕ → ℕ → Bool) (names shared : List (List ℕ)) (mem : List ℕ) (w : ℕ) (t k : Tree) (rows : PairRows) (seen : IsSeen c shared mem w t (look.Map rows)) where
  abbrev m : RowsAre c shared mem rows t
  m = seen-map c shared mem w t rows seen

  -- Where the key is found, the word beside it is that of its value.
  pub value-found : (i p : ℕ) → p ≡ rows.values + i → is_beyond shared k ≡ false → HasSorted names shared t
      → ((ps : Pairs) → AreKeys c shared mem rows ps → AreSorted names shared ps → Finds names shared (keys_of ps) k (spot.Same i))
      → AnswersPart c shared mem (value_in names shared k t) (Some (get_or mem p 0))
  value-found i p at small sorted finds =
      let S : Tree → Type 0 = λ z. HasSorted names shared z in
      let f = finds m.pairs (record { count = m.count; keys = m.keys }) (subst S m.is sorted) in
      let below : i < pairs_len m.pairs = omega (arith, f.0, keys-len m.pairs) in
      let stands : Stands c shared mem (get_or mem (rows.values + i) 0) (tree_at (values_of m.pairs) i) =
      row-at c shared mem rows.values (values_of m.pairs) i (values-row c shared mem rows.values m.pairs m.values) (omega (arith, below, values-len m.pairs)) in
      let Q : ℕ → Type 0 = λ z. Stands c shared mem (get_or mem z 0) (tree_at (values_of m.pairs) i) in
      let P : Option Tree → Type 0 = λ z. AnswersPart c shared mem z (Some (get_or mem p 0)) in
      let R : Tree → Type 0 = λ z. P (value_in names shared k z) in
      subst R (sym m.is) (subst P (sym (value-same names shared k m.pairs i below f.1.0 f.1.1) ∙ unless (is_beyond shared k) (value_of names shared k m.pairs) small)
      (get_or mem p 0, refl, subst Q (sym at) stands))

  pub value-lacks : (i : ℕ) → is_beyond shared k ≡ false → HasSorted names shared t
      → ((ps : Pairs) → AreKeys c shared mem rows ps → AreSorted names shared ps → Finds names shared (keys_of ps) k (spot.New i))
      → AnswersPart c shared mem (value_in names shared k t) None
  value-lacks i small sorted finds =
      let S : Tree → Type 0 = λ z. HasSorted names shared z in
      let s = subst S m.is sorted in
      let f = finds m.pairs (record { count = m.count; keys = m.keys }) s in
      let P : Option Tree → Type 0 = λ z. AnswersPart c shared mem z None in
      let R : Tree → Type 0 = λ z. P (value_in names shared k z) in
      subst R (sym m.is) (subst P
      (sym (value-none names shared k m.pairs i (omega (arith, f.0, keys-len m.pairs)) f.1.0 (λ below. f.1.1 (omega (arith, below, keys-len m.pairs))) s.rise)
      ∙ unless (is_beyond shared k) (value_of names shared k m.pairs) small) refl)

  pub value-beyond : is_beyond shared k ≡ true → AnswersPart c shared mem (value_in names shared k t) None
  value-beyond big =
      let P : Bool → Type 0 = λ z. AnswersPart c shared mem (if z then None else value_of names shared k m.pairs) None in
      let R : Tree → Type 0 = λ z. AnswersPart c shared mem (value_in names shared k z) None in
      subst R (sym m.is) (subst P (sym big) refl)

  -- It stands for a part in any case.
  pub value-part : (i p : ℕ) → p ≡ rows.values + i → i < rows.len → IsPart c shared mem t (get_or mem p 0)
  value-part i p at below =
      let inside_is : i < pairs_len m.pairs = omega (arith, below, m.count) in
      let stands : Stands c shared mem (get_or mem (rows.values + i) 0) (tree_at (values_of m.pairs) i) =
      row-at c shared mem rows.values (values_of m.pairs) i (values-row c shared mem rows.values m.pairs m.values) (omega (arith, inside_is, values-len m.pairs)) in
      let Q : ℕ → Type 0 = λ z. Stands c shared mem (get_or mem z 0) (tree_at (values_of m.pairs) i) in
      let R : Tree → Type 0 = λ z. IsPart c shared mem z (get_or mem p 0) in
      subst R (sym m.is) (record { tree = tree_at (values_of m.pairs) i; standing = subst Q (sym at) stands; named = λ n named. value-named n m.pairs i named inside_is })

-- No map has no value.
pub no-map : (c : ℕ → ℕ → Bool) (names shared : List (List ℕ)) (mem : List ℕ) (w : ℕ) (t k : Tree) (l : Look) → IsSeen c shared mem w t l → ((rows : PairRows) → l ≡ look.Map rows → ⊥)
    → AnswersPart c shared mem (value_in names shared k t) None
no-map c names shared mem w (Map ps) k l seen none = absurd (none (record { keys = get_or mem (w / 4 + 2) 0 / 4 + 1; values = w / 4 + 3; len = pairs_len ps }) seen.0)
no-map c names shared mem w _ k l seen none = refl
