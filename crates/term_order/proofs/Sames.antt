-- Terms that are the same part by part.
use Rattle.std.proofs.Common.{◌≡◌, ℕ, ◌+◌, ◌-◌, ◌*◌, ◌/◌, ◌%◌, if◌then◌else◌, ◌<◌, ◌≤◌, ◌||◌, nat_lt, Bool, false, List, length, get_or, refl, sym, ◌∙◌, ap, ap₂, subst, arith}
use Rattle.std.proofs.lemmas.Bool.{or_from, cond-false}
use Rattle.std.proofs.lemmas.Bool.Decides.{nat_tests}
use Rattle.std.proofs.lemmas.Cmp.{tied_itself}
use Rattle.plain_term.specs.Tree.{Tree, Trees, Pairs, trees_len, pairs_len, keys_of, values_of}
use Rattle.plain_term.specs.Tree.Tree.{Cons, Tuple, Map}
use Rattle.plain_term.specs.Tree.Pairs.{stop, pair}
use Rattle.plain_term.specs.Tree.Trees.{end, ◌▹◌}
use Rattle.plain_term.specs.Measures.{nodes, depth}
use Rattle.plain_term.specs.Beyond.{node_limit, depth_limit, is_beyond}
use Rattle.plain_term.specs.Order.{order}
use Rattle.plain_term.proofs.TokenLemmas.{order-total}
use Rattle.term_words.specs.Role.{always}
use Rattle.term_words.specs.Stands.{Stands, RowStands}
use Rattle.term_words.proofs.ByKind.Shapes.{told, shape-cons, shape-tuple, shape-map, un-cons, un-tuple, un-map, row-first}
use Rattle.term_words.proofs.ByKind.Pairs.{keys-row, values-row, keys-len, values-len}
use Rattle.term_walk.proofs.Sums.{nodes-rows}
use Rattle.term_walk.proofs.Steps.{greatest-rows}
use Rattle.term_words.proofs.Placing.Single.{single}
use Rattle.term_walk.proofs.Passing.{IsSlight, slight}
use Rattle.term_order.specs.declared.compared.Compared.TheVariants as answer
use Rattle.term_order.specs.Compared.{Compares, answer_of}
use Rattle.std.specs.declared.cmp.Ordering.TheVariants as ordering
use Rattle.term_order.specs.Runs.{AreBoth, PassedBoth, PassesBoth, is_beyond_after}
use Rattle.term_order.proofs.Passing.{beyond-after}
use Rattle.term_order.specs.Same.{IsOne, FindsOne, AreOne, FindsRow, AreTwoRows, AreMaps, FindsMap}

-- One immediate.

pub one-word : (mem : List ℕ) (x y most : ℕ) → 0 < most → x % 4 ≡ 3 → x ≡ y → FindsOne mem x y most (most - 1)
one-word mem x y most some tag same = record {
  each = λ c shared t u s r.
      let P : ℕ → Type 0 = λ z. Stands c shared mem z u in
      let low : IsSlight shared t = slight c shared mem x t s tag in
      record {
        same = single c c shared shared mem x t u s (subst P (sym same) r);
        few = omega (arith, some, low.0);
        low = omega (arith, some, low.2);
      };
}

-- Rows.

row-of-two : (c : ℕ → ℕ → Bool) (shared : List (List ℕ)) (mem : List ℕ) (p : ℕ) (h t : Tree) → Stands c shared mem (get_or mem p 0) h → Stands c shared mem (get_or mem (p + 1) 0) t
    → RowStands c shared mem p (h ▹ (t ▹ end))
unfolding RowStands
row-of-two c shared mem p h t s r = (s, (r, tt))

tail-one : (h t k u : Tree) → h ▹ (t ▹ end) ≡ k ▹ (u ▹ end) → Cons h t ≡ Cons k u
tail-one h t k u e = cc

one-cons : (c : ℕ → ℕ → Bool) (shared : List (List ℕ)) (mem : List ℕ) (x y most left : ℕ) (h t k u : Tree) → 0 < most → FindsRow mem (x / 4) (y / 4) 2 (most - 1) left
    → Stands c shared mem x (Cons h t) → Stands c shared mem y (Cons k u) → IsOne shared (Cons h t) (Cons k u) most left
one-cons c shared mem x y most left h t k u some found s r =
    let (one, sh, st) = un-cons c shared mem x h t s in
    let (two, rh, rt) = un-cons c shared mem y k u r in
    let a : AreOne shared (h ▹ (t ▹ end)) (k ▹ (u ▹ end)) (most - 1) left = found.each c shared (h ▹ (t ▹ end)) (k ▹ (u ▹ end))
    (row-of-two c shared mem (x / 4) h t sh st) (row-of-two c shared mem (y / 4) k u rh rt) refl refl in
    record {
      same = tail-one h t k u a.same;
      few = omega (arith, some, a.few);
      low = omega (arith, some, a.low);
    }

pub one-list : (mem : List ℕ) (x y most left : ℕ) → 0 < most → x % 4 ≡ 1 → y % 4 ≡ 1 → FindsRow mem (x / 4) (y / 4) 2 (most - 1) left → FindsOne mem x y most left
one-list mem x y most left some a b found = record {
  each = λ c shared t u s r.
      let (h, v, et) = shape-cons t x (get_or mem (x / 4) 0) (told c shared mem x t s) a in
      let (k, w, eu) = shape-cons u y (get_or mem (y / 4) 0) (told c shared mem y u r) b in
      let P : Tree → Type 0 = λ z. Stands c shared mem x z in
      let Q : Tree → Type 0 = λ z. Stands c shared mem y z in
      let here : IsOne shared (Cons h v) (Cons k w) most left = one-cons c shared mem x y most left h v k w some found (subst P et s) (subst Q eu r) in
      rw (et, eu) here;
}

one-tuple : (c : ℕ → ℕ → Bool) (shared : List (List ℕ)) (mem : List ℕ) (x y most left n : ℕ) (ts us : Trees) → 0 < most → FindsRow mem (x / 4 + 1) (y / 4 + 1) n (most - 1) left
    → get_or mem (x / 4) 0 / 64 ≡ n → get_or mem (y / 4) 0 / 64 ≡ n
    → Stands c shared mem x (Tuple ts) → Stands c shared mem y (Tuple us) → IsOne shared (Tuple ts) (Tuple us) most left
one-tuple c shared mem x y most left n ts us some found nx ny s r =
    let (one, st) = un-tuple c shared mem x ts s in
    let (two, su) = un-tuple c shared mem y us r in
    let a : AreOne shared ts us (most - 1) left = found.each c shared ts us st su (omega (arith, one.boxed.header, nx)) (omega (arith, two.boxed.header, ny)) in
    record {
      same = ap Tuple a.same;
      few = omega (arith, some, a.few);
      low = omega (arith, some, a.low);
    }

pub one-boxed : (mem : List ℕ) (x y most left head : ℕ) → 0 < most → x % 4 ≡ 2 → y % 4 ≡ 2 → head ≡ get_or mem (x / 4) 0 → head % 64 ≡ 0 → get_or mem (y / 4) 0 ≡ head
    → FindsRow mem (x / 4 + 1) (y / 4 + 1) (head / 64) (most - 1) left → FindsOne mem x y most left
one-boxed mem x y most left head some a b hx tuple hy found = record {
  each = λ c shared t u s r.
      let (ts, et) = shape-tuple t x (get_or mem (x / 4) 0) (told c shared mem x t s) a (omega (arith, hx, tuple)) in
      let (us, eu) = shape-tuple u y (get_or mem (y / 4) 0) (told c shared mem y u r) b (omega (arith, hy, tuple)) in
      let P : Tree → Type 0 = λ z. Stands c shared mem x z in
      let Q : Tree → Type 0 = λ z. Stands c shared mem y z in
      let here : IsOne shared (Tuple ts) (Tuple us) most left = one-tuple c shared mem x y most left (head / 64) ts us some found (omega (arith, hx)) (omega (arith, hy)) (subst P et s)
      (subst Q eu r) in
      rw (et, eu) here;
}

-- Maps.

pub are-maps : (mem : List ℕ) (x y head : ℕ) → AreBoth mem x y → x % 4 ≡ 2 → y % 4 ≡ 2 → head ≡ get_or mem (x / 4) 0 → head % 64 ≡ 60 → get_or mem (y / 4) 0 ≡ head → AreMaps mem x y
are-maps mem x y head n a b hx map hy =
    let (ps, et) = shape-map n.first x (get_or mem (x / 4) 0) (told always n.shared mem x n.first n.first_stands) a (omega (arith, hx, map)) in
    let (qs, eu) = shape-map n.second y (get_or mem (y / 4) 0) (told always n.shared mem y n.second n.second_stands) b (omega (arith, hy, map)) in
    let P : Tree → Type 0 = λ z. Stands always n.shared mem x z in
    let Q : Tree → Type 0 = λ z. Stands always n.shared mem y z in
    record { shared = n.shared; first = ps; second = qs; first_stands = subst P et n.first_stands; second_stands = subst Q eu n.second_stands }

pub one-map : (mem : List ℕ) (x y most left head : ℕ) → 0 < most → x % 4 ≡ 2 → y % 4 ≡ 2 → head ≡ get_or mem (x / 4) 0 → head % 64 ≡ 60 → get_or mem (y / 4) 0 ≡ head
    → FindsMap mem x y (most - 1) left → FindsOne mem x y most left
one-map mem x y most left head some a b hx map hy found = record {
  each = λ c shared t u s r.
      let (ps, et) = shape-map t x (get_or mem (x / 4) 0) (told c shared mem x t s) a (omega (arith, hx, map)) in
      let (qs, eu) = shape-map u y (get_or mem (y / 4) 0) (told c shared mem y u r) b (omega (arith, hy, map)) in
      let P : Tree → Type 0 = λ z. Stands c shared mem x z in
      let Q : Tree → Type 0 = λ z. Stands c shared mem y z in
      let one : IsOne shared (Map ps) (Map qs) (most - 1 + 1) left = found.each c shared ps qs (subst P et s) (subst Q eu r) in
      let here : IsOne shared (Map ps) (Map qs) most left = record { same = one.same; few = omega (arith, some, one.few); low = omega (arith, some, one.low) } in
      rw (et, eu) here;
}

-- The rows of a map that a word stands for.
record HasRows (c : ℕ → ℕ → Bool) (shared : List (List ℕ)) (mem : List ℕ) (x : ℕ) (ps : Pairs) : Type 0 where
  keys : RowStands c shared mem (get_or mem (x / 4 + 2) 0 / 4 + 1) (keys_of ps)
  values : RowStands c shared mem (x / 4 + 3) (values_of ps)
  count : get_or mem (x / 4 + 1) 0 ≡ pairs_len ps
  keys_within : get_or mem (x / 4 + 2) 0 / 4 + 1 + pairs_len ps ≤ length mem
  values_within : x / 4 + 3 + pairs_len ps ≤ length mem

has-rows : (c : ℕ → ℕ → Bool) (shared : List (List ℕ)) (mem : List ℕ) (x : ℕ) (ps : Pairs) → Stands c shared mem x (Map ps) → HasRows c shared mem x ps
has-rows c shared mem x ps s =
    let (is, ks, vs) = un-map c shared mem x ps s in
    record {
      keys = keys-row c shared mem (get_or mem (x / 4 + 2) 0 / 4 + 1) ps ks;
      values = values-row c shared mem (x / 4 + 3) ps vs;
      count = is.count;
      keys_within = omega (arith, is.keys.boxed.object.within);
      values_within = omega (arith, is.boxed.object.within);
    }

pub map-words : (mem : List ℕ) (x y : ℕ) → AreMaps mem x y → (x / 4 + 3 ≤ length mem) × (y / 4 + 3 ≤ length mem)
map-words mem x y n =
    let a = has-rows always n.shared mem x n.first n.first_stands in
    let b = has-rows always n.shared mem y n.second n.second_stands in
    (omega (arith, a.values_within), omega (arith, b.values_within))

pub map-near : (mem : List ℕ) (x y : ℕ) → AreMaps mem x y → (get_or mem (x / 4 + 2) 0 / 4 + 1 ≤ length mem) × (get_or mem (y / 4 + 2) 0 / 4 + 1 ≤ length mem)
map-near mem x y n =
    let a = has-rows always n.shared mem x n.first n.first_stands in
    let b = has-rows always n.shared mem y n.second n.second_stands in
    (omega (arith, a.keys_within), omega (arith, b.keys_within))

pub rows-keys : (mem : List ℕ) (x y len : ℕ) → AreMaps mem x y → get_or mem (x / 4 + 1) 0 ≡ len → get_or mem (y / 4 + 1) 0 ≡ len
    → AreTwoRows mem (get_or mem (x / 4 + 2) 0 / 4 + 1) (get_or mem (y / 4 + 2) 0 / 4 + 1) len
rows-keys mem x y len n ex ey =
    let a = has-rows always n.shared mem x n.first n.first_stands in
    let b = has-rows always n.shared mem y n.second n.second_stands in
    record {
      shared = n.shared;
      firsts = keys_of n.first;
      seconds = keys_of n.second;
      first_stands = a.keys;
      second_stands = b.keys;
      first_len = keys-len n.first ∙ sym a.count ∙ ex;
      second_len = keys-len n.second ∙ sym b.count ∙ ey;
      first_within = omega (arith, a.keys_within, a.count, ex);
      second_within = omega (arith, b.keys_within, b.count, ey);
    }

pub rows-values : (mem : List ℕ) (x y len : ℕ) → AreMaps mem x y → get_or mem (x / 4 + 1) 0 ≡ len → get_or mem (y / 4 + 1) 0 ≡ len
    → AreTwoRows mem (x / 4 + 3) (y / 4 + 3) len
rows-values mem x y len n ex ey =
    let a = has-rows always n.shared mem x n.first n.first_stands in
    let b = has-rows always n.shared mem y n.second n.second_stands in
    record {
      shared = n.shared;
      firsts = values_of n.first;
      seconds = values_of n.second;
      first_stands = a.values;
      second_stands = b.values;
      first_len = values-len n.first ∙ sym a.count ∙ ex;
      second_len = values-len n.second ∙ sym b.count ∙ ey;
      first_within = omega (arith, a.values_within, a.count, ex);
      second_within = omega (arith, b.values_within, b.count, ey);
    }

same-pairs : (ps qs : Pairs) → keys_of ps ≡ keys_of qs → values_of ps ≡ values_of qs → ps ≡ qs
same-pairs stop stop a b = refl
same-pairs stop (pair k v qs) a b = absurd cc
same-pairs (pair k v ps) stop a b = absurd cc
same-pairs (pair k v ps) (pair j w qs) a b =
    let key : k ≡ j = cc in
    let value : v ≡ w = cc in
    let keys : keys_of ps ≡ keys_of qs = cc in
    let values : values_of ps ≡ values_of qs = cc in
    let more : ps ≡ qs = same-pairs ps qs keys values in
    rw (key, value, more) refl

pub finds-map : (mem : List ℕ) (x y len most left after : ℕ) → get_or mem (x / 4 + 1) 0 ≡ len → get_or mem (y / 4 + 1) 0 ≡ len → after ≤ left
    → FindsRow mem (get_or mem (x / 4 + 2) 0 / 4 + 1) (get_or mem (y / 4 + 2) 0 / 4 + 1) len most left
    → FindsRow mem (x / 4 + 3) (y / 4 + 3) len left after → FindsMap mem x y most after
finds-map mem x y len most left after ex ey less ks vs = record {
  each = λ c shared ps qs s r.
      let a = has-rows c shared mem x ps s in
      let b = has-rows c shared mem y qs r in
      let keys : AreOne shared (keys_of ps) (keys_of qs) most left = ks.each c shared (keys_of ps) (keys_of qs) a.keys b.keys (keys-len ps ∙ sym a.count ∙ ex) (keys-len qs ∙ sym b.count ∙ ey) in
      let values : AreOne shared (values_of ps) (values_of qs) left after = vs.each c shared (values_of ps) (values_of qs) a.values b.values
      (values-len ps ∙ sym a.count ∙ ex) (values-len qs ∙ sym b.count ∙ ey) in
      record {
        same = ap Map (same-pairs ps qs keys.same values.same);
        few = omega (arith, keys.few, values.few, nodes-rows shared ps);
        low = omega (arith, keys.low, values.low, greatest-rows ps, less);
      };
}

-- Rows, one word at a time.

no-parts : (shared : List (List ℕ)) (ts us : Trees) (most : ℕ) → trees_len ts ≡ 0 → trees_len us ≡ 0 → AreOne shared ts us most most
no-parts shared end end most a b = record { same = refl; few = omega arith; low = omega arith }
no-parts shared (t ▹ ts) us most a b = absurd (omega (arith, a))
no-parts shared end (u ▹ us) most a b = absurd (omega (arith, b))

pub row-none : (mem : List ℕ) (p q n most : ℕ) → n ≡ 0 → FindsRow mem p q n most most
row-none mem p q n most none = record { each = λ c shared ts us s r a b. no-parts shared ts us most (a ∙ none) (b ∙ none) }

more-parts : (c : ℕ → ℕ → Bool) (shared : List (List ℕ)) (mem : List ℕ) (p q n most left after : ℕ) (ts us : Trees) → 0 < n → after ≤ left
    → FindsOne mem (get_or mem p 0) (get_or mem q 0) most left
    → FindsRow mem (p + 1) (q + 1) (n - 1) left after → RowStands c shared mem p ts → RowStands c shared mem q us → trees_len ts ≡ n → trees_len us ≡ n → AreOne shared ts us most after
more-parts c shared mem p q n most left after end us some less one rest s r a b = absurd (omega (arith, a, some))
more-parts c shared mem p q n most left after (t ▹ ts) end some less one rest s r a b = absurd (omega (arith, b, some))
more-parts c shared mem p q n most left after (t ▹ ts) (u ▹ us) some less one rest s r a b =
    let (st, sts) = row-first c shared mem p t ts s in
    let (su, sus) = row-first c shared mem q u us r in
    let first : IsOne shared t u most left = one.each c shared t u st su in
    let others : AreOne shared ts us left after = rest.each c shared ts us sts sus (omega (arith, a)) (omega (arith, b)) in
    record {
      same = ap₂ (λ v vs. v ▹ vs) first.same others.same;
      few = omega (arith, first.few, others.few);
      low = omega (arith, first.low, others.low, less);
    }

pub row-more : (mem : List ℕ) (p q n most left after : ℕ) → 0 < n → after ≤ left → FindsOne mem (get_or mem p 0) (get_or mem q 0) most left
    → FindsRow mem (p + 1) (q + 1) (n - 1) left after → FindsRow mem p q n most after
row-more mem p q n most left after some less one rest = record {
  each = λ c shared ts us s r a b. more-parts c shared mem p q n most left after ts us some less one rest s r a b;
}

-- What the calls ask for.

pub rows-list : (mem : List ℕ) (x y : ℕ) → AreBoth mem x y → x % 4 ≡ 1 → y % 4 ≡ 1 → AreTwoRows mem (x / 4) (y / 4) 2
rows-list mem x y n a b =
    let (h, v, et) = shape-cons n.first x (get_or mem (x / 4) 0) (told always n.shared mem x n.first n.first_stands) a in
    let (k, w, eu) = shape-cons n.second y (get_or mem (y / 4) 0) (told always n.shared mem y n.second n.second_stands) b in
    let P : Tree → Type 0 = λ z. Stands always n.shared mem x z in
    let Q : Tree → Type 0 = λ z. Stands always n.shared mem y z in
    let (one, sh, sv) = un-cons always n.shared mem x h v (subst P et n.first_stands) in
    let (two, sk, sw) = un-cons always n.shared mem y k w (subst Q eu n.second_stands) in
    record {
      shared = n.shared;
      firsts = h ▹ (v ▹ end);
      seconds = k ▹ (w ▹ end);
      first_stands = row-of-two always n.shared mem (x / 4) h v sh sv;
      second_stands = row-of-two always n.shared mem (y / 4) k w sk sw;
      first_len = refl;
      second_len = refl;
      first_within = one.object.within;
      second_within = two.object.within;
    }

pub rows-boxed : (mem : List ℕ) (x y head : ℕ) → AreBoth mem x y → x % 4 ≡ 2 → y % 4 ≡ 2 → head ≡ get_or mem (x / 4) 0 → head % 64 ≡ 0 → get_or mem (y / 4) 0 ≡ head
    → AreTwoRows mem (x / 4 + 1) (y / 4 + 1) (head / 64)
rows-boxed mem x y head n a b hx tuple hy =
    let (ts, et) = shape-tuple n.first x (get_or mem (x / 4) 0) (told always n.shared mem x n.first n.first_stands) a (omega (arith, hx, tuple)) in
    let (us, eu) = shape-tuple n.second y (get_or mem (y / 4) 0) (told always n.shared mem y n.second n.second_stands) b (omega (arith, hy, tuple)) in
    let P : Tree → Type 0 = λ z. Stands always n.shared mem x z in
    let Q : Tree → Type 0 = λ z. Stands always n.shared mem y z in
    let (one, st) = un-tuple always n.shared mem x ts (subst P et n.first_stands) in
    let (two, su) = un-tuple always n.shared mem y us (subst Q eu n.second_stands) in
    record {
      shared = n.shared;
      firsts = ts;
      seconds = us;
      first_stands = st;
      second_stands = su;
      first_len = omega (arith, one.boxed.header, hx);
      second_len = omega (arith, two.boxed.header, hy);
      first_within = omega (arith, one.boxed.header, hx, one.boxed.object.within);
      second_within = omega (arith, two.boxed.header, hy, two.boxed.object.within);
    }

first-two : (mem : List ℕ) (p q n : ℕ) (shared : List (List ℕ)) (ts us : Trees) → 0 < n → RowStands always shared mem p ts → RowStands always shared mem q us → trees_len ts ≡ n → trees_len us ≡ n
    → p + n ≤ length mem → q + n ≤ length mem → AreBoth mem (get_or mem p 0) (get_or mem q 0) × AreTwoRows mem (p + 1) (q + 1) (n - 1)
first-two mem p q n shared end us some s r a b v w = absurd (omega (arith, a, some))
first-two mem p q n shared (t ▹ ts) end some s r a b v w = absurd (omega (arith, b, some))
first-two mem p q n shared (t ▹ ts) (u ▹ us) some s r a b v w =
    let (st, sts) = row-first always shared mem p t ts s in
    let (su, sus) = row-first always shared mem q u us r in (
      record { shared = shared; first = t; second = u; first_stands = st; second_stands = su },
      record {
        shared = shared;
        firsts = ts;
        seconds = us;
        first_stands = sts;
        second_stands = sus;
        first_len = omega (arith, a);
        second_len = omega (arith, b);
        first_within = omega (arith, v, some);
        second_within = omega (arith, w, some);
      },
    )

pub rows-on : (mem : List ℕ) (p q n : ℕ) → 0 < n → AreTwoRows mem p q n → AreBoth mem (get_or mem p 0) (get_or mem q 0) × AreTwoRows mem (p + 1) (q + 1) (n - 1)
rows-on mem p q n some k = first-two mem p q n k.shared k.firsts k.seconds some k.first_stands k.second_stands k.first_len k.second_len k.first_within k.second_within

-- What is found to be one is within the walk limit, and is the same.

pub some-left : (mem : List ℕ) (x y most left : ℕ) → 0 < left → FindsOne mem x y most left → FindsOne mem x y most 1
some-left mem x y most left some found = record {
  each = λ c shared t u s r.
      let one : IsOne shared t u most left = found.each c shared t u s r in
      record { same = one.same; few = omega (arith, some, one.few); low = omega (arith, some, one.low) };
}

few-within : (shared : List (List ℕ)) (t : Tree) (cells : ℕ) → cells < 524000 → nodes shared t ≤ 64 → depth t ≤ 64 → is_beyond_after shared cells t ≡ false
few-within shared t cells behind few low =
    or_from (nat_lt node_limit (2 * cells + nodes shared t)) (nat_lt depth_limit (depth t)) (grind (arith, nat_tests, behind, few)) (grind (arith, nat_tests, low))

same-order : (names shared : List (List ℕ)) (t u : Tree) → t ≡ u → ordering.Equal ≡ order names shared t u
same-order names shared t u same = sym (ap (λ z. order names shared z u) same ∙ tied_itself (order-total names shared) u)

pub compares-one : (mem : List ℕ) (names : List (List ℕ)) (a b left right cells : ℕ) → PassesBoth mem a b left right cells → cells < 524000 → FindsOne mem left right 64 1
    → Compares mem names a b answer.Same
compares-one mem names a b left right cells passed behind found = record {
  each = λ c shared t u s r.
      let p : PassedBoth c shared mem names t u left right cells = passed.each c shared names t u s r in
      let one : IsOne shared p.first.rest p.second.rest 64 1 = found.each c shared p.first.rest p.second.rest p.first.standing p.second.standing in
      let P : Tree → Type 0 = λ z. is_beyond_after shared cells z ≡ false in
      let here : P p.first.rest = few-within shared p.first.rest cells behind (omega (arith, one.few)) (omega (arith, one.low)) in
      let first : is_beyond shared t ≡ false = beyond-after c shared mem t left cells p.first ∙ here in
      let second : is_beyond shared u ≡ false = beyond-after c shared mem u right cells p.second ∙ subst P one.same here in
      ap answer_of (same-order names shared p.first.rest p.second.rest one.same ∙ sym p.order_is)
      ∙ sym (cond-false (is_beyond shared t || is_beyond shared u) answer.Beyond (answer_of (order names shared t u)) (or_from (is_beyond shared t) (is_beyond shared u) first second));
}
