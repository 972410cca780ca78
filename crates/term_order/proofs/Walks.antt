-- Two walks side by side.
use Rattle.std.proofs.Common.{◌≡◌, ℕ, ◌+◌, ◌<◌, ◌≤◌, ◌||◌, ◌==◌, not, nat_lt, max, Bool, true, false, List, [], length, refl, sym, ◌∙◌, ap, subst, arith, Option, Some, None}
use Rattle.std.proofs.lemmas.Bool.{and_parts}
use Rattle.std.proofs.lemmas.Bool.Decides.{nat_tests}
use Rattle.std.specs.Ordering.{ordering_then, ordering_index}
use Rattle.std.specs.declared.cmp.Ordering.{Ordering}
use Rattle.std.specs.declared.cmp.Ordering.TheVariants as ordering
use Rattle.plain_term.specs.Tree.{Tree, Trees, trees_append}
use Rattle.plain_term.specs.Tree.Tree.{Int, Atom, Pid, Ref, Nil, Cons, Tuple, Map, Bin, Shared, Part, Fun}
use Rattle.plain_term.specs.Tree.Trees.{◌▹◌}
use Rattle.plain_term.specs.Bytes.{bytes_of}
use Rattle.plain_term.specs.Measures.{nodes, nodes_of_all, depth}
use Rattle.plain_term.specs.Beyond.{node_limit, depth_limit, is_beyond}
use Rattle.plain_term.specs.Order.{order, order_of_all}
use Rattle.term_words.specs.Role.{always}
use Rattle.term_words.specs.Stands.{Stands, IsTerm}
use Rattle.term_words.proofs.Placing.Single.{single}
use Rattle.std.proofs.lemmas.Cmp.{tied_itself}
use Rattle.plain_term.proofs.TokenLemmas.{order-total}
use Rattle.term_read.specs.Look.{IsSeen, Sees, LiesInMemory}
use Rattle.term_read.specs.declared.looks.Look.{Look}
use Rattle.term_read.specs.declared.looks.Look.TheVariants as look
use Rattle.term_walk.specs.declared.levels.Rest.{Rest}
use Rattle.term_walk.specs.Left.{AreLeft, left_of, deepest, walk_parts, CanGo, HasLeft, GoesNext, Yields}
use Rattle.term_walk.specs.Weights.{nodes_in}
use Rattle.term_walk.proofs.Sums.{nodes-append, nodes-own}
use Rattle.term_order.specs.Named.{is_named, are_named}
use Rattle.term_order.specs.Own.{look_data, IsReadable, IsBytes, looks_order}
use Rattle.term_order.specs.Compared.{AreNamed, BothWithin, Orders, at_end, IsDeeper, IsStep, StepsOn}
use Rattle.term_order.proofs.Owning.{own_order, order-own, order-append, own-len, own-bytes, looks-own, readable, step-named}

-- A walk over a tree is at a word, after so many steps: no more nodes are left, it is nowhere deeper, and it meets no other names.
pub record Walking (c : ℕ → ℕ → Bool) (shared : List (List ℕ)) (mem : List ℕ) (n : ℕ) (t : Tree) (word : ℕ) (levels : List Rest) (steps : ℕ) : Type 0 where
  pub now : Tree
  pub rests : List Trees
  pub standing : Stands c shared mem word now
  pub left : AreLeft c shared mem levels rests
  pub few : length levels ≤ depth_limit
  pub nodes_are : steps + (nodes shared now + nodes_of_all shared (left_of rests)) ≤ nodes shared t
  pub depth_is : max (length levels + depth now) (deepest levels rests) ≤ max depth_limit (depth t)
  pub named : is_named n t ≡ true → (is_named n now ≡ true) × (are_named n (left_of rests) ≡ true)

-- Two walks are at two words, and the order of their trees is that of what is left.
pub record Comparing (c : ℕ → ℕ → Bool) (shared : List (List ℕ)) (mem : List ℕ) (names : List (List ℕ)) (t u : Tree) (x y : ℕ) (left right : List Rest) (steps : ℕ) : Type 0 where
  pub first : Walking c shared mem (length names) t x left steps
  pub second : Walking c shared mem (length names) u y right steps
  pub order_is : order names shared t u ≡ ordering_then (order names shared first.now second.now) (order_of_all names shared (left_of first.rests) (left_of second.rests))

abbrev pub Comparisons : (mem : List ℕ) (names : List (List ℕ)) (a b x y : ℕ) (left right : List Rest) (steps : ℕ) → Type 0
Comparisons mem names a b x y left right steps =
    (c : ℕ → ℕ → Bool) (shared : List (List ℕ)) (t u : Tree) → Stands c shared mem a t → Stands c shared mem b u → Comparing c shared mem names t u x y left right steps

walk-first : (c : ℕ → ℕ → Bool) (shared : List (List ℕ)) (mem : List ℕ) (n : ℕ) (t : Tree) (word : ℕ) → Stands c shared mem word t → Walking c shared mem n t word [] 0
walk-first c shared mem n t word s = record { now = t; rests = []; standing = s; left = tt; few = omega arith; nodes_are = omega arith; depth_is = omega arith; named = λ e. (e, refl) }

then-same : (o : Ordering) → o ≡ ordering_then o ordering.Equal
then-same ordering.Less = refl
then-same ordering.Equal = refl
then-same ordering.Greater = refl

pub compares-first : (mem : List ℕ) (names : List (List ℕ)) (a b : ℕ) (left right : List Rest) → left ≡ [] → right ≡ [] → Comparisons mem names a b a b left right 0
unfolding walk-first
compares-first mem names a b left right el er =
    let P : List Rest → Type 0 = λ z. Comparisons mem names a b a b z right 0 in
    let Q : List Rest → Type 0 = λ z. Comparisons mem names a b a b [] z 0 in
    let here : Comparisons mem names a b a b [] [] 0 = λ c shared t u st su. record {
      first = walk-first c shared mem (length names) t a st;
      second = walk-first c shared mem (length names) u b su;
      order_is = then-same (order names shared t u);
    } in
    subst P (sym el) (subst Q (sym er) here)

-- A step.

one-node : (l : Look) → 1 ≤ nodes_in l
one-node (look.Heap bytes) = omega arith
one-node (look.Holder bytes) = omega arith
one-node (look.Part part) = omega arith
one-node _ = omega arith

walk-on : (c : ℕ → ℕ → Bool) (shared : List (List ℕ)) (mem : List ℕ) (n : ℕ) (t : Tree) (word next : ℕ) (levels new : List Rest) (l : Look) (steps : ℕ)
    → (k : Walking c shared mem n t word levels steps) → IsSeen c shared mem word k.now l → IsStep c shared mem levels k.now k.rests (Some next) new → Walking c shared mem n t next new (steps + 1)
walk-on c shared mem n t word next levels new l steps k sees g = record {
  now = g.now;
  rests = g.rests;
  standing = g.standing;
  left = g.left;
  few = g.few;
  nodes_are = omega (arith, k.nodes_are, nodes-own c shared mem word k.now l sees, one-node l, nodes-append shared (walk_parts k.now) (left_of k.rests), ap (nodes_of_all shared) g.order);
  depth_is = omega (arith, k.depth_is, g.depths);
  named = λ e. step-named n k.now g.now (left_of k.rests) (left_of g.rests) (k.named e).0 (k.named e).1 g.order;
}

-- A step past a word and its parts.

pub one-tree : (shared : List (List ℕ)) (t : Tree) → 1 ≤ nodes shared t
one-tree shared (Int i) = omega arith
one-tree shared (Atom k) = omega arith
one-tree shared (Pid n) = omega arith
one-tree shared (Ref n k) = omega arith
one-tree shared (Nil) = omega arith
one-tree shared (Cons h t) = omega arith
one-tree shared (Tuple ts) = omega arith
one-tree shared (Map ps) = omega arith
one-tree shared (Bin bytes) = omega arith
one-tree shared (Shared id) = omega arith
one-tree shared (Part base offset len) = omega arith
one-tree shared (Fun f a c env) = omega arith

past-named : (n : ℕ) (next : Tree) (rest after : Trees) → are_named n rest ≡ true → rest ≡ next ▹ after → (is_named n next ≡ true) × (are_named n after ≡ true)
past-named n next rest after q e = and_parts (is_named n next) (are_named n after) (sym (ap (are_named n) e) ∙ q)

walk-past : (c : ℕ → ℕ → Bool) (shared : List (List ℕ)) (mem : List ℕ) (n : ℕ) (t : Tree) (word next : ℕ) (levels new : List Rest) (steps : ℕ)
    → (k : Walking c shared mem n t word levels steps) → GoesNext c shared mem levels k.rests (Some next) new → Walking c shared mem n t next new (steps + 1)
walk-past c shared mem n t word next levels new steps k g = record {
  now = g.now;
  rests = g.rests;
  standing = g.standing;
  left = g.left;
  few = g.few;
  nodes_are = omega (arith, k.nodes_are, one-tree shared k.now, ap (nodes_of_all shared) g.order);
  depth_is = omega (arith, k.depth_is, g.depths);
  named = λ e. past-named n g.now (left_of k.rests) (left_of g.rests) (k.named e).1 g.order;
}

-- Where the two words do not differ before their parts, the order is that of the parts and of what is left behind them.
order-parts : (c : ℕ → ℕ → Bool) (shared : List (List ℕ)) (mem : List ℕ) (names : List (List ℕ)) (t u : Tree) (x y : ℕ) (left right : List Rest) (steps : ℕ)
    → (k : Comparing c shared mem names t u x y left right steps) → own_order names shared k.first.now k.second.now ≡ ordering.Equal
    → order names shared t u ≡ order_of_all names shared (trees_append (walk_parts k.first.now) (left_of k.first.rests)) (trees_append (walk_parts k.second.now) (left_of k.second.rests))
order-parts c shared mem names t u x y left right steps k e =
    let behind : Ordering = order_of_all names shared (left_of k.first.rests) (left_of k.second.rests) in
    let parts : Ordering = order_of_all names shared (walk_parts k.first.now) (walk_parts k.second.now) in
    k.order_is
    ∙ ap (λ z. ordering_then z behind) (order-own names shared k.first.now k.second.now ∙ ap (λ z. ordering_then z parts) e)
    ∙ sym (order-append names shared (walk_parts k.first.now) (walk_parts k.second.now) (left_of k.first.rests) (left_of k.second.rests) (own-len names shared k.first.now k.second.now e))

differs-then : (o p q : Ordering) → (o ≡ ordering.Equal → ⊥) → ordering_then (ordering_then o p) q ≡ o
differs-then ordering.Less p q other = refl
differs-then ordering.Equal p q other = absurd (other refl)
differs-then ordering.Greater p q other = refl

order-differs : (c : ℕ → ℕ → Bool) (shared : List (List ℕ)) (mem : List ℕ) (names : List (List ℕ)) (t u : Tree) (x y : ℕ) (left right : List Rest) (steps : ℕ)
    → (k : Comparing c shared mem names t u x y left right steps) → (own_order names shared k.first.now k.second.now ≡ ordering.Equal → ⊥)
    → own_order names shared k.first.now k.second.now ≡ order names shared t u
order-differs c shared mem names t u x y left right steps k other =
    let behind : Ordering = order_of_all names shared (left_of k.first.rests) (left_of k.second.rests) in
    let parts : Ordering = order_of_all names shared (walk_parts k.first.now) (walk_parts k.second.now) in
    sym (k.order_is ∙ ap (λ z. ordering_then z behind) (order-own names shared k.first.now k.second.now) ∙ differs-then (own_order names shared k.first.now k.second.now) parts behind other)

-- A tree within the walk limit is nowhere too deep, and has so few nodes.

within-depth : (shared : List (List ℕ)) (t : Tree) → is_beyond shared t ≡ false → (nodes shared t ≤ node_limit) × (depth t ≤ depth_limit)
within-depth shared t e = limits (nat_lt node_limit (nodes shared t)) (nat_lt depth_limit (depth t)) refl refl e
  where
    limits : (p q : Bool) → nat_lt node_limit (nodes shared t) ≡ p → nat_lt depth_limit (depth t) ≡ q → (p || q) ≡ false → (nodes shared t ≤ node_limit) × (depth t ≤ depth_limit)
    limits false false a b e = (grind (arith, nat_tests, a), grind (arith, nat_tests, b))
    limits true q a b e = absurd cc
    limits false true a b e = absurd cc

shallow : (c : ℕ → ℕ → Bool) (shared : List (List ℕ)) (mem : List ℕ) (n : ℕ) (t : Tree) (word : ℕ) (levels : List Rest) (steps : ℕ)
    → (k : Walking c shared mem n t word levels steps) → depth t ≤ depth_limit → length levels + depth k.now ≤ depth_limit
shallow c shared mem n t word levels steps k low = omega (arith, k.depth_is, low)

-- The order that was found of the two words.

abbrev pub Finds : (mem : List ℕ) (names : List (List ℕ)) (l m : Look) → Ordering → Type 0
Finds mem names l m r = (xs ys : List ℕ) → IsBytes mem (look_data l) xs → IsBytes mem (look_data m) ys → r ≡ looks_order names l m xs ys

found : (c : ℕ → ℕ → Bool) (names shared : List (List ℕ)) (mem : List ℕ) (v w : ℕ) (t u : Tree) (l m : Look) (r : Ordering) → Finds mem names l m r → IsSeen c shared mem v t l
    → IsSeen c shared mem w u m
    → r ≡ own_order names shared t u
found c names shared mem v w t u l m r f e g = f (bytes_of shared t) (bytes_of shared u) (own-bytes c shared mem v t l e) (own-bytes c shared mem w u m g)
    ∙ looks-own c names shared mem v w t u l m e g

module _ (mem : List ℕ) (names : List (List ℕ)) (a b x y : ℕ) (left right : List Rest) (steps : ℕ) (l m : Look) (r : Ordering)
    (k : Comparisons mem names a b x y left right steps) (sl : Sees mem x l) (sm : Sees mem y m) (f : Finds mem names l m r) where
  own-found : (c : ℕ → ℕ → Bool) (shared : List (List ℕ)) (t u : Tree) (st : Stands c shared mem a t) (su : Stands c shared mem b u)
      → r ≡ own_order names shared (k c shared t u st su).first.now (k c shared t u st su).second.now
  own-found c shared t u st su =
      let here : Comparing c shared mem names t u x y left right steps = k c shared t u st su in
      found c names shared mem x y here.first.now here.second.now l m r f (sl.each c shared here.first.now here.first.standing) (sm.each c shared here.second.now here.second.standing)

  pub orders-differ : (r ≡ ordering.Equal → ⊥) → Orders mem names a b r
  orders-differ other = record {
    each = λ c shared t u st su.
        own-found c shared t u st su
        ∙ order-differs c shared mem names t u x y left right steps (k c shared t u st su) (λ e. other (own-found c shared t u st su ∙ e));
  }

  module _ (same : r ≡ ordering.Equal) (w : BothWithin mem a b) (p q : Option ℕ) (left2 right2 : List Rest) (sp : StepsOn mem left l p left2) (sq : StepsOn mem right m q right2) where
    parts-order : (c : ℕ → ℕ → Bool) (shared : List (List ℕ)) (t u : Tree) (st : Stands c shared mem a t) (su : Stands c shared mem b u)
        → let here : Comparing c shared mem names t u x y left right steps = k c shared t u st su in
        order names shared t u ≡ order_of_all names shared (trees_append (walk_parts here.first.now) (left_of here.first.rests)) (trees_append (walk_parts here.second.now) (left_of here.second.rests))
    parts-order c shared t u st su = order-parts c shared mem names t u x y left right steps (k c shared t u st su) (sym (own-found c shared t u st su) ∙ same)

    first-step : (c : ℕ → ℕ → Bool) (shared : List (List ℕ)) (t u : Tree) (st : Stands c shared mem a t) (su : Stands c shared mem b u)
        → IsStep c shared mem left (k c shared t u st su).first.now (k c shared t u st su).first.rests p left2
    first-step c shared t u st su =
        let here : Walking c shared mem (length names) t x left steps = (k c shared t u st su).first in
        sp.each c shared x here.now here.rests here.standing (sl.each c shared here.now here.standing) here.left
        (shallow c shared mem (length names) t x left steps here (within-depth shared t (w.first c shared t st)).1)

    second-step : (c : ℕ → ℕ → Bool) (shared : List (List ℕ)) (t u : Tree) (st : Stands c shared mem a t) (su : Stands c shared mem b u)
        → IsStep c shared mem right (k c shared t u st su).second.now (k c shared t u st su).second.rests q right2
    second-step c shared t u st su =
        let here : Walking c shared mem (length names) u y right steps = (k c shared t u st su).second in
        sq.each c shared y here.now here.rests here.standing (sm.each c shared here.now here.standing) here.left
        (shallow c shared mem (length names) u y right steps here (within-depth shared u (w.second c shared u su)).1)

as-step : (c : ℕ → ℕ → Bool) (shared : List (List ℕ)) (mem : List ℕ) (old : List Rest) (now : Tree) (rests : List Trees) (p q : Option ℕ) (new : List Rest) → p ≡ q
    → IsStep c shared mem old now rests p new → IsStep c shared mem old now rests q new
as-step c shared mem old now rests p q new e s = let P : Option ℕ → Type 0 = λ z. IsStep c shared mem old now rests z new in subst P e s

module _ (mem : List ℕ) (names : List (List ℕ)) (a b x y : ℕ) (left right : List Rest) (steps : ℕ) (l m : Look) (r : Ordering)
    (k : Comparisons mem names a b x y left right steps) (sl : Sees mem x l) (sm : Sees mem y m) (f : Finds mem names l m r)
    (same : r ≡ ordering.Equal) (w : BothWithin mem a b) (p q : Option ℕ) (left2 right2 : List Rest) (sp : StepsOn mem left l p left2) (sq : StepsOn mem right m q right2) where
  -- Both walks go on.
  go-both : (v z : ℕ) → p ≡ Some v → q ≡ Some z → (c : ℕ → ℕ → Bool) (shared : List (List ℕ)) (t u : Tree) → Stands c shared mem a t → Stands c shared mem b u
      → Comparing c shared mem names t u v z left2 right2 (steps + 1)
  unfolding walk-on as-step
  go-both v z ep eq c shared t u st su =
      let here : Comparing c shared mem names t u x y left right steps = k c shared t u st su in
      let gp : IsStep c shared mem left here.first.now here.first.rests (Some v) left2 =
      as-step c shared mem left here.first.now here.first.rests p (Some v) left2 ep (first-step mem names a b x y left right steps l m r k sl sm f same w p q left2 right2 sp sq c shared t u st su) in
      let gq : IsStep c shared mem right here.second.now here.second.rests (Some z) right2 =
      as-step c shared mem right here.second.now here.second.rests q (Some z) right2 eq (second-step mem names a b x y left right steps l m r k sl sm f same w p q left2 right2 sp sq c shared t u
      st su) in
      record {
        first = walk-on c shared mem (length names) t x v left left2 l steps here.first (sl.each c shared here.first.now here.first.standing) gp;
        second = walk-on c shared mem (length names) u y z right right2 m steps here.second (sm.each c shared here.second.now here.second.standing) gq;
        order_is = parts-order mem names a b x y left right steps l m r k sl sm f same w p q left2 right2 sp sq c shared t u st su ∙ (λ i. order_of_all names shared (gp.order i) (gq.order i));
      }

  pub compares-on : (v z : ℕ) → p ≡ Some v → q ≡ Some z → Comparisons mem names a b v z left2 right2 (steps + 1)
  compares-on v z ep eq = λ c shared t u st su. go-both v z ep eq c shared t u st su

  -- Only the second goes on, or none.
  none-order : (c : ℕ → ℕ → Bool) (shared : List (List ℕ)) (t u : Tree) → Stands c shared mem a t → Stands c shared mem b u → p ≡ None → (o : Option ℕ) → q ≡ o → at_end o ≡ order names shared t u
  none-order c shared t u st su ep None eq =
      let here : Comparing c shared mem names t u x y left right steps = k c shared t u st su in
      let gp : IsStep c shared mem left here.first.now here.first.rests None left2 =
      as-step c shared mem left here.first.now here.first.rests p None left2 ep (first-step mem names a b x y left right steps l m r k sl sm f same w p q left2 right2 sp sq c shared t u st su) in
      let gq : IsStep c shared mem right here.second.now here.second.rests None right2 =
      as-step c shared mem right here.second.now here.second.rests q None right2 eq (second-step mem names a b x y left right steps l m r k sl sm f same w p q left2 right2 sp sq c shared t u st su) in
      sym (parts-order mem names a b x y left right steps l m r k sl sm f same w p q left2 right2 sp sq c shared t u st su ∙ (λ i. order_of_all names shared (gp.none i) (gq.none i)))
  none-order c shared t u st su ep (Some z) eq =
      let here : Comparing c shared mem names t u x y left right steps = k c shared t u st su in
      let gp : IsStep c shared mem left here.first.now here.first.rests None left2 =
      as-step c shared mem left here.first.now here.first.rests p None left2 ep (first-step mem names a b x y left right steps l m r k sl sm f same w p q left2 right2 sp sq c shared t u st su) in
      let gq : IsStep c shared mem right here.second.now here.second.rests (Some z) right2 =
      as-step c shared mem right here.second.now here.second.rests q (Some z) right2 eq (second-step mem names a b x y left right steps l m r k sl sm f same w p q left2 right2 sp sq c shared t u
      st su) in
      sym (parts-order mem names a b x y left right steps l m r k sl sm f same w p q left2 right2 sp sq c shared t u st su ∙ (λ i. order_of_all names shared (gp.none i) (gq.order i)))

  pub orders-end : (o : Ordering) → p ≡ None → o ≡ at_end q → Orders mem names a b o
  orders-end o ep eo = record { each = λ c shared t u st su. eo ∙ none-order c shared t u st su ep q refl }

  -- Only the first goes on.
  some-order : (c : ℕ → ℕ → Bool) (shared : List (List ℕ)) (t u : Tree) (v : ℕ) → Stands c shared mem a t → Stands c shared mem b u → p ≡ Some v → q ≡ None → ordering.Greater ≡ order names shared t u
  some-order c shared t u v st su ep eq =
      let here : Comparing c shared mem names t u x y left right steps = k c shared t u st su in
      let gp : IsStep c shared mem left here.first.now here.first.rests (Some v) left2 =
      as-step c shared mem left here.first.now here.first.rests p (Some v) left2 ep (first-step mem names a b x y left right steps l m r k sl sm f same w p q left2 right2 sp sq c shared t u st su) in
      let gq : IsStep c shared mem right here.second.now here.second.rests None right2 =
      as-step c shared mem right here.second.now here.second.rests q None right2 eq (second-step mem names a b x y left right steps l m r k sl sm f same w p q left2 right2 sp sq c shared t u st su) in
      sym (parts-order mem names a b x y left right steps l m r k sl sm f same w p q left2 right2 sp sq c shared t u st su ∙ (λ i. order_of_all names shared (gp.order i) (gq.none i)))

  pub orders-more : (v : ℕ) → p ≡ Some v → q ≡ None → Orders mem names a b ordering.Greater
  orders-more v ep eq = record { each = λ c shared t u st su. some-order c shared t u v st su ep eq }

as-next : (c : ℕ → ℕ → Bool) (shared : List (List ℕ)) (mem : List ℕ) (old : List Rest) (rests : List Trees) (p q : Option ℕ) (new : List Rest) → p ≡ q
    → GoesNext c shared mem old rests p new → GoesNext c shared mem old rests q new
as-next c shared mem old rests p q new e s = let P : Option ℕ → Type 0 = λ z. GoesNext c shared mem old rests z new in subst P e s

-- Two walks at one word go on past it.
module _ (mem : List ℕ) (names : List (List ℕ)) (a b x y : ℕ) (left right : List Rest) (steps : ℕ) (k : Comparisons mem names a b x y left right steps) (same : x ≡ y)
    (p q : Option ℕ) (left2 right2 : List Rest) (np : Yields mem left p left2) (nq : Yields mem right q right2) where
  past-order : (c : ℕ → ℕ → Bool) (shared : List (List ℕ)) (t u : Tree) (st : Stands c shared mem a t) (su : Stands c shared mem b u)
      → order names shared t u ≡ order_of_all names shared (left_of (k c shared t u st su).first.rests) (left_of (k c shared t u st su).second.rests)
  past-order c shared t u st su =
      let here : Comparing c shared mem names t u x y left right steps = k c shared t u st su in
      let P : ℕ → Type 0 = λ z. Stands c shared mem z here.second.now in
      let tree : here.first.now ≡ here.second.now = single c c shared shared mem x here.first.now here.second.now here.first.standing (subst P (sym same) here.second.standing) in
      let behind : Ordering = order_of_all names shared (left_of here.first.rests) (left_of here.second.rests) in
      here.order_is
      ∙ ap (λ z. ordering_then (order names shared z here.second.now) behind) tree
      ∙ ap (λ z. ordering_then z behind) (tied_itself (order-total names shared) here.second.now)

  first-past : (c : ℕ → ℕ → Bool) (shared : List (List ℕ)) (t u : Tree) (st : Stands c shared mem a t) (su : Stands c shared mem b u) (o : Option ℕ) → p ≡ o
      → GoesNext c shared mem left (k c shared t u st su).first.rests o left2
  first-past c shared t u st su o e =
      let here : Walking c shared mem (length names) t x left steps = (k c shared t u st su).first in
      as-next c shared mem left here.rests p o left2 e (np.each c shared here.rests here.few here.left)

  second-past : (c : ℕ → ℕ → Bool) (shared : List (List ℕ)) (t u : Tree) (st : Stands c shared mem a t) (su : Stands c shared mem b u) (o : Option ℕ) → q ≡ o
      → GoesNext c shared mem right (k c shared t u st su).second.rests o right2
  second-past c shared t u st su o e =
      let here : Walking c shared mem (length names) u y right steps = (k c shared t u st su).second in
      as-next c shared mem right here.rests q o right2 e (nq.each c shared here.rests here.few here.left)

  past-both : (v z : ℕ) → p ≡ Some v → q ≡ Some z → (c : ℕ → ℕ → Bool) (shared : List (List ℕ)) (t u : Tree) → Stands c shared mem a t → Stands c shared mem b u
      → Comparing c shared mem names t u v z left2 right2 (steps + 1)
  unfolding walk-past
  past-both v z ep eq c shared t u st su =
      let here : Comparing c shared mem names t u x y left right steps = k c shared t u st su in
      let gp : GoesNext c shared mem left here.first.rests (Some v) left2 = first-past c shared t u st su (Some v) ep in
      let gq : GoesNext c shared mem right here.second.rests (Some z) right2 = second-past c shared t u st su (Some z) eq in
      record {
        first = walk-past c shared mem (length names) t x v left left2 steps here.first gp;
        second = walk-past c shared mem (length names) u y z right right2 steps here.second gq;
        order_is = past-order c shared t u st su ∙ (λ i. order_of_all names shared (gp.order i) (gq.order i));
      }

  pub compares-past : (v z : ℕ) → p ≡ Some v → q ≡ Some z → Comparisons mem names a b v z left2 right2 (steps + 1)
  compares-past v z ep eq = λ c shared t u st su. past-both v z ep eq c shared t u st su

  past-none : (c : ℕ → ℕ → Bool) (shared : List (List ℕ)) (t u : Tree) → Stands c shared mem a t → Stands c shared mem b u → p ≡ None → (o : Option ℕ) → q ≡ o → at_end o ≡ order names shared t u
  past-none c shared t u st su ep None eq =
      let gp : GoesNext c shared mem left (k c shared t u st su).first.rests None left2 = first-past c shared t u st su None ep in
      let gq : GoesNext c shared mem right (k c shared t u st su).second.rests None right2 = second-past c shared t u st su None eq in
      sym (past-order c shared t u st su ∙ (λ i. order_of_all names shared (gp.none i) (gq.none i)))
  past-none c shared t u st su ep (Some z) eq =
      let gp : GoesNext c shared mem left (k c shared t u st su).first.rests None left2 = first-past c shared t u st su None ep in
      let gq : GoesNext c shared mem right (k c shared t u st su).second.rests (Some z) right2 = second-past c shared t u st su (Some z) eq in
      sym (past-order c shared t u st su ∙ (λ i. order_of_all names shared (gp.none i) (gq.order i)))

  pub orders-end-past : (o : Ordering) → p ≡ None → o ≡ at_end q → Orders mem names a b o
  orders-end-past o ep eo = record { each = λ c shared t u st su. eo ∙ past-none c shared t u st su ep q refl }

  past-some : (c : ℕ → ℕ → Bool) (shared : List (List ℕ)) (t u : Tree) (v : ℕ) → Stands c shared mem a t → Stands c shared mem b u → p ≡ Some v → q ≡ None → ordering.Greater ≡ order names shared t u
  past-some c shared t u v st su ep eq =
      let gp : GoesNext c shared mem left (k c shared t u st su).first.rests (Some v) left2 = first-past c shared t u st su (Some v) ep in
      let gq : GoesNext c shared mem right (k c shared t u st su).second.rests None right2 = second-past c shared t u st su None eq in
      sym (past-order c shared t u st su ∙ (λ i. order_of_all names shared (gp.order i) (gq.none i)))

  pub orders-more-past : (v : ℕ) → p ≡ Some v → q ≡ None → Orders mem names a b ordering.Greater
  orders-more-past v ep eq = record { each = λ c shared t u st su. past-some c shared t u v st su ep eq }

-- What the calls of a step ask for.

module _ (mem : List ℕ) (names : List (List ℕ)) (a b x y : ℕ) (left right : List Rest) (steps : ℕ) (i : AreNamed mem names a b) (k : Comparisons mem names a b x y left right steps) where
  start : Comparing always i.shared mem names i.first i.second x y left right steps
  start = k always i.shared i.first i.second i.first_stands i.second_stands

  pub first-term : IsTerm mem x
  first-term = record { shared = i.shared; tree = start.first.now; standing = start.first.standing }

  pub second-term : IsTerm mem y
  second-term = record { shared = i.shared; tree = start.second.now; standing = start.second.standing }

  pub first-readable : (l : Look) → Sees mem x l → LiesInMemory mem l → IsReadable mem names l
  first-readable l sees lies = readable always names i.shared mem x start.first.now l start.first.standing (sees.each always i.shared start.first.now start.first.standing) lies
      (start.first.named i.first_named).0

  pub second-readable : (l : Look) → Sees mem y l → LiesInMemory mem l → IsReadable mem names l
  second-readable l sees lies = readable always names i.shared mem y start.second.now l start.second.standing (sees.each always i.shared start.second.now start.second.standing) lies
      (start.second.named i.second_named).0

  pub first-go : (l : Look) → Sees mem x l → CanGo mem left l
  first-go l sees = record {
    shared = i.shared;
    word = x;
    now = start.first.now;
    rests = start.first.rests;
    standing = start.first.standing;
    seen = sees.each always i.shared start.first.now start.first.standing;
    few = start.first.few;
    left = start.first.left;
  }

  pub second-go : (l : Look) → Sees mem y l → CanGo mem right l
  second-go l sees = record {
    shared = i.shared;
    word = y;
    now = start.second.now;
    rests = start.second.rests;
    standing = start.second.standing;
    seen = sees.each always i.shared start.second.now start.second.standing;
    few = start.second.few;
    left = start.second.left;
  }

  -- What goes deeper than all levels of a walk is beyond the walk limit.
  pub first-deeper : (most : ℕ) (l : Look) → Sees mem x l → BothWithin mem a b → IsDeeper most mem left l → most < depth_limit
  first-deeper most l sees w d = omega (
    arith,
    d.each always i.shared x start.first.now start.first.rests start.first.standing (sees.each always i.shared start.first.now start.first.standing) start.first.left,
    shallow always i.shared mem (length names) i.first x left steps start.first (within-depth i.shared i.first (w.first always i.shared i.first i.first_stands)).1,
  )

  pub second-deeper : (most : ℕ) (l : Look) → Sees mem y l → BothWithin mem a b → IsDeeper most mem right l → most < depth_limit
  second-deeper most l sees w d = omega (
    arith,
    d.each always i.shared y start.second.now start.second.rests start.second.standing (sees.each always i.shared start.second.now start.second.standing) start.second.left,
    shallow always i.shared mem (length names) i.second y right steps start.second (within-depth i.shared i.second (w.second always i.shared i.second i.second_stands)).1,
  )

  pub steps-few : BothWithin mem a b → steps < node_limit
  steps-few w = omega (arith, start.first.nodes_are, one-tree i.shared start.first.now, (within-depth i.shared i.first (w.first always i.shared i.first i.first_stands)).0)

  pub first-left : HasLeft mem left
  first-left = record { shared = i.shared; rests = start.first.rests; few = start.first.few; left = start.first.left }

  pub second-left : HasLeft mem right
  second-left = record { shared = i.shared; rests = start.second.rests; few = start.second.few; left = start.second.left }

-- One word stands for one tree, which is the same as itself.
pub orders-same : (mem : List ℕ) (names : List (List ℕ)) (a b : ℕ) → a ≡ b → Orders mem names a b ordering.Equal
orders-same mem names a b same = record {
  each = λ c shared t u st su.
      let P : ℕ → Type 0 = λ z. Stands c shared mem z u in
      sym (ap (λ z. order names shared z u) (single c c shared shared mem a t u st (subst P (sym same) su)) ∙ tied_itself (order-total names shared) u);
}

-- A test of equality with the order of equal terms.

pub is-equal : (o : Ordering) → false ≡ not (ordering_index o == 1) → o ≡ ordering.Equal
is-equal ordering.Less e = absurd cc
is-equal ordering.Equal e = refl
is-equal ordering.Greater e = absurd cc

pub not-equal : (o : Ordering) → true ≡ not (ordering_index o == 1) → o ≡ ordering.Equal → ⊥
not-equal ordering.Less e f = cc
not-equal ordering.Equal e f = cc
not-equal ordering.Greater e f = cc
