-- Cells with the same immediates as their heads are passed over in two lists.
use Rattle.std.proofs.Common.{◌≡◌, ℕ, ◌+◌, ◌-◌, ◌*◌, ◌/◌, ◌≤◌, ◌||◌, nat_lt, min, max, Bool, true, false, List, [], length, get_or, refl, sym, ◌∙◌, ap, ap₂, subst, arith, inl, inr}
use Rattle.std.proofs.lemmas.Bool.{or_parts, or_right, or_left, or_from, and_parts, cond-true, cond-false}
use Rattle.std.proofs.lemmas.Bool.Decides.{nat_tests}
use Rattle.std.proofs.lemmas.Cmp.{tied_itself}
use Rattle.std.specs.Ordering.{ordering_then}
use Rattle.std.specs.declared.cmp.Ordering.{Ordering}
use Rattle.plain_term.specs.Tree.{Tree}
use Rattle.plain_term.specs.Tree.Tree.{Cons}
use Rattle.plain_term.specs.Measures.{nodes, depth, flat}
use Rattle.plain_term.specs.Beyond.{node_limit, depth_limit, is_beyond}
use Rattle.plain_term.specs.Order.{order}
use Rattle.plain_term.proofs.TokenLemmas.{order-total}
use Rattle.term_words.specs.Role.{always}
use Rattle.term_words.specs.Stands.{Stands, IsTerm}
use Rattle.term_words.proofs.Placing.Single.{single}
use Rattle.term_read.specs.declared.looks.Look.TheVariants as look
use Rattle.term_read.proofs.Seen.{sees-cons}
use Rattle.term_walk.specs.Runs.{Passed}
use Rattle.term_walk.specs.Measured.{measured}
use Rattle.term_walk.specs.declared.measured.Measure.{Measure}
use Rattle.term_walk.specs.declared.measured.Measured.TheVariants.{Within, Beyond}
use Rattle.term_walk.proofs.Passing.{IsSlight, slight, cell-passed}
use Rattle.term_walk.proofs.Steps.{parted, chosen}
use Rattle.term_order.specs.declared.compared.Compared.TheVariants as answer
use Rattle.term_order.specs.Named.{is_named}
use Rattle.term_order.specs.Compared.{AreNamed, BothWithin, Orders, Compares, answer_of}
use Rattle.term_order.specs.Runs.{AreBoth, IsSameCell, PassedBoth, PassesBoth, is_beyond_after}

-- Nothing is passed.
pub passes-both-none : (mem : List ℕ) (a b : ℕ) → PassesBoth mem a b a b 0
passes-both-none mem a b = record {
  each = λ c shared names t u s r. record {
    first = record { rest = t; standing = s; nodes_are = omega arith; flat_is = omega arith; depth_is = omega arith };
    second = record { rest = u; standing = r; nodes_are = omega arith; flat_is = omega arith; depth_is = omega arith };
    order_is = refl;
    first_named = λ e. e;
    second_named = λ e. e;
  };
}

-- One cell more of both is passed.

order-cells : (names shared : List (List ℕ)) (h k t u : Tree) → h ≡ k → order names shared (Cons h t) (Cons k u) ≡ order names shared t u
order-cells names shared h k t u same =
    ap (λ z. ordering_then (order names shared z k) (order names shared t u)) same ∙ ap (λ z. ordering_then z (order names shared t u)) (tied_itself (order-total names shared) k)

named-tail : (n : ℕ) (t h u : Tree) → t ≡ Cons h u → is_named n t ≡ true → is_named n u ≡ true
named-tail n t h u e q = (and_parts (is_named n h) (is_named n u) (sym (ap (is_named n) e) ∙ q)).1

cells-passed : (c : ℕ → ℕ → Bool) (shared : List (List ℕ)) (mem : List ℕ) (names : List (List ℕ)) (t u h k x y : Tree) (left right v w cells : ℕ)
    → (p : PassedBoth c shared mem names t u left right cells)
    → p.first.rest ≡ Cons h x → p.second.rest ≡ Cons k y → IsSlight shared h → h ≡ k → Stands c shared mem v x → Stands c shared mem w y → PassedBoth c shared mem names t u v w (cells + 1)
unfolding cell-passed
cells-passed c shared mem names t u h k x y left right v w cells p ef es low same sx sy =
    let P : Tree → Type 0 = λ z. IsSlight shared z in
    record {
      first = cell-passed c shared mem t h x left v cells p.first ef low sx;
      second = cell-passed c shared mem u k y right w cells p.second es (subst P same low) sy;
      order_is = p.order_is ∙ ap₂ (order names shared) ef es ∙ order-cells names shared h k x y same;
      first_named = λ e. named-tail (length names) p.first.rest h x ef (p.first_named e);
      second_named = λ e. named-tail (length names) p.second.rest k y es (p.second_named e);
    }

pub passes-both-cell : (mem : List ℕ) (a b left right v w cells : ℕ) → PassesBoth mem a b left right cells → IsSameCell mem left right → v ≡ get_or mem (left / 4 + 1) 0
    → w ≡ get_or mem (right / 4 + 1) 0
    → PassesBoth mem a b v w (cells + 1)
passes-both-cell mem a b left right v w cells passed is ev ew = record {
  each = λ c shared names t u s r.
      let p : PassedBoth c shared mem names t u left right cells = passed.each c shared names t u s r in
      let (h, x, ef, fits, sh, sx) = parted c shared mem left p.first.rest (look.Cons (left / 4)) ((sees-cons mem left (left / 4) is.first refl).each c shared p.first.rest p.first.standing) in
      let (k, y, es, fits2, sk, sy) = parted c shared mem right p.second.rest (look.Cons (right / 4))
      ((sees-cons mem right (right / 4) is.second refl).each c shared p.second.rest p.second.standing) in
      let P : Tree → ℕ → Type 0 = λ z n. Stands c shared mem n z in
      let same : h ≡ k = single c c shared shared mem (get_or mem (left / 4) 0) h k sh (subst (P k) is.same sk) in
      cells-passed c shared mem names t u h k x y left right v w cells p ef es (slight c shared mem (get_or mem (left / 4) 0) h sh is.immediate) same (subst (P x) (sym ev) sx)
      (subst (P y) (sym ew) sy);
}

-- The words behind what is passed stand for trees, whose names are among the names.

pub both-behind : (mem : List ℕ) (a b left right cells : ℕ) → AreBoth mem a b → PassesBoth mem a b left right cells → AreBoth mem left right
both-behind mem a b left right cells n passed =
    let p : PassedBoth always n.shared mem [] n.first n.second left right cells = passed.each always n.shared [] n.first n.second n.first_stands n.second_stands in
    record { shared = n.shared; first = p.first.rest; second = p.second.rest; first_stands = p.first.standing; second_stands = p.second.standing }

pub both-named : (mem : List ℕ) (names : List (List ℕ)) (a b : ℕ) → AreNamed mem names a b → AreBoth mem a b
both-named mem names a b n = record { shared = n.shared; first = n.first; second = n.second; first_stands = n.first_stands; second_stands = n.second_stands }

pub first-of : (mem : List ℕ) (a b : ℕ) → AreBoth mem a b → IsTerm mem a
first-of mem a b n = record { shared = n.shared; tree = n.first; standing = n.first_stands }

pub second-of : (mem : List ℕ) (a b : ℕ) → AreBoth mem a b → IsTerm mem b
second-of mem a b n = record { shared = n.shared; tree = n.second; standing = n.second_stands }

pub named-behind : (mem : List ℕ) (names : List (List ℕ)) (a b left right cells : ℕ) → AreNamed mem names a b → PassesBoth mem a b left right cells → AreNamed mem names left right
named-behind mem names a b left right cells n passed =
    let p : PassedBoth always n.shared mem names n.first n.second left right cells = passed.each always n.shared names n.first n.second n.first_stands n.second_stands in
    record {
      shared = n.shared;
      first = p.first.rest;
      second = p.second.rest;
      first_stands = p.first.standing;
      second_stands = p.second.standing;
      first_named = p.first_named n.first_named;
      second_named = p.second_named n.second_named;
    }

-- A tree is beyond the walk limit exactly where what is behind the cells is, with them.

deeper : (k d : ℕ) → nat_lt depth_limit (max (min 1 k) d) ≡ nat_lt depth_limit d
deeper k d = grind (arith, nat_tests)

pub beyond-after : (c : ℕ → ℕ → Bool) (shared : List (List ℕ)) (mem : List ℕ) (t : Tree) (w cells : ℕ) → (p : Passed c shared mem t w cells) → is_beyond shared t ≡ is_beyond_after shared cells p.rest
beyond-after c shared mem t w cells p =
    ap₂ (λ a b. a || b) (ap (nat_lt node_limit) p.nodes_are) (ap (nat_lt depth_limit) p.depth_is ∙ deeper cells (depth p.rest))

-- From the measures of what is behind the cells.

many-after : (shared : List (List ℕ)) (cells : ℕ) (t : Tree) → is_beyond shared t ≡ true → true ≡ is_beyond_after shared cells t
many-after shared cells t e = many (nat_lt node_limit (nodes shared t)) refl e
  where
    many : (b : Bool) → nat_lt node_limit (nodes shared t) ≡ b → (b || nat_lt depth_limit (depth t)) ≡ true → true ≡ is_beyond_after shared cells t
    many true f e = sym (or_left (nat_lt node_limit (2 * cells + nodes shared t)) (nat_lt depth_limit (depth t)) (grind (arith, nat_tests, f)))
    many false f e = sym (or_right (nat_lt node_limit (2 * cells + nodes shared t)) (nat_lt depth_limit (depth t)) e)

never : (m : Measure) → Within m ≡ Beyond → ⊥
never m e = cc

pub after-beyond : (shared : List (List ℕ)) (cells : ℕ) (t : Tree) → Beyond ≡ measured shared t → true ≡ is_beyond_after shared cells t
after-beyond shared cells t e = elim (chosen (is_beyond shared t) Beyond (Within (record { nodes = nodes shared t; flat = flat t })) Beyond (sym e)) [
  | inl b ↦ many-after shared cells t b.0
  | inr b ↦ absurd (never (record { nodes = nodes shared t; flat = flat t }) b.1)
]

only-first : (a b : Bool) → b ≡ false → a ≡ (a || b)
only-first true b e = refl
only-first false b e = sym e

moved-over : (most k n m : ℕ) → k ≤ most → n ≡ m → nat_lt (most - k) n ≡ nat_lt most (k + m)
moved-over most k n m few same = grind (arith, nat_tests, few, same)

few-after : (shared : List (List ℕ)) (cells n : ℕ) (t : Tree) → 2 * cells ≤ node_limit → is_beyond shared t ≡ false → n ≡ nodes shared t
    → nat_lt (node_limit - 2 * cells) n ≡ is_beyond_after shared cells t
few-after shared cells n t few e same =
    moved-over node_limit (2 * cells) n (nodes shared t) few same
    ∙ only-first (nat_lt node_limit (2 * cells + nodes shared t)) (nat_lt depth_limit (depth t)) ((or_parts (nat_lt node_limit (nodes shared t)) (nat_lt depth_limit (depth t)) e).1)

pub after-within : (shared : List (List ℕ)) (cells : ℕ) (m : Measure) (t : Tree) → 2 * cells ≤ node_limit → Within m ≡ measured shared t
    → nat_lt (node_limit - 2 * cells) m.nodes ≡ is_beyond_after shared cells t
after-within shared cells m t few e = elim (chosen (is_beyond shared t) Beyond (Within (record { nodes = nodes shared t; flat = flat t })) (Within m) (sym e)) [
  | inl b ↦ absurd (never m (sym b.1))
  | inr b ↦ few-after shared cells m.nodes t few b.0 (within-nodes m (record { nodes = nodes shared t; flat = flat t }) (sym b.1))
]
  where
    within-nodes : (m n : Measure) → Within m ≡ Within n → m.nodes ≡ n.nodes
    within-nodes m n e = let same : m ≡ n = cc in ap (λ z. z.nodes) same

-- What is not beyond the walk limit behind the cells is not beyond it alone.

fewer : (most k n : ℕ) → nat_lt most (k + n) ≡ false → nat_lt most n ≡ false
fewer most k n e = grind (arith, nat_tests, e)

within-alone : (shared : List (List ℕ)) (cells : ℕ) (t : Tree) → false ≡ is_beyond_after shared cells t → is_beyond shared t ≡ false
within-alone shared cells t e =
    or_from (nat_lt node_limit (nodes shared t)) (nat_lt depth_limit (depth t))
    (fewer node_limit (2 * cells) (nodes shared t) ((or_parts (nat_lt node_limit (2 * cells + nodes shared t)) (nat_lt depth_limit (depth t)) (sym e)).0))
    ((or_parts (nat_lt node_limit (2 * cells + nodes shared t)) (nat_lt depth_limit (depth t)) (sym e)).1)

-- What was found of the limit: of each tree that the word stands for.
abbrev pub FindsBeyond : (mem : List ℕ) (w cells : ℕ) → Bool → Type 0
FindsBeyond mem w cells b = (c : ℕ → ℕ → Bool) (shared : List (List ℕ)) (t : Tree) → Stands c shared mem w t → b ≡ is_beyond_after shared cells t

pub both-within : (mem : List ℕ) (left right cells : ℕ) → FindsBeyond mem left cells false → FindsBeyond mem right cells false → BothWithin mem left right
both-within mem left right cells f g = record { first = λ c shared t s. within-alone shared cells t (f c shared t s); second = λ c shared t s. within-alone shared cells t (g c shared t s) }

-- The answers.

module _ (mem : List ℕ) (names : List (List ℕ)) (a b left right cells : ℕ) (passed : PassesBoth mem a b left right cells) where
  pub first-beyond : FindsBeyond mem left cells true → Compares mem names a b answer.Beyond
  first-beyond f = record {
    each = λ c shared t u s r.
        let p : PassedBoth c shared mem names t u left right cells = passed.each c shared names t u s r in
        let beyond : is_beyond shared t ≡ true = beyond-after c shared mem t left cells p.first ∙ sym (f c shared p.first.rest p.first.standing) in
        sym (cond-true (is_beyond shared t || is_beyond shared u) answer.Beyond (answer_of (order names shared t u)) (or_left (is_beyond shared t) (is_beyond shared u) beyond));
  }

  pub second-beyond : FindsBeyond mem right cells true → Compares mem names a b answer.Beyond
  second-beyond f = record {
    each = λ c shared t u s r.
        let p : PassedBoth c shared mem names t u left right cells = passed.each c shared names t u s r in
        let beyond : is_beyond shared u ≡ true = beyond-after c shared mem u right cells p.second ∙ sym (f c shared p.second.rest p.second.standing) in
        sym (cond-true (is_beyond shared t || is_beyond shared u) answer.Beyond (answer_of (order names shared t u)) (or_right (is_beyond shared t) (is_beyond shared u) beyond));
  }

  pub first-term-behind : AreNamed mem names a b → IsTerm mem left
  first-term-behind n = first-of mem left right (both-behind mem a b left right cells (both-named mem names a b n) passed)

  pub second-term-behind : AreNamed mem names a b → IsTerm mem right
  second-term-behind n = second-of mem left right (both-behind mem a b left right cells (both-named mem names a b n) passed)

  pub within-ordered : FindsBeyond mem left cells false → FindsBeyond mem right cells false → (o : Ordering) (x : Ordering) → Orders mem names left right o → o ≡ x
      → Compares mem names a b (answer_of x)
  within-ordered f g o x found is = record {
    each = λ c shared t u s r.
        let p : PassedBoth c shared mem names t u left right cells = passed.each c shared names t u s r in
        let one : is_beyond shared t ≡ false = beyond-after c shared mem t left cells p.first ∙ sym (f c shared p.first.rest p.first.standing) in
        let two : is_beyond shared u ≡ false = beyond-after c shared mem u right cells p.second ∙ sym (g c shared p.second.rest p.second.standing) in
        ap answer_of (sym is ∙ found.each c shared p.first.rest p.second.rest p.first.standing p.second.standing ∙ sym p.order_is)
        ∙ sym (cond-false (is_beyond shared t || is_beyond shared u) answer.Beyond (answer_of (order names shared t u)) (or_from (is_beyond shared t) (is_beyond shared u) one two));
  }
