-- Cells with heads of one node, no word and no depth are passed over.
use Rattle.std.proofs.Common.{◌≡◌, ℕ, ◌+◌, ◌*◌, ◌/◌, ◌%◌, ◌≤◌, ◌⊎◌, max, Bool, List, length, reverse, get_or, refl, sym, ◌∙◌, ap, subst, arith, inl, inr, ℤ}
use Rattle.std.proofs.lemmas.Bool.{cond-true}
use Rattle.std.proofs.lemmas.List.{length-reverse}
use Rattle.plain_term.specs.Tree.{Tree}
use Rattle.plain_term.specs.Tree.Tree.{Int, Atom, Pid, Nil, Cons}
use Rattle.plain_term.specs.Measures.{is_small, nodes, depth, flat, int_flat}
use Rattle.plain_term.specs.Beyond.{depth_limit}
use Rattle.term_words.specs.Object.{IsInt}
use Rattle.term_words.specs.Role.{always}
use Rattle.term_words.specs.Stands.{Stands, IsTerm}
use Rattle.term_words.proofs.ByKind.Shapes.{told}
use Rattle.term_read.specs.declared.looks.Look.TheVariants as look
use Rattle.term_read.proofs.Seen.{sees-cons}
use Rattle.term_walk.specs.declared.levels.Rest.{Rest}
use Rattle.term_walk.specs.Left.{deepest}
use Rattle.term_walk.specs.declared.measured.Measured.TheVariants.{Within}
use Rattle.term_walk.specs.Measured.{Counting, Counts, Measures}
use Rattle.term_walk.specs.Runs.{Passed, PassesCells}
use Rattle.term_walk.proofs.Steps.{parted}
use Rattle.term_walk.proofs.Sums.{is-within}

-- A word that is no pointer stands for a tree of one node, no word and no depth.
abbrev pub IsSlight : List (List ℕ) → Tree → Type 0
IsSlight shared t = (nodes shared t ≡ 1) × (flat t ≡ 0) × (depth t ≡ 0)

slight-int : (c : ℕ → ℕ → Bool) (mem : List ℕ) (w : ℕ) (i : ℤ) → IsInt c mem w i → w % 4 ≡ 3 → int_flat i ≡ 0
slight-int c mem w i (inl s) tag = cond-true (is_small i) 0 _ s.small
slight-int c mem w i (inr (inl s)) tag = absurd (omega (arith, s.boxed.tag))
slight-int c mem w i (inr (inr s)) tag = absurd (omega (arith, s.boxed.tag))

pub slight : (c : ℕ → ℕ → Bool) (shared : List (List ℕ)) (mem : List ℕ) (w : ℕ) (t : Tree) → Stands c shared mem w t → w % 4 ≡ 3 → IsSlight shared t
unfolding Stands
slight c shared mem w (Int i) s tag = (refl, slight-int c mem w i s tag, refl)
slight c shared mem w (Atom k) s tag = (refl, refl, refl)
slight c shared mem w (Pid n) s tag = (refl, refl, refl)
slight c shared mem w Nil s tag = (refl, refl, refl)
slight c shared mem w t s tag = absurd (omega (arith, told c shared mem w t s))

-- Nothing is passed.
pub passes-none : (mem : List ℕ) (w : ℕ) → PassesCells mem w w 0
passes-none mem w = record { each = λ c shared t s. record { rest = t; standing = s; nodes_are = omega arith; flat_is = omega arith; depth_is = omega arith } }

-- One cell more is passed.

unfoldable pub cell-passed : (c : ℕ → ℕ → Bool) (shared : List (List ℕ)) (mem : List ℕ) (t h u : Tree) (word next cells : ℕ) → (p : Passed c shared mem t word cells) → p.rest ≡ Cons h u
    → IsSlight shared h
    → Stands c shared mem next u → Passed c shared mem t next (cells + 1)
cell-passed c shared mem t h u word next cells p e (one, none, low) s =
    let many : nodes shared p.rest ≡ 1 + nodes shared h + nodes shared u = ap (nodes shared) e in
    let words : flat p.rest ≡ 2 + flat h + flat u = ap flat e in
    let deep : depth p.rest ≡ max (1 + depth h) (depth u) = ap depth e in
    record {
      rest = u;
      standing = s;
      nodes_are = omega (arith, p.nodes_are, many, one);
      flat_is = omega (arith, p.flat_is, words, none);
      depth_is = omega (arith, p.depth_is, deep, low);
    }

pub passes-cell : (mem : List ℕ) (first word cells head next : ℕ) → PassesCells mem first word cells → word % 4 ≡ 1 → head ≡ get_or mem (word / 4) 0 → head % 4 ≡ 3
    → next ≡ get_or mem (word / 4 + 1) 0 → PassesCells mem first next (cells + 1)
passes-cell mem first word cells head next k tag at immediate behind = record {
  each = λ c shared t s.
      let p : Passed c shared mem t word cells = k.each c shared t s in
      let (h, u, is, within, sh, su) = parted c shared mem word p.rest (look.Cons (word / 4)) ((sees-cons mem word (word / 4) tag refl).each c shared p.rest p.standing) in
      let P : ℕ → Type 0 = λ z. Stands c shared mem z u in
      let Q : ℕ → Type 0 = λ z. Stands c shared mem z h in
      cell-passed c shared mem t h u word next cells p is (slight c shared mem head h (subst Q (sym at) sh) immediate) (subst P (sym behind) su);
}

-- The word behind a run stands for a tree, if the first does.
pub passes-term : (mem : List ℕ) (first word cells : ℕ) → IsTerm mem first → PassesCells mem first word cells → IsTerm mem word
passes-term mem first word cells i k =
    let p : Passed always i.shared mem i.tree word cells = k.each always i.shared i.tree i.standing in
    record { shared = i.shared; tree = p.rest; standing = p.standing }

-- A walk counts what is passed.

count-passed : (c : ℕ → ℕ → Bool) (shared : List (List ℕ)) (mem : List ℕ) (t : Tree) (word next : ℕ) (levels : List Rest) (seen words cells : ℕ) → (cells ≡ 0) ⊎ (length levels + 1 ≤ depth_limit)
    → (k : Counting c shared mem t word levels seen words) → Passed c shared mem k.now next cells → Counting c shared mem t next levels (seen + 2 * cells) (words + 2 * cells)
count-passed c shared mem t word next levels seen words cells shallow k p = record {
  now = p.rest;
  rests = k.rests;
  standing = p.standing;
  left = k.left;
  few = k.few;
  nodes_are = omega (arith, k.nodes_are, p.nodes_are);
  flat_is = omega (arith, k.flat_is, p.flat_is);
  depth_is = k.depth_is ∙ no-deeper shallow;
}
  where
    no-deeper : (cells ≡ 0) ⊎ (length levels + 1 ≤ depth_limit)
        → max depth_limit (max (length levels + depth k.now) (deepest levels k.rests)) ≡ max depth_limit (max (length levels + depth p.rest) (deepest levels k.rests))
    no-deeper (inl none) = omega (arith, p.depth_is, none)
    no-deeper (inr room) = omega (arith, p.depth_is, room)

pub counts-passed : (levels : ℕ) (mem : List ℕ) (first word next : ℕ) (items : List Rest) (seen words most cells : ℕ) → levels ≤ depth_limit
    → (most ≡ 0) ⊎ (length items + 1 ≤ levels) → cells ≤ most → Counts mem first word (reverse items) seen words → PassesCells mem word next cells
    → Counts mem first next (reverse items) (seen + 2 * cells) (words + 2 * cells)
counts-passed levels mem first word next items seen words most cells low shallow few k p = λ c shared t s.
    count-passed c shared mem t word next (reverse items) seen words cells (behind shallow) (k c shared t s) (p.each c shared (k c shared t s).now (k c shared t s).standing)
  where
    behind : (most ≡ 0) ⊎ (length items + 1 ≤ levels) → (cells ≡ 0) ⊎ (length (reverse items) + 1 ≤ depth_limit)
    behind (inl none) = inl (omega (arith, none, few))
    behind (inr room) = inr (omega (arith, low, room, length-reverse items))

-- The measures of an immediate.
pub measures-slight : (mem : List ℕ) (w : ℕ) → w % 4 ≡ 3 → Measures mem w (Within (record { nodes = 1; flat = 0 }))
measures-slight mem w tag = record {
  each = λ c shared t s.
      let (one, none, low) = slight c shared mem w t s tag in
      is-within shared t 1 0 one none (omega arith) (omega (arith, low));
}
