-- Terms of different kinds are in the order of their kinds.
use Rattle.std.proofs.Common.{◌≡◌, ℕ, ℤ, List, [], ap, refl, sym, subst, ◌∙◌}
use Rattle.std.specs.Ordering.{nat_cmp, ordering_then}
use Rattle.std.specs.declared.cmp.Ordering.{Ordering}
use Rattle.plain_term.specs.View.{view, level}
use Rattle.plain_term.specs.Bytes.{bytes_of}
use Rattle.plain_term.specs.Order.{order, kind_rank, bytes_order}
use Rattle.plain_term.specs.Tree as plain
use Rattle.plain_term.specs.declared.tree.Tree.{Tree, Int, Atom, Ref, Pid, Nil}
use Rattle.plain_term.specs.declared.tree.Tree.TheOpen.{Tree-F}
use Rattle.plain_term.specs.declared.tree.Tree.TheVariants.{rolls-Int, rolls-Atom, rolls-Ref, rolls-Fun, rolls-Pid, rolls-Tuple, rolls-Map, rolls-Nil, rolls-Cons}
use Rattle.plain_term.specs.declared.tree.Tree.TheViews.{Fun, Tuple, Map, Cons, out-Tree, roll-Tree, roll-out-Tree}
use Rattle.plain_term.specs.declared.tree.Tree.TheBlock.{the_data}
use Rattle.plain_term.specs.declared.tree.Tree.TheFolds.{fold_out-Tree, fold-roll-Tree, map-Tree}

-- The order of terms of different kinds and of binaries.
abbrev pub by_kind : plain.Tree → plain.Tree → Ordering
by_kind a b = ordering_then (nat_cmp (kind_rank a) (kind_rank b)) (bytes_order (bytes_of [] a) (bytes_of [] b))

abbrev IsByKind : (names : List (List ℕ)) → plain.Tree → plain.Tree → Type 0
IsByKind names a b = order names [] a b ≡ by_kind a b

-- One level of a value with the trees of its parts.
abbrev seen : Tree-F Tree → plain.Tree
seen x = level (map-Tree the_data plain.Tree view x)

by-level : (names : List (List ℕ)) (a : plain.Tree) (b : Tree) → ((x : Tree-F Tree) → roll-Tree x ≡ b → IsByKind names a (seen x)) → IsByKind names a (view b)
by-level names a b f = subst (IsByKind names a) (sym (fold_out-Tree plain.Tree level b)) (f (out-Tree b) (roll-out-Tree b))

by-levels : (names : List (List ℕ)) (a b : Tree) (y : Tree-F Tree) → a ≡ roll-Tree y → ((x : Tree-F Tree) → roll-Tree x ≡ b → IsByKind names (seen y) (seen x)) → IsByKind names (view a) (view b)
by-levels names a b y e f = subst (λ v. IsByKind names v (view b)) (sym (ap view e ∙ fold-roll-Tree plain.Tree level y)) (by-level names (seen y) b f)

pub apart-Int : (names : List (List ℕ)) (a b : Tree) (i : ℤ) → a ≡ Int i → ((i' : ℤ) → b ≡ Int i' → ⊥) → IsByKind names (view a) (view b)
apart-Int names a b i e apart = by-levels names a b (Tree-F.Int i) (e ∙ sym (rolls-Int i)) at
  where
    at : (x : Tree-F Tree) → roll-Tree x ≡ b → IsByKind names (seen (Tree-F.Int i)) (seen x)
    at (Tree-F.Int i') e' = absurd (apart i' (sym e' ∙ rolls-Int i'))
    at _ e' = refl

pub apart-Atom : (names : List (List ℕ)) (a b : Tree) (k : ℕ) → a ≡ Atom k → ((k' : ℕ) → b ≡ Atom k' → ⊥) → IsByKind names (view a) (view b)
apart-Atom names a b k e apart = by-levels names a b (Tree-F.Atom k) (e ∙ sym (rolls-Atom k)) at
  where
    at : (x : Tree-F Tree) → roll-Tree x ≡ b → IsByKind names (seen (Tree-F.Atom k)) (seen x)
    at (Tree-F.Atom k') e' = absurd (apart k' (sym e' ∙ rolls-Atom k'))
    at _ e' = refl

pub apart-Ref : (names : List (List ℕ)) (a b : Tree) (n : ℕ) (k : ℕ) → a ≡ Ref n k → ((n' : ℕ) (k' : ℕ) → b ≡ Ref n' k' → ⊥) → IsByKind names (view a) (view b)
apart-Ref names a b n k e apart = by-levels names a b (Tree-F.Ref n k) (e ∙ sym (rolls-Ref n k)) at
  where
    at : (x : Tree-F Tree) → roll-Tree x ≡ b → IsByKind names (seen (Tree-F.Ref n k)) (seen x)
    at (Tree-F.Ref n' k') e' = absurd (apart n' k' (sym e' ∙ rolls-Ref n' k'))
    at _ e' = refl

pub apart-Fun : (names : List (List ℕ)) (a b : Tree) (f : ℕ) (n : ℕ) (c : ℕ) (ts : List Tree) → a ≡ Fun f n c ts → ((f' : ℕ) (n' : ℕ) (c' : ℕ) (ts' : List Tree) → b ≡ Fun f' n' c' ts' → ⊥)
    → IsByKind names (view a) (view b)
apart-Fun names a b f n c ts e apart = by-levels names a b (Tree-F.Fun f n c ts) (e ∙ sym (rolls-Fun f n c ts)) at
  where
    at : (x : Tree-F Tree) → roll-Tree x ≡ b → IsByKind names (seen (Tree-F.Fun f n c ts)) (seen x)
    at (Tree-F.Fun f' n' c' ts') e' = absurd (apart f' n' c' ts' (sym e' ∙ rolls-Fun f' n' c' ts'))
    at _ e' = refl

pub apart-Pid : (names : List (List ℕ)) (a b : Tree) (n : ℕ) → a ≡ Pid n → ((n' : ℕ) → b ≡ Pid n' → ⊥) → IsByKind names (view a) (view b)
apart-Pid names a b n e apart = by-levels names a b (Tree-F.Pid n) (e ∙ sym (rolls-Pid n)) at
  where
    at : (x : Tree-F Tree) → roll-Tree x ≡ b → IsByKind names (seen (Tree-F.Pid n)) (seen x)
    at (Tree-F.Pid n') e' = absurd (apart n' (sym e' ∙ rolls-Pid n'))
    at _ e' = refl

pub apart-Tuple : (names : List (List ℕ)) (a b : Tree) (ts : List Tree) → a ≡ Tuple ts → ((ts' : List Tree) → b ≡ Tuple ts' → ⊥) → IsByKind names (view a) (view b)
apart-Tuple names a b ts e apart = by-levels names a b (Tree-F.Tuple ts) (e ∙ sym (rolls-Tuple ts)) at
  where
    at : (x : Tree-F Tree) → roll-Tree x ≡ b → IsByKind names (seen (Tree-F.Tuple ts)) (seen x)
    at (Tree-F.Tuple ts') e' = absurd (apart ts' (sym e' ∙ rolls-Tuple ts'))
    at _ e' = refl

pub apart-Map : (names : List (List ℕ)) (a b : Tree) (ps : List (Tree × Tree)) → a ≡ Map ps → ((ps' : List (Tree × Tree)) → b ≡ Map ps' → ⊥) → IsByKind names (view a) (view b)
apart-Map names a b ps e apart = by-levels names a b (Tree-F.Map ps) (e ∙ sym (rolls-Map ps)) at
  where
    at : (x : Tree-F Tree) → roll-Tree x ≡ b → IsByKind names (seen (Tree-F.Map ps)) (seen x)
    at (Tree-F.Map ps') e' = absurd (apart ps' (sym e' ∙ rolls-Map ps'))
    at _ e' = refl

pub apart-Nil : (names : List (List ℕ)) (a b : Tree) → a ≡ Nil → (b ≡ Nil → ⊥) → IsByKind names (view a) (view b)
apart-Nil names a b e apart = by-levels names a b Tree-F.Nil (e ∙ sym rolls-Nil) at
  where
    at : (x : Tree-F Tree) → roll-Tree x ≡ b → IsByKind names (seen Tree-F.Nil) (seen x)
    at Tree-F.Nil e' = absurd (apart (sym e' ∙ rolls-Nil))
    at _ e' = refl

pub apart-Cons : (names : List (List ℕ)) (a b : Tree) (h : Tree) (t : Tree) → a ≡ Cons h t → ((h' : Tree) (t' : Tree) → b ≡ Cons h' t' → ⊥) → IsByKind names (view a) (view b)
apart-Cons names a b h t e apart = by-levels names a b (Tree-F.Cons h t) (e ∙ sym (rolls-Cons h t)) at
  where
    at : (x : Tree-F Tree) → roll-Tree x ≡ b → IsByKind names (seen (Tree-F.Cons h t)) (seen x)
    at (Tree-F.Cons h' t') e' = absurd (apart h' t' (sym e' ∙ rolls-Cons h' t'))
    at _ e' = refl

-- A binary is in its place whatever the other term is.
pub apart-others : (names : List (List ℕ)) (a b : Tree) → ((i : ℤ) → a ≡ Int i → ⊥) → ((k : ℕ) → a ≡ Atom k → ⊥) → ((n : ℕ) (k : ℕ) → a ≡ Ref n k → ⊥)
    → ((f : ℕ) (n : ℕ) (c : ℕ) (ts : List Tree) → a ≡ Fun f n c ts → ⊥) → ((n : ℕ) → a ≡ Pid n → ⊥) → ((ts : List Tree) → a ≡ Tuple ts → ⊥) → ((ps : List (Tree × Tree)) → a ≡ Map ps → ⊥)
    → (a ≡ Nil → ⊥) → ((h : Tree) (t : Tree) → a ≡ Cons h t → ⊥) → IsByKind names (view a) (view b)
apart-others names a b not-Int not-Atom not-Ref not-Fun not-Pid not-Tuple not-Map not-Nil not-Cons =
    subst (λ v. IsByKind names v (view b)) (sym (fold_out-Tree plain.Tree level a)) (at (out-Tree a) (roll-out-Tree a))
  where
    at : (x : Tree-F Tree) → roll-Tree x ≡ a → IsByKind names (seen x) (view b)
    at (Tree-F.Int i) e = absurd (not-Int i (sym e ∙ rolls-Int i))
    at (Tree-F.Atom k) e = absurd (not-Atom k (sym e ∙ rolls-Atom k))
    at (Tree-F.Ref n k) e = absurd (not-Ref n k (sym e ∙ rolls-Ref n k))
    at (Tree-F.Fun f n c ts) e = absurd (not-Fun f n c ts (sym e ∙ rolls-Fun f n c ts))
    at (Tree-F.Pid n) e = absurd (not-Pid n (sym e ∙ rolls-Pid n))
    at (Tree-F.Tuple ts) e = absurd (not-Tuple ts (sym e ∙ rolls-Tuple ts))
    at (Tree-F.Map ps) e = absurd (not-Map ps (sym e ∙ rolls-Map ps))
    at Tree-F.Nil e = absurd (not-Nil (sym e ∙ rolls-Nil))
    at (Tree-F.Cons h t) e = absurd (not-Cons h t (sym e ∙ rolls-Cons h t))
    at _ e = refl
