-- Inversion: what a word tells of the tree that it stands for, and a tree of the words it stands in.
use Rattle.std.proofs.Common.{◌≡◌, ℕ, zero, suc, ◌+◌, ◌*◌, ◌/◌, ◌%◌, ◌<◌, ◌≤◌, ◌⊎◌, Bool, List, [], ◌∷◌, length, get_or, refl, subst, arith, inl, inr, ℤ, pos, negsuc}
use Rattle.plain_term.specs.Bytes.{bytes_of}
use Rattle.plain_term.specs.Tree.{Tree, Trees, Pairs, trees_len, pairs_len}
use Rattle.plain_term.specs.Tree.Tree.{Int, Atom, Pid, Ref, Nil, Cons, Tuple, Map, Bin, Shared, Part, Fun}
use Rattle.plain_term.specs.Tree.Trees.{end, ◌▹◌}
use Rattle.term_words.specs.Object.{IsCons, IsAtom, IsPid, IsInt, IsRef, IsTuple, IsMap, IsHeapBin, IsFun, IsShared, IsSub, sign_tag}
use Rattle.term_words.specs.Stands.{tree_at, Stands, RowStands, KeysStand, ValuesStand, AllStand, IsBase}

module _ (c : ℕ → ℕ → Bool) (shared : List (List ℕ)) (mem : List ℕ) (w : ℕ) where
  -- What stands for a tree of a known kind.

  pub un-int : (i : ℤ) → Stands c shared mem w (Int i) → IsInt c mem w i
  unfolding Stands
  un-int i s = s

  pub un-atom : (k : ℕ) → Stands c shared mem w (Atom k) → IsAtom w k
  unfolding Stands
  un-atom k s = s

  pub un-pid : (n : ℕ) → Stands c shared mem w (Pid n) → IsPid w n
  unfolding Stands
  un-pid n s = s

  pub un-ref : (n k : ℕ) → Stands c shared mem w (Ref n k) → IsRef c mem w n k
  unfolding Stands
  un-ref n k s = s

  pub un-nil : Stands c shared mem w Nil → w ≡ 59
  unfolding Stands
  un-nil s = s

  pub un-cons : (h t : Tree) → Stands c shared mem w (Cons h t)
      → IsCons c mem w × Stands c shared mem (get_or mem (w / 4) 0) h × Stands c shared mem (get_or mem (w / 4 + 1) 0) t
  unfolding Stands
  un-cons h t s = s

  pub un-tuple : (ts : Trees) → Stands c shared mem w (Tuple ts) → IsTuple c mem w (trees_len ts) × RowStands c shared mem (w / 4 + 1) ts
  unfolding Stands
  un-tuple ts s = s

  pub un-map : (ps : Pairs) → Stands c shared mem w (Map ps)
      → IsMap c mem w (pairs_len ps) × KeysStand c shared mem (get_or mem (w / 4 + 2) 0 / 4 + 1) ps × ValuesStand c shared mem (w / 4 + 3) ps
  unfolding Stands
  un-map ps s = s

  pub un-bin : (bytes : List ℕ) → Stands c shared mem w (Bin bytes) → IsHeapBin c mem w bytes
  unfolding Stands
  un-bin bytes s = s

  pub un-shared : (id : ℕ) → Stands c shared mem w (Shared id) → IsShared c shared mem w id
  unfolding Stands
  un-shared id s = s

  pub un-part : (base : Tree) (offset len : ℕ) → Stands c shared mem w (Part base offset len)
      → IsSub c mem w offset len (length (bytes_of shared base)) × IsBase base × Stands c shared mem (get_or mem (w / 4 + 4) 0) base
  unfolding Stands
  un-part base offset len s = s

  pub un-fun : (name arity creator : ℕ) (env : Trees) → Stands c shared mem w (Fun name arity creator env)
      → IsFun c mem w name arity creator (trees_len env) × RowStands c shared mem (w / 4 + 6) env
  unfolding Stands
  un-fun name arity creator env s = s

-- What tag and header (the first word of the object, where the word is boxed) tell of the tree: one
-- row a kind.
abbrev pub Told : Tree → ℕ → ℕ → Type 0
Told (Int i) w h = (w % 16 ≡ 15) ⊎ ((w % 4 ≡ 2) × (h % 64 ≡ sign_tag i * 4) × (h < 192) × (64 ≤ h))
Told (Atom k) w h = w % 64 ≡ 11
Told (Pid n) w h = w % 16 ≡ 3
Told (Ref n k) w h = (w % 4 ≡ 2) × (h ≡ 144)
Told Nil w h = w ≡ 59
Told (Cons x t) w h = w % 4 ≡ 1
Told (Tuple ts) w h = (w % 4 ≡ 2) × (h % 64 ≡ 0)
Told (Map ps) w h = (w % 4 ≡ 2) × (h % 64 ≡ 60)
Told (Bin bytes) w h = (w % 4 ≡ 2) × (h % 64 ≡ 36)
Told (Shared id) w h = (w % 4 ≡ 2) × (h ≡ 352)
Told (Part base offset len) w h = (w % 4 ≡ 2) × (h ≡ 296)
Told (Fun name arity creator env) w h = (w % 4 ≡ 2) × (h % 64 ≡ 20)

told-int : (c : ℕ → ℕ → Bool) (mem : List ℕ) (w : ℕ) (i : ℤ) → IsInt c mem w i → Told (Int i) w (get_or mem (w / 4) 0)
told-int c mem w (pos n) (inl s) = inl (omega arith)
told-int c mem w (pos n) (inr (inl s)) = inr (s.boxed.tag, omega arith, omega arith, omega arith)
told-int c mem w (pos n) (inr (inr s)) = inr (s.boxed.tag, omega arith, omega arith, omega arith)
told-int c mem w (negsuc n) (inl s) = inl (omega arith)
told-int c mem w (negsuc n) (inr (inl s)) = inr (s.boxed.tag, omega arith, omega arith, omega arith)
told-int c mem w (negsuc n) (inr (inr s)) = inr (s.boxed.tag, omega arith, omega arith, omega arith)

pub told : (c : ℕ → ℕ → Bool) (shared : List (List ℕ)) (mem : List ℕ) (w : ℕ) (t : Tree) → Stands c shared mem w t → Told t w (get_or mem (w / 4) 0)
unfolding Stands
told c shared mem w (Int i) s = told-int c mem w i s
told c shared mem w (Atom k) s = omega arith
told c shared mem w (Pid n) s = omega arith
told c shared mem w (Ref n k) s = (s.boxed.tag, omega arith)
told c shared mem w Nil s = s
told c shared mem w (Cons x t) (s, a, b) = s.tag
told c shared mem w (Tuple ts) (s, row) = (s.boxed.tag, omega arith)
told c shared mem w (Map ps) (s, ks, vs) = (s.boxed.tag, omega arith)
told c shared mem w (Bin bytes) s = (s.boxed.tag, omega arith)
told c shared mem w (Shared id) s = (s.holder.tag, s.holder.header)
told c shared mem w (Part base offset len) (s, b, o) = (s.boxed.tag, omega arith)
told c shared mem w (Fun name arity creator env) (s, row) = (s.tag, omega arith)

-- The kind of the tree, from tag and header.

pub shape-cons : (t : Tree) (w h : ℕ) → Told t w h → w % 4 ≡ 1 → (x y : Tree) × (t ≡ Cons x y)
shape-cons (Cons x y) w h s e = (x, y, refl)
shape-cons (Int i) w h s e = absurd (omega (arith, s))
shape-cons _ w h s e = absurd (omega arith)

pub shape-atom : (t : Tree) (w h : ℕ) → Told t w h → w % 64 ≡ 11 → (k : ℕ) × (t ≡ Atom k)
shape-atom (Atom k) w h s e = (k, refl)
shape-atom (Int i) w h s e = absurd (omega (arith, s))
shape-atom _ w h s e = absurd (omega arith)

pub shape-pid : (t : Tree) (w h : ℕ) → Told t w h → w % 16 ≡ 3 → (n : ℕ) × (t ≡ Pid n)
shape-pid (Pid n) w h s e = (n, refl)
shape-pid (Int i) w h s e = absurd (omega (arith, s))
shape-pid _ w h s e = absurd (omega arith)

pub shape-nil : (t : Tree) (w h : ℕ) → Told t w h → w ≡ 59 → t ≡ Nil
shape-nil Nil w h s e = refl
shape-nil (Int i) w h s e = absurd (omega (arith, s))
shape-nil _ w h s e = absurd (omega arith)

pub shape-small : (t : Tree) (w h : ℕ) → Told t w h → w % 16 ≡ 15 → (i : ℤ) × (t ≡ Int i)
shape-small (Int i) w h s e = (i, refl)
shape-small _ w h s e = absurd (omega arith)

pub shape-big : (t : Tree) (w h : ℕ) → Told t w h → w % 4 ≡ 2 → (h % 64 ≡ 8) ⊎ (h % 64 ≡ 12) → (i : ℤ) × (t ≡ Int i)
shape-big (Int i) w h s e g = (i, refl)
shape-big _ w h s e g = absurd (omega (arith, g))

pub shape-ref : (t : Tree) (w h : ℕ) → Told t w h → w % 4 ≡ 2 → h % 64 ≡ 16 → (n k : ℕ) × (t ≡ Ref n k)
shape-ref (Ref n k) w h s e g = (n, k, refl)
shape-ref (Int (pos i)) w h s e g = absurd (omega (arith, s))
shape-ref (Int (negsuc i)) w h s e g = absurd (omega (arith, s))
shape-ref _ w h s e g = absurd (omega arith)

pub shape-tuple : (t : Tree) (w h : ℕ) → Told t w h → w % 4 ≡ 2 → h % 64 ≡ 0 → (ts : Trees) × (t ≡ Tuple ts)
shape-tuple (Tuple ts) w h s e g = (ts, refl)
shape-tuple (Int (pos i)) w h s e g = absurd (omega (arith, s))
shape-tuple (Int (negsuc i)) w h s e g = absurd (omega (arith, s))
shape-tuple _ w h s e g = absurd (omega arith)

pub shape-map : (t : Tree) (w h : ℕ) → Told t w h → w % 4 ≡ 2 → h % 64 ≡ 60 → (ps : Pairs) × (t ≡ Map ps)
shape-map (Map ps) w h s e g = (ps, refl)
shape-map (Int (pos i)) w h s e g = absurd (omega (arith, s))
shape-map (Int (negsuc i)) w h s e g = absurd (omega (arith, s))
shape-map _ w h s e g = absurd (omega arith)

pub shape-bin : (t : Tree) (w h : ℕ) → Told t w h → w % 4 ≡ 2 → h % 64 ≡ 36 → (bytes : List ℕ) × (t ≡ Bin bytes)
shape-bin (Bin bytes) w h s e g = (bytes, refl)
shape-bin (Int (pos i)) w h s e g = absurd (omega (arith, s))
shape-bin (Int (negsuc i)) w h s e g = absurd (omega (arith, s))
shape-bin _ w h s e g = absurd (omega arith)

pub shape-shared : (t : Tree) (w h : ℕ) → Told t w h → w % 4 ≡ 2 → h % 64 ≡ 32 → (id : ℕ) × (t ≡ Shared id)
shape-shared (Shared id) w h s e g = (id, refl)
shape-shared (Int (pos i)) w h s e g = absurd (omega (arith, s))
shape-shared (Int (negsuc i)) w h s e g = absurd (omega (arith, s))
shape-shared _ w h s e g = absurd (omega arith)

pub shape-part : (t : Tree) (w h : ℕ) → Told t w h → w % 4 ≡ 2 → h % 64 ≡ 40 → (base : Tree) × (offset len : ℕ) × (t ≡ Part base offset len)
shape-part (Part base offset len) w h s e g = (base, offset, len, refl)
shape-part (Int (pos i)) w h s e g = absurd (omega (arith, s))
shape-part (Int (negsuc i)) w h s e g = absurd (omega (arith, s))
shape-part _ w h s e g = absurd (omega arith)

pub shape-fun : (t : Tree) (w h : ℕ) → Told t w h → w % 4 ≡ 2 → h % 64 ≡ 20 → (name arity creator : ℕ) × (env : Trees) × (t ≡ Fun name arity creator env)
shape-fun (Fun name arity creator env) w h s e g = (name, arity, creator, env, refl)
shape-fun (Int (pos i)) w h s e g = absurd (omega (arith, s))
shape-fun (Int (negsuc i)) w h s e g = absurd (omega (arith, s))
shape-fun _ w h s e g = absurd (omega arith)

-- Rows, one step at a time and by index.

pub row-first : (c : ℕ → ℕ → Bool) (shared : List (List ℕ)) (mem : List ℕ) (p : ℕ) (t : Tree) (ts : Trees) → RowStands c shared mem p (t ▹ ts)
    → Stands c shared mem (get_or mem p 0) t × RowStands c shared mem (p + 1) ts
unfolding RowStands
row-first c shared mem p t ts row = row

pub row-at : (c : ℕ → ℕ → Bool) (shared : List (List ℕ)) (mem : List ℕ) (p : ℕ) (ts : Trees) (i : ℕ) → RowStands c shared mem p ts → i < trees_len ts
    → Stands c shared mem (get_or mem (p + i) 0) (tree_at ts i)
unfolding RowStands
row-at c shared mem p end i row below = absurd (omega arith)
row-at c shared mem p (t ▹ ts) zero (first, rest) below =
    let here : p ≡ p + 0 = omega arith in
    let P : ℕ → Type 0 = λ x. Stands c shared mem (get_or mem x 0) t in
    subst P here first
row-at c shared mem p (t ▹ ts) (suc i) (first, rest) below =
    let there : (p + 1) + i ≡ p + suc i = omega arith in
    let P : ℕ → Type 0 = λ x. Stands c shared mem (get_or mem x 0) (tree_at ts i) in
    subst P there (row-at c shared mem (p + 1) ts i rest (omega arith))

pub all-at : (c : ℕ → ℕ → Bool) (shared : List (List ℕ)) (mem ws : List ℕ) (ts : Trees) (i : ℕ) → AllStand c shared mem ws ts → i < length ws
    → Stands c shared mem (get_or ws i 0) (tree_at ts i)
unfolding AllStand
all-at c shared mem [] ts i all below = absurd (omega arith)
all-at c shared mem (w ∷ ws) end i all below = absurd all
all-at c shared mem (w ∷ ws) (t ▹ ts) zero (first, rest) below = first
all-at c shared mem (w ∷ ws) (t ▹ ts) (suc i) (first, rest) below = all-at c shared mem ws ts i rest (omega arith)
