-- Introduction: when a word stands for a tree of each kind.
use Rattle.std.proofs.Common.{◌≡◌, ℕ, suc, ◌+◌, ◌*◌, ◌/◌, ◌^◌, ◌<◌, ◌≤◌, Bool, true, List, [], ◌∷◌, length, get_or, refl, sym, ◌∙◌, ap, subst, arith, inl, ℤ}
use Rattle.plain_term.specs.Measures.{is_small}
use Rattle.plain_term.specs.Tree.{Tree, Trees, trees_len}
use Rattle.plain_term.specs.Tree.Tree.{Int, Atom, Pid, Nil, Cons, Tuple}
use Rattle.plain_term.specs.Tree.Trees.{end, ◌▹◌}
use Rattle.term_words.specs.Object.{IsObject, IsCons, IsBoxed}
use Rattle.term_tags.specs.Words.{small_word}
use Rattle.term_words.specs.Stands.{Stands, RowStands, AllStand}

-- An immediate stands wherever it is.

pub stands-atom : (c : ℕ → ℕ → Bool) (shared : List (List ℕ)) (mem : List ℕ) (w k : ℕ) → k < 16384 → w ≡ k * 64 + 11 → Stands c shared mem w (Atom k)
unfolding Stands
stands-atom c shared mem w k r e = record { range = r; word = e }

pub stands-pid : (c : ℕ → ℕ → Bool) (shared : List (List ℕ)) (mem : List ℕ) (w n : ℕ) → n < 2 ^ 41 → w ≡ n * 16 + 3 → Stands c shared mem w (Pid n)
unfolding Stands
stands-pid c shared mem w n r e = record { range = r; word = e }

pub stands-nil : (c : ℕ → ℕ → Bool) (shared : List (List ℕ)) (mem : List ℕ) (w : ℕ) → w ≡ 59 → Stands c shared mem w Nil
unfolding Stands
stands-nil c shared mem w e = e

pub stands-small : (c : ℕ → ℕ → Bool) (shared : List (List ℕ)) (mem : List ℕ) (w : ℕ) (i : ℤ) → is_small i ≡ true → w ≡ small_word i → Stands c shared mem w (Int i)
unfolding Stands
stands-small c shared mem w i s e = inl (record { small = s; word = e })

-- A pair and a tuple, by the place of the object.

pub pair-at : (c : ℕ → ℕ → Bool) (mem : List ℕ) (w p : ℕ) → w ≡ p * 4 + 1 → p + 2 ≤ length mem → c p 3 ≡ true → c (p + 1) 4 ≡ true → IsCons c mem w
pair-at c mem w p e l f s =
    let same : p ≡ w / 4 = omega arith in
    let P : ℕ → Type 0 = λ x. IsObject c mem x 2 in
    let o : IsObject c mem p 2 = record {
      within = l;
      first = f;
      others = λ q above below.
          let next : p + 1 ≡ q = omega arith in
          let Q : ℕ → Type 0 = λ x. c x 4 ≡ true in
          subst Q next s;
    } in
    record { tag = omega arith; object = subst P same o }

pub stands-cons : (c : ℕ → ℕ → Bool) (shared : List (List ℕ)) (mem : List ℕ) (w p : ℕ) (h t : Tree) → w ≡ p * 4 + 1 → p + 2 ≤ length mem → c p 3 ≡ true → c (p + 1) 4 ≡ true
    → Stands c shared mem (get_or mem p 0) h → Stands c shared mem (get_or mem (p + 1) 0) t → Stands c shared mem w (Cons h t)
unfolding Stands
stands-cons c shared mem w p h t e l f s sh st =
    let same : p ≡ w / 4 = omega arith in
    let P : ℕ → Type 0 = λ x. Stands c shared mem (get_or mem x 0) h in
    let Q : ℕ → Type 0 = λ x. Stands c shared mem (get_or mem (x + 1) 0) t in
    (pair-at c mem w p e l f s, subst P same sh, subst Q same st)

pub boxed-at : (c : ℕ → ℕ → Bool) (mem : List ℕ) (w p subtag arity : ℕ) → w ≡ p * 4 + 2 → get_or mem p 0 ≡ arity * 64 + subtag * 4 → IsObject c mem p (1 + arity) → IsBoxed c mem w subtag arity
boxed-at c mem w p subtag arity e h o =
    let same : p ≡ w / 4 = omega arith in
    let P : ℕ → Type 0 = λ x. IsObject c mem x (1 + arity) in
    let Q : ℕ → Type 0 = λ x. get_or mem x 0 ≡ arity * 64 + subtag * 4 in
    record { tag = omega arith; header = subst Q same h; object = subst P same o }

pub stands-tuple : (c : ℕ → ℕ → Bool) (shared : List (List ℕ)) (mem : List ℕ) (w p : ℕ) (ts : Trees) → w ≡ p * 4 + 2 → trees_len ts ≤ 65536 → get_or mem p 0 ≡ trees_len ts * 64
    → p + (1 + trees_len ts) ≤ length mem → c p 3 ≡ true → ((q : ℕ) → p < q → q < p + (1 + trees_len ts) → c q 4 ≡ true)
    → RowStands c shared mem (p + 1) ts → Stands c shared mem w (Tuple ts)
unfolding Stands
stands-tuple c shared mem w p ts e n h l f o row =
    let same : p ≡ w / 4 = omega arith in
    let P : ℕ → Type 0 = λ x. RowStands c shared mem (x + 1) ts in
    let head : get_or mem p 0 ≡ trees_len ts * 64 + 0 * 4 = omega arith in
    let object : IsObject c mem p (1 + trees_len ts) = record { within = l; first = f; others = o } in
    (record { range = n; boxed = boxed-at c mem w p 0 (trees_len ts) e head object }, subst P same row)

-- A row of words in the memory that are the words of a list stands for what the list stands for.
pub row-of-all : (c : ℕ → ℕ → Bool) (shared : List (List ℕ)) (mem : List ℕ) (p : ℕ) (ws : List ℕ) (ts : Trees) → AllStand c shared mem ws ts
    → ((j : ℕ) → j < length ws → get_or mem (p + j) 0 ≡ get_or ws j 0) → RowStands c shared mem p ts
unfolding RowStands AllStand
row-of-all c shared mem p [] end all same = tt
row-of-all c shared mem p [] (t ▹ ts) all same = absurd all
row-of-all c shared mem p (w ∷ ws) end all same = absurd all
row-of-all c shared mem p (w ∷ ws) (t ▹ ts) (first, rest) same =
    let here : w ≡ get_or mem p 0 = sym (same 0 (omega arith)) ∙ ap (λ x. get_or mem x 0) (omega arith) in
    let P : ℕ → Type 0 = λ x. Stands c shared mem x t in (
      subst P here first,
      row-of-all c shared mem (p + 1) ws ts rest (λ j below.
          let next : get_or mem (p + suc j) 0 ≡ get_or ws j 0 = same (suc j) (omega arith) in
          let same_place : (p + 1) + j ≡ p + suc j = omega arith in
          rw same_place next),
    )

-- As many words as trees.
pub all-length : (c : ℕ → ℕ → Bool) (shared : List (List ℕ)) (mem ws : List ℕ) (ts : Trees) → AllStand c shared mem ws ts → length ws ≡ trees_len ts
unfolding AllStand
all-length c shared mem [] end all = refl
all-length c shared mem [] (t ▹ ts) all = absurd all
all-length c shared mem (w ∷ ws) end all = absurd all
all-length c shared mem (w ∷ ws) (t ▹ ts) (first, rest) =
    let more : length ws ≡ trees_len ts = all-length c shared mem ws ts rest in
    omega arith
