-- The rows of the table of layouts, by the header's word: one law for each kind of object.
use Rattle.std.proofs.Common.{◌≡◌, ℕ, ◌+◌, ◌-◌, ◌%◌, ◌/◌, ◌<◌, ◌≤◌, ◌⊎◌, ◌==◌, ◌&&◌, nat_le, Option, Some, None, arith, refl, ap, lit<, ◌∙◌, inl, inr}
use Rattle.std.proofs.lemmas.Bool.{and_parts, cond_both, eqb-true, leb-true}
use Rattle.std.proofs.lemmas.Bool.Decides.{nat_tests}
use Rattle.std.proofs.lemmas.Option.{cond_some, none-some}
use Rattle.term_tags.specs.declared.layouts.Layout.{Layout}
use Rattle.term_tags.specs.declared.layouts.TheConstants.{TUPLE, POS_BIG, NEG_BIG, REF, FUN, HOLDER, HEAP_BIN, SUB_BIN, MAP}
use Rattle.term_tags.specs.Table.{row_layout, layout_at, layout_for, shape, IsOfObject}
use Rattle.term_tags.specs.Words.{head_word}

by-parts : (h s n : ℕ) → h % 4 ≡ 0 → h / 4 % 16 ≡ s → h / 64 ≡ n → layout_for h ≡ layout_at s n
by-parts h s n tag sub arity = rw (tag, sub, arity) refl

-- the layout of a header is the row of its subtag
pub layout_for-head_word : (s n : ℕ) → s < 16 → layout_for (head_word s n) ≡ layout_at s n
layout_for-head_word s n h = by-parts (head_word s n) s n (omega arith) (omega arith) (omega arith)

within : (n least most first count : ℕ) → least ≤ n → n ≤ most → 1 + n - first ≡ count → row_layout n least most first ≡ shape (1 + n) first count
within n least most first count low high size = grind (arith, nat_tests)

-- a tuple traces all its parts
pub layout-tuple : (n : ℕ) → n ≤ 65536 → layout_for (head_word TUPLE n) ≡ shape (1 + n) 1 n
layout-tuple n h = layout_for-head_word TUPLE n (lit< tt) ∙ within n 0 65536 1 n (omega arith) h (omega arith)

-- a big integer has one or two digits, and traces nothing
pub layout-pos-big : (n : ℕ) → 1 ≤ n → n ≤ 2 → layout_for (head_word POS_BIG n) ≡ shape (1 + n) (1 + n) 0
layout-pos-big n low high = layout_for-head_word POS_BIG n (lit< tt) ∙ within n 1 2 (1 + n) 0 low high (omega arith)

pub layout-neg-big : (n : ℕ) → 1 ≤ n → n ≤ 2 → layout_for (head_word NEG_BIG n) ≡ shape (1 + n) (1 + n) 0
layout-neg-big n low high = layout_for-head_word NEG_BIG n (lit< tt) ∙ within n 1 2 (1 + n) 0 low high (omega arith)

-- a reference traces nothing
pub layout-ref : layout_for (head_word REF 2) ≡ shape 3 3 0
layout-ref = refl

-- a fun of k environment words traces these
pub layout-fun : (k : ℕ) → k ≤ 64 → layout_for (head_word FUN (k + 5)) ≡ shape (6 + k) 6 k
layout-fun k h =
    let e : row_layout (k + 5) 5 69 6 ≡ shape (1 + (k + 5)) 6 k = within (k + 5) 5 69 6 k (omega arith) (omega arith) (omega arith) in
    let size : 1 + (k + 5) ≡ 6 + k = omega arith in
    layout_for-head_word FUN (k + 5) (lit< tt) ∙ e ∙ rw size refl

-- a holder traces nothing
pub layout-holder : layout_for (head_word HOLDER 5) ≡ shape 6 6 0
layout-holder = refl

-- a binary on the heap, with n words for its bytes, traces nothing
pub layout-heap-bin : (n : ℕ) → n ≤ 8 → layout_for (head_word HEAP_BIN (1 + n)) ≡ shape (2 + n) (2 + n) 0
layout-heap-bin n h =
    let e : row_layout (1 + n) 1 9 (1 + (1 + n)) ≡ shape (1 + (1 + n)) (1 + (1 + n)) 0 = within (1 + n) 1 9 (1 + (1 + n)) 0 (omega arith) (omega arith) (omega arith) in
    let size : 1 + (1 + n) ≡ 2 + n = omega arith in
    layout_for-head_word HEAP_BIN (1 + n) (lit< tt) ∙ e ∙ rw size refl

-- a sub binary traces its original
pub layout-sub-bin : layout_for (head_word SUB_BIN 4) ≡ shape 5 4 1
layout-sub-bin = refl

-- a map of n keys traces the tuple of its keys, and its values
pub layout-map : (n : ℕ) → n ≤ 32 → layout_for (head_word MAP (n + 2)) ≡ shape (3 + n) 2 (n + 1)
layout-map n h =
    let e : row_layout (n + 2) 2 34 2 ≡ shape (1 + (n + 2)) 2 (n + 1) = within (n + 2) 2 34 2 (n + 1) (omega arith) (omega arith) (omega arith) in
    let size : 1 + (n + 2) ≡ 3 + n = omega arith in
    layout_for-head_word MAP (n + 2) (lit< tt) ∙ e ∙ rw size refl

-- every other word is the header of no object

past : (n least most first : ℕ) → (n < least) ⊎ (most < n) → row_layout n least most first ≡ None
past n least most first apart = grind (arith, nat_tests, apart)

out : (n least most first : ℕ) → (least ≤ n → n ≤ most → ⊥) → row_layout n least most first ≡ None
out n least most first never =
    let which : ((n < least) ⊎ (most < n)) ⊎ ((least ≤ n) × (n ≤ most)) = grind arith in
    elim which [ inl apart ↦ past n least most first apart | inr (low, high) ↦ absurd (never low high) ]

no-row : (s n : ℕ) → (IsOfObject s n → ⊥) → layout_at s n ≡ None
no-row s n never =
    let P : Option Layout → Type 0 = λ z. z ≡ None in
    cond_both (s == TUPLE) _ _ P (λ e. out n 0 65536 1 (λ low high. never (inl (eqb-true s TUPLE e, low, high)))) (λ other.
    cond_both (s == POS_BIG) _ _ P (λ e. out n 1 2 (1 + n) (λ low high. never (inr (inl (eqb-true s POS_BIG e, low, high))))) (λ other.
    cond_both (s == NEG_BIG) _ _ P (λ e. out n 1 2 (1 + n) (λ low high. never (inr (inr (inl (eqb-true s NEG_BIG e, low, high)))))) (λ other.
    cond_both (s == REF) _ _ P (λ e. out n 2 2 3 (λ low high. never (inr (inr (inr (inl (eqb-true s REF e, low, high))))))) (λ other.
    cond_both (s == FUN) _ _ P (λ e. out n 5 69 6 (λ low high. never (inr (inr (inr (inr (inl (eqb-true s FUN e, low, high)))))))) (λ other.
    cond_both (s == HOLDER) _ _ P (λ e. out n 5 5 6 (λ low high. never (inr (inr (inr (inr (inr (inl (eqb-true s HOLDER e, low, high))))))))) (λ other.
    cond_both (s == HEAP_BIN) _ _ P (λ e. out n 1 9 (1 + n) (λ low high. never (inr (inr (inr (inr (inr (inr (inl (eqb-true s HEAP_BIN e, low, high)))))))))) (λ other.
    cond_both (s == SUB_BIN) _ _ P (λ e. out n 4 4 4 (λ low high. never (inr (inr (inr (inr (inr (inr (inr (inl (eqb-true s SUB_BIN e, low, high))))))))))) (λ other.
    cond_both (s == MAP) _ _ P (λ e. out n 2 34 2 (λ low high. never (inr (inr (inr (inr (inr (inr (inr (inr (eqb-true s MAP e, low, high))))))))))) (λ other. refl)))))))))

pub layout-none : (h : ℕ) → ((s n : ℕ) → IsOfObject s n → h ≡ head_word s n → ⊥) → layout_for h ≡ None
layout-none h never = cond_both (h % 4 == 0) _ _ (λ z. z ≡ None)
    (λ e. let low : h % 4 ≡ 0 = eqb-true (h % 4) 0 e in no-row (h / 4 % 16) (h / 64) (λ row. never (h / 4 % 16) (h / 64) row (omega arith)))
    (λ other. refl)

-- the first traced word

abbrev FirstIs : ℕ → Option Layout → Type 0
FirstIs word o = (l : Layout) → o ≡ Some l → word ≡ l.first

row-first : (n least most first word : ℕ) → (least ≤ n → n ≤ most → word ≡ first) → FirstIs word (row_layout n least most first)
row-first n least most first word h = λ l e.
    let (in_row, same) = cond_some (nat_le least n && nat_le n most) _ l e in
    let (low, high) = and_parts _ _ in_row in
    h (leb-true least n low) (leb-true n most high) ∙ ap (λ z. z.first) same

-- what is no tuple, map, sub binary or fun has its end as its first traced word
pub none-traced : (h : ℕ) → (h / 4 % 16 ≡ TUPLE → ⊥) → (h / 4 % 16 ≡ MAP → ⊥) → (h / 4 % 16 ≡ SUB_BIN → ⊥) → (h / 4 % 16 ≡ FUN → ⊥) → FirstIs (1 + h / 64) (layout_for h)
none-traced h tuple map part fun =
    let s : ℕ = h / 4 % 16 in
    let n : ℕ = h / 64 in
    let P : Option Layout → Type 0 = FirstIs (1 + n) in
    let none : P None = λ l e. absurd (none-some l e) in
    cond_both (h % 4 == 0) _ _ P (λ e.
    cond_both (s == TUPLE) _ _ P (λ e. absurd (tuple (eqb-true s TUPLE e))) (λ other.
    cond_both (s == POS_BIG) _ _ P (λ e. row-first n 1 2 (1 + n) (1 + n) (λ low high. refl)) (λ other.
    cond_both (s == NEG_BIG) _ _ P (λ e. row-first n 1 2 (1 + n) (1 + n) (λ low high. refl)) (λ other.
    cond_both (s == REF) _ _ P (λ e. row-first n 2 2 3 (1 + n) (λ low high. omega arith)) (λ other.
    cond_both (s == FUN) _ _ P (λ e. absurd (fun (eqb-true s FUN e))) (λ other.
    cond_both (s == HOLDER) _ _ P (λ e. row-first n 5 5 6 (1 + n) (λ low high. omega arith)) (λ other.
    cond_both (s == HEAP_BIN) _ _ P (λ e. row-first n 1 9 (1 + n) (1 + n) (λ low high. refl)) (λ other.
    cond_both (s == SUB_BIN) _ _ P (λ e. absurd (part (eqb-true s SUB_BIN e))) (λ other.
    cond_both (s == MAP) _ _ P (λ e. absurd (map (eqb-true s MAP e))) (λ other. none)))))))))) (λ other. none)
