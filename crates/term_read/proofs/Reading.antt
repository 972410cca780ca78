-- What the readers answer, from the numbers that they read.
use Rattle.std.proofs.Common.{◌≡◌, ℕ, zero, suc, ◌+◌, ◌/◌, ◌%◌, ◌<◌, ◌≤◌, Bool, List, get_or, refl, sym, ap, subst, arith, pos, negsuc, Option, Some, None}
use Rattle.plain_term.specs.Tree.{Tree, Trees, trees_len, keys_of, values_of}
use Rattle.plain_term.specs.Tree.Tree.{Int, Cons, Tuple, Map, Fun}
use Rattle.plain_term.specs.Tree.Trees.{end, ◌▹◌}
use Rattle.plain_term.specs.Parts.{part_at, place_of, head_in, tail_in, element_of, env_in}
use Rattle.term_words.specs.Stands.{Stands, RowStands}
use Rattle.term_read.specs.Parts.{key_of, map_value_of, map_len_of, map_len_in, AnswersPart, FindsPart, TellsOf}
use Rattle.term_words.proofs.ByKind.Shapes.{told}
use Rattle.term_words.proofs.ByKind.Pairs.{keys-row, values-row, keys-len, values-len}

-- Rows by index.

row-part : (c : ℕ → ℕ → Bool) (shared : List (List ℕ)) (mem : List ℕ) (p : ℕ) (ts : Trees) (i a : ℕ) → RowStands c shared mem p ts → i < trees_len ts → a ≡ p + i
    → AnswersPart c shared mem (part_at ts i) (Some (get_or mem a 0))
unfolding RowStands
row-part c shared mem p end i a row below e = absurd (omega arith)
row-part c shared mem p (t ▹ ts) zero a (first, rest) below e =
    let P : ℕ → Type 0 = λ x. Stands c shared mem (get_or mem x 0) t in
    let here : p ≡ a = omega arith in
    (get_or mem a 0, refl, subst P here first)
row-part c shared mem p (t ▹ ts) (suc i) a (first, rest) below e = row-part c shared mem (p + 1) ts i a rest (omega arith) (omega arith)

past-part : (ts : Trees) (i : ℕ) → trees_len ts ≤ i → part_at ts i ≡ None
past-part end i far = refl
past-part (t ▹ ts) zero far = absurd (omega arith)
past-part (t ▹ ts) (suc i) far = past-part ts i (omega arith)

none : (c : ℕ → ℕ → Bool) (shared : List (List ℕ)) (mem : List ℕ) (o : Option Tree) → o ≡ None → AnswersPart c shared mem o None
none c shared mem o e = let P : Option Tree → Type 0 = λ x. AnswersPart c shared mem x None in subst P (sym e) refl

place-part : (c : ℕ → ℕ → Bool) (shared : List (List ℕ)) (mem : List ℕ) (p : ℕ) (ts : Trees) (i a : ℕ) → RowStands c shared mem p ts → 1 ≤ i → i ≤ trees_len ts → a + 1 ≡ p + i
    → AnswersPart c shared mem (place_of ts i) (Some (get_or mem a 0))
place-part c shared mem p ts zero a row low high e = absurd (omega arith)
place-part c shared mem p ts (suc i) a row low high e = row-part c shared mem p ts i a row (omega arith) (omega arith)

past-place : (ts : Trees) (i : ℕ) → (1 ≤ i → trees_len ts < i) → place_of ts i ≡ None
past-place ts zero far = refl
past-place ts (suc i) far = past-part ts i (let h : trees_len ts < suc i = far (omega arith) in omega arith)

-- The head and the tail.

head-answer : (c : ℕ → ℕ → Bool) (shared : List (List ℕ)) (mem : List ℕ) (w : ℕ) (t : Tree) → Stands c shared mem w t → w % 4 ≡ 1 → AnswersPart c shared mem (head_in t) (Some (get_or mem (w / 4) 0))
unfolding Stands
head-answer c shared mem w (Cons h t) (o, sh, st) tag = (get_or mem (w / 4) 0, refl, sh)
head-answer c shared mem w t s tag = absurd (omega (arith, told c shared mem w t s))

head-none : (c : ℕ → ℕ → Bool) (shared : List (List ℕ)) (mem : List ℕ) (w : ℕ) (t : Tree) → Stands c shared mem w t → (w % 4 ≡ 1 → ⊥) → AnswersPart c shared mem (head_in t) None
unfolding Stands
head-none c shared mem w (Cons h t) (o, sh, st) other = absurd (other o.tag)
head-none c shared mem w t s other = refl

tail-answer : (c : ℕ → ℕ → Bool) (shared : List (List ℕ)) (mem : List ℕ) (w : ℕ) (t : Tree) → Stands c shared mem w t → w % 4 ≡ 1
    → AnswersPart c shared mem (tail_in t) (Some (get_or mem (w / 4 + 1) 0))
unfolding Stands
tail-answer c shared mem w (Cons h t) (o, sh, st) tag = (get_or mem (w / 4 + 1) 0, refl, st)
tail-answer c shared mem w t s tag = absurd (omega (arith, told c shared mem w t s))

tail-none : (c : ℕ → ℕ → Bool) (shared : List (List ℕ)) (mem : List ℕ) (w : ℕ) (t : Tree) → Stands c shared mem w t → (w % 4 ≡ 1 → ⊥) → AnswersPart c shared mem (tail_in t) None
unfolding Stands
tail-none c shared mem w (Cons h t) (o, sh, st) other = absurd (other o.tag)
tail-none c shared mem w t s other = refl

pub reads-head : (mem : List ℕ) (w p : ℕ) → w % 4 ≡ 1 → p ≡ w / 4 → FindsPart head_in mem w (Some (get_or mem p 0))
reads-head mem w p tag same =
    let P : ℕ → Type 0 = λ x. FindsPart head_in mem w (Some (get_or mem x 0)) in
    let here : FindsPart head_in mem w (Some (get_or mem (w / 4) 0)) = record { each = λ c shared t s. head-answer c shared mem w t s tag } in
    subst P (sym same) here

pub no-head : (mem : List ℕ) (w : ℕ) → (w % 4 ≡ 1 → ⊥) → FindsPart head_in mem w None
no-head mem w other = record { each = λ c shared t s. head-none c shared mem w t s other }

pub reads-tail : (mem : List ℕ) (w p : ℕ) → w % 4 ≡ 1 → p ≡ w / 4 → FindsPart tail_in mem w (Some (get_or mem (p + 1) 0))
reads-tail mem w p tag same =
    let P : ℕ → Type 0 = λ x. FindsPart tail_in mem w (Some (get_or mem (x + 1) 0)) in
    let here : FindsPart tail_in mem w (Some (get_or mem (w / 4 + 1) 0)) = record { each = λ c shared t s. tail-answer c shared mem w t s tag } in
    subst P (sym same) here

pub no-tail : (mem : List ℕ) (w : ℕ) → (w % 4 ≡ 1 → ⊥) → FindsPart tail_in mem w None
no-tail mem w other = record { each = λ c shared t s. tail-none c shared mem w t s other }

-- Parts of a tuple.

element-answer : (c : ℕ → ℕ → Bool) (shared : List (List ℕ)) (mem : List ℕ) (w : ℕ) (t : Tree) (i : ℕ) → Stands c shared mem w t → w % 4 ≡ 2 → get_or mem (w / 4) 0 / 4 % 16 ≡ 0
    → 1 ≤ i → i ≤ get_or mem (w / 4) 0 / 64 → AnswersPart c shared mem (element_of i t) (Some (get_or mem (w / 4 + i) 0))
unfolding Stands
element-answer c shared mem w (Tuple ts) i (o, row) tag sub low high = place-part c shared mem (w / 4 + 1) ts i (w / 4 + i) row low (omega (arith, o.boxed.header)) (omega arith)
element-answer c shared mem w (Int (pos n)) i s tag sub low high = absurd (omega (arith, told c shared mem w (Int (pos n)) s))
element-answer c shared mem w (Int (negsuc n)) i s tag sub low high = absurd (omega (arith, told c shared mem w (Int (negsuc n)) s))
element-answer c shared mem w t i s tag sub low high = absurd (omega (arith, told c shared mem w t s))

element-past : (c : ℕ → ℕ → Bool) (shared : List (List ℕ)) (mem : List ℕ) (w : ℕ) (t : Tree) (i : ℕ) → Stands c shared mem w t
    → (1 ≤ i → get_or mem (w / 4) 0 / 64 < i) → AnswersPart c shared mem (element_of i t) None
unfolding Stands
element-past c shared mem w (Tuple ts) i (o, row) far =
    none c shared mem (place_of ts i) (past-place ts i (λ low. let h : get_or mem (w / 4) 0 / 64 < i = far low in omega (arith, o.boxed.header)))
element-past c shared mem w t i s far = refl

element-none : (c : ℕ → ℕ → Bool) (shared : List (List ℕ)) (mem : List ℕ) (w : ℕ) (t : Tree) (i : ℕ) → Stands c shared mem w t
    → (w % 4 ≡ 2 → get_or mem (w / 4) 0 / 4 % 16 ≡ 0 → ⊥) → AnswersPart c shared mem (element_of i t) None
unfolding Stands
element-none c shared mem w (Tuple ts) i (o, row) other = absurd (other o.boxed.tag (omega (arith, o.boxed.header)))
element-none c shared mem w t i s other = refl

pub reads-element : (mem : List ℕ) (w p i : ℕ) → w % 4 ≡ 2 → p ≡ w / 4 → get_or mem p 0 / 4 % 16 ≡ 0 → 1 ≤ i → i ≤ get_or mem p 0 / 64 → FindsPart (element_of i) mem w (Some (get_or mem (p + i) 0))
reads-element mem w p i tag same =
    let P : ℕ → Type 0 = λ x. get_or mem x 0 / 4 % 16 ≡ 0 → 1 ≤ i → i ≤ get_or mem x 0 / 64 → FindsPart (element_of i) mem w (Some (get_or mem (x + i) 0)) in
    subst P (sym same) (λ sub low high. record { each = λ c shared t s. element-answer c shared mem w t i s tag sub low high })

pub past-element : (mem : List ℕ) (w p i : ℕ) → p ≡ w / 4 → (1 ≤ i → get_or mem p 0 / 64 < i) → FindsPart (element_of i) mem w None
past-element mem w p i same =
    let P : ℕ → Type 0 = λ x. (1 ≤ i → get_or mem x 0 / 64 < i) → FindsPart (element_of i) mem w None in
    subst P (sym same) (λ far. record { each = λ c shared t s. element-past c shared mem w t i s far })

pub no-element : (mem : List ℕ) (w i : ℕ) → (w % 4 ≡ 2 → get_or mem (w / 4) 0 / 4 % 16 ≡ 0 → ⊥) → FindsPart (element_of i) mem w None
no-element mem w i other = record { each = λ c shared t s. element-none c shared mem w t i s other }

-- Places of a fun's environment.

env-answer : (c : ℕ → ℕ → Bool) (shared : List (List ℕ)) (mem : List ℕ) (w : ℕ) (t : Tree) (i : ℕ) → Stands c shared mem w t → w % 4 ≡ 2 → get_or mem (w / 4) 0 / 4 % 16 ≡ 5
    → 1 ≤ i → i ≤ get_or mem (w / 4 + 4) 0 → AnswersPart c shared mem (env_in i t) (Some (get_or mem (w / 4 + 5 + i) 0))
unfolding Stands
env-answer c shared mem w (Fun name arity creator env) i (o, row) tag sub low high = place-part c shared mem (w / 4 + 6) env i (w / 4 + 5 + i) row low (omega (arith, o.size)) (omega arith)
env-answer c shared mem w (Int (pos n)) i s tag sub low high = absurd (omega (arith, told c shared mem w (Int (pos n)) s))
env-answer c shared mem w (Int (negsuc n)) i s tag sub low high = absurd (omega (arith, told c shared mem w (Int (negsuc n)) s))
env-answer c shared mem w t i s tag sub low high = absurd (omega (arith, told c shared mem w t s))

env-past : (c : ℕ → ℕ → Bool) (shared : List (List ℕ)) (mem : List ℕ) (w : ℕ) (t : Tree) (i : ℕ) → Stands c shared mem w t
    → (1 ≤ i → get_or mem (w / 4 + 4) 0 < i) → AnswersPart c shared mem (env_in i t) None
unfolding Stands
env-past c shared mem w (Fun name arity creator env) i (o, row) far =
    none c shared mem (place_of env i) (past-place env i (λ low. let h : get_or mem (w / 4 + 4) 0 < i = far low in omega (arith, o.size)))
env-past c shared mem w t i s far = refl

env-none : (c : ℕ → ℕ → Bool) (shared : List (List ℕ)) (mem : List ℕ) (w : ℕ) (t : Tree) (i : ℕ) → Stands c shared mem w t
    → (w % 4 ≡ 2 → get_or mem (w / 4) 0 / 4 % 16 ≡ 5 → ⊥) → AnswersPart c shared mem (env_in i t) None
unfolding Stands
env-none c shared mem w (Fun name arity creator env) i (o, row) other = absurd (other o.tag (omega (arith, o.header)))
env-none c shared mem w t i s other = refl

pub reads-env : (mem : List ℕ) (w p i : ℕ) → w % 4 ≡ 2 → p ≡ w / 4 → get_or mem p 0 / 4 % 16 ≡ 5 → 1 ≤ i → i ≤ get_or mem (p + 4) 0 → FindsPart (env_in i) mem w (Some (get_or mem (p + 5 + i) 0))
reads-env mem w p i tag same =
    let P : ℕ → Type 0 = λ x. get_or mem x 0 / 4 % 16 ≡ 5 → 1 ≤ i → i ≤ get_or mem (x + 4) 0 → FindsPart (env_in i) mem w (Some (get_or mem (x + 5 + i) 0)) in
    subst P (sym same) (λ sub low high. record { each = λ c shared t s. env-answer c shared mem w t i s tag sub low high })

pub past-env : (mem : List ℕ) (w p i : ℕ) → p ≡ w / 4 → (1 ≤ i → get_or mem (p + 4) 0 < i) → FindsPart (env_in i) mem w None
past-env mem w p i same =
    let P : ℕ → Type 0 = λ x. (1 ≤ i → get_or mem (x + 4) 0 < i) → FindsPart (env_in i) mem w None in
    subst P (sym same) (λ far. record { each = λ c shared t s. env-past c shared mem w t i s far })

pub no-env : (mem : List ℕ) (w i : ℕ) → (w % 4 ≡ 2 → get_or mem (w / 4) 0 / 4 % 16 ≡ 5 → ⊥) → FindsPart (env_in i) mem w None
no-env mem w i other = record { each = λ c shared t s. env-none c shared mem w t i s other }

-- Pairs of a map.

map-answer : (c : ℕ → ℕ → Bool) (shared : List (List ℕ)) (mem : List ℕ) (w : ℕ) (t : Tree) → Stands c shared mem w t → w % 4 ≡ 2 → get_or mem (w / 4) 0 / 4 % 16 ≡ 15
    → Some (get_or mem (w / 4 + 1) 0) ≡ map_len_of t
unfolding Stands
map-answer c shared mem w (Map ps) (o, ks, vs) tag sub = ap Some o.count
map-answer c shared mem w (Int (pos n)) s tag sub = absurd (omega (arith, told c shared mem w (Int (pos n)) s))
map-answer c shared mem w (Int (negsuc n)) s tag sub = absurd (omega (arith, told c shared mem w (Int (negsuc n)) s))
map-answer c shared mem w t s tag sub = absurd (omega (arith, told c shared mem w t s))

map-none : (c : ℕ → ℕ → Bool) (shared : List (List ℕ)) (mem : List ℕ) (w : ℕ) (t : Tree) → Stands c shared mem w t → (w % 4 ≡ 2 → get_or mem (w / 4) 0 / 4 % 16 ≡ 15 → ⊥) → None ≡ map_len_of t
unfolding Stands
map-none c shared mem w (Map ps) (o, ks, vs) other = absurd (other o.boxed.tag (omega (arith, o.boxed.header)))
map-none c shared mem w t s other = refl

pub tells-map : (mem : List ℕ) (w p : ℕ) → w % 4 ≡ 2 → p ≡ w / 4 → get_or mem p 0 / 4 % 16 ≡ 15 → TellsOf map_len_in mem w (Some (get_or mem (p + 1) 0))
tells-map mem w p tag same =
    let P : ℕ → Type 0 = λ x. get_or mem x 0 / 4 % 16 ≡ 15 → TellsOf map_len_in mem w (Some (get_or mem (x + 1) 0)) in
    subst P (sym same) (λ sub. record { each = λ c shared t s. map-answer c shared mem w t s tag sub })

pub no-map : (mem : List ℕ) (w : ℕ) → (w % 4 ≡ 2 → get_or mem (w / 4) 0 / 4 % 16 ≡ 15 → ⊥) → TellsOf map_len_in mem w None
no-map mem w other = record { each = λ c shared t s. map-none c shared mem w t s other }

key-answer : (c : ℕ → ℕ → Bool) (shared : List (List ℕ)) (mem : List ℕ) (w : ℕ) (t : Tree) (i : ℕ) → Stands c shared mem w t → w % 4 ≡ 2 → get_or mem (w / 4) 0 / 4 % 16 ≡ 15
    → i < get_or mem (w / 4 + 1) 0 → AnswersPart c shared mem (key_of i t) (Some (get_or mem (get_or mem (w / 4 + 2) 0 / 4 + 1 + i) 0))
unfolding Stands
key-answer c shared mem w (Map ps) i (o, ks, vs) tag sub below =
    row-part c shared mem (get_or mem (w / 4 + 2) 0 / 4 + 1) (keys_of ps) i (get_or mem (w / 4 + 2) 0 / 4 + 1 + i) (keys-row c shared mem (get_or mem (w / 4 + 2) 0 / 4 + 1) ps ks)
    (omega (arith, o.count, keys-len ps)) refl
key-answer c shared mem w (Int (pos n)) i s tag sub below = absurd (omega (arith, told c shared mem w (Int (pos n)) s))
key-answer c shared mem w (Int (negsuc n)) i s tag sub below = absurd (omega (arith, told c shared mem w (Int (negsuc n)) s))
key-answer c shared mem w t i s tag sub below = absurd (omega (arith, told c shared mem w t s))

key-past : (c : ℕ → ℕ → Bool) (shared : List (List ℕ)) (mem : List ℕ) (w : ℕ) (t : Tree) (i : ℕ) → Stands c shared mem w t → get_or mem (w / 4 + 1) 0 ≤ i → AnswersPart c shared mem (key_of i t) None
unfolding Stands
key-past c shared mem w (Map ps) i (o, ks, vs) far = none c shared mem (part_at (keys_of ps) i) (past-part (keys_of ps) i (omega (arith, o.count, keys-len ps)))
key-past c shared mem w t i s far = refl

key-none : (c : ℕ → ℕ → Bool) (shared : List (List ℕ)) (mem : List ℕ) (w : ℕ) (t : Tree) (i : ℕ) → Stands c shared mem w t
    → (w % 4 ≡ 2 → get_or mem (w / 4) 0 / 4 % 16 ≡ 15 → ⊥) → AnswersPart c shared mem (key_of i t) None
unfolding Stands
key-none c shared mem w (Map ps) i (o, ks, vs) other = absurd (other o.boxed.tag (omega (arith, o.boxed.header)))
key-none c shared mem w t i s other = refl

pub reads-key : (mem : List ℕ) (w p i : ℕ) → w % 4 ≡ 2 → p ≡ w / 4 → get_or mem p 0 / 4 % 16 ≡ 15 → i < get_or mem (p + 1) 0
    → FindsPart (key_of i) mem w (Some (get_or mem (get_or mem (p + 2) 0 / 4 + 1 + i) 0))
reads-key mem w p i tag same =
    let P : ℕ → Type 0 = λ x. get_or mem x 0 / 4 % 16 ≡ 15 → i < get_or mem (x + 1) 0 → FindsPart (key_of i) mem w (Some (get_or mem (get_or mem (x + 2) 0 / 4 + 1 + i) 0)) in
    subst P (sym same) (λ sub below. record { each = λ c shared t s. key-answer c shared mem w t i s tag sub below })

pub past-key : (mem : List ℕ) (w p i : ℕ) → p ≡ w / 4 → get_or mem (p + 1) 0 ≤ i → FindsPart (key_of i) mem w None
past-key mem w p i same =
    let P : ℕ → Type 0 = λ x. get_or mem (x + 1) 0 ≤ i → FindsPart (key_of i) mem w None in
    subst P (sym same) (λ far. record { each = λ c shared t s. key-past c shared mem w t i s far })

pub no-key : (mem : List ℕ) (w i : ℕ) → (w % 4 ≡ 2 → get_or mem (w / 4) 0 / 4 % 16 ≡ 15 → ⊥) → FindsPart (key_of i) mem w None
no-key mem w i other = record { each = λ c shared t s. key-none c shared mem w t i s other }

value-answer : (c : ℕ → ℕ → Bool) (shared : List (List ℕ)) (mem : List ℕ) (w : ℕ) (t : Tree) (i : ℕ) → Stands c shared mem w t → w % 4 ≡ 2 → get_or mem (w / 4) 0 / 4 % 16 ≡ 15
    → i < get_or mem (w / 4 + 1) 0 → AnswersPart c shared mem (map_value_of i t) (Some (get_or mem (w / 4 + 3 + i) 0))
unfolding Stands
value-answer c shared mem w (Map ps) i (o, ks, vs) tag sub below =
    row-part c shared mem (w / 4 + 3) (values_of ps) i (w / 4 + 3 + i) (values-row c shared mem (w / 4 + 3) ps vs) (omega (arith, o.count, values-len ps)) refl
value-answer c shared mem w (Int (pos n)) i s tag sub below = absurd (omega (arith, told c shared mem w (Int (pos n)) s))
value-answer c shared mem w (Int (negsuc n)) i s tag sub below = absurd (omega (arith, told c shared mem w (Int (negsuc n)) s))
value-answer c shared mem w t i s tag sub below = absurd (omega (arith, told c shared mem w t s))

value-past : (c : ℕ → ℕ → Bool) (shared : List (List ℕ)) (mem : List ℕ) (w : ℕ) (t : Tree) (i : ℕ) → Stands c shared mem w t → get_or mem (w / 4 + 1) 0 ≤ i
    → AnswersPart c shared mem (map_value_of i t) None
unfolding Stands
value-past c shared mem w (Map ps) i (o, ks, vs) far = none c shared mem (part_at (values_of ps) i) (past-part (values_of ps) i (omega (arith, o.count, values-len ps)))
value-past c shared mem w t i s far = refl

value-none : (c : ℕ → ℕ → Bool) (shared : List (List ℕ)) (mem : List ℕ) (w : ℕ) (t : Tree) (i : ℕ) → Stands c shared mem w t
    → (w % 4 ≡ 2 → get_or mem (w / 4) 0 / 4 % 16 ≡ 15 → ⊥) → AnswersPart c shared mem (map_value_of i t) None
unfolding Stands
value-none c shared mem w (Map ps) i (o, ks, vs) other = absurd (other o.boxed.tag (omega (arith, o.boxed.header)))
value-none c shared mem w t i s other = refl

pub reads-value : (mem : List ℕ) (w p i : ℕ) → w % 4 ≡ 2 → p ≡ w / 4 → get_or mem p 0 / 4 % 16 ≡ 15 → i < get_or mem (p + 1) 0 → FindsPart (map_value_of i) mem w (Some (get_or mem (p + 3 + i) 0))
reads-value mem w p i tag same =
    let P : ℕ → Type 0 = λ x. get_or mem x 0 / 4 % 16 ≡ 15 → i < get_or mem (x + 1) 0 → FindsPart (map_value_of i) mem w (Some (get_or mem (x + 3 + i) 0)) in
    subst P (sym same) (λ sub below. record { each = λ c shared t s. value-answer c shared mem w t i s tag sub below })

pub past-value : (mem : List ℕ) (w p i : ℕ) → p ≡ w / 4 → get_or mem (p + 1) 0 ≤ i → FindsPart (map_value_of i) mem w None
past-value mem w p i same =
    let P : ℕ → Type 0 = λ x. get_or mem (x + 1) 0 ≤ i → FindsPart (map_value_of i) mem w None in
    subst P (sym same) (λ far. record { each = λ c shared t s. value-past c shared mem w t i s far })

pub no-value : (mem : List ℕ) (w i : ℕ) → (w % 4 ≡ 2 → get_or mem (w / 4) 0 / 4 % 16 ≡ 15 → ⊥) → FindsPart (map_value_of i) mem w None
no-value mem w i other = record { each = λ c shared t s. value-none c shared mem w t i s other }
