-- Copies side by side.
use Rattle.std.proofs.Common.{◌≡◌, ℕ, ◌+◌, ◌*◌, ◌/◌, ◌<◌, ◌≤◌, ◌⊎◌, true, if◌then◌else◌, List, [], ◌∷◌, ◌++◌, refl, sym, ◌∙◌, ap, subst, arith, inl, inr, ◌==◌}
use Rattle.std.proofs.lemmas.Bool.{cases_Bool}
use Rattle.plain_term.specs.Measures.{flat_of_all}
use Rattle.term_words.specs.Object.{object_words}
use Rattle.term_words.specs.Reach.{parts_of}
use Rattle.term_words.proofs.Placing.Roles.{object-some}
use Rattle.off_heap_list.specs.Links.{names_it, named}
use Rattle.off_heap_list.proofs.Walked.Tallied.{one-at-most}
use Rattle.object_rows.specs.Row.{is_link}
use Rattle.term_copy.specs.Going.{Item, Among, Spread, flat_of_parts, tally}

-- Members of a list with one more at its end.

pub among-last : (x : Item) (xs : List Item) → Among x (xs ++ x ∷ [])
among-last x [] = inl refl
among-last x (y ∷ ys) = inr (among-last x ys)

pub among-left : (x y : Item) (xs : List Item) → Among x xs → Among x (xs ++ y ∷ [])
among-left x y [] i = absurd i
among-left x y (z ∷ zs) (inl e) = inl e
among-left x y (z ∷ zs) (inr i) = inr (among-left x y zs i)

pub among-split : (x y : Item) (xs : List Item) → Among x (xs ++ y ∷ []) → Among x xs ⊎ (x ≡ y)
among-split x y [] (inl e) = inr e
among-split x y [] (inr i) = absurd i
among-split x y (z ∷ zs) (inl e) = inl (inl e)
among-split x y (z ∷ zs) (inr i) = elim (among-split x y zs i) [ inl j ↦ inl (inr j) | inr e ↦ inr e ]

pub left-last : (y : Item) (xs : List Item) → flat_of_parts (xs ++ y ∷ []) ≡ flat_of_parts xs + flat_of_all (parts_of y.tree)
left-last y [] = omega arith
left-last y (x ∷ xs) = omega (arith, left-last y xs)

-- Those that lie side by side.

pub spread-order : (old : List ℕ) (from : ℕ) (xs : List Item) (to : ℕ) → Spread old from xs to → from ≤ to
spread-order old from [] to same = omega arith
spread-order old from (x ∷ xs) to (place, rest) = omega (arith, spread-order old (from + object_words old x.word) xs to rest)

pub spread-in : (old : List ℕ) (from : ℕ) (xs : List Item) (to : ℕ) (x : Item) → Spread old from xs to → Among x xs → (from ≤ x.place) × (x.place + object_words old x.word ≤ to)
spread-in old from [] to x row i = absurd i
spread-in old from (y ∷ ys) to x (place, rest) (inl e) =
    let P : Item → Type 0 = λ z. (from ≤ z.place) × (z.place + object_words old z.word ≤ to) in
    subst P (sym e) (omega arith, omega (arith, place, spread-order old (from + object_words old y.word) ys to rest))
spread-in old from (y ∷ ys) to x (place, rest) (inr i) =
    let (low, high) = spread-in old (from + object_words old y.word) ys to x rest i in
    (omega arith, high)

pub spread-last : (old : List ℕ) (from : ℕ) (xs : List Item) (to : ℕ) (y : Item) → Spread old from xs to → y.place ≡ to → Spread old from (xs ++ y ∷ []) (to + object_words old y.word)
spread-last old from [] to y same place = (omega arith, ap (λ a. a + object_words old y.word) same)
spread-last old from (x ∷ xs) to y (first, rest) place = (first, spread-last old (from + object_words old x.word) xs to y rest place)

-- Two of them with a word in common are one.
pub spread-one : (old : List ℕ) (from : ℕ) (xs : List Item) (to : ℕ) (x y : Item) (q : ℕ) → Spread old from xs to → Among x xs → Among y xs
    → x.place ≤ q → q < x.place + object_words old x.word → y.place ≤ q → q < y.place + object_words old y.word → x ≡ y
spread-one old from [] to x y q row i j a b c d = absurd i
spread-one old from (z ∷ zs) to x y q row (inl e) (inl f) a b c d = e ∙ sym f
spread-one old from (z ∷ zs) to x y q (place, rest) (inl e) (inr j) a b c d =
    let (low, high) = spread-in old (from + object_words old z.word) zs to y rest j in
    let P : Item → Type 0 = λ u. q < u.place + object_words old u.word in
    absurd (omega (arith, subst P e b, place, low, c))
spread-one old from (z ∷ zs) to x y q (place, rest) (inr i) (inl f) a b c d =
    let (low, high) = spread-in old (from + object_words old z.word) zs to x rest i in
    let P : Item → Type 0 = λ u. q < u.place + object_words old u.word in
    absurd (omega (arith, subst P f d, place, low, a))
spread-one old from (z ∷ zs) to x y q (place, rest) (inr i) (inr j) a b c d = spread-one old (from + object_words old z.word) zs to x y q rest i j a b c d

-- Where none is left, all places are.
pub spread-none : (old : List ℕ) (at : ℕ) (xs : List Item) → Spread old at xs at → xs ≡ []
spread-none old at [] row = refl
spread-none old at (x ∷ xs) (place, rest) = absurd (omega (arith, spread-order old (at + object_words old x.word) xs at rest, object-some old x.word))

-- Holders and funs among them that name a record.

tally-term : List ℕ → ℕ → Item → ℕ
tally-term old v x = if is_link old x.word then names_it (named old (x.word / 4)) v else 0

pub tally-last : (old : List ℕ) (v : ℕ) (y : Item) (xs : List Item) → tally old v (xs ++ y ∷ []) ≡ tally old v xs + (if is_link old y.word then names_it (named old (y.word / 4)) v else 0)
tally-last old v y [] = omega arith
tally-last old v y (x ∷ xs) = omega (arith, tally-last old v y xs)

-- Each takes six words.
pub tally-few : (old : List ℕ) (v from : ℕ) (xs : List Item) (to : ℕ) → Spread old from xs to → ((x : Item) → Among x xs → is_link old x.word ≡ true → 6 ≤ object_words old x.word)
    → from + 6 * tally old v xs ≤ to
tally-few old v from [] to row many = omega arith
tally-few old v from (x ∷ xs) to (place, rest) many =
    let more : from + object_words old x.word + 6 * tally old v xs ≤ to = tally-few old v (from + object_words old x.word) xs to rest (λ y i. many y (inr i)) in
    elim (cases_Bool (is_link old x.word)) [
      | inl h ↦ rw h (omega (arith, more, many x (inl refl) h, one-at-most (named old (x.word / 4) == v)))
      | inr none ↦ rw none (omega (arith, more))
    ]
