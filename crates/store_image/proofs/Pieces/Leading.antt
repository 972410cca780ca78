-- Where pointers lead in a memory of so many figures is a test: a list of words that has the roots and all that they reach.
use Rattle.std.proofs.Common.{◌≡◌, ℕ, zero, suc, ◌+◌, ◌-◌, ◌/◌, ◌%◌, ◌<◌, ◌≤◌, ◌⊎◌, ◌==◌, ◌&&◌, ◌||◌, not, Bool, true, false, List, [], ◌∷◌, length, slice_index, refl, sym, ap, subst, arith, inl, inr}
use Rattle.std.proofs.lemmas.Bool.{and_parts, or_cases, or_left, or_right, false≢true}
use Rattle.std.proofs.lemmas.Bool.Decides.{nat_tests}
use Rattle.term_words.specs.Object.{IsPointer, object_words}
use Rattle.term_words.specs.Reach.{Reach, first_traced, root, part}
use Rattle.term_words.specs.Counted.{In}
use Rattle.store_image.specs.Image.{LeadInto, LeadsToItself, Region, lies_whole}

-- So many words from a place on, and the traced words of an object.
abbrev pub words_at : (mem : List ℕ) (a n : ℕ) → List ℕ
words_at mem a zero = []
words_at mem a (suc n) = slice_index mem a ∷ words_at mem (a + 1) n

abbrev pub traced_words : List ℕ → ℕ → List ℕ
traced_words mem w = words_at mem (w / 4 + first_traced mem w) (object_words mem w - first_traced mem w)

in-words : (mem : List ℕ) (a n q : ℕ) → a ≤ q → q < a + n → In (slice_index mem q) (words_at mem a n)
in-words mem a zero q from below = absurd (omega (arith, from, below))
in-words mem a (suc n) q from below =
    let which : (q ≡ a) ⊎ (a + 1 ≤ q) = grind (arith, from) in
    elim which [ inl e ↦ inl (ap (λ z. slice_index mem z) e) | inr far ↦ inr (in-words mem (a + 1) n q far (omega (arith, below))) ]

in-traced : (mem : List ℕ) (w k : ℕ) → first_traced mem w ≤ k → k < object_words mem w → In (slice_index mem (w / 4 + k)) (traced_words mem w)
in-traced mem w k from below = in-words mem (w / 4 + first_traced mem w) (object_words mem w - first_traced mem w) (w / 4 + k) (omega (arith, from)) (omega (arith, from, below))

-- The word is one of the words, and all of some words are.
abbrev pub is_in : ℕ → List ℕ → Bool
is_in w [] = false
is_in w (v ∷ vs) = (w == v) || is_in w vs

abbrev pub all_in : List ℕ → List ℕ → Bool
all_in [] vs = true
all_in (w ∷ ws) vs = is_in w vs && all_in ws vs

is-in : (w : ℕ) (vs : List ℕ) → is_in w vs ≡ true → In w vs
is-in w [] e = absurd (false≢true e)
is-in w (v ∷ vs) e = elim (or_cases (w == v) (is_in w vs) e) [ inl same ↦ inl (grind (arith, nat_tests, same)) | inr more ↦ inr (is-in w vs more) ]

all-in : (ws vs : List ℕ) → all_in ws vs ≡ true → (w : ℕ) → In w ws → In w vs
all-in [] vs e w i = absurd i
all-in (u ∷ ws) vs e w (inl same) =
    let P : ℕ → Type 0 = λ z. In z vs in
    subst P (sym same) (is-in u vs (and_parts (is_in u vs) (all_in ws vs) e).0)
all-in (u ∷ ws) vs e w (inr i) = all-in ws vs (and_parts (is_in u vs) (all_in ws vs) e).1 w i

-- The test of each of some words.
abbrev pub all_pass : (ℕ → Bool) → List ℕ → Bool
all_pass f [] = true
all_pass f (v ∷ vs) = f v && all_pass f vs

all-pass : (f : ℕ → Bool) (vs : List ℕ) → all_pass f vs ≡ true → (w : ℕ) → In w vs → f w ≡ true
all-pass f [] e w i = absurd i
all-pass f (v ∷ vs) e w (inl same) =
    let P : ℕ → Type 0 = λ z. f z ≡ true in
    subst P (sym same) (and_parts (f v) (all_pass f vs) e).0
all-pass f (v ∷ vs) e w (inr i) = all-pass f vs (and_parts (f v) (all_pass f vs) e).1 w i

abbrev pub is_pointer : ℕ → Bool
is_pointer w = (w % 4 == 1) || (w % 4 == 2)

is-pointer : (w : ℕ) → IsPointer w → is_pointer w ≡ true
is-pointer w (inl e) = or_left (w % 4 == 1) (w % 4 == 2) (grind (arith, nat_tests, e))
is-pointer w (inr e) = or_right (w % 4 == 1) (w % 4 == 2) (grind (arith, nat_tests, e))

where-so : (p q : Bool) → p ≡ true → (not p || q) ≡ true → q ≡ true
where-so true q e f = f
where-so false q e f = absurd (false≢true e)

-- A pointer leads to an object whole in one of the regions, whose traced words are among the words.
abbrev pub leads_on : (mem : List ℕ) → List Region → (ws : List ℕ) → ℕ → Bool
leads_on mem rs ws w = not (is_pointer w) || (lies_whole mem rs w && all_in (traced_words mem w) ws)

abbrev pub leads_into : (mem roots : List ℕ) → List Region → (ws : List ℕ) → Bool
leads_into mem roots rs ws = all_in roots ws && all_pass (leads_on mem rs ws) ws

module _ (mem roots : List ℕ) (rs : List Region) (ws : List ℕ) (e : leads_into mem roots rs ws ≡ true) where
  passes : (w : ℕ) → In w ws → IsPointer w → (lies_whole mem rs w && all_in (traced_words mem w) ws) ≡ true
  passes w i p =
      where-so (is_pointer w) (lies_whole mem rs w && all_in (traced_words mem w) ws) (is-pointer w p)
      (all-pass (leads_on mem rs ws) ws (and_parts (all_in roots ws) (all_pass (leads_on mem rs ws) ws) e).1 w i)

  pub reach-in : (w : ℕ) → Reach mem roots w → In w ws
  reach-in w (root i x below same) =
      let P : ℕ → Type 0 = λ z. In z ws in
      subst P (sym same) (all-in roots ws (and_parts (all_in roots ws) (all_pass (leads_on mem rs ws) ws) e).0 (slice_index roots i) (root-in roots i below))
    where
      root-in : (xs : List ℕ) (i : ℕ) → i < length xs → In (slice_index xs i) xs
      root-in [] i below = absurd (omega (arith, below))
      root-in (x ∷ xs) zero below = inl refl
      root-in (x ∷ xs) (suc i) below = inr (root-in xs i (omega (arith, below)))
  reach-in w (part v k x r p from below same) =
      let P : ℕ → Type 0 = λ z. In z ws in
      subst P (sym same)
      (all-in (traced_words mem v) ws (and_parts (lies_whole mem rs v) (all_in (traced_words mem v) ws) (passes v (reach-in v r) p)).1 (slice_index mem (v / 4 + k)) (in-traced mem v k from below))

  pub leads-into : LeadInto mem roots rs
  leads-into w r p = (and_parts (lies_whole mem rs w) (all_in (traced_words mem w) ws) (passes w (reach-in w r) p)).0

-- What a pointer into the region leads to has pointers into the region alone.
abbrev pub stays_in : (mem : List ℕ) → Region → ℕ → Bool
stays_in mem r w = not (is_pointer w) || lies_whole mem (r ∷ []) w

abbrev pub keeps_in : (mem : List ℕ) → Region → ℕ → Bool
keeps_in mem r v = not (lies_whole mem (r ∷ []) v) || all_pass (stays_in mem r) (traced_words mem v)

pub leads-to_itself : (mem roots : List ℕ) (rs : List Region) (ws : List ℕ) (r : Region) → leads_into mem roots rs ws ≡ true → all_pass (keeps_in mem r) ws ≡ true → LeadsToItself mem roots r
leads-to_itself mem roots rs ws r e f v k reaches p whole from below q =
    let kept : (not (lies_whole mem (r ∷ []) v) || all_pass (stays_in mem r) (traced_words mem v)) ≡ true = all-pass (keeps_in mem r) ws f v (reach-in mem roots rs ws e v reaches) in
    let all : all_pass (stays_in mem r) (traced_words mem v) ≡ true = where-so (lies_whole mem (r ∷ []) v) (all_pass (stays_in mem r) (traced_words mem v)) whole kept in
    where-so (is_pointer (slice_index mem (v / 4 + k))) (lies_whole mem (r ∷ []) (slice_index mem (v / 4 + k))) (is-pointer (slice_index mem (v / 4 + k)) q)
    (all-pass (stays_in mem r) (traced_words mem v) all (slice_index mem (v / 4 + k)) (in-traced mem v k from below))
