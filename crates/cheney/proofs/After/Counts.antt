-- The words of the objects of both rows, each once, are at most the flat words of the roots' trees.
use Rattle.std.proofs.Common.{◌≡◌, ℕ, ◌+◌, ◌/◌, ◌≤◌, Bool, true, false, List, [], ◌∷◌, ◌++◌, refl, sym, ap, subst, arith, inl, inr}
use Rattle.plain_term.specs.Measures.{flat_of_all}
use Rattle.term_words.specs.Counted.{Distinct, In, total}
use Rattle.term_words.specs.Object.{object_words}
use Rattle.term_words.proofs.Totals.Flat.{flat-total}
use Rattle.term_words.proofs.Totals.Members.{both-distinct, both-total, in-both}
use Rattle.cheney.specs.Plan.{Plan, Ready, Reached, Leaves, size}
use Rattle.cheney.specs.Moved.{forward}
use Rattle.cheney.specs.Zones.{Row}
use Rattle.cheney.proofs.Before.Basics.{size-some, not-both}

pub total-words : (p : Plan) (vs : List ℕ) → total (size p) vs ≡ total (object_words p.start) vs
unfolding size
total-words p [] = refl
total-words p (v ∷ vs) = ap (λ z. object_words p.start v + z) (total-words p vs)

pub in-row : (p : Plan) (m : List ℕ) (b : Bool) (place : ℕ) (vs : List ℕ) (top : ℕ) → Row p m b place vs top → (v : ℕ) → In v vs → Reached p v ×
    (Leaves p v × ((p.mature (v / 4) ≡ b) × (place ≤ forward m v / 4)))
in-row p m b place [] top row v i = absurd i
in-row p m b place (u ∷ vs) top (c, row) v (inl e) =
    let P : ℕ → Type 0 = λ z. Reached p z × (Leaves p z × ((p.mature (z / 4) ≡ b) × (place ≤ forward m z / 4))) in
    subst P (sym e) (c.reached, (c.leaves, (c.goes, omega (arith, c.word, c.leaves.pointer))))
in-row p m b place (u ∷ vs) top (c, row) v (inr i) = let (r, (l, (g, h))) = in-row p m b (place + size p u) vs top row v i in (r, (l, (g, omega (arith, h))))

pub row-distinct : (p : Plan) (m : List ℕ) (b : Bool) (place : ℕ) (vs : List ℕ) (top : ℕ) → Row p m b place vs top → Distinct vs
row-distinct p m b place [] top row = tt
row-distinct p m b place (v ∷ vs) top (c, row) = (
  (λ i. let (r, (l, (g, h))) = in-row p m b (place + size p v) vs top row v i in omega (arith, h, c.word, c.leaves.pointer, size-some p v c.leaves.pointer)),
  row-distinct p m b
      (place + size p v) vs top row,
)

pub words-bounded : (p : Plan) → Ready p → (m : List ℕ) (a b c e : ℕ) (xs zs : List ℕ) → Row p m true a xs b → Row p m false c zs e → total (size p) xs + total (size p) zs ≤ flat_of_all p.trees
words-bounded p y m a b c e xs zs r s =
    let apart : (v : ℕ) → In v xs → In v zs → ⊥ = λ v i j. not-both (p.mature (v / 4)) (in-row p m true a xs b r v i).1.1.0 (in-row p m false c zs e s v j).1.1.0 in
    let low : total (object_words p.start) (xs ++ zs) ≤ flat_of_all p.trees =
    flat-total p.test p.shared p.start p.roots p.trees (xs ++ zs) y.standing
    (both-distinct xs zs (row-distinct p m true a xs b r) (row-distinct p m false c zs e s) apart)
    (λ v i. elim (in-both v xs zs i) [
      | inl z ↦ ((in-row p m true a xs b r v z).1.0.pointer, (in-row p m true a xs b r v z).0)
      | inr z ↦ ((in-row p m false c zs e s v z).1.0.pointer, (in-row p m false c zs e s v z).0)
    ]) in
    omega (arith, low, total-words p (xs ++ zs), both-total (size p) xs zs)
