-- What a step keeps of what was moved, of images and of rows.
use Rattle.std.proofs.Common.{◌≡◌, ℕ, ◌+◌, Bool, true, List, [], ◌∷◌, ◌++◌, sym, ◌∙◌, ap, subst, arith, inl, inr}
use Rattle.term_words.specs.Counted.{In, total}
use Rattle.cheney.specs.Plan.{Plan, Reached, Leaves, size}
use Rattle.cheney.specs.Moved.{moved, forward, IsImage}
use Rattle.cheney.specs.Zones.{IsCopy, Row}

-- What was moved stays moved, to the same place.
pub record Grows (p : Plan) (m n : List ℕ) : Type 0 where
  pub gone : (v : ℕ) → Reached p v → Leaves p v → moved m v ≡ true → moved n v ≡ true
  pub same : (v : ℕ) → Reached p v → Leaves p v → moved m v ≡ true → forward n v ≡ forward m v

pub image-later : (p : Plan) (m n : List ℕ) (w x : ℕ) → Grows p m n → Reached p w → IsImage p m w x → IsImage p n w x
image-later p m n w x g r i = record {
  kept = i.kept;
  gone = λ l. (g.gone w r l (i.gone l).0, (i.gone l).1 ∙ sym (g.same w r l (i.gone l).0));
}

pub copy-later : (p : Plan) (m n : List ℕ) (b : Bool) (v place : ℕ) → Grows p m n → IsCopy p m b v place → IsCopy p n b v place
copy-later p m n b v place g c = record {
  reached = c.reached;
  leaves = c.leaves;
  goes = c.goes;
  gone = g.gone v c.reached c.leaves c.gone;
  word = g.same v c.reached c.leaves c.gone ∙ c.word;
}

pub row-later : (p : Plan) (m n : List ℕ) (b : Bool) (place : ℕ) (vs : List ℕ) (top : ℕ) → Grows p m n → Row p m b place vs top → Row p n b place vs top
row-later p m n b place [] top g r = r
row-later p m n b place (v ∷ vs) top g (c, r) = (copy-later p m n b v place g c, row-later p m n b (place + size p v) vs top g r)

-- One more copy at the end of a row.
pub row-more : (p : Plan) (m : List ℕ) (b : Bool) (place : ℕ) (vs : List ℕ) (top w : ℕ) → Row p m b place vs top → IsCopy p m b w top → Row p m b place (vs ++ w ∷ []) (top + size p w)
row-more p m b place [] top w r c = (let P : ℕ → Type 0 = λ x. IsCopy p m b w x in subst P (sym r) c, omega (arith, r))
row-more p m b place (v ∷ vs) top w (d, r) c = (d, row-more p m b (place + size p v) vs top w r c)

-- A list without one of its objects.
pub record Without (p : Plan) (w : ℕ) (us : List ℕ) : Type 0 where
  pub rest : List ℕ
  pub words : total (size p) rest + size p w ≡ total (size p) us
  pub others : (v : ℕ) → (v ≡ w → ⊥) → In v us → In v rest

pub without : (p : Plan) (w : ℕ) (us : List ℕ) → In w us → Without p w us
without p w [] i = absurd i
without p w (u ∷ us) (inl e) = record {
  rest = us;
  words = omega (arith, ap (size p) e);
  others = λ v n j. elim j [ inl f ↦ absurd (n (f ∙ sym e)) | inr k ↦ k ];
}
without p w (u ∷ us) (inr i) =
    let o : Without p w us = without p w us i in
    record {
      rest = u ∷ o.rest;
      words = omega (arith, o.words);
      others = λ v n j. elim j [ inl f ↦ inl f | inr k ↦ inr (o.others v n k) ];
    }
