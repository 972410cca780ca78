-- What carries the objects of standing roots keeps what these reach.
use Rattle.std.proofs.Common.{◌≡◌, ℕ, ◌+◌, ◌/◌, ◌%◌, ◌<◌, ◌≤◌, ◌⊎◌, Bool, true, List, get_or, sym, ◌∙◌, ap, subst, arith, inl, inr, ◌==◌, if◌then◌else◌}
use Rattle.plain_term.specs.Tree.{Tree, Trees}
use Rattle.plain_term.specs.Tree.Tree.{Cons, Tuple, Map, Part, Fun}
use Rattle.term_tags.specs.Table.{layout_for}
use Rattle.term_words.specs.Object.{IsObject, IsPointer, object_words}
use Rattle.term_words.specs.Stands.{Stands, AllStand}
use Rattle.term_words.specs.Kept.{Carried}
use Rattle.term_words.specs.Reach.{Reach, root, part, first_of, first_traced}
use Rattle.term_words.proofs.Placing.Apart.{words-cons, words-boxed}
use Rattle.term_words.proofs.Reaching.Reached.{scanned, reached}
use Rattle.term_words.proofs.Placing.Roles.{first-role}

pub in-object : (c : ℕ → ℕ → Bool) (mem : List ℕ) (p n q : ℕ) → IsObject c mem p n → p ≤ q → q < p + n → (c q 3 ≡ true) ⊎ (c q 4 ≡ true)
in-object c mem p n q o from below =
    let which : (q ≡ p) ⊎ (p < q) = grind arith in
    elim which [ inl e ↦ inl (let P : ℕ → Type 0 = λ x. c x 3 ≡ true in subst P (sym e) o.first) | inr far ↦ inr (o.others q far below) ]

-- A traced word is an object's first word, or another that is content.
pub traced-role : (c : ℕ → ℕ → Bool) (shared : List (List ℕ)) (mem : List ℕ) (w : ℕ) (t : Tree) (k : ℕ) → Stands c shared mem w t → IsPointer w → first_traced mem w ≤ k → k < object_words mem w
    → (c (w / 4 + k) 3 ≡ true) ⊎ (c (w / 4 + k) 4 ≡ true)
unfolding Stands
traced-role c shared mem w (Cons h t) k (o, sh, st) p from below = in-object c mem (w / 4) 2 (w / 4 + k) o.object (omega arith) (omega (arith, words-cons mem w o.tag))
traced-role c shared mem w (Tuple ts) k (o, row) p from below =
    in-object c mem (w / 4) _ (w / 4 + k) o.boxed.object (omega arith) (omega (arith, words-boxed mem w _ 0 o.boxed.tag o.boxed.header (omega arith)))
traced-role c shared mem w (Map ps) k (o, ks, vs) p from below =
    in-object c mem (w / 4) _ (w / 4 + k) o.boxed.object (omega arith) (omega (arith, words-boxed mem w _ 60 o.boxed.tag o.boxed.header (omega arith)))
traced-role c shared mem w (Part base offset len) k (o, is, sb) p from below =
    in-object c mem (w / 4) 5 (w / 4 + k) o.boxed.object (omega arith) (omega (arith, words-boxed mem w 4 40 o.boxed.tag o.boxed.header (omega arith)))
traced-role c shared mem w (Fun name arity creator env) k (o, row) p from below =
    let words : object_words mem w ≡ 1 + (_ + 5) = words-boxed mem w _ 20 o.tag o.header (omega arith) in
    inr (o.others (w / 4 + k) (omega (arith, (scanned c shared mem w (Fun name arity creator env) (o, row) p).ends)) (omega arith))
traced-role c shared mem w t k s p from below = absurd (omega (arith, (scanned c shared mem w t s p).ends))

module _ (c d : ℕ → ℕ → Bool) (old new : List ℕ) (k : Carried c d old new) where
  module _ (shared : List (List ℕ)) (w : ℕ) (t : Tree) (s : Stands c shared old w t) (p : IsPointer w) where
    header-same : get_or new (w / 4) 0 ≡ get_or old (w / 4) 0
    header-same = k.first_same (w / 4) (first-role c shared old w t s p)

    pub words-same : object_words new w ≡ object_words old w
    words-same = let size : ℕ → ℕ = λ h. if w % 4 == 1 then 2 else 1 + h / 64 in ap size header-same

    pub first-same : first_traced new w ≡ first_traced old w
    first-same =
        let first : ℕ → ℕ = λ h. if w % 4 == 1 then 0 else first_of (layout_for h) (if w % 4 == 1 then 2 else 1 + h / 64) in
        ap first header-same

    pub traced-same : (j : ℕ) → first_traced old w ≤ j → j < object_words old w → get_or new (w / 4 + j) 0 ≡ get_or old (w / 4 + j) 0
    traced-same j from below = elim (traced-role c shared old w t j s p from below) [ inl first ↦ k.first_same (w / 4 + j) first | inr other ↦ k.other_same (w / 4 + j) other ]

  module _ (shared : List (List ℕ)) (roots : List ℕ) (ts : Trees) (all : AllStand c shared old roots ts) where
    pub reach-carried : (w : ℕ) → Reach old roots w → Reach new roots w
    reach-carried w (root i x below e) = root i x below e
    reach-carried w (part v j x r p from below e) =
        let (t, s) = reached c shared old roots ts all v r in
        part v j x (reach-carried v r) p (omega (arith, first-same shared v t s p)) (omega (arith, words-same shared v t s p)) (e ∙ sym (traced-same shared v t s p j from below))

    pub carried-reach : (w : ℕ) → Reach new roots w → Reach old roots w
    carried-reach w (root i x below e) = root i x below e
    carried-reach w (part v j x r p from below e) =
        let before : Reach old roots v = carried-reach v r in
        let (t, s) = reached c shared old roots ts all v before in
        let low : first_traced old v ≤ j = omega (arith, first-same shared v t s p) in
        let high : j < object_words old v = omega (arith, words-same shared v t s p) in
        part v j x before p low high (e ∙ traced-same shared v t s p j low high)
