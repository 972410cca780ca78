-- Tags, sizes and forwarding words.
use Rattle.std.proofs.Common.{◌≡◌, ℕ, ◌+◌, ◌/◌, ◌%◌, ◌<◌, ◌≤◌, ◌⊎◌, Bool, true, false, List, get_or, refl, sym, ◌∙◌, ap, arith, inl, inr, if◌then◌else◌, ◌==◌}
use Rattle.std.proofs.lemmas.Bool.{true≢false, cases_Bool, cases_eq}
use Rattle.term_words.specs.Object.{IsPointer, object_words}
use Rattle.term_words.specs.Reach.{first_of, part}
use Rattle.term_tags.specs.Table.{layout_for}
use Rattle.term_words.proofs.Totals.Members.{pointer-or-not}
use Rattle.cheney.specs.Plan.{Plan, Reached, Leaves, IsIn, size, first}
use Rattle.cheney.specs.Moved.{moved, forward, Shows}

pub not-both : (b : Bool) → b ≡ true → b ≡ false → ⊥
not-both b t f = true≢false (sym t ∙ f)

pub same-room : (b c : Bool) → (b ≡ c) ⊎ (b ≡ c → ⊥)
same-room true true = inl refl
same-room true false = inr (λ e. not-both true refl e)
same-room false true = inr (λ e. not-both true refl (sym e))
same-room false false = inl refl

pub leaves-or-not : (p : Plan) (w : ℕ) → Leaves p w ⊎ (Leaves p w → ⊥)
leaves-or-not p w =
    elim (pointer-or-not w) [
      | inr n ↦ inr (λ l. n l.pointer)
      | inl y ↦ elim (cases_Bool (p.stay (w / 4))) [ inr f ↦ inl (record { pointer = y; leaves = f }) | inl t ↦ inr (λ l. not-both (p.stay (w / 4)) t l.leaves) ]
    ]

pub moved-cons : (m : List ℕ) (w : ℕ) → w % 4 ≡ 1 → moved m w ≡ (get_or m (w / 4) 0 == 0)
unfolding moved
moved-cons m w tag = let one : (w % 4 == 1) ≡ true = ap (λ x. x == 1) tag in rw one refl

pub moved-boxed : (m : List ℕ) (w : ℕ) → w % 4 ≡ 2 → moved m w ≡ (get_or m (w / 4) 0 % 4 == 2)
unfolding moved
moved-boxed m w tag = let one : (w % 4 == 1) ≡ false = ap (λ x. x == 1) tag in rw one refl

pub forward-cons : (m : List ℕ) (w : ℕ) → w % 4 ≡ 1 → forward m w ≡ get_or m (w / 4 + 1) 0
unfolding forward
forward-cons m w tag = let one : (w % 4 == 1) ≡ true = ap (λ x. x == 1) tag in rw one refl

pub forward-boxed : (m : List ℕ) (w : ℕ) → w % 4 ≡ 2 → forward m w ≡ get_or m (w / 4) 0
unfolding forward
forward-boxed m w tag = let one : (w % 4 == 1) ≡ false = ap (λ x. x == 1) tag in rw one refl

pub moved-same : (m n : List ℕ) (w : ℕ) → get_or n (w / 4) 0 ≡ get_or m (w / 4) 0 → moved n w ≡ moved m w
unfolding moved
moved-same m n w e = ap (λ x. if w % 4 == 1 then x == 0 else x % 4 == 2) e

pub forward-same : (m n : List ℕ) (w : ℕ) → IsPointer w → get_or n (w / 4) 0 ≡ get_or m (w / 4) 0 → (w % 4 ≡ 1 → get_or n (w / 4 + 1) 0 ≡ get_or m (w / 4 + 1) 0) → forward n w ≡ forward m w
forward-same m n w (inl tag) e f = forward-cons n w tag ∙ f tag ∙ sym (forward-cons m w tag)
forward-same m n w (inr tag) e f = forward-boxed n w tag ∙ e ∙ sym (forward-boxed m w tag)

pub size-cons : (p : Plan) (w : ℕ) → w % 4 ≡ 1 → size p w ≡ 2
unfolding size
size-cons p w tag = let one : (w % 4 == 1) ≡ true = ap (λ x. x == 1) tag in rw one refl

pub size-boxed : (p : Plan) (w : ℕ) → w % 4 ≡ 2 → size p w ≡ 1 + get_or p.start (w / 4) 0 / 64
unfolding size
size-boxed p w tag = let one : (w % 4 == 1) ≡ false = ap (λ x. x == 1) tag in rw one refl

pub first-cons : (p : Plan) (w : ℕ) → w % 4 ≡ 1 → first p w ≡ 0
unfolding first
first-cons p w tag = let one : (w % 4 == 1) ≡ true = ap (λ x. x == 1) tag in rw one refl

pub first-boxed : (p : Plan) (w : ℕ) → w % 4 ≡ 2 → first p w ≡ first_of (layout_for (get_or p.start (w / 4) 0)) (1 + get_or p.start (w / 4) 0 / 64)
unfolding first
first-boxed p w tag = let one : (w % 4 == 1) ≡ false = ap (λ x. x == 1) tag in rw one refl

pub size-some : (p : Plan) (w : ℕ) → IsPointer w → 0 < size p w
size-some p w (inl tag) = omega (arith, size-cons p w tag)
size-some p w (inr tag) = omega (arith, size-boxed p w tag)

-- The words that show where an object went are words of it.
pub shows-in : (p : Plan) (w q : ℕ) → IsPointer w → Shows w q → IsIn p w q
shows-in p w q i (inl e) = record { from = omega arith; below = omega (arith, size-some p w i) }
shows-in p w q i (inr (tag, e)) = record { from = omega arith; below = omega (arith, size-cons p w tag) }

pub size-words : (p : Plan) (m : List ℕ) (w : ℕ) → get_or m (w / 4) 0 ≡ get_or p.start (w / 4) 0 → object_words m w ≡ size p w
unfolding size
size-words p m w e = ap (λ h. if w % 4 == 1 then 2 else 1 + h / 64) e

-- The roots reach a traced word.
pub reach-part : (p : Plan) (v k : ℕ) → Reached p v → IsPointer v → first p v ≤ k → k < size p v → Reached p (get_or p.start (v / 4 + k) 0)
unfolding first size
reach-part p v k r i from below = part v k (get_or p.start (v / 4 + k) 0) r i from below refl

pub shows-or-not : (w q : ℕ) → Shows w q ⊎ (Shows w q → ⊥)
shows-or-not w q =
    elim (cases_eq q (w / 4)) [
      | inl e ↦ inl (inl e)
      | inr n ↦ elim (cases_eq (w % 4) 1) [
        | inr t ↦ inr (λ s. elim s [ inl a ↦ n a | inr a ↦ t a.0 ])
        | inl t ↦ elim (cases_eq q (w / 4 + 1)) [ inl e ↦ inl (inr (t, e)) | inr u ↦ inr (λ s. elim s [ inl a ↦ n a | inr a ↦ u a.1 ]) ]
      ]
    ]
