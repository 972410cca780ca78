-- What the kind of a word tells of its tag and its place.
use Rattle.std.proofs.Common.{◌≡◌, ℕ, ◌/◌, ◌%◌, ◌^◌, ◌<◌, ◌≤◌, List, length, subst, arith}
use Rattle.term_tags.specs.Kinds.{ReadsAs}
use Rattle.term_tags.specs.declared.kinds.Kind.{Kind}
use Rattle.term_tags.specs.declared.kinds.Kind.TheVariants.{ListAt, BoxedAt}
use Rattle.term_words.specs.Stands.{IsTerm}
use Rattle.term_words.proofs.ByKind.Inside.{cons-inside, boxed-inside}

list-read : (w p : ℕ) → ReadsAs w (ListAt p) → (w % 4 ≡ 1) × (p ≡ w / 4)
list-read w p r = (omega arith, omega arith)

boxed-read : (w p : ℕ) → ReadsAs w (BoxedAt p) → (w % 4 ≡ 2) × (p ≡ w / 4)
boxed-read w p r = (omega arith, omega arith)

pub list-kind : (w p : ℕ) (k : Kind) → ReadsAs w k → k ≡ ListAt p → (w % 4 ≡ 1) × (p ≡ w / 4)
list-kind w p k r e = let P : Kind → Type 0 = λ x. ReadsAs w x in list-read w p (subst P e r)

pub boxed-kind : (w p : ℕ) (k : Kind) → ReadsAs w k → k ≡ BoxedAt p → (w % 4 ≡ 2) × (p ≡ w / 4)
boxed-kind w p k r e = let P : Kind → Type 0 = λ x. ReadsAs w x in boxed-read w p (subst P e r)

-- A pointer that stands is in the range of pointers.

pub list-near : (mem : List ℕ) (w : ℕ) → IsTerm mem w → length mem ≤ 2 ^ 24 → w % 4 ≡ 1 → w < 2 ^ 26
list-near mem w i most tag = omega (arith, cons-inside mem w i tag)

pub boxed-near : (mem : List ℕ) (w : ℕ) → IsTerm mem w → length mem ≤ 2 ^ 24 → w % 4 ≡ 2 → w < 2 ^ 26
boxed-near mem w i most tag = omega (arith, boxed-inside mem w i tag)
