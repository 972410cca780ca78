-- Reading a test, and what was found.
use Rattle.std.proofs.Common.{◌≡◌, ℕ, ◌≢◌, ◌⊎◌, Bool, true, false, not, nat_eq, ◌||◌, ◌&&◌, cond, List, [], ◌∷◌, Option, Some, None, refl, ap, inl, inr, eqb-true, eq-eqb}
use Rattle.script_grammar.specs.Grammar.{is_blank}
use Rattle.script_parse.specs.Reading.{then_read, found_or}

-- A test with its answer.
pub chosen : {A : Type 0} (b : Bool) {x y z : A} → cond b x y ≡ z → ((b ≡ true) × (x ≡ z)) ⊎ ((b ≡ false) × (y ≡ z))
chosen true e = inl (refl, e)
chosen false e = inr (refl, e)

-- What was found, where something came of it.
pub read-some : {A B : Type 0} (r : Option A) (f : A → Option B) {y : B} → then_read r f ≡ Some y → (x : A) × (r ≡ Some x) × (f x ≡ Some y)
read-some None f e = cc
read-some (Some x) f e = (x, refl, e)

-- Found one way or the other.
pub found-cases : {A B : Type 0} (r : Option A) (f : A → B) (d : B) {z : B} → found_or r f d ≡ z → ((x : A) × (r ≡ Some x) × (f x ≡ z)) ⊎ ((r ≡ None) × (d ≡ z))
found-cases None f d e = inr (refl, e)
found-cases (Some x) f d e = inl (x, refl, e)

pub inside : {A : Type 0} {x y : A} → Some x ≡ Some y → x ≡ y
inside e = cc

-- Both parts of what was found.
pub both : {A B : Type 0} {x y : A × B} → Some x ≡ Some y → (x.0 ≡ y.0) × (x.1 ≡ y.1)
both {A} {B} e = let j = inside e in (ap (λ (r : A × B). r.0) j, ap (λ (r : A × B). r.1) j)

pub either-false : (a b : Bool) → (a || b) ≡ false → (a ≡ false) × (b ≡ false)
either-false true b e = cc
either-false false b e = (refl, e)

pub either-true : (a b : Bool) → (a || b) ≡ true → (a ≡ true) ⊎ (b ≡ true)
either-true true b e = inl refl
either-true false b e = inr e

pub both-true : (a b : Bool) → (a && b) ≡ true → (a ≡ true) × (b ≡ true)
both-true true b e = (refl, e)
both-true false b e = cc

-- A blank is one of two bytes.
pub blank-is : (b : ℕ) → is_blank b ≡ true → (b ≡ 32) ⊎ (b ≡ 9)
blank-is b h = elim (either-true (nat_eq b 32) (nat_eq b 9) h) [ inl e ↦ inl (eqb-true b 32 e) | inr e ↦ inr (eqb-true b 9 e) ]

-- A byte of a kind that blanks are not of is no blank.
pub not-blank : (p : ℕ → Bool) (b : ℕ) → p 32 ≡ false → p 9 ≡ false → p b ≡ true → is_blank b ≡ false
not-blank p b f g h = elim (is_blank b) as (λ t. (t ≡ true → (b ≡ 32) ⊎ (b ≡ 9)) → t ≡ false) [
  | true ↦ λ k. elim (k refl) [
    | inl e ↦ let c : p 32 ≡ true = rw e at h in cc
    | inr e ↦ let c : p 9 ≡ true = rw e at h in cc
  ]
  | false ↦ λ k. refl
] (blank-is b)

pub unequal : (a b : ℕ) → a ≢ b → nat_eq a b ≡ false
unequal a b h = elim (nat_eq a b) as (λ t. ((t ≡ true) → a ≡ b) → t ≡ false) [ true ↦ λ d. absurd (h (d refl)) | false ↦ λ d. refl ] (eqb-true a b)

-- A byte of a kind is none that is not of it.
pub apart : (p : ℕ → Bool) (b c : ℕ) → p c ≡ false → p b ≡ true → b ≢ c
apart p b c f h e = let g : p c ≡ true = rw e at h in cc

-- A blank is not of a kind that blanks are not of.
pub blank-not : (p : ℕ → Bool) (b : ℕ) → p 32 ≡ false → p 9 ≡ false → is_blank b ≡ true → p b ≡ false
blank-not p b f g h = elim (blank-is b h) [ inl e ↦ rw e f | inr e ↦ rw e g ]

-- Numbers that do not pass the test are apart.
pub far : (a b : ℕ) → nat_eq a b ≡ false → a ≢ b
far a b h e = let t : nat_eq a b ≡ true = eq-eqb a b e in cc

pub false-not : false ≡ true → ⊥
false-not e = cc

pub none-some : {A : Type 0} {x : A} → None ≡ Some x → ⊥
none-some e = cc

-- None of the bytes passes the test.
abbrev pub far_from : (ℕ → Bool) → List ℕ → Bool
far_from p [] = true
far_from p (m ∷ ms) = not (p m) && far_from p ms

not-true : (b : Bool) → not b ≡ true → b ≡ false
not-true true e = cc
not-true false e = refl

-- A byte that passes is none of them.
abbrev pub IsNone : ℕ → List ℕ → Type 0
IsNone b [] = Unit {0}
IsNone b (m ∷ ms) = (nat_eq b m ≡ false) × IsNone b ms

pub none-of : (p : ℕ → Bool) (b : ℕ) (ms : List ℕ) → far_from p ms ≡ true → p b ≡ true → IsNone b ms
none-of p b [] h e = tt
none-of p b (m ∷ ms) h e = let k : (not (p m) ≡ true) × (far_from p ms ≡ true) = both-true (not (p m)) (far_from p ms) h in
    (unequal b m (apart p b m (not-true (p m) (k.0)) e), none-of p b ms (k.1) e)
