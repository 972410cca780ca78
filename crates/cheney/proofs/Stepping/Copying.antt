-- The writes of one move are those of a copy that its object shows.
use Rattle.std.proofs.Common.{◌≡◌, ℕ, ◌+◌, ◌*◌, ◌/◌, ◌%◌, ◌<◌, ◌≤◌, ◌⊎◌, List, length, get_or, set, refl, ◌∙◌, ap, arith, inl, inr}
use Rattle.std.proofs.lemmas.Bool.Decides.{nat_tests}
use Rattle.std.proofs.lemmas.List.{length-set, get_or-set_other, get_or-set_same}
use Rattle.cheney.specs.Moved.{Copies}
use Rattle.cheney.proofs.Before.Basics.{moved-cons, moved-boxed, forward-cons, forward-boxed}

other-of : (old new : List ℕ) (a v : ℕ) → new ≡ set old a v → (q : ℕ) → (q ≡ a → ⊥) → get_or new q 0 ≡ get_or old q 0
other-of old new a v e q ne = ap (λ m. get_or m q 0) e ∙ get_or-set_other old a q v 0 ne

same-of : (old new : List ℕ) (a v : ℕ) → new ≡ set old a v → a < length old → get_or new a 0 ≡ v
same-of old new a v e less = ap (λ m. get_or m a 0) e ∙ (rw get_or-set_same refl)

length-of : (old new : List ℕ) (a v : ℕ) → new ≡ set old a v → length new ≡ length old
length-of old new a v e = ap length e ∙ length-set old a v

module _ (m a b d n : List ℕ) (w to head tail : ℕ) (tag : w % 4 ≡ 1) (h : head ≡ get_or m (w / 4) 0) (t : tail ≡ get_or m (w / 4 + 1) 0) (within : w / 4 + 2 ≤ length m) (fits : to + 2 ≤ length m)
    (apart : (w / 4 + 2 ≤ to) ⊎ (to + 2 ≤ w / 4)) (e1 : a ≡ set m to head) (e2 : b ≡ set a (to + 1) tail) (e3 : d ≡ set b (w / 4) 0) (e4 : n ≡ set d (w / 4 + 1) (to * 4 + 1)) where
  len-a : length a ≡ length m
  len-a = length-of m a to head e1

  len-b : length b ≡ length m
  len-b = length-of a b (to + 1) tail e2 ∙ len-a

  len-d : length d ≡ length m
  len-d = length-of b d (w / 4) 0 e3 ∙ len-b

  -- A word that is not one of the two that show the move is that of the second step.
  after-b : (q : ℕ) → (q ≡ w / 4 → ⊥) → (q ≡ w / 4 + 1 → ⊥) → get_or n q 0 ≡ get_or b q 0
  after-b q x y = other-of d n (w / 4 + 1) (to * 4 + 1) e4 q y ∙ other-of b d (w / 4) 0 e3 q x

  at-to : get_or n to 0 ≡ head
  at-to = after-b to (λ e. omega (arith, apart)) (λ e. omega (arith, apart)) ∙ other-of a b (to + 1) tail e2 to (λ e. omega arith) ∙ same-of m a to head e1 (omega arith)

  at-next : get_or n (to + 1) 0 ≡ tail
  at-next = after-b (to + 1) (λ e. omega (arith, apart)) (λ e. omega (arith, apart)) ∙ same-of a b (to + 1) tail e2 (omega (arith, len-a))

  at-head : get_or n (w / 4) 0 ≡ 0
  at-head = other-of d n (w / 4 + 1) (to * 4 + 1) e4 (w / 4) (λ e. omega arith) ∙ same-of b d (w / 4) 0 e3 (omega (arith, len-b))

  at-tail : get_or n (w / 4 + 1) 0 ≡ to * 4 + 1
  at-tail = same-of d n (w / 4 + 1) (to * 4 + 1) e4 (omega (arith, len-d))

  pub cons-copies : Copies m n w to 2 (to * 4 + 1)
  cons-copies = record {
    same_len = length-of d n (w / 4 + 1) (to * 4 + 1) e4 ∙ len-d;
    word = omega arith;
    copied = λ j q less e.
        let which : (j ≡ 0) ⊎ (j ≡ 1) = grind arith in
        elim which [
          | inl z ↦ ap (λ x. get_or n x 0) (omega arith) ∙ at-to ∙ h ∙ ap (λ x. get_or m x 0) (omega arith)
          | inr z ↦ ap (λ x. get_or n x 0) (omega arith) ∙ at-next ∙ t ∙ ap (λ x. get_or m x 0) (omega arith)
        ];
    shown = moved-cons n w tag ∙ (rw at-head refl);
    found = forward-cons n w tag ∙ at-tail;
    rest = λ q away hides. after-b q (λ e. hides (inl e)) (λ e. hides (inr (tag, e))) ∙ other-of a b (to + 1) tail e2 q (λ e. omega (arith, away)) ∙ other-of m a to head e1 q
        (λ e. omega (arith, away));
  }

module _ (m a b n : List ℕ) (w to header rest : ℕ) (tag : w % 4 ≡ 2) (h : header ≡ get_or m (w / 4) 0) (size : rest ≡ header / 64) (within : w / 4 + (1 + rest) ≤ length m)
    (fits : to + (1 + rest) ≤ length m)
    (apart : (w / 4 + (1 + rest) ≤ to) ⊎ (to + (1 + rest) ≤ w / 4)) (len-a : length a ≡ length m)
    (brought : (p q : ℕ) → to + 1 ≤ q → q < to + 1 + rest → p + (to + 1) ≡ q + (w / 4 + 1) → get_or a q 0 ≡ get_or m p 0)
    (stayed : (q : ℕ) → (q < to + 1) ⊎ (to + 1 + rest ≤ q) → get_or a q 0 ≡ get_or m q 0)
    (e2 : b ≡ set a to header) (e3 : n ≡ set b (w / 4) (to * 4 + 2)) where
  len-b2 : length b ≡ length m
  len-b2 = length-of a b to header e2 ∙ len-a

  at-place : get_or n (w / 4) 0 ≡ to * 4 + 2
  at-place = same-of b n (w / 4) (to * 4 + 2) e3 (omega (arith, len-b2))

  pub boxed-copies : Copies m n w to (1 + rest) (to * 4 + 2)
  boxed-copies = record {
    same_len = length-of b n (w / 4) (to * 4 + 2) e3 ∙ len-b2;
    word = omega arith;
    copied = λ j q less e.
        let off : q ≡ w / 4 → ⊥ = λ x. omega (arith, apart) in
        let which : (j ≡ 0) ⊎ (0 < j) = grind arith in
        elim which [
          | inl z ↦ other-of b n (w / 4) (to * 4 + 2) e3 q off ∙ ap (λ x. get_or b x 0) (omega arith) ∙ same-of a b to header e2 (omega (arith, len-a)) ∙ h ∙ ap (λ x. get_or m x 0) (omega arith)
          | inr z ↦ other-of b n (w / 4) (to * 4 + 2) e3 q off ∙ other-of a b to header e2 q (λ x. omega arith) ∙ brought (w / 4 + j) q (omega arith) (omega arith) (omega arith)
        ];
    shown = moved-boxed n w tag ∙ (let two : (to * 4 + 2) % 4 ≡ 2 = omega arith in rw at-place (grind (arith, nat_tests)));
    found = forward-boxed n w tag ∙ at-place;
    rest = λ q away hides. other-of b n (w / 4) (to * 4 + 2) e3 q (λ e. hides (inl e)) ∙ other-of a b to header e2 q (λ e. omega (arith, away)) ∙ stayed q
        (elim away [ inl z ↦ inl (omega arith) | inr z ↦ inr (omega arith) ]);
  }
