-- The objects of the memory that is relocated as a row.
use Rattle.std.proofs.Common.{◌≡◌, ℕ, ◌%◌, ◌≤◌, List, [], ◌∷◌, length, refl, sym, ap, subst, arith, inl, inr, lit≤}
use Rattle.std.specs.Prelude.{Result, Ok, IfOk}
use Rattle.term_words.specs.Object.{IsPointer}
use Rattle.term_words.specs.Counted.{In}
use Rattle.object_rows.specs.Row.{AreObjects, IsRow}

abbrev pub row_sample : List ℕ
row_sample = 0 ∷ 0 ∷ 79 ∷ 18 ∷ 352 ∷ 2 ∷ 0 ∷ 40 ∷ 0 ∷ 0 ∷ 404 ∷ 45 ∷ 4 ∷ 2 ∷ 1 ∷ 19 ∷ 9 ∷ 128 ∷ 42 ∷ 79 ∷ 296 ∷ 1 ∷ 0 ∷ 0 ∷ 18 ∷ 72 ∷ 41 ∷ 42 ∷ 0 ∷ 0 ∷ 42 ∷ 79 ∷ 9 ∷ 0 ∷ []

abbrev objects : List ℕ
objects = 9 ∷ 18 ∷ 42 ∷ 70 ∷ 82 ∷ 102 ∷ []

pointers : (w : ℕ) → In w objects → IsPointer w
pointers w (inl e) = inl (ap (λ x. x % 4) e)
pointers w (inr (inl e)) = inr (ap (λ x. x % 4) e)
pointers w (inr (inr (inl e))) = inr (ap (λ x. x % 4) e)
pointers w (inr (inr (inr (inl e)))) = inr (ap (λ x. x % 4) e)
pointers w (inr (inr (inr (inr (inl e))))) = inr (ap (λ x. x % 4) e)
pointers w (inr (inr (inr (inr (inr (inl e)))))) = inr (ap (λ x. x % 4) e)
pointers w (inr (inr (inr (inr (inr (inr i)))))) = absurd i

are-objects : AreObjects row_sample 2 objects 27
are-objects = record {
  row = (
    refl,
    inl (refl, λ z. omega (arith, z)),
    (
      refl,
      inr (inl (refl, (record { words = 6; first = 6; count = 0 }, refl))),
      (
        refl,
        inr (inl (refl, (record { words = 7; first = 6; count = 1 }, refl))),
        (
          refl,
          inr (inl (refl, (record { words = 3; first = 1; count = 2 }, refl))),
          (
            refl,
            inr (inl (refl, (record { words = 5; first = 4; count = 1 }, refl))),
            (refl, inr (inl (refl, (record { words = 2; first = 2; count = 0 }, refl))), refl),
          ),
        ),
      ),
    ),
  );
  objects = pointers;
}

laid-is : {E : Type 0} (r : Result (List ℕ) E) (m : List ℕ) → r ≡ Ok m → IfOk r (λ x. x ≡ row_sample) → m ≡ row_sample
laid-is {E} r m e h = let P : Result (List ℕ) E → Type 0 = λ x. IfOk x (λ z. z ≡ row_sample) in subst P e h

pub is-row : {E : Type 0} (r : Result (List ℕ) E) (m : List ℕ) → r ≡ Ok m → IfOk r (λ x. x ≡ row_sample) → IsRow m 2 27
is-row r m e h =
    let P : List ℕ → Type 0 = λ x. IsRow x 2 27 in
    let here : IsRow row_sample 2 27 = record { ws = objects; are = are-objects; inside = lit≤ tt } in
    subst P (sym (laid-is r m e h)) here

pub still-inside : {E : Type 0} (r : Result (List ℕ) E) (m new : List ℕ) → r ≡ Ok m → IfOk r (λ x. x ≡ row_sample) → length new ≡ length m → 33 ≤ length new
still-inside r m new e h same =
    let long : length m ≡ 34 = ap length (laid-is r m e h) in
    omega (arith, same, long)
