-- The objects of the memory of holders and funs as a row.
use Rattle.std.proofs.Common.{◌≡◌, ℕ, ◌+◌, ◌%◌, ◌<◌, ◌≤◌, List, [], ◌∷◌, length, refl, sym, ap, subst, arith, inl, inr, lit≤, lit<}
use Rattle.std.specs.Prelude.{Result, Ok, IfOk}
use Rattle.term_words.specs.Role.{roles_of, COUNT}
use Rattle.term_words.specs.Object.{IsPointer, IsRecord}
use Rattle.term_words.specs.Counted.{In}
use Rattle.shared_rec.specs.Record.{count_in}
use Rattle.off_heap_list.specs.Links.{named, IsLink}
use Rattle.object_rows.specs.Row.{AreObjects, IsRow, links_in}
use Rattle.object_rows.specs.Raised.{CanRaise}
use Rattle.object_rows.specs.Dropped.{CanDrop}
use Rattle.chain_tests.proofs.Sharers.{sample, role, link-of, record-far, record-place}

abbrev objects : List ℕ
objects = 10 ∷ 34 ∷ 58 ∷ 82 ∷ 110 ∷ []

abbrev later : List ℕ
later = 58 ∷ 82 ∷ 110 ∷ []

pointers : (w : ℕ) → In w objects → IsPointer w
pointers w (inl e) = inr (ap (λ x. x % 4) e)
pointers w (inr (inl e)) = inr (ap (λ x. x % 4) e)
pointers w (inr (inr (inl e))) = inr (ap (λ x. x % 4) e)
pointers w (inr (inr (inr (inl e)))) = inr (ap (λ x. x % 4) e)
pointers w (inr (inr (inr (inr (inl e))))) = inr (ap (λ x. x % 4) e)
pointers w (inr (inr (inr (inr (inr i))))) = absurd i

are-objects : AreObjects sample 2 objects 34
are-objects = record {
  row = (
    refl,
    inr (inl (refl, (record { words = 6; first = 6; count = 0 }, refl))),
    (
      refl,
      inr (inl (refl, (record { words = 6; first = 6; count = 0 }, refl))),
      (
        refl,
        inr (inl (refl, (record { words = 6; first = 6; count = 0 }, refl))),
        (
          refl,
          inr (inl (refl, (record { words = 7; first = 6; count = 1 }, refl))),
          (refl, inr (inl (refl, (record { words = 7; first = 6; count = 1 }, refl))), refl),
        ),
      ),
    ),
  );
  objects = pointers;
}

are-later : AreObjects sample 14 later 34
are-later = record {
  row = (
    refl,
    inr (inl (refl, (record { words = 6; first = 6; count = 0 }, refl))),
    (
      refl,
      inr (inl (refl, (record { words = 7; first = 6; count = 1 }, refl))),
      (refl, inr (inl (refl, (record { words = 7; first = 6; count = 1 }, refl))), refl),
    ),
  );
  objects = λ w i. pointers w (inr (inr i));
}

-- The memory that was laid out is this one.

laid-is : {E : Type 0} (r : Result (List ℕ) E) (m : List ℕ) → r ≡ Ok m → IfOk r (λ x. x ≡ sample) → m ≡ sample
laid-is {E} r m e h = let P : Result (List ℕ) E → Type 0 = λ x. IfOk x (λ z. z ≡ sample) in subst P e h

pub is-row : {E : Type 0} (r : Result (List ℕ) E) (m : List ℕ) → r ≡ Ok m → IfOk r (λ x. x ≡ sample) → IsRow m 2 34
is-row r m e h =
    let P : List ℕ → Type 0 = λ x. IsRow x 2 34 in
    let here : IsRow sample 2 34 = record { ws = objects; are = are-objects; inside = lit≤ tt } in
    subst P (sym (laid-is r m e h)) here

links-each : (p : ℕ) → In p (links_in sample objects) → IsLink (roles_of role) sample p
links-each p (inl e) = link-of p (inr (inr (inr (inr (inl e)))))
links-each p (inr (inl e)) = link-of p (inr (inr (inr (inl e))))
links-each p (inr (inr (inl e))) = link-of p (inr (inr (inl e)))
links-each p (inr (inr (inr (inl e)))) = link-of p (inr (inl e))
links-each p (inr (inr (inr (inr (inl e))))) = link-of p (inl e)
links-each p (inr (inr (inr (inr (inr i))))) = absurd i

counts-few : (v n : ℕ) → IsRecord (roles_of role) sample v n → count_in sample v < 8388608
counts-few v n there =
    let P : ℕ → Type 0 = λ x. count_in sample x < 8388608 in
    elim (record-place v n there) [ inl e ↦ subst P (sym e) (lit< tt) | inr (inl e) ↦ subst P (sym e) (lit< tt) | inr (inr e) ↦ subst P (sym e) (lit< tt) ]

pub can-raise : {E : Type 0} (r : Result (List ℕ) E) (m : List ℕ) → r ≡ Ok m → IfOk r (λ x. x ≡ sample) → CanRaise m 2 34
can-raise r m e h =
    let P : List ℕ → Type 0 = λ x. CanRaise x 2 34 in
    let here : CanRaise sample 2 34 = record {
      ws = objects;
      are = are-objects;
      inside = lit≤ tt;
      test = roles_of role;
      each = links-each;
      counts = counts-few;
      clear = λ q low high t. omega (arith, high, record-far q COUNT t (inl refl));
    } in
    subst P (sym (laid-is r m e h)) here

abbrev first-of : List ℕ → ℕ
first-of [] = 0
first-of (x ∷ xs) = x

pub can-drop : {E : Type 0} (r : Result (List ℕ) E) (m : List ℕ) → r ≡ Ok m → IfOk r (λ x. x ≡ sample) → CanDrop m 14 34
can-drop r m e h =
    let P : List ℕ → Type 0 = λ x. CanDrop x 14 34 in
    let here : CanDrop sample 14 34 = record {
      ws = later;
      are = are-later;
      inside = lit≤ tt;
      first = λ p ps same.
          let at : 14 ≡ p = ap first-of same in
          let Q : ℕ → Type 0 = λ x. (named sample x + 4 ≤ length sample) × (1 ≤ count_in sample (named sample x)) in
          subst Q at (lit≤ tt, lit≤ tt);
    } in
    subst P (sym (laid-is r m e h)) here
