-- Laws of `index_of` and `with_name`, by the places where a name stands.
use Rattle.std.proofs.Common.{◌≡◌, ◌≢◌, ℕ, ◌<◌, ◌≤◌, Bool, false, List, [], ◌∷◌, ◌++◌, length, get_or, take, Some, None, refl, sym, ◌∙◌, subst, ⊎_elim, arith}
use Rattle.std.proofs.lemmas.Bool.{lt-ltb, le-ltb, cond-true, cond-false, cases_lt, false_from_ne_true, false≢true}
use Rattle.std.proofs.lemmas.List.{length_push, get_or_push, get_or_append_left, get_or-take, length-take-le, length-append}
use Rattle.std.proofs.lemmas.List.Sums.{position_or_len_is, fails_before_first}
use Rattle.std.proofs.lemmas.List.Quantifiers.{position-Some}
use Rattle.std.proofs.lemmas.Slice.Eq.{bytes_eq-Decides}
use Rattle.std.specs.List.{position_or_len}
use Rattle.std.specs.Str.{bytes_eq}
use Rattle.atom_names.specs.Names.{index_of, with_name, AreNames}
use Rattle.atom_names.specs.declared.names.TheConstants.{MOST_NAMES}
use Rattle.atom_names.specs.declared.row.TheConstants.{LONGEST_NAME}

-- Lists that differ do not pass the test.
pub bytes-differ : (xs ys : List ℕ) → xs ≢ ys → bytes_eq xs ys ≡ false
bytes-differ xs ys h = false_from_ne_true (bytes_eq xs ys) (λ e. h ((bytes_eq-Decides xs ys).0 e))

-- The place of a name, before which it does not stand.
pub index_of-is : (names : List (List ℕ)) (name : List ℕ) (k : ℕ) → k < length names → get_or names k [] ≡ name →
    ((j : ℕ) → j < k → get_or names j [] ≢ name) → index_of names name ≡ Some k
index_of-is names name k h e others =
    let p : List ℕ → Bool = λ x. bytes_eq x name in
    let at : position_or_len p names ≡ k = position_or_len_is p names k [] (omega arith)
    (λ j less. bytes-differ (get_or names j []) name (others j less))
    (λ _. (bytes_eq-Decides (get_or names k []) name).1 e) in
    rw at (cond-true _ (Some k) None (lt-ltb k (length names) h))

-- No place, where the name does not stand.
pub index_of-none : (names : List (List ℕ)) (name : List ℕ) →
    ((j : ℕ) → j < length names → get_or names j [] ≢ name) → index_of names name ≡ None
index_of-none names name others =
    let p : List ℕ → Bool = λ x. bytes_eq x name in
    let at : position_or_len p names ≡ length names = position_or_len_is p names (length names) [] (omega arith)
    (λ j less. bytes-differ (get_or names j []) name (others j less))
    (λ less. absurd (omega arith)) in
    rw at (cond-false _ (Some (length names)) None (le-ltb (length names) (length names) (omega arith)))

-- What `index_of` says where it tells a place.
pub record StandsAt (names : List (List ℕ)) (name : List ℕ) (k : ℕ) : Type 0 where
  pub inside : k < length names
  pub there : get_or names k [] ≡ name
  pub first : (j : ℕ) → j < k → get_or names j [] ≢ name

pub index_of-Some : (names : List (List ℕ)) (name : List ℕ) (k : ℕ) → index_of names name ≡ Some k → StandsAt names name k
index_of-Some names name k e =
    let p : List ℕ → Bool = λ x. bytes_eq x name in
    let h = position-Some p names k [] e in
    record {
      inside = h.0;
      there = (bytes_eq-Decides (get_or names k []) name).0 h.1;
      first = λ j less same. false≢true (sym (h.2 j less) ∙ (bytes_eq-Decides (get_or names j []) name).1 same);
    }

-- A name that has no place stands nowhere.
pub index_of-None : (names : List (List ℕ)) (name : List ℕ) → index_of names name ≡ None →
    (k : ℕ) → k < length names → get_or names k [] ≢ name
index_of-None names name none k h e =
    let p : List ℕ → Bool = λ x. bytes_eq x name in
    ⊎_elim (λ less. let some : index_of names name ≡ Some (position_or_len p names) = cond-true _ _ _ (lt-ltb _ _ less) in cc)
    (λ past. let less : k < position_or_len p names = omega arith in
    false≢true (sym (fails_before_first p names k [] less) ∙ (bytes_eq-Decides (get_or names k []) name).1 e))
    (cases_lt (position_or_len p names) (length names))

-- A new name goes last.
pub with_name-new : (names : List (List ℕ)) (name : List ℕ) → index_of names name ≡ None → with_name names name ≡ names ++ name ∷ []
with_name-new names name e = rw e refl

-- A name that stands changes nothing.
pub with_name-there : (names : List (List ℕ)) (name : List ℕ) (k : ℕ) → index_of names name ≡ Some k → with_name names name ≡ names
with_name-there names name k e = rw e refl

-- A new name's number is the length.
pub index_of-push : (names : List (List ℕ)) (name : List ℕ) (n : ℕ) → length names ≡ n → index_of names name ≡ None →
    index_of (names ++ name ∷ []) name ≡ Some n
index_of-push names name n len none =
    index_of-is (names ++ name ∷ []) name n (omega (arith, length_push names name))
    (get_or_push names name [] n len)
    (λ j h e. index_of-None names name none j (omega arith) (sym (get_or_append_left names (name ∷ []) [] j (omega arith)) ∙ e))

-- A name keeps its number when others come.
pub index_of-append : (names more : List (List ℕ)) (name : List ℕ) (k : ℕ) → index_of names name ≡ Some k →
    index_of (names ++ more) name ≡ Some k
index_of-append names more name k e =
    let h = index_of-Some names name k e in
    index_of-is (names ++ more) name k (omega (arith, length-append names more, h.inside))
    (get_or_append_left names more [] k h.inside ∙ h.there)
    (λ j less same. h.first j less (sym (get_or_append_left names more [] j (omega (arith, h.inside))) ∙ same))

-- A name whose number is among the first n keeps it when the others go.
pub index_of-take : (names : List (List ℕ)) (name : List ℕ) (k n : ℕ) → k < n → n ≤ length names → index_of names name ≡ Some k →
    index_of (take n names) name ≡ Some k
index_of-take names name k n below fits e =
    let h = index_of-Some names name k e in
    index_of-is (take n names) name k (omega (arith, length-take-le n names fits))
    (get_or-take n names k [] below ∙ h.there)
    (λ j less same. h.first j less (sym (get_or-take n names j [] (omega arith)) ∙ same))

pub AreNames_none : AreNames []
AreNames_none = record { few = omega arith; sized = λ k h. absurd (omega arith); once = λ k h. absurd (omega arith) }

pub AreNames_push : (names : List (List ℕ)) (name : List ℕ) → AreNames names → length names < MOST_NAMES → 1 ≤ length name → length name ≤ LONGEST_NAME →
    index_of names name ≡ None → AreNames (names ++ name ∷ [])
AreNames_push names name all room low high none = record {
  few = omega (arith, length_push names name);
  sized = λ k h. ⊎_elim
      (λ less. rw (get_or_append_left names (name ∷ []) [] k less) (all.sized k less))
      (λ past. rw (get_or_push names name [] k (omega (arith, length_push names name))) (low, high))
      (cases_lt k (length names));
  once = λ k h. ⊎_elim
      (λ less. rw (get_or_append_left names (name ∷ []) [] k less) (index_of-append names (name ∷ []) (get_or names k []) k (all.once k less)))
      (λ past. rw (get_or_push names name [] k (omega (arith, length_push names name))) (index_of-push names name k (omega (arith, length_push names name)) none))
      (cases_lt k (length names));
}

pub AreNames_take : (names : List (List ℕ)) (n : ℕ) → AreNames names → n ≤ length names → AreNames (take n names)
AreNames_take names n all fits =
    let len = length-take-le n names fits in
    record {
      few = omega (arith, all.few);
      sized = λ k h. let less : k < n = omega arith in rw (get_or-take n names k [] less) (all.sized k (omega arith));
      once = λ k h. let less : k < n = omega arith in
          rw (get_or-take n names k [] less) (index_of-take names (get_or names k []) k n less fits (all.once k (omega arith)));
    }

-- The number of a name that stands at a place.
pub once-at : (names : List (List ℕ)) (name : List ℕ) (k : ℕ) → AreNames names → k < length names → get_or names k [] ≡ name →
    index_of names name ≡ Some k
once-at names name k all h e = let P : List ℕ → Type 0 = λ x. index_of names x ≡ Some k in subst P e (all.once k h)
