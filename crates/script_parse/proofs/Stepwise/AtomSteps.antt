-- Atoms and words as they are read, and as the grammar has them.
use Rattle.std.proofs.Common.{◌≡◌, ℕ, suc, ◌≤◌, Bool, true, false, nat_eq, nat_le, cond, List, [], ◌∷◌, ◌++◌, length, take, drop, Some, None, refl, sym, ◌∙◌, ap, subst, inl, inr, arith, one-add}
use Rattle.atom_names.specs.declared.row.TheConstants.{LONGEST_NAME}
use Rattle.std.specs.List.{prefix_len}
use Rattle.std.proofs.lemmas.Bool.{le-leb, leb-true}
use Rattle.std.proofs.lemmas.List.{take-append-drop}
use Rattle.std.proofs.Math.Seq.{take-append_seam, drop-append_seam}
use Rattle.std.proofs.lemmas.List.Folds.{length-prefix_len}
use Rattle.script_grammar.specs.Grammar.{is_small_letter, is_name_byte, AreAll, IsName}
use Rattle.script_parse.specs.Reading.{atom_at, is_solid, word_at, after_word}
use Rattle.script_parse.proofs.Stepwise.Tools.{chosen, both}
use Rattle.script_parse.proofs.Stepwise.Tools.{unequal}
use Rattle.script_parse.proofs.Stepwise.GapSteps.{Stops}

take-step : (p : ℕ → Bool) (b : ℕ) (xs : List ℕ) (t : Bool) → p b ≡ t → AreAll p (take (prefix_len p xs) xs) → AreAll p (take (prefix_len p (b ∷ xs)) (b ∷ xs))
take-step p b xs true e ih = let k : prefix_len p (b ∷ xs) ≡ suc (prefix_len p xs) = rw (e, one-add) refl in
    let P : ℕ → Type 0 = λ z. AreAll p (take z (b ∷ xs)) in subst P (sym k) (e, ih)
take-step p b xs false e ih = let k : prefix_len p (b ∷ xs) ≡ 0 = rw e refl in
    let P : ℕ → Type 0 = λ z. AreAll p (take z (b ∷ xs)) in subst P (sym k) tt

pub take-all : (p : ℕ → Bool) (xs : List ℕ) → AreAll p (take (prefix_len p xs) xs)
take-all p [] = tt
take-all p (b ∷ xs) = take-step p b xs (p b) refl (take-all p xs)

pub prefix-exact : (p : ℕ → Bool) (xs rest : List ℕ) → AreAll p xs → Stops p rest → prefix_len p (xs ++ rest) ≡ length xs
prefix-exact p [] [] h s = refl
prefix-exact p [] (b ∷ rest) h s = rw s refl
prefix-exact p (x ∷ xs) rest h s = rw (h.0, prefix-exact p xs rest (h.1) s, one-add) refl

-- An atom that was read.
pub record Named (name line rest : List ℕ) : Type 0 where
  pub whole : line ≡ name ++ rest
  pub is_name : IsName name

named-len : (b : ℕ) (bytes : List ℕ) → is_small_letter b ≡ true → prefix_len is_name_byte (b ∷ bytes) ≡ suc (prefix_len is_name_byte bytes)
named-len b bytes h = rw (h, one-add) refl

pub atom-read : (b : ℕ) (bytes name rest : List ℕ) → is_small_letter b ≡ true → atom_at (b ∷ bytes) ≡ Some (name, rest) → Named name (b ∷ bytes) rest
atom-read b bytes name rest small h = let k : cond (nat_eq (suc (prefix_len is_name_byte bytes)) 0) None (cond (nat_le (suc (prefix_len is_name_byte bytes)) LONGEST_NAME)
    (Some (b ∷ take (prefix_len is_name_byte bytes) bytes, drop (prefix_len is_name_byte bytes) bytes)) None) ≡ Some (name, rest) = rw (named-len b bytes small) at h in
    elim (chosen (nat_eq (suc (prefix_len is_name_byte bytes)) 0) k) [
      | inl e ↦ let none : None ≡ Some (name, rest) = e.1 in cc
      | inr e ↦ elim (chosen (nat_le (suc (prefix_len is_name_byte bytes)) LONGEST_NAME) (e.1)) [
        | inl f ↦ let j : ((b ∷ take (prefix_len is_name_byte bytes) bytes) ≡ name) × (drop (prefix_len is_name_byte bytes) bytes ≡ rest) = both (f.1) in
            let P : List ℕ → Type 0 = λ z. Named z (b ∷ bytes) rest in
            let short : suc (prefix_len is_name_byte bytes) ≤ LONGEST_NAME = leb-true (suc (prefix_len is_name_byte bytes)) LONGEST_NAME (f.0) in
            subst P (j.0) (record {
              whole = ap (λ (r : List ℕ). b ∷ r) (sym (take-append-drop (prefix_len is_name_byte bytes) bytes) ∙ ap (λ (r : List ℕ). take (prefix_len is_name_byte bytes) bytes ++ r) (j.1));
              is_name = (small, take-all is_name_byte bytes, omega (arith, length-prefix_len is_name_byte bytes));
            })
        | inr f ↦ let none : None ≡ Some (name, rest) = f.1 in cc
      ]
    ]

-- An atom that the grammar has is read.
pub atom-found : (name rest : List ℕ) → IsName name → Stops is_name_byte rest → atom_at (name ++ rest) ≡ Some (name, rest)
atom-found [] rest h s = absurd h
atom-found (b ∷ bytes) rest h s = let whole : AreAll is_name_byte (b ∷ bytes) = (rw (h.0) refl, h.1) in
    rw (
      prefix-exact is_name_byte (b ∷ bytes) rest whole s,
      unequal (length (b ∷ bytes)) 0 (λ q. omega arith),
      le-leb (length (b ∷ bytes)) LONGEST_NAME (omega (arith, h.2)),
      take-append_seam (b ∷ bytes) rest,
      drop-append_seam (b ∷ bytes) rest,
    ) refl

-- A word that stands before a blank or the end is read.
pub word-found : (text rest : List ℕ) → AreAll is_solid text → Stops is_solid rest → (word_at (text ++ rest) ≡ text) × (after_word (text ++ rest) ≡ rest)
word-found text rest h s = (rw (prefix-exact is_solid text rest h s) (take-append_seam text rest), rw (prefix-exact is_solid text rest h s) (drop-append_seam text rest))
