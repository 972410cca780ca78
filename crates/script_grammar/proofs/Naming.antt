-- The names that a line brings: those before stay in place, and each atom of the line has its number.
use Rattle.std.proofs.Common.{◌≡◌, ℕ, ◌<◌, ◌≤◌, Bool, true, false, cond, List, [], ◌∷◌, ◌++◌, length, take, Option, Some, None, refl, sym, ap, ◌∙◌, arith, append_assoc, append-nil, length-append}
use Rattle.std.specs.Prelude.{is_some}
use Rattle.atom_names.specs.Names.{index_of, with_name}
use Rattle.atom_names.proofs.Places.{index_of-Some, index_of-push, index_of-append}
use Rattle.script_grammar.specs.Names.{number_of, with_names}

-- names go last
pub with-name-more : (names : List (List ℕ)) (a : List ℕ) → (more : List (List ℕ)) × (with_name names a ≡ names ++ more)
with-name-more names a = at (is_some (index_of names a)) names a
  where
    at : (b : Bool) (names : List (List ℕ)) (a : List ℕ) → (more : List (List ℕ)) × (cond b names (names ++ a ∷ []) ≡ names ++ more)
    at true names a = ([], sym (append-nil names))
    at false names a = (a ∷ [], refl)

pub with-names-more : (names atoms : List (List ℕ)) → (more : List (List ℕ)) × (with_names names atoms ≡ names ++ more)
with-names-more names [] = ([], sym (append-nil names))
with-names-more names (a ∷ atoms) =
    let one : (more : List (List ℕ)) × (with_name names a ≡ names ++ more) = with-name-more names a in
    let rest : (more : List (List ℕ)) × (with_names (with_name names a) atoms ≡ with_name names a ++ more) = with-names-more (with_name names a) atoms in
    (one.0 ++ rest.0, rest.1 ∙ ap (λ l. l ++ rest.0) one.1 ∙ append_assoc names one.0 rest.0)

-- taking the new names back leaves those before
pub names-back : (names atoms : List (List ℕ)) → take (length names) (with_names names atoms) ≡ names
names-back names atoms =
    let m : (more : List (List ℕ)) × (with_names names atoms ≡ names ++ more) = with-names-more names atoms in
    ap (take (length names)) m.1 ∙ take-all names m.0
  where
    take-all : (xs more : List (List ℕ)) → take (length xs) (xs ++ more) ≡ xs
    take-all [] more = refl
    take-all (x ∷ xs) more = ap (λ l. x ∷ l) (take-all xs more)

pub names-longer : (names atoms : List (List ℕ)) → length names ≤ length (with_names names atoms)
names-longer names atoms =
    let m : (more : List (List ℕ)) × (with_names names atoms ≡ names ++ more) = with-names-more names atoms in
    omega (arith, ap length m.1, length-append names m.0)

-- the name has a number
abbrev pub IsPlaced : List (List ℕ) → List ℕ → Type 0
IsPlaced names a = (k : ℕ) × (index_of names a ≡ Some k)

abbrev pub ArePlaced : List (List ℕ) → List (List ℕ) → Type 0
ArePlaced names [] = Unit {0}
ArePlaced names (a ∷ atoms) = IsPlaced names a × ArePlaced names atoms

pub placed-front : (names xs ys : List (List ℕ)) → ArePlaced names (xs ++ ys) → ArePlaced names xs
placed-front names [] ys h = tt
placed-front names (x ∷ xs) ys h = (h.0, placed-front names xs ys h.1)

pub placed-back : (names xs ys : List (List ℕ)) → ArePlaced names (xs ++ ys) → ArePlaced names ys
placed-back names [] ys h = h
placed-back names (x ∷ xs) ys h = placed-back names xs ys h.1

-- a name that is put in has a number
pub with-name-placed : (names : List (List ℕ)) (a : List ℕ) → IsPlaced (with_name names a) a
with-name-placed names a = at (index_of names a) names a refl
  where
    at : (o : Option ℕ) (names : List (List ℕ)) (a : List ℕ) → index_of names a ≡ o → IsPlaced (cond (is_some o) names (names ++ a ∷ [])) a
    at None names a e = (length names, index_of-push names a (length names) refl e)
    at (Some k) names a e = (k, e)

pub with-names-placed : (names atoms : List (List ℕ)) → ArePlaced (with_names names atoms) atoms
with-names-placed names [] = tt
with-names-placed names (a ∷ atoms) =
    let m : (more : List (List ℕ)) × (with_names (with_name names a) atoms ≡ with_name names a ++ more) = with-names-more (with_name names a) atoms in
    let p : IsPlaced (with_name names a) a = with-name-placed names a in
    ((p.0, ap (λ l. index_of l a) m.1 ∙ index_of-append (with_name names a) m.0 a p.0 p.1), with-names-placed (with_name names a) atoms)

-- the number of a name that has one
pub number-below : (names : List (List ℕ)) (a : List ℕ) → IsPlaced names a → number_of names a < length names
number-below names a p = rw (p.1) ((index_of-Some names a p.0 p.1).inside)
