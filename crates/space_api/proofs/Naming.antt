-- Where the items of a written term have atoms below a count of names, so have its atoms.
use Rattle.std.proofs.Common.{ℕ, suc, List, [], ◌∷◌, ◌++◌, length, refl, subst, sym, arith}
use Rattle.std.specs.Prelude.{All}
use Rattle.plain_term.specs.declared.item.Item.{Item}
use Rattle.plain_term.specs.declared.item.Item.TheVariants as item
use Rattle.script_grammar.specs.Written.{Term, Terms, TermPairs}
use Rattle.script_grammar.specs.Written.Term.{Int, Atom, Pid, Held, Listed, Barred, Tuple, Map, Bin}
use Rattle.script_grammar.specs.Written.Terms.{end, ◌▹◌}
use Rattle.script_grammar.specs.Written.TermPairs.{stop, pair}
use Rattle.script_grammar.specs.Names.{atoms_of, atoms_of_all, atoms_of_pairs, items_of, listed_items, all_items, pairs_items}
use Rattle.plain_machine.proofs.Properly.Making.{HaveNumbers}
use Rattle.plain_machine.proofs.Properly.Holding.{Builds, Environs}
use Rattle.space_api.specs.Calls.{HasEnv, IsNamedBelow, IsWrittenTerm, one_term}

-- items whose atoms have numbers below a count
abbrev pub AreNamedBelow : ℕ → List Item → Type 0
AreNamedBelow count [] = Unit {0}
AreNamedBelow count (i ∷ items) = IsNamedBelow count i × AreNamedBelow count items

pub below-all : (count : ℕ) (xs : List Item) → All (IsNamedBelow count) xs → AreNamedBelow count xs
below-all count [] h = tt
below-all count (x ∷ xs) h = (h 0 x (omega arith), below-all count xs (λ k d less. h (suc k) d (omega (arith, less))))

below-front : (count : ℕ) (xs ys : List Item) → AreNamedBelow count (xs ++ ys) → AreNamedBelow count xs
below-front count [] ys h = tt
below-front count (x ∷ xs) ys h = (h.0, below-front count xs ys h.1)

below-back : (count : ℕ) (xs ys : List Item) → AreNamedBelow count (xs ++ ys) → AreNamedBelow count ys
below-back count [] ys h = h
below-back count (x ∷ xs) ys h = below-back count xs ys h.1

both : (names xs ys : List (List ℕ)) → HaveNumbers names xs → HaveNumbers names ys → HaveNumbers names (xs ++ ys)
both names [] ys h k = k
both names (x ∷ xs) ys h k = (h.0, both names xs ys h.1 k)

module _ (names : List (List ℕ)) where
  mutual
    numbers-term : (t : Term) → AreNamedBelow (length names) (items_of names t) → HaveNumbers names (atoms_of t)
    numbers-term (Int i) h = tt
    numbers-term (Atom a) h = (h.0, tt)
    numbers-term (Pid n) h = tt
    numbers-term (Held r) h = tt
    numbers-term (Listed ts) h = (numbers-listed ts (item.Nil ∷ []) h).0
    numbers-term (Barred ts t) h = let k = numbers-listed ts (items_of names t) h in both names (atoms_of_all ts) (atoms_of t) k.0 (numbers-term t k.1)
    numbers-term (Tuple ts) h = numbers-all ts h.1
    numbers-term (Map ps) h = numbers-pairs ps h.1
    numbers-term (Bin bytes) h = tt

    numbers-listed : (ts : Terms) (tail : List Item) → AreNamedBelow (length names) (listed_items names ts tail) → HaveNumbers names (atoms_of_all ts) × AreNamedBelow (length names) tail
    numbers-listed end tail h = (tt, h)
    numbers-listed (t ▹ ts) tail h =
        let k = numbers-listed ts tail (below-back (length names) (items_of names t) (listed_items names ts tail) h.1) in
        (both names (atoms_of t) (atoms_of_all ts) (numbers-term t (below-front (length names) (items_of names t) (listed_items names ts tail) h.1)) k.0, k.1)

    numbers-all : (ts : Terms) → AreNamedBelow (length names) (all_items names ts) → HaveNumbers names (atoms_of_all ts)
    numbers-all end h = tt
    numbers-all (t ▹ ts) h = both names (atoms_of t) (atoms_of_all ts) (numbers-term t (below-front (length names) (items_of names t) (all_items names ts) h))
        (numbers-all ts (below-back (length names) (items_of names t) (all_items names ts) h))

    numbers-pairs : (ps : TermPairs) → AreNamedBelow (length names) (pairs_items names ps) → HaveNumbers names (atoms_of_pairs ps)
    numbers-pairs stop h = tt
    numbers-pairs (pair k v ps) h =
        let rest = below-back (length names) (items_of names k) (items_of names v ++ pairs_items names ps) h in
        both names (atoms_of k) (atoms_of v ++ atoms_of_pairs ps) (numbers-term k (below-front (length names) (items_of names k) (items_of names v ++ pairs_items names ps) h))
        (both names (atoms_of v) (atoms_of_pairs ps) (numbers-term v (below-front (length names) (items_of names v) (pairs_items names ps) rest))
        (numbers-pairs ps (below-back (length names) (items_of names v) (pairs_items names ps) rest)))

-- a term of `build` is one of which the machine makes a proper tree
pub builds : (names : List (List ℕ)) (code : List Item) (t : Term) → IsWrittenTerm names code t → All (IsNamedBelow (length names)) code → Builds (one_term t) names
builds names code t is named = record {
  term = t;
  one = refl;
  built = is.built;
  allowed = is.allowed;
  numbers = numbers-term names t (subst (AreNamedBelow (length names)) (sym is.items) (below-all (length names) code named));
}

-- so is the environment of `make_fun`
pub environs : (names : List (List ℕ)) (name : ℕ) (env : List Item) (terms : Terms) → HasEnv names name env terms → Environs name terms names
environs names name env terms h = record { registers = h.registers; written = h.written; known = h.known }
