-- The items of a line's terms name only atoms that have numbers.
use Rattle.std.proofs.Common.{ℕ, zero, suc, ◌<◌, List, [], ◌∷◌, ◌++◌, length, map, get_or, arith}
use Rattle.std.specs.Prelude.{All}
use Rattle.plain_term.specs.declared.item.Item.{Item}
use Rattle.plain_term.specs.declared.item.Item.TheVariants as item
use Rattle.script_grammar.specs.Written.{Term, Terms, TermPairs}
use Rattle.script_grammar.specs.Written.Term.{Int, Atom, Pid, Held, Listed, Barred, Tuple, Map, Bin}
use Rattle.script_grammar.specs.Written.Terms.{end, ◌▹◌}
use Rattle.script_grammar.specs.Written.TermPairs.{stop, pair}
use Rattle.script_grammar.specs.Grammar.{IsBuiltTerm, AreBuiltTerms, AreBuiltPairs}
use Rattle.script_grammar.specs.Names.{atoms_of, atoms_of_all, atoms_of_pairs, items_of, listed_items, all_items, pairs_items}
use Rattle.script_grammar.proofs.Naming.{ArePlaced, placed-front, placed-back, number-below}
use Rattle.space_api.specs.Calls.{IsNamedBelow}
use Rattle.space_api.proofs.Naming.{AreNamedBelow}

pub below-append : (count : ℕ) (xs ys : List Item) → AreNamedBelow count xs → AreNamedBelow count ys → AreNamedBelow count (xs ++ ys)
below-append count [] ys h k = k
below-append count (x ∷ xs) ys h k = (h.0, below-append count xs ys h.1 k)

pub below-all : (count : ℕ) (xs : List Item) → AreNamedBelow count xs → All (IsNamedBelow count) xs
below-all count [] h = λ k d less. absurd (omega arith)
below-all count (x ∷ xs) h = λ k. at k (below-all count xs h.1) h.0
  where
    at : (k : ℕ) → All (IsNamedBelow count) xs → IsNamedBelow count x → (d : Item) → k < length (x ∷ xs) → IsNamedBelow count (get_or (x ∷ xs) k d)
    at zero rest first d less = first
    at (suc k) rest first d less = rest k d (omega arith)

-- bytes name nothing
bytes-below : (count : ℕ) (bytes : List ℕ) → AreNamedBelow count (map item.Byte bytes)
bytes-below count [] = tt
bytes-below count (b ∷ bytes) = (tt, bytes-below count bytes)

mutual
  -- the items of a term of the built forms whose atoms have numbers
  pub items-below : (names : List (List ℕ)) (t : Term) → IsBuiltTerm t → ArePlaced names (atoms_of t) → AreNamedBelow (length names) (items_of names t)
  items-below names (Int i) b p = (tt, tt)
  items-below names (Atom a) b p = (number-below names a p.0, tt)
  items-below names (Pid n) b p = (tt, tt)
  items-below names (Held r) b p = (tt, tt)
  items-below names (Listed ts) b p = listed-below names ts (item.Nil ∷ []) b p (tt, tt)
  items-below names (Barred ts t) b p = listed-below names ts (items_of names t) b.0 (placed-front names (atoms_of_all ts) (atoms_of t) p)
      (items-below names t b.1 (placed-back names (atoms_of_all ts) (atoms_of t) p))
  items-below names (Tuple ts) b p = (tt, all-below names ts b p)
  items-below names (Map ps) b p = (tt, pairs-below names ps b p)
  items-below names (Bin bytes) b p = (tt, bytes-below (length names) bytes)

  pub listed-below : (names : List (List ℕ)) (ts : Terms) (tail : List Item) → AreBuiltTerms ts → ArePlaced names (atoms_of_all ts) → AreNamedBelow (length names) tail
      → AreNamedBelow (length names) (listed_items names ts tail)
  listed-below names end tail b p h = h
  listed-below names (t ▹ ts) tail b p h = (
    tt,
    below-append (length names) (items_of names t) (listed_items names ts tail)
        (items-below names t b.0 (placed-front names (atoms_of t) (atoms_of_all ts) p)) (listed-below names ts tail b.1 (placed-back names (atoms_of t) (atoms_of_all ts) p) h),
  )

  pub all-below : (names : List (List ℕ)) (ts : Terms) → AreBuiltTerms ts → ArePlaced names (atoms_of_all ts) → AreNamedBelow (length names) (all_items names ts)
  all-below names end b p = tt
  all-below names (t ▹ ts) b p = below-append (length names) (items_of names t) (all_items names ts)
      (items-below names t b.0 (placed-front names (atoms_of t) (atoms_of_all ts) p)) (all-below names ts b.1 (placed-back names (atoms_of t) (atoms_of_all ts) p))

  pub pairs-below : (names : List (List ℕ)) (ps : TermPairs) → AreBuiltPairs ps → ArePlaced names (atoms_of_pairs ps) → AreNamedBelow (length names) (pairs_items names ps)
  pairs-below names stop b p = tt
  pairs-below names (pair k v ps) b p =
      let later = placed-back names (atoms_of k) (atoms_of v ++ atoms_of_pairs ps) p in
      below-append (length names) (items_of names k) (items_of names v ++ pairs_items names ps)
      (items-below names k b.0 (placed-front names (atoms_of k) (atoms_of v ++ atoms_of_pairs ps) p))
      (below-append (length names) (items_of names v) (pairs_items names ps)
      (items-below names v b.1 (placed-front names (atoms_of v) (atoms_of_pairs ps) later)) (pairs-below names ps b.2 (placed-back names (atoms_of v) (atoms_of_pairs ps) later)))
