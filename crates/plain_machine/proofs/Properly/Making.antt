-- What a written term of the built forms makes: a proper tree, over the shared binaries with its own at their end.
use Rattle.std.proofs.Common.{◌≡◌, ℕ, suc, ◌+◌, ◌-◌, ◌^◌, ◌<◌, Bool, true, false, cond, ◌||◌, ◌&&◌, not, nat_lt, nat_le, List, [], ◌∷◌, ◌++◌, length, get_or, refl, sym, ap, subst, ◌∙◌, lt-ltb, append-nil, append_assoc, length-append, arith}
use Rattle.std.specs.Prelude.{All}
use Rattle.std.proofs.lemmas.Bool.{and_from, le-leb, or_parts}
use Rattle.plain_term.specs.Tree.{Tree, Trees, Pairs}
use Rattle.plain_term.specs.Tree.{Tree as tree}
use Rattle.plain_term.specs.Beyond.{is_beyond}
use Rattle.plain_term.specs.Measures.{magnitude}
use Rattle.plain_term.specs.InOrder.{in_order}
use Rattle.plain_term.specs.Proper.{is_proper, are_proper, are_proper_pairs, are_bytes}
use Rattle.plain_term.proofs.Putting.{in-order-rises}
use Rattle.script_grammar.specs.Written.{Term, Terms, TermPairs}
use Rattle.script_grammar.specs.Written.Term.{Int, Atom, Pid, Held, Listed, Barred, Tuple, Map, Bin}
use Rattle.script_grammar.specs.Written.Terms.{end, ◌▹◌}
use Rattle.script_grammar.specs.Written.TermPairs.{stop, pair}
use Rattle.script_grammar.specs.Grammar.{MayStand, AllMayStand, PairsMayStand, IsBuiltTerm, AreBuiltTerms, AreBuiltPairs}
use Rattle.script_grammar.specs.Names.{number_of, atoms_of, atoms_of_all, atoms_of_pairs, held_terms}
use Rattle.plain_machine.specs.Made.{tree_of, trees_of_terms, trees_of_pairs, bin_tree}
use Rattle.plain_machine.specs.Flaws.{is_wide, are_wide, are_wide_pairs, has_many_keys, is_big, are_big, are_big_pairs, makes_big_key}
use Rattle.plain_machine.specs.Laws.{AreProper, AreWithin}
use Rattle.script_grammar.proofs.Naming.{ArePlaced, number-below}
use Rattle.plain_machine.proofs.Properly.Growing.{proper-grown, beyond-grown}
use Rattle.plain_machine.proofs.Properly.Putting.{pairs-join, in-order-proper}
use Rattle.plain_machine.proofs.Properly.Parts.{at-proper, map-proper, list-proper}

-- each of the atoms has a number
abbrev pub HaveNumbers : List (List ℕ) → List (List ℕ) → Type 0
HaveNumbers names [] = Unit {0}
HaveNumbers names (a ∷ atoms) = (number_of names a < length names) × HaveNumbers names atoms

numbers-front : (names xs ys : List (List ℕ)) → HaveNumbers names (xs ++ ys) → HaveNumbers names xs
numbers-front names [] ys h = tt
numbers-front names (x ∷ xs) ys h = (h.0, numbers-front names xs ys h.1)

numbers-back : (names xs ys : List (List ℕ)) → HaveNumbers names (xs ++ ys) → HaveNumbers names ys
numbers-back names [] ys h = h
numbers-back names (x ∷ xs) ys h = numbers-back names xs ys h.1

pub placed-numbers : (names atoms : List (List ℕ)) → ArePlaced names atoms → HaveNumbers names atoms
placed-numbers names [] h = tt
placed-numbers names (a ∷ atoms) h = (number-below names a h.0, placed-numbers names atoms h.1)

-- more byte lists stand behind those that there were
pub record Extends (old new : List (List ℕ)) : Type 0 where
  pub more : List (List ℕ)
  pub are : new ≡ old ++ more

pub extends-none : (s : List (List ℕ)) → Extends s s
extends-none s = record { more = []; are = sym (append-nil s) }

pub extends-then : (a b c : List (List ℕ)) → Extends a b → Extends b c → Extends a c
extends-then a b c h k = record { more = h.more ++ k.more; are = k.are ∙ (ap (λ z. z ++ k.more) h.are ∙ append_assoc a h.more k.more) }

-- the tree of bytes, by whether they are few
abbrev bin_by : Bool → List ℕ → List (List ℕ) → Tree × List (List ℕ)
bin_by true bytes shared = (tree.Bin bytes, shared)
bin_by false bytes shared = (tree.Shared (length shared + 1), shared ++ bytes ∷ [])

bin-by : (bytes : List ℕ) (shared : List (List ℕ)) → bin_tree bytes shared ≡ bin_by (nat_le (length bytes) 64) bytes shared
bin-by bytes shared = at (nat_le (length bytes) 64)
  where
    at : (b : Bool) → cond b (tree.Bin bytes, shared) (tree.Shared (length shared + 1), shared ++ bytes ∷ []) ≡ bin_by b bytes shared
    at true = refl
    at false = refl

-- a binary brings one at most
pub bin-more : (bytes : List ℕ) (shared : List (List ℕ)) → Extends shared ((bin_tree bytes shared).1)
bin-more bytes shared = subst (λ (z : Tree × List (List ℕ)). Extends shared (z.1)) (sym (bin-by bytes shared)) (at (nat_le (length bytes) 64))
  where
    at : (b : Bool) → Extends shared ((bin_by b bytes shared).1)
    at true = extends-none shared
    at false = record { more = bytes ∷ []; are = refl }

-- a term brings some
mutual
  pub made-more : (names : List (List ℕ)) (given : List Tree) (t : Term) (shared : List (List ℕ)) → Extends shared ((tree_of names given t shared).1)
  made-more names given (Int i) shared = extends-none shared
  made-more names given (Atom a) shared = extends-none shared
  made-more names given (Pid k) shared = extends-none shared
  made-more names given (Held r) shared = extends-none shared
  made-more names given (Listed ts) shared = all-made-more names given ts shared
  made-more names given (Barred ts t) shared = let heads : Trees × List (List ℕ) = trees_of_terms names given ts shared in
      extends-then shared (heads.1) ((tree_of names given t (heads.1)).1) (all-made-more names given ts shared) (made-more names given t (heads.1))
  made-more names given (Tuple ts) shared = all-made-more names given ts shared
  made-more names given (Map qs) shared = pairs-made-more names given qs shared
  made-more names given (Bin bytes) shared = bin-more bytes shared

  pub all-made-more : (names : List (List ℕ)) (given : List Tree) (ts : Terms) (shared : List (List ℕ)) → Extends shared ((trees_of_terms names given ts shared).1)
  all-made-more names given end shared = extends-none shared
  all-made-more names given (t ▹ ts) shared = let first : Tree × List (List ℕ) = tree_of names given t shared in
      extends-then shared (first.1) ((trees_of_terms names given ts (first.1)).1) (made-more names given t shared) (all-made-more names given ts (first.1))

  pub pairs-made-more : (names : List (List ℕ)) (given : List Tree) (qs : TermPairs) (shared : List (List ℕ)) → Extends shared ((trees_of_pairs names given qs shared).1)
  pairs-made-more names given stop shared = extends-none shared
  pairs-made-more names given (pair k v qs) shared =
      let key : Tree × List (List ℕ) = tree_of names given k shared in
      let value : Tree × List (List ℕ) = tree_of names given v (key.1) in
      extends-then shared (key.1) ((trees_of_pairs names given qs (value.1)).1) (made-more names given k shared)
      (extends-then (key.1) (value.1) ((trees_of_pairs names given qs (value.1)).1) (made-more names given v (key.1)) (pairs-made-more names given qs (value.1)))

-- a key that is neither wide nor a big one is within the walk limit
key-within : (wide beyond : Bool) → (not wide && beyond) ≡ false → wide ≡ false → beyond ≡ false
key-within true beyond h w = absurd (cc)
key-within false beyond h w = h

-- bytes of a written binary
written-bytes : (bytes : List ℕ) → All (λ b. b < 256) bytes → are_bytes bytes ≡ true
written-bytes [] h = refl
written-bytes (b ∷ bytes) h = and_from (nat_lt b 256) (are_bytes bytes) (lt-ltb b 256 (h 0 b (omega arith))) (written-bytes bytes (λ k d less. h (suc k) d (omega (arith, less))))

module _ (names : List (List ℕ)) where
  -- a proper tree where there are more shared binaries
  pub more-proper : (old new : List (List ℕ)) (t : Tree) → Extends old new → is_proper names old t ≡ true → is_proper names new t ≡ true
  more-proper old new t x h =
      let P : List (List ℕ) → Type 0 = λ z. is_proper z new t ≡ true in
      let Q : List (List ℕ) → Type 0 = λ z. is_proper (names ++ []) z t ≡ true in
      subst P (append-nil names) (subst Q (sym x.are) (proper-grown names [] old x.more t h))

  pub all-more-proper : (old new : List (List ℕ)) (ts : List Tree) → Extends old new → AreProper names old ts → AreProper names new ts
  all-more-proper old new [] x h = tt
  all-more-proper old new (t ∷ ts) x h = (more-proper old new t x h.0, all-more-proper old new ts x h.1)

  -- one within the walk limit stays so
  more-within : (old new : List (List ℕ)) (t : Tree) → Extends old new → is_proper names old t ≡ true → is_beyond old t ≡ false → is_beyond new t ≡ false
  more-within old new t x h within =
      let P : List (List ℕ) → Type 0 = λ z. is_beyond z t ≡ false in
      subst P (sym x.are) (beyond-grown names [] old x.more t h ∙ within)

  pub all-more-within : (old new : List (List ℕ)) (ts : List Tree) → Extends old new → AreProper names old ts → AreWithin old ts → AreWithin new ts
  all-more-within old new [] x h w = tt
  all-more-within old new (t ∷ ts) x h w = (more-within old new t x h.0 w.0, all-more-within old new ts x h.1 w.1)

  -- a binary of bytes
  pub bin-proper : (bytes : List ℕ) (shared : List (List ℕ)) → are_bytes bytes ≡ true → is_proper names ((bin_tree bytes shared).1) ((bin_tree bytes shared).0) ≡ true
  bin-proper bytes shared h =
      subst (λ (z : Tree × List (List ℕ)). is_proper names (z.1) (z.0) ≡ true) (sym (bin-by bytes shared)) (at (nat_le (length bytes) 64) refl)
    where
      at : (b : Bool) → nat_le (length bytes) 64 ≡ b → is_proper names ((bin_by b bytes shared).1) ((bin_by b bytes shared).0) ≡ true
      at true e = and_from (nat_le (length bytes) 64) (are_bytes bytes) e h
      at false e = and_from (nat_lt 0 (length shared + 1)) (nat_le (length shared + 1) (length (shared ++ bytes ∷ [])))
          (lt-ltb 0 (length shared + 1) (omega arith)) (le-leb (length shared + 1) (length (shared ++ bytes ∷ [])) (omega (arith, length-append shared (bytes ∷ []))))

  module _ (given : List Tree) where
    mutual
      -- the tree of a term of the built forms whose atoms have numbers, and whose maps can be made
      pub made-proper : (levels : ℕ) (t : Term) (before : List (List ℕ)) → AreProper names before given → IsBuiltTerm t → MayStand levels t → HaveNumbers names (atoms_of t)
          → is_wide names given t before ≡ false → is_big names given t before ≡ false → is_proper names ((tree_of names given t before).1) ((tree_of names given t before).0) ≡ true
      made-proper levels (Int i) before a b m p w g = lt-ltb (magnitude i) (2 ^ 127) m
      made-proper levels (Atom x) before a b m p w g = lt-ltb (number_of names x) (length names) p.0
      made-proper levels (Pid n) before a b m p w g = refl
      made-proper levels (Held r) before a b m p w g = at-proper names before given r a
      made-proper levels (Listed ts) before a b m p w g =
          let all : Trees × List (List ℕ) = trees_of_terms names given ts before in
          list-proper names (all.1) (all.0) tree.Nil (all-made-proper (levels - 1) ts before a b m.1 p w g) refl
      made-proper levels (Barred ts t) before a b m p w g =
          let heads : Trees × List (List ℕ) = trees_of_terms names given ts before in
          let last : Tree × List (List ℕ) = tree_of names given t (heads.1) in
          let x = or_parts (are_wide names given ts before) (is_wide names given t (heads.1)) w in
          let y = or_parts (are_big names given ts before) (is_big names given t (heads.1)) g in
          list-proper names (last.1) (heads.0) (last.0)
          (more-proper (heads.1) (last.1) (tree.Tuple (heads.0)) (made-more names given t (heads.1))
          (all-made-proper (levels - 1) ts before a b.0 m.2 (numbers-front names (atoms_of_all ts) (atoms_of t) p) x.0 y.0))
          (made-proper (levels - 1) t (heads.1) (all-more-proper before (heads.1) given (all-made-more names given ts before) a) b.1 m.3
          (numbers-back names (atoms_of_all ts) (atoms_of t) p) x.1 y.1)
      made-proper levels (Tuple ts) before a b m p w g = all-made-proper (levels - 1) ts before a b m.1 p w g
      made-proper levels (Map qs) before a b m p w g =
          let all : Pairs × List (List ℕ) = trees_of_pairs names given qs before in
          let x = or_parts (has_many_keys names given qs before) (are_wide_pairs names given qs before) w in
          map-proper names (all.1) (in_order names (all.1) (all.0)) x.0
          (in-order-rises names (all.1) (all.0))
          (in-order-proper names (all.1) (all.0) (pairs-made-proper (levels - 1) qs before a b m.1 p x.1 g))
      made-proper levels (Bin bytes) before a b m p w g = bin-proper bytes before (written-bytes bytes m.1)

      pub all-made-proper : (levels : ℕ) (ts : Terms) (before : List (List ℕ)) → AreProper names before given → AreBuiltTerms ts → AllMayStand levels ts → HaveNumbers names (atoms_of_all ts)
          → are_wide names given ts before ≡ false → are_big names given ts before ≡ false → are_proper names ((trees_of_terms names given ts before).1) ((trees_of_terms names given ts before).0)
          ≡ true
      all-made-proper levels end before a b m p w g = refl
      all-made-proper levels (t ▹ ts) before a b m p w g =
          let first : Tree × List (List ℕ) = tree_of names given t before in
          let others : Trees × List (List ℕ) = trees_of_terms names given ts (first.1) in
          let x = or_parts (is_wide names given t before) (are_wide names given ts (first.1)) w in
          let y = or_parts (is_big names given t before) (are_big names given ts (first.1)) g in
          and_from (is_proper names (others.1) (first.0)) (are_proper names (others.1) (others.0))
          (more-proper (first.1) (others.1) (first.0) (all-made-more names given ts (first.1))
          (made-proper levels t before a b.0 m.0 (numbers-front names (atoms_of t) (atoms_of_all ts) p) x.0 y.0))
          (all-made-proper levels ts (first.1) (all-more-proper before (first.1) given (made-more names given t before) a) b.1 m.1
          (numbers-back names (atoms_of t) (atoms_of_all ts) p) x.1 y.1)

      pub pairs-made-proper : (levels : ℕ) (qs : TermPairs) (before : List (List ℕ)) → AreProper names before given → AreBuiltPairs qs → PairsMayStand levels qs → HaveNumbers names (atoms_of_pairs qs)
          → are_wide_pairs names given qs before ≡ false → are_big_pairs names given qs before ≡ false
          → are_proper_pairs names ((trees_of_pairs names given qs before).1) ((trees_of_pairs names given qs before).0) ≡ true
      pairs-made-proper levels stop before a b m p w g = refl
      pairs-made-proper levels (pair k v qs) before a b m p w g =
          let key : Tree × List (List ℕ) = tree_of names given k before in
          let value : Tree × List (List ℕ) = tree_of names given v (key.1) in
          let others : Pairs × List (List ℕ) = trees_of_pairs names given qs (value.1) in
          let later = numbers-back names (atoms_of k) (atoms_of v ++ atoms_of_pairs qs) p in
          let x = or_parts (is_wide names given k before) (is_wide names given v (key.1) || are_wide_pairs names given qs (value.1)) w in
          let xx = or_parts (is_wide names given v (key.1)) (are_wide_pairs names given qs (value.1)) x.1 in
          let y = or_parts (makes_big_key names given k before) (is_big names given k before || (is_big names given v (key.1) || are_big_pairs names given qs (value.1))) g in
          let yy = or_parts (is_big names given k before) (is_big names given v (key.1) || are_big_pairs names given qs (value.1)) y.1 in
          let yyy = or_parts (is_big names given v (key.1)) (are_big_pairs names given qs (value.1)) yy.1 in
          let rest : Extends (value.1) (others.1) = pairs-made-more names given qs (value.1) in
          let behind : Extends (key.1) (others.1) = extends-then (key.1) (value.1) (others.1) (made-more names given v (key.1)) rest in
          let after : AreProper names (key.1) given = all-more-proper before (key.1) given (made-more names given k before) a in
          let proper : is_proper names (key.1) (key.0) ≡ true =
          made-proper levels k before a b.0 m.0 (numbers-front names (atoms_of k) (atoms_of v ++ atoms_of_pairs qs) p) x.0 yy.0 in
          pairs-join names (others.1) (key.0) (value.0) (others.0) (record {
            key = more-proper (key.1) (others.1) (key.0) behind proper;
            within = more-within (key.1) (others.1) (key.0) behind proper (key-within (is_wide names given k before) (is_beyond (key.1) (key.0)) y.0 x.0);
            value = more-proper (value.1) (others.1) (value.0) rest
                (made-proper levels v (key.1) after b.1 m.1 (numbers-front names (atoms_of v) (atoms_of_pairs qs) later) xx.0 yyy.0);
          })
          (pairs-made-proper levels qs (value.1) (all-more-proper (key.1) (value.1) given (made-more names given v (key.1)) after) b.2 m.2
          (numbers-back names (atoms_of v) (atoms_of_pairs qs) later) xx.1 yyy.1)

    -- the trees of registers that are written as an environment
    pub held-proper : (rs : List ℕ) (shared : List (List ℕ)) → AreProper names shared given → are_proper names shared ((trees_of_terms names given (held_terms rs) shared).0) ≡ true
    held-proper [] shared a = refl
    held-proper (r ∷ rs) shared a = and_from (is_proper names shared (get_or given r tree.Nil)) (are_proper names shared ((trees_of_terms names given (held_terms rs) shared).0))
        (at-proper names shared given r a) (held-proper rs shared a)
