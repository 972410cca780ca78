-- Which written terms have a map that cannot be made: one with too many keys, or with a key beyond the walk limit.
use Rattle.std.specs.Prelude.{ℕ, Bool, true, false, ◌||◌, ◌&&◌, not, List, Option, Some, None}
use Rattle.plain_term.specs.Tree.{Tree, Pairs}
use Rattle.plain_term.specs.Beyond.{is_beyond}
use Rattle.plain_term.specs.InOrder.{in_order}
use Rattle.script_grammar.specs.declared.refusal.Refusal.{Refusal}
use Rattle.script_grammar.specs.declared.refusal.Refusal.TheVariants.{Big, MapSize}
use Rattle.script_grammar.specs.Written.{Term, Terms, TermPairs}
use Rattle.script_grammar.specs.Written.Term.{Listed, Barred, Tuple, Map}
use Rattle.script_grammar.specs.Written.Terms.{end, ◌▹◌}
use Rattle.script_grammar.specs.Written.TermPairs.{stop, pair}
use Rattle.plain_machine.specs.Made.{tree_of, trees_of_terms, trees_of_pairs, too_many}

-- The written pairs have more different keys than a map may have.
abbrev pub has_many_keys : (names : List (List ℕ)) (held : List Tree) → TermPairs → (shared : List (List ℕ)) → Bool
has_many_keys names held ps shared = let all : Pairs × List (List ℕ) = trees_of_pairs names held ps shared in
    too_many (in_order names (all.1) (all.0))

abbrev mutual
  -- A term is or holds, as it is written, a map with too many different keys.
  pub is_wide : (names : List (List ℕ)) (held : List Tree) → Term → (shared : List (List ℕ)) → Bool
  is_wide names held (Listed ts) shared = are_wide names held ts shared
  is_wide names held (Barred ts t) shared = are_wide names held ts shared || is_wide names held t ((trees_of_terms names held ts shared).1)
  is_wide names held (Tuple ts) shared = are_wide names held ts shared
  is_wide names held (Map ps) shared = has_many_keys names held ps shared || are_wide_pairs names held ps shared
  is_wide names held _ shared = false

  -- One of the terms does.
  pub are_wide : (names : List (List ℕ)) (held : List Tree) → Terms → (shared : List (List ℕ)) → Bool
  are_wide names held end shared = false
  are_wide names held (t ▹ ts) shared = is_wide names held t shared || are_wide names held ts ((tree_of names held t shared).1)

  -- One of the keys or values does.
  pub are_wide_pairs : (names : List (List ℕ)) (held : List Tree) → TermPairs → (shared : List (List ℕ)) → Bool
  are_wide_pairs names held stop shared = false
  are_wide_pairs names held (pair k v ps) shared = let key : Tree × List (List ℕ) = tree_of names held k shared in
      let value : Tree × List (List ℕ) = tree_of names held v (key.1) in
      is_wide names held k shared || (is_wide names held v (key.1) || are_wide_pairs names held ps (value.1))

-- A written key that is not wide makes a tree beyond the walk limit.
abbrev pub makes_big_key : (names : List (List ℕ)) (held : List Tree) → Term → (shared : List (List ℕ)) → Bool
makes_big_key names held k shared = let key : Tree × List (List ℕ) = tree_of names held k shared in
    not (is_wide names held k shared) && is_beyond (key.1) (key.0)

abbrev mutual
  -- A term is or holds, as it is written, a map with such a key.
  pub is_big : (names : List (List ℕ)) (held : List Tree) → Term → (shared : List (List ℕ)) → Bool
  is_big names held (Listed ts) shared = are_big names held ts shared
  is_big names held (Barred ts t) shared = are_big names held ts shared || is_big names held t ((trees_of_terms names held ts shared).1)
  is_big names held (Tuple ts) shared = are_big names held ts shared
  is_big names held (Map ps) shared = are_big_pairs names held ps shared
  is_big names held _ shared = false

  -- One of the terms does.
  pub are_big : (names : List (List ℕ)) (held : List Tree) → Terms → (shared : List (List ℕ)) → Bool
  are_big names held end shared = false
  are_big names held (t ▹ ts) shared = is_big names held t shared || are_big names held ts ((tree_of names held t shared).1)

  -- One of the keys is one, or a key or a value holds a map with one.
  pub are_big_pairs : (names : List (List ℕ)) (held : List Tree) → TermPairs → (shared : List (List ℕ)) → Bool
  are_big_pairs names held stop shared = false
  are_big_pairs names held (pair k v ps) shared = let key : Tree × List (List ℕ) = tree_of names held k shared in
      let value : Tree × List (List ℕ) = tree_of names held v (key.1) in
      makes_big_key names held k shared || (is_big names held k shared || (is_big names held v (key.1) || are_big_pairs names held ps (value.1)))

-- Why a written term is refused, if it is: a key beyond the walk limit comes before too many keys.
abbrev pub flaw_of : (big wide : Bool) → Option Refusal
flaw_of true wide = Some Big
flaw_of false true = Some MapSize
flaw_of false false = None
