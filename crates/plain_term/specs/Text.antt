-- The text of a term, in bytes.
use Rattle.std.specs.Prelude.{ℕ, Bool, true, false, List, [], ◌∷◌, ◌++◌, codes, decimal}
use Rattle.std.specs.Fmt.{signed_decimal}
use Rattle.plain_term.specs.Tree.{Tree, Trees, Pairs}
use Rattle.plain_term.specs.Tree.Tree.{Int, Atom, Pid, Ref, Nil, Cons, Tuple, Map, Bin, Shared, Part, Fun}
use Rattle.plain_term.specs.Tree.Trees.{end, ◌▹◌}
use Rattle.plain_term.specs.Tree.Pairs.{stop, pair}
use Rattle.plain_term.specs.Bytes.{bytes_of}
use Rattle.plain_term.specs.Order.{name_of}

-- Numbers in decimal, each but the first after a comma.
abbrev pub more_numbers : List ℕ → List ℕ
more_numbers [] = []
more_numbers (n ∷ ns) = codes "," ++ (decimal n ++ more_numbers ns)

-- Numbers in decimal, divided by commas.
abbrev pub numbers_text : List ℕ → List ℕ
numbers_text [] = []
numbers_text (n ∷ ns) = decimal n ++ more_numbers ns

-- A binary: its bytes in decimal between double angle brackets.
abbrev pub binary_text : List ℕ → List ℕ
binary_text bytes = codes "<<" ++ (numbers_text bytes ++ codes ">>")

-- A term's text as it stands, or as the improper tail that ends a list.
abbrev pub placed : (tail : Bool) → List ℕ → List ℕ
placed false text = text
placed true text = codes "|" ++ (text ++ codes "]")

abbrev mutual
  -- The text of a term, or of what follows in a list whose tail is the term.
  pub text_as : (names shared : List (List ℕ)) (tail : Bool) → Tree → List ℕ
  text_as names shared tail (Int i) = placed tail (signed_decimal i)
  text_as names shared tail (Atom k) = placed tail (name_of names k)
  text_as names shared false Nil = codes "[]"
  text_as names shared true Nil = codes "]"
  text_as names shared false (Cons h t) = codes "[" ++ (text_as names shared false h ++ text_as names shared true t)
  text_as names shared true (Cons h t) = codes "," ++ (text_as names shared false h ++ text_as names shared true t)
  text_as names shared tail (Tuple ts) = placed tail (codes "{" ++ (text_of_all names shared ts ++ codes "}"))
  text_as names shared tail (Map ps) = placed tail (codes "#{" ++ (text_of_pairs names shared ps ++ codes "}"))
  text_as names shared tail (Bin bytes) = placed tail (binary_text bytes)
  text_as names shared tail (Shared id) = placed tail (binary_text (bytes_of shared (Shared id)))
  text_as names shared tail (Part base offset len) = placed tail (binary_text (bytes_of shared (Part base offset len)))
  text_as names shared tail (Pid n) = placed tail (codes "<0." ++ (decimal n ++ codes ".0>"))
  text_as names shared tail (Ref n k) = placed tail (codes "#Ref<0." ++ (decimal n ++ (codes "." ++ (decimal k ++ codes ">"))))
  text_as names shared tail (Fun f arity creator env) = placed tail (codes "#Fun<" ++ (name_of names f ++ (codes "/" ++ (decimal arity ++ codes ">"))))

  -- The texts of terms, divided by commas.
  pub text_of_all : (names shared : List (List ℕ)) → Trees → List ℕ
  text_of_all names shared end = []
  text_of_all names shared (t ▹ ts) = text_as names shared false t ++ more_terms names shared ts

  -- The texts of terms, each after a comma.
  pub more_terms : (names shared : List (List ℕ)) → Trees → List ℕ
  more_terms names shared end = []
  more_terms names shared (t ▹ ts) = codes "," ++ (text_as names shared false t ++ more_terms names shared ts)

  -- The texts of pairs, divided by commas.
  pub text_of_pairs : (names shared : List (List ℕ)) → Pairs → List ℕ
  text_of_pairs names shared stop = []
  text_of_pairs names shared (pair k v ps) = text_as names shared false k ++ (codes "=>" ++ (text_as names shared false v ++ more_pairs names shared ps))

  -- The texts of pairs, each after a comma.
  pub more_pairs : (names shared : List (List ℕ)) → Pairs → List ℕ
  more_pairs names shared stop = []
  more_pairs names shared (pair k v ps) =
      codes "," ++ (text_as names shared false k ++ (codes "=>" ++ (text_as names shared false v ++ more_pairs names shared ps)))

-- The text of a term.
abbrev pub text : (names shared : List (List ℕ)) → Tree → List ℕ
text names shared t = text_as names shared false t
