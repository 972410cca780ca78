-- Maps of the store: which lines are answered by one, and which texts they may be answered by.
use Rattle.std.specs.Prelude.{ℕ, ◌≡◌, ◌+◌, ◌*◌, ◌<◌, ◌≤◌, ◌==◌, if◌then◌else◌, Bool, true, false, List, [], ◌∷◌, ◌++◌, length, map, flat_map, codes, decimal}
use Rattle.std.specs.Ordering.{nat_cmp, ordering_then}
use Rattle.std.specs.declared.cmp.Ordering.{Ordering}
use Rattle.std.specs.declared.cmp.Ordering.TheVariants.{Less}
use Rattle.plain_term.specs.Order.{bytes_order, name_of}
use Rattle.term_words.specs.Counted.{In}
use Rattle.script_grammar.specs.declared.command.Command.{Command}
use Rattle.script_grammar.specs.declared.command.Command.TheVariants.{Process, System}
use Rattle.script_grammar.specs.declared.command.Verb.TheVariants.{Info, Heap}
use Rattle.script_grammar.specs.declared.command.SysVerb.TheVariants.{Counts, Dump}
use Rattle.plain_machine.specs.declared.limits.TheConstants.{MOST_ARITY}
use Rattle.plain_machine.specs.State.{State}
use Rattle.plain_machine.specs.Tightness.{ids_in, funs_in, living_trees}
use Rattle.plain_machine.specs.Texts.{divided}

-- The table of the map lines.
abbrev pub is_map : Command → Bool
is_map (Process number Info) = true
is_map (Process number Heap) = true
is_map (System Counts) = true
is_map (System Dump) = true
is_map _ = false

-- What `counts` lists of the record of a shared binary: its id, and how many name it.
pub record CountedBin : Type 0 where
  pub id : ℕ
  pub count : ℕ

-- What it lists of the record of a fun: the number of its name, its arity, and how many name it.
pub record CountedFun : Type 0 where
  pub name : ℕ
  pub arity : ℕ
  pub count : ℕ

-- The entry of a shared binary.
abbrev pub bin_text : CountedBin → List ℕ
bin_text b = decimal b.id ++ (codes ":" ++ decimal b.count)

-- The entry of a fun.
abbrev pub fun_text : (names : List (List ℕ)) → CountedFun → List ℕ
fun_text names f = name_of names f.name ++ (codes "/" ++ (decimal f.arity ++ (codes ":" ++ decimal f.count)))

-- The text of `counts`.
abbrev pub counts_text : (names : List (List ℕ)) → List CountedBin → List CountedFun → List ℕ
counts_text names bins funs = codes "bins [" ++ (divided (map bin_text bins) ++ (codes "] funs [" ++ (divided (map (fun_text names) funs) ++ codes "]")))

-- The ids rise from above a number on, and none is above the last that was given.
abbrev pub AreIds : (above last : ℕ) → List CountedBin → Type 0
AreIds above last [] = Unit {0}
AreIds above last (b ∷ bins) = (above < b.id) × (b.id ≤ last) × AreIds b.id last bins

-- Funs by the bytes of their names, and then by arity.
abbrev pub fun_order : (names : List (List ℕ)) → CountedFun → CountedFun → Ordering
fun_order names f g = ordering_then (bytes_order (name_of names f.name) (name_of names g.name)) (nat_cmp f.arity g.arity)

-- The fun is less than the first of the others.
abbrev pub IsBelow : (names : List (List ℕ)) → CountedFun → List CountedFun → Type 0
IsBelow names f [] = Unit {0}
IsBelow names f (g ∷ funs) = fun_order names f g ≡ Less

-- The funs rise in this order. Each has a name that is known, and an arity that a fun may have.
abbrev pub AreFuns : (names : List (List ℕ)) → List CountedFun → Type 0
AreFuns names [] = Unit {0}
AreFuns names (f ∷ funs) = IsBelow names f funs × (f.name < length names) × (f.arity ≤ MOST_ARITY) × AreFuns names funs

-- Each number of the first list is in the second.
abbrev pub AllIn : (numbers listed : List ℕ) → Type 0
AllIn numbers listed = (n : ℕ) → In n numbers → In n listed

-- How often a number stands in a list.
abbrev pub occurrences : ℕ → List ℕ → ℕ
occurrences n [] = 0
occurrences n (m ∷ ms) = if m == n then occurrences n ms + 1 else occurrences n ms

-- Each entry counts at least one, and no more than what it stands for occurs.
abbrev pub AreCounted : {A : Type 0} → (code count : A → ℕ) → (occurring : List ℕ) → List A → Type 0
AreCounted code count occurring [] = Unit {0}
AreCounted code count occurring (x ∷ xs) = (1 ≤ count x) × (count x ≤ occurrences (code x) occurring) × AreCounted code count occurring xs

-- Each entry counts at least one.
abbrev pub CountSome : {A : Type 0} → (count : A → ℕ) → List A → Type 0
CountSome count [] = Unit {0}
CountSome count (x ∷ xs) = (1 ≤ count x) × CountSome count xs

-- The id of an entry, and the number that a fun's name and arity have among those that occur.
abbrev pub id_of : CountedBin → ℕ
id_of b = b.id

abbrev pub code_of : CountedFun → ℕ
code_of f = 256 * f.name + f.arity

-- The ids of the shared binaries that occur in trees that live, and the numbers of the funs, with repetitions.
abbrev pub living_ids : State → List ℕ
living_ids s = flat_map ids_in (living_trees s)

abbrev pub living_funs : State → List ℕ
living_funs s = flat_map funs_in (living_trees s)

-- The text is that of some entries, each of which counts at least one. All that occurs is among them, each once and in order; where
-- nothing has changed since the last sweep nothing else is, and none counts more than its occurrences.
pub record CountsOf (s : State) (text : List ℕ) : Type 0 where
  pub bins : List CountedBin
  pub funs : List CountedFun
  pub said : text ≡ counts_text s.names bins funs
  pub rising : AreIds 0 (length s.shared) bins
  pub by_names : AreFuns s.names funs
  pub bins_occur : AllIn (living_ids s) (map id_of bins)
  pub funs_occur : AllIn (living_funs s) (map code_of funs)
  pub bins_named : CountSome (λ b. b.count) bins
  pub funs_named : CountSome (λ f. f.count) funs
  pub bins_exact : s.swept ≡ true → AreCounted id_of (λ b. b.count) (living_ids s) bins
  pub funs_exact : s.swept ≡ true → AreCounted code_of (λ f. f.count) (living_funs s) funs

-- The same table as the first: the texts that each may be answered by in a state. A line that is not built has none.
abbrev pub IsMapOf : Command → State → (text : List ℕ) → Type 0
IsMapOf (System Counts) s text = CountsOf s text
IsMapOf _ s text = ⊥
