-- The terms that items spell.
use Rattle.std.specs.Prelude.{◌≡◌, ℕ, ◌^◌, Bool, true, false, ◌&&◌, nat_lt, nat_le, List, [], ◌∷◌, ◌++◌, map, length, IsTrue, ⊤, Option, Some, None, IfSome}
use Rattle.plain_term.specs.Tree.{Tree, Trees, trees_len}
use Rattle.plain_term.specs.Tree.Tree.{Int, Atom, Pid, Nil, Cons, Tuple, Bin}
use Rattle.plain_term.specs.Tree.Trees.{end, ◌▹◌}
use Rattle.plain_term.specs.Measures.{magnitude}
use Rattle.plain_term.specs.declared.item.Item.{Item}
use Rattle.plain_term.specs.declared.item.Item.TheVariants as item
use Rattle.plain_term.specs.declared.tree.Tree as code
use Rattle.plain_term.specs.declared.tree.TreeFault.{TreeFault}
use Rattle.plain_term.specs.declared.tree.TreeFault.TheVariants.{Memory, Items}
use Rattle.plain_term.specs.View.{view, trees_of}
use Rattle.plain_term.specs.declared.reading.TheConstants.{HEAP_BINARY}

abbrev mutual
  -- The kinds of terms that items spell: integers of magnitude below 2^127, atoms, pids, nil, lists,
  -- tuples and binaries of at most 64 bytes.
  pub is_spelled : Tree → Bool
  is_spelled (Int i) = nat_lt (magnitude i) (2 ^ 127)
  is_spelled (Atom k) = true
  is_spelled (Pid n) = true
  is_spelled Nil = true
  is_spelled (Cons h t) = is_spelled h && is_spelled t
  is_spelled (Tuple ts) = are_spelled ts
  is_spelled (Bin bytes) = nat_le (length bytes) HEAP_BINARY
  is_spelled _ = false

  -- The same of each tree of a list.
  pub are_spelled : Trees → Bool
  are_spelled end = true
  are_spelled (t ▹ ts) = is_spelled t && are_spelled ts

abbrev mutual
  -- The items of a term, a constructor before its parts.
  pub tree_items : Tree → List Item
  tree_items (Int i) = item.Int i ∷ []
  tree_items (Atom k) = item.Atom k ∷ []
  tree_items (Pid n) = item.Pid n ∷ []
  tree_items Nil = item.Nil ∷ []
  tree_items (Cons h t) = item.Cons ∷ (tree_items h ++ tree_items t)
  tree_items (Tuple ts) = item.Tuple (trees_len ts) ∷ trees_items ts
  tree_items (Bin bytes) = item.Bin (length bytes) ∷ map (λ b. item.Byte b) bytes
  tree_items _ = []

  -- The items of terms, one after the other.
  pub trees_items : Trees → List Item
  trees_items end = []
  trees_items (t ▹ ts) = tree_items t ++ trees_items ts

-- The items are those of the tree, which is of a kind that they spell.
abbrev pub SpellsTree : List Item → Tree → Type 0
SpellsTree items t = IsTrue (is_spelled t) × (items ≡ tree_items t)

-- Only items that are not one whole term are a fault of items, and memory is wanting only for one.
abbrev pub Explains : List Item → TreeFault → Type 0
Explains items Memory = (t : Tree) × SpellsTree items t
Explains items Items = (t : Tree) → SpellsTree items t → ⊥

-- What is left after a term at the front.
abbrev pub BeginsWith : List Item → Tree → List Item → Type 0
BeginsWith items t rest = IsTrue (is_spelled t) × (items ≡ tree_items t ++ rest)

-- No term stands at the front.
abbrev pub HasNoTerm : List Item → Type 0
HasNoTerm items = (t : Tree) (rest : List Item) → BeginsWith items t rest → ⊥

-- What is left after n terms at the front.
abbrev pub BeginAll : List Item → ℕ → Trees → List Item → Type 0
BeginAll items n ts rest = IsTrue (are_spelled ts) × (trees_len ts ≡ n) × (items ≡ trees_items ts ++ rest)

-- No n terms stand at the front.
abbrev pub HasNoParts : List Item → ℕ → Type 0
HasNoParts items n = (ts : Trees) (rest : List Item) → BeginAll items n ts rest → ⊥

-- What is left after n bytes at the front.
abbrev pub BeginBytes : List Item → ℕ → List ℕ → List Item → Type 0
BeginBytes items n bytes rest = (length bytes ≡ n) × (items ≡ map (λ b. item.Byte b) bytes ++ rest)

-- No n bytes stand at the front.
abbrev pub HasNoBytes : List Item → ℕ → Type 0
HasNoBytes items n = (bytes : List ℕ) (rest : List Item) → BeginBytes items n bytes rest → ⊥

-- A value is of a tree, if it was built.
abbrev pub IsValueOf : Option code.Tree → Tree → Type 0
IsValueOf None t = ⊤
IsValueOf (Some value) t = view value ≡ t

-- Values are of trees, if they were built.
abbrev pub AreOf : Option (List code.Tree) → Trees → Type 0
AreOf None ts = ⊤
AreOf (Some values) ts = trees_of (map view values) ≡ ts

-- A term was read from the front, and built unless memory was wanting.
pub record ReadsTerm (items : List Item) (value : Option code.Tree) (rest : List Item) : Type 0 where
  pub term : Tree
  pub begins : BeginsWith items term rest
  pub built : IsValueOf value term

-- The same of n terms.
pub record ReadsAll (items : List Item) (n : ℕ) (values : Option (List code.Tree)) (rest : List Item) : Type 0 where
  pub terms : Trees
  pub begin : BeginAll items n terms rest
  pub built : AreOf values terms

-- The same of n bytes.
pub record ReadsBytes (items : List Item) (n : ℕ) (kept : Option (List ℕ)) (rest : List Item) : Type 0 where
  pub bytes : List ℕ
  pub begin : BeginBytes items n bytes rest
  pub built : IfSome kept (λ xs. xs ≡ bytes)
