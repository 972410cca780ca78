-- What holds of trees by name.
use Rattle.std.specs.Prelude.{ℕ, ◌≡◌, ◌<◌, true, List, [], ◌∷◌, ◌++◌, length, map, option_map}
use Rattle.plain_term.specs.Tree.{Tree, Pairs}
use Rattle.plain_term.specs.Bytes.{bytes_of}
use Rattle.plain_term.specs.Measures.{nodes, depth, flat}
use Rattle.plain_term.specs.Beyond.{is_beyond}
use Rattle.plain_term.specs.Order.{order, name_of}
use Rattle.plain_term.specs.InOrder.{put_pair}
use Rattle.plain_term.specs.Text.{text}
use Rattle.plain_term.specs.Proper.{is_proper}
use Rattle.script_grammar.specs.declared.command.Pick.{Pick}
use Rattle.script_grammar.specs.declared.command.Shape.{Shape}
use Rattle.script_grammar.specs.Written.{Term}
use Rattle.script_grammar.specs.Names.{number_of, atoms_of}
use Rattle.plain_machine.specs.State.{Process}
use Rattle.plain_machine.specs.Made.{tree_of}
use Rattle.plain_machine.specs.Flaws.{is_wide, is_big}
use Rattle.plain_machine.specs.Parts.{picked, repeated}
use Rattle.isolation.specs.Named.NamedTree.{NamedTree, as_named, pairs_as_named, IsKnown}
use Rattle.isolation.specs.Named.Seen.{named_bytes, named_nodes, named_depth, named_flat, named_beyond, named_order, named_text}
use Rattle.isolation.specs.Named.Doing.{named_picked, named_put, named_repeated, named_made, named_wide, named_big}
use Rattle.isolation.specs.Named.Entering.{names_with, shared_with, entered}

-- What is seen of one tree is seen of the tree by name.
pub record SeenOf (names shared : List (List ℕ)) (t : Tree) : Type 0 where
  pub has_bytes : bytes_of shared t ≡ named_bytes (as_named names shared t)
  pub has_nodes : nodes shared t ≡ named_nodes (as_named names shared t)
  pub is_deep : depth t ≡ named_depth (as_named names shared t)
  pub is_flat : flat t ≡ named_flat (as_named names shared t)
  pub is_far : is_beyond shared t ≡ named_beyond (as_named names shared t)
  pub reads : text names shared t ≡ named_text (as_named names shared t)
  pub stands : (u : Tree) → order names shared t u ≡ named_order (as_named names shared t) (as_named names shared u)

-- So it is of every tree, whatever the names and the shared binaries are.
abbrev pub IsSeenByName : Type 0
IsSeenByName = (names shared : List (List ℕ)) (t : Tree) → SeenOf names shared t

-- More names and more shared binaries leave a known tree as it is by name.
abbrev pub GrowthKeeps : Type 0
GrowthKeeps = (names more shared extra : List (List ℕ)) (t : Tree) → IsKnown names shared t → as_named (names ++ more) (shared ++ extra) t
    ≡ as_named names shared t

-- A proper tree is known.
abbrev pub ProperIsKnown : Type 0
ProperIsKnown = (names shared : List (List ℕ)) (t : Tree) → is_proper names shared t ≡ true → IsKnown names shared t

-- What the machine does to trees is done to the trees by name.
pub record DoneOf (names shared : List (List ℕ)) : Type 0 where
  pub part : (q : Process) (how : Pick) (t : Tree)
      → option_map (as_named names shared) (picked names shared q how t) ≡ named_picked (map (as_named names shared) q.registers) how (as_named names shared t)
  pub put : (k v : Tree) (ps : Pairs)
      → pairs_as_named names shared (put_pair names shared k v ps)
      ≡ named_put (as_named names shared k) (as_named names shared v) (pairs_as_named names shared ps)
  pub many : (shape : Shape) (n : ℕ) (t : Tree) → as_named names shared (repeated shape n t) ≡ named_repeated shape n (as_named names shared t)

abbrev pub IsDoneByName : Type 0
IsDoneByName = (names shared : List (List ℕ)) → DoneOf names shared

-- The tree of a written term, over the shared binaries with its own at their end, is by name what the term makes of the
-- registers by name; and so is what is wrong with its maps.
pub record MadeOf (names : List (List ℕ)) (held : List Tree) (shared : List (List ℕ)) (t : Term) : Type 0 where
  pub makes : as_named names ((tree_of names held t shared).1) ((tree_of names held t shared).0) ≡ named_made (map (as_named names shared) held) t
  pub known : IsKnown names ((tree_of names held t shared).1) ((tree_of names held t shared).0)
  pub wide : is_wide names held t shared ≡ named_wide (map (as_named names shared) held) t
  pub big : is_big names held t shared ≡ named_big (map (as_named names shared) held) t

-- Each of the atoms has the number that it is found by.
abbrev pub HaveNames : (names atoms : List (List ℕ)) → Type 0
HaveNames names [] = Unit {0}
HaveNames names (a ∷ atoms) = (number_of names a < length names) × (name_of names (number_of names a) ≡ a) × HaveNames names atoms

-- Each of the trees is known.
abbrev pub AllKnown : (names shared : List (List ℕ)) → List Tree → Type 0
AllKnown names shared [] = Unit {0}
AllKnown names shared (t ∷ ts) = IsKnown names shared t × AllKnown names shared ts

abbrev pub IsMadeByName : Type 0
IsMadeByName = (names : List (List ℕ)) (held : List Tree) (shared : List (List ℕ)) (t : Term) → AllKnown names shared held → HaveNames names (atoms_of t)
    → MadeOf names held shared t

-- A tree that enters with its names and byte lists is known, and by name it is what entered.
pub record EntersOf (names shared : List (List ℕ)) (t : NamedTree) : Type 0 where
  pub is : as_named (names_with names t) (shared_with shared t) (entered names shared t) ≡ t
  pub known : IsKnown (names_with names t) (shared_with shared t) (entered names shared t)

abbrev pub EntersAsItself : Type 0
EntersAsItself = (names shared : List (List ℕ)) (t : NamedTree) → EntersOf names shared t
