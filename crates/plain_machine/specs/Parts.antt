-- The part that is picked of a tree, the pairs of a map, and trees of many places.
use Rattle.std.specs.Prelude.{ℕ, ◌+◌, nat_le, if◌then◌else◌, List, length, Option, Some, None}
use Rattle.std.specs.Ordering.{is_eq}
use Rattle.plain_term.specs.Tree.{Tree, Pairs, same_trees}
use Rattle.plain_term.specs.Tree.Tree.{Nil, Tuple, Map, Bin, Shared, Part}
use Rattle.plain_term.specs.Tree.Pairs.{stop, pair}
use Rattle.plain_term.specs.Beyond.{is_beyond}
use Rattle.plain_term.specs.Bytes.{shared_bytes}
use Rattle.plain_term.specs.Order.{order}
use Rattle.plain_term.specs.Parts.{head_in, tail_in, element_of, env_in}
use Rattle.script_grammar.specs.declared.command.Pick.{Pick}
use Rattle.script_grammar.specs.declared.command.Pick.TheVariants.{Hd, Tl, Elem, MapGet, Env, Part as Bytes}
use Rattle.script_grammar.specs.declared.command.Shape.{Shape}
use Rattle.script_grammar.specs.declared.command.Shape.TheVariants.{Tuple as InTuple, List as InList}
use Rattle.plain_machine.specs.Made.{list_tree}
use Rattle.plain_machine.specs.State.{Process as Live, register}

-- The value of the first key that is equal to this one.
abbrev pub value_of : (names shared : List (List ℕ)) → (key : Tree) → Pairs → Option Tree
value_of names shared key stop = None
value_of names shared key (pair k v ps) = if is_eq (order names shared key k) then Some v else value_of names shared key ps

-- The value that a map has for a key; no other tree has one. A key beyond the walk limit is in no map.
abbrev pub value_in : (names shared : List (List ℕ)) → (key : Tree) → Tree → Option Tree
value_in names shared key (Map ps) = if is_beyond shared key then None else value_of names shared key ps
value_in names shared key _ = None

-- The bytes of a binary from an offset on, where it has them; no other tree has bytes. The part of a part has the same base.
abbrev pub part_in : (shared : List (List ℕ)) → (offset len : ℕ) → Tree → Option Tree
part_in shared offset len (Bin bytes) = if nat_le (offset + len) (length bytes) then Some (Part (Bin bytes) offset len) else None
part_in shared offset len (Shared id) = if nat_le (offset + len) (length (shared_bytes shared id)) then Some (Part (Shared id) offset len) else None
part_in shared offset len (Part base start whole) = if nat_le (offset + len) whole then Some (Part base (start + offset) len) else None
part_in shared offset len _ = None

-- The part that is picked of a tree, if it has one. The key of a map is that of a register.
abbrev pub picked : (names shared : List (List ℕ)) → Live → Pick → Tree → Option Tree
picked names shared q Hd t = head_in t
picked names shared q Tl t = tail_in t
picked names shared q (Elem i) t = element_of i t
picked names shared q (MapGet k) t = value_in names shared (register k.0 q) t
picked names shared q (Env i) t = env_in i t
picked names shared q (Bytes offset len) t = part_in shared offset len t

-- The pairs of a map; no other tree has any.
abbrev pub pairs_in : Tree → Option Pairs
pairs_in (Map ps) = Some ps
pairs_in _ = None

-- A tuple or a list of so many times a tree.
abbrev pub repeated : Shape → ℕ → Tree → Tree
repeated InTuple n t = Tuple (same_trees n t)
repeated InList n t = list_tree (same_trees n t) Nil
