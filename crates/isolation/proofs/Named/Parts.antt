-- Parts of known trees, and what is made of them, are known.
use Rattle.std.proofs.Common.{◌≡◌, ℕ, zero, suc, ◌+◌, Bool, true, false, cond, nat_le, List, [], ◌∷◌, ◌++◌, length, map, get_or, set, replicate, Option, Some, None, refl}
use Rattle.std.specs.Ordering.{is_eq}
use Rattle.plain_term.specs.Tree.{Tree, Trees, Pairs, same_trees}
use Rattle.plain_term.specs.Tree.Tree.{Nil, Cons, Tuple, Map, Bin, Shared, Part, Fun}
use Rattle.plain_term.specs.Tree.Trees.{end, ◌▹◌}
use Rattle.plain_term.specs.Tree.Pairs.{stop, pair}
use Rattle.plain_term.specs.Bytes.{shared_bytes}
use Rattle.plain_term.specs.Beyond.{is_beyond}
use Rattle.plain_term.specs.Order.{order}
use Rattle.plain_term.specs.Parts.{part_at, place_of, head_in, tail_in, element_of, env_in}
use Rattle.script_grammar.specs.declared.command.Pick.{Pick}
use Rattle.script_grammar.specs.declared.command.Pick.TheVariants.{Hd, Tl, Elem, MapGet, Env, Part as Bytes}
use Rattle.script_grammar.specs.declared.command.Shape.{Shape}
use Rattle.script_grammar.specs.declared.command.Shape.TheVariants.{Tuple as InTuple, List as InList}
use Rattle.script_grammar.specs.Names.{held_terms}
use Rattle.plain_machine.specs.State.{Process}
use Rattle.plain_machine.specs.Made.{trees_of_terms}
use Rattle.plain_machine.specs.Parts.{part_in, value_of, value_in, picked, repeated}
use Rattle.isolation.specs.Named.NamedTree.{as_named, all_as_named, IsKnown, AreKnown, PairsKnown}
use Rattle.isolation.specs.Named.NamedTree.{NamedTrees as all_by_name}
use Rattle.isolation.specs.Named.Doing.{all_named_made}
use Rattle.isolation.specs.Named.Laws.{AllKnown}
use Rattle.isolation.proofs.Named.Doing.{at-by}
use Rattle.isolation.proofs.Named.Making.{at-known, list-known}

module _ (names shared : List (List ℕ)) where
  -- a tree, where there is one
  abbrev pub IfKnown : Option Tree → Type 0
  IfKnown None = Unit {0}
  IfKnown (Some t) = IsKnown names shared t

  if-some-known : (b : Bool) (t : Tree) → IsKnown names shared t → IfKnown (cond b (Some t) None)
  if-some-known true t h = h
  if-some-known false t h = tt

  if-none-known : (b : Bool) (o : Option Tree) → IfKnown o → IfKnown (cond b None o)
  if-none-known true o h = tt
  if-none-known false o h = h

  if-else-known : (b : Bool) (o p : Option Tree) → IfKnown o → IfKnown p → IfKnown (cond b o p)
  if-else-known true o p h k = h
  if-else-known false o p h k = k

  head-known : (t : Tree) → IsKnown names shared t → IfKnown (head_in t)
  head-known (Cons a b) h = h.0
  head-known _ h = tt

  tail-known : (t : Tree) → IsKnown names shared t → IfKnown (tail_in t)
  tail-known (Cons a b) h = h.1
  tail-known _ h = tt

  after-known : (ts : Trees) (k : ℕ) → AreKnown names shared ts → IfKnown (part_at ts k)
  after-known end k h = tt
  after-known (t ▹ ts) zero h = h.0
  after-known (t ▹ ts) (suc k) h = after-known ts k h.1

  element-known : (ts : Trees) (i : ℕ) → AreKnown names shared ts → IfKnown (place_of ts i)
  element-known ts zero h = tt
  element-known ts (suc k) h = after-known ts k h

  place-known : (i : ℕ) (t : Tree) → IsKnown names shared t → IfKnown (element_of i t)
  place-known i (Tuple ts) h = element-known ts i h
  place-known i _ h = tt

  env-in-known : (i : ℕ) (t : Tree) → IsKnown names shared t → IfKnown (env_in i t)
  env-in-known i (Fun f a c env) h = element-known env i h.1
  env-in-known i _ h = tt

  part-known : (offset len : ℕ) (t : Tree) → IsKnown names shared t → IfKnown (part_in shared offset len t)
  part-known offset len (Bin bytes) h = if-some-known (nat_le (offset + len) (length bytes)) (Part (Bin bytes) offset len) tt
  part-known offset len (Shared id) h = if-some-known (nat_le (offset + len) (length (shared_bytes shared id))) (Part (Shared id) offset len) h
  part-known offset len (Part base start whole) h = if-some-known (nat_le (offset + len) whole) (Part base (start + offset) len) h
  part-known offset len _ h = tt

  value-known : (key : Tree) (ps : Pairs) → PairsKnown names shared ps → IfKnown (value_of names shared key ps)
  value-known key stop h = tt
  value-known key (pair k v ps) h = if-else-known (is_eq (order names shared key k)) (Some v) (value_of names shared key ps) h.1 (value-known key ps h.2)

  in-known : (key t : Tree) → IsKnown names shared t → IfKnown (value_in names shared key t)
  in-known key (Map ps) h = if-none-known (is_beyond shared key) (value_of names shared key ps) (value-known key ps h)
  in-known key _ h = tt

  -- the part that is picked
  pub picked-known : (q : Process) (how : Pick) (t : Tree) → IsKnown names shared t → IfKnown (picked names shared q how t)
  picked-known q Hd t h = head-known t h
  picked-known q Tl t h = tail-known t h
  picked-known q (Elem i) t h = place-known i t h
  picked-known q (MapGet k) t h = in-known (get_or q.registers k.0 Nil) t h
  picked-known q (Env i) t h = env-in-known i t h
  picked-known q (Bytes offset len) t h = part-known offset len t h

  times-known : (n : ℕ) (t : Tree) → IsKnown names shared t → AreKnown names shared (same_trees n t)
  times-known zero t h = tt
  times-known (suc n) t h = (h, times-known n t h)

  -- so many times a tree
  pub repeated-known : (shape : Shape) (n : ℕ) (t : Tree) → IsKnown names shared t → IsKnown names shared (repeated shape n t)
  repeated-known InTuple n t h = times-known n t h
  repeated-known InList n t h = list-known names shared (same_trees n t) Nil (times-known n t h) tt

  -- an environment: trees of registers
  pub env-known : (held : List Tree) (rs : List ℕ) → AllKnown names shared held → AreKnown names shared ((trees_of_terms names held (held_terms rs) shared).0)
  env-known held [] h = tt
  env-known held (r ∷ rs) h = (at-known names shared held r h, env-known held rs h)

  pub env-by : (held : List Tree) (rs : List ℕ)
      → all_as_named names shared ((trees_of_terms names held (held_terms rs) shared).0) ≡ all_named_made (map (as_named names shared) held) (held_terms rs)
  env-by held [] = refl
  env-by held (r ∷ rs) = λ i. all_by_name.before (at-by names shared held r i) (env-by held rs i)

  -- lists of trees
  pub set-known : (ts : List Tree) (r : ℕ) (t : Tree) → AllKnown names shared ts → IsKnown names shared t → AllKnown names shared (set ts r t)
  set-known [] r t h k = tt
  set-known (u ∷ ts) zero t h k = (k, h.1)
  set-known (u ∷ ts) (suc r) t h k = (h.0, set-known ts r t h.1 k)

  pub join-known : (ts us : List Tree) → AllKnown names shared ts → AllKnown names shared us → AllKnown names shared (ts ++ us)
  join-known [] us h k = k
  join-known (t ∷ ts) us h k = (h.0, join-known ts us h.1 k)

  pub split-known : (ts us : List Tree) → AllKnown names shared (ts ++ us) → AllKnown names shared ts × AllKnown names shared us
  split-known [] us h = (tt, h)
  split-known (t ∷ ts) us h = let k = split-known ts us h.1 in ((h.0, k.0), k.1)

  pub nils-known : (n : ℕ) → AllKnown names shared (replicate n Nil)
  nils-known zero = tt
  nils-known (suc n) = (tt, nils-known n)
