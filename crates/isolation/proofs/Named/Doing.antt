-- What the machine does to trees, by name.
use Rattle.std.proofs.Common.{◌≡◌, ℕ, zero, suc, ◌+◌, Bool, true, false, cond, nat_le, List, [], ◌∷◌, length, map, get_or, Option, Some, None, refl, ap, ◌∙◌}
use Rattle.std.specs.Prelude.{option_map}
use Rattle.std.specs.Ordering.{is_eq, match_ordering}
use Rattle.std.specs.declared.cmp.Ordering.{Ordering}
use Rattle.std.specs.declared.cmp.Ordering.TheVariants.{Less, Equal, Greater}
use Rattle.plain_term.specs.Tree.{Tree, Trees, Pairs, same_trees}
use Rattle.plain_term.specs.Tree.Tree.{Nil, Cons, Tuple, Map, Bin, Shared, Part, Fun}
use Rattle.plain_term.specs.Tree.Trees.{end, ◌▹◌}
use Rattle.plain_term.specs.Tree.Pairs.{stop, pair}
use Rattle.plain_term.specs.Bytes.{shared_bytes}
use Rattle.plain_term.specs.Beyond.{is_beyond}
use Rattle.plain_term.specs.Order.{order}
use Rattle.plain_term.specs.InOrder.{put_pair, put_all}
use Rattle.plain_term.specs.Parts.{part_at, place_of, head_in, tail_in, element_of, env_in}
use Rattle.script_grammar.specs.declared.command.Pick.{Pick}
use Rattle.script_grammar.specs.declared.command.Pick.TheVariants.{Hd, Tl, Elem, MapGet, Env, Part as Bytes}
use Rattle.script_grammar.specs.declared.command.Shape.{Shape}
use Rattle.script_grammar.specs.declared.command.Shape.TheVariants.{Tuple as InTuple, List as InList}
use Rattle.plain_machine.specs.State.{Process, register}
use Rattle.plain_machine.specs.Made.{list_tree}
use Rattle.plain_machine.specs.Parts.{part_in, value_of, value_in, picked, repeated}
use Rattle.isolation.specs.Named.NamedTree.{NamedTree, NamedPairs, as_named, all_as_named, pairs_as_named}
use Rattle.isolation.specs.Named.NamedTree.{NamedTree as by_name}
use Rattle.isolation.specs.Named.NamedTree.{NamedTrees as all_by_name}
use Rattle.isolation.specs.Named.NamedTree.{NamedPairs as pairs_by_name}
use Rattle.isolation.specs.Named.Seen.{named_order, named_beyond}
use Rattle.isolation.specs.Named.Doing.{named_head, named_tail, named_after, named_element, named_place, named_env, named_part, named_value, named_found, named_picked, named_put, named_put_all, named_list, named_times, named_repeated}
use Rattle.isolation.specs.Named.Laws.{DoneOf}
use Rattle.isolation.proofs.Named.Seeing.{beyond-seen, order-seen}

module _ (names shared : List (List ℕ)) where
  abbrev by : Tree → NamedTree
  by t = as_named names shared t

  -- a tree where a test holds, by name
  if-some : (b : Bool) (t : Tree) (u : NamedTree) → by t ≡ u → option_map by (cond b (Some t) None) ≡ cond b (Some u) None
  if-some true t u e = ap Some e
  if-some false t u e = refl

  if-else : (b c : Bool) (o p : Option Tree) (x y : Option NamedTree) → b ≡ c → option_map by o ≡ x → option_map by p ≡ y → option_map by (cond b o p) ≡ cond c x y
  if-else b c o p x y e h k = both b ∙ ap (λ z. cond z x y) e
    where
      both : (b : Bool) → option_map by (cond b o p) ≡ cond b x y
      both true = h
      both false = k

  head-by : (t : Tree) → option_map by (head_in t) ≡ named_head (by t)
  head-by (Cons h t) = refl
  head-by _ = refl

  tail-by : (t : Tree) → option_map by (tail_in t) ≡ named_tail (by t)
  tail-by (Cons h t) = refl
  tail-by _ = refl

  after-by : (ts : Trees) (k : ℕ) → option_map by (part_at ts k) ≡ named_after (all_as_named names shared ts) k
  after-by end k = refl
  after-by (t ▹ ts) zero = refl
  after-by (t ▹ ts) (suc k) = after-by ts k

  element-by : (ts : Trees) (i : ℕ) → option_map by (place_of ts i) ≡ named_element (all_as_named names shared ts) i
  element-by ts zero = refl
  element-by ts (suc k) = after-by ts k

  place-by : (i : ℕ) (t : Tree) → option_map by (element_of i t) ≡ named_place i (by t)
  place-by i (Tuple ts) = element-by ts i
  place-by i _ = refl

  env-by : (i : ℕ) (t : Tree) → option_map by (env_in i t) ≡ named_env i (by t)
  env-by i (Fun f a c env) = element-by env i
  env-by i _ = refl

  part-by : (offset len : ℕ) (t : Tree) → option_map by (part_in shared offset len t) ≡ named_part offset len (by t)
  part-by offset len (Bin bytes) = if-some (nat_le (offset + len) (length bytes)) (Part (Bin bytes) offset len) (by_name.Part (by_name.Bin bytes) offset len) refl
  part-by offset len (Shared id) =
      if-some (nat_le (offset + len) (length (shared_bytes shared id))) (Part (Shared id) offset len) (by_name.Part (by_name.Shared (shared_bytes shared id)) offset len) refl
  part-by offset len (Part base start whole) = if-some (nat_le (offset + len) whole) (Part base (start + offset) len) (by_name.Part (by base) (start + offset) len) refl
  part-by offset len _ = refl

  value-by : (key : Tree) (ps : Pairs) → option_map by (value_of names shared key ps) ≡ named_value (by key) (pairs_as_named names shared ps)
  value-by key stop = refl
  value-by key (pair k v ps) = if-else (is_eq (order names shared key k)) (is_eq (named_order (by key) (by k))) (Some v) (value_of names shared key ps) (Some (by v))
      (named_value (by key) (pairs_as_named names shared ps)) (ap is_eq (order-seen names shared key k)) refl (value-by key ps)

  in-by : (key t : Tree) → option_map by (value_in names shared key t) ≡ named_found (by key) (by t)
  in-by key (Map ps) = if-else (is_beyond shared key) (named_beyond (by key)) None (value_of names shared key ps) None (named_value (by key) (pairs_as_named names shared ps))
      (beyond-seen names shared key) refl (value-by key ps)
  in-by key _ = refl

  -- the tree of a register
  pub at-by : (ts : List Tree) (r : ℕ) → by (get_or ts r Nil) ≡ get_or (map by ts) r by_name.Nil
  at-by [] r = refl
  at-by (t ∷ ts) zero = refl
  at-by (t ∷ ts) (suc r) = at-by ts r

  picked-by : (q : Process) (how : Pick) (t : Tree) → option_map by (picked names shared q how t) ≡ named_picked (map by q.registers) how (by t)
  picked-by q Hd t = head-by t
  picked-by q Tl t = tail-by t
  picked-by q (Elem i) t = place-by i t
  picked-by q (MapGet k) t = in-by (register k.0 q) t ∙ ap (λ z. named_found z (by t)) (at-by q.registers k.0)
  picked-by q (Env i) t = env-by i t
  picked-by q (Bytes offset len) t = part-by offset len t

  order-by : (o p : Ordering) (a b c : Pairs) (x y z : NamedPairs) → o ≡ p → pairs_as_named names shared a ≡ x → pairs_as_named names shared b ≡ y → pairs_as_named names shared c ≡ z
      → pairs_as_named names shared (match_ordering o a b c) ≡ match_ordering p x y z
  order-by o p a b c x y z e h k l = all o ∙ ap (λ w. match_ordering w x y z) e
    where
      all : (o : Ordering) → pairs_as_named names shared (match_ordering o a b c) ≡ match_ordering o x y z
      all Less = h
      all Equal = k
      all Greater = l

  pub put-by : (k v : Tree) (ps : Pairs) → pairs_as_named names shared (put_pair names shared k v ps) ≡ named_put (by k) (by v) (pairs_as_named names shared ps)
  put-by k v stop = refl
  put-by k v (pair j w ps) =
      order-by (order names shared k j) (named_order (by k) (by j)) (pair k v (pair j w ps)) (pair k v ps) (pair j w (put_pair names shared k v ps))
      (pairs_by_name.paired (by k) (by v) (pairs_as_named names shared (pair j w ps))) (pairs_by_name.paired (by k) (by v) (pairs_as_named names shared ps))
      (pairs_by_name.paired (by j) (by w) (named_put (by k) (by v) (pairs_as_named names shared ps)))
      (order-seen names shared k j) refl refl (ap (λ z. pairs_by_name.paired (by j) (by w) z) (put-by k v ps))

  pub put-all-by : (sorted ps : Pairs) → pairs_as_named names shared (put_all names shared sorted ps) ≡ named_put_all (pairs_as_named names shared sorted) (pairs_as_named names shared ps)
  put-all-by sorted stop = refl
  put-all-by sorted (pair k v ps) = put-all-by (put_pair names shared k v sorted) ps ∙ ap (λ z. named_put_all z (pairs_as_named names shared ps)) (put-by k v sorted)

  pub list-by : (ts : Trees) (t : Tree) → by (list_tree ts t) ≡ named_list (all_as_named names shared ts) (by t)
  list-by end t = refl
  list-by (u ▹ ts) t = ap (λ z. by_name.Cons (by u) z) (list-by ts t)

  times-by : (n : ℕ) (t : Tree) → all_as_named names shared (same_trees n t) ≡ named_times n (by t)
  times-by zero t = refl
  times-by (suc n) t = ap (λ z. all_by_name.before (by t) z) (times-by n t)

  repeated-by : (shape : Shape) (n : ℕ) (t : Tree) → by (repeated shape n t) ≡ named_repeated shape n (by t)
  repeated-by InTuple n t = ap by_name.Tuple (times-by n t)
  repeated-by InList n t = list-by (same_trees n t) Nil ∙ ap (λ z. named_list z by_name.Nil) (times-by n t)

  pub done : DoneOf names shared
  done = record { part = picked-by; put = put-by; many = repeated-by }
