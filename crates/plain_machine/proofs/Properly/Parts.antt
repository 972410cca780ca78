-- Parts of proper trees, maps with a pair more and trees of many places are proper.
use Rattle.std.proofs.Common.{◌≡◌, ℕ, zero, suc, ◌+◌, ◌≤◌, Bool, true, false, cond, ◌&&◌, nat_lt, nat_le, List, [], ◌∷◌, length, get_or, Option, Some, None, refl, arith}
use Rattle.std.proofs.lemmas.Bool.{and_from, leb-true, le-leb}
use Rattle.std.proofs.lemmas.Bool.Decides.{nat_tests}
use Rattle.std.specs.Ordering.{is_eq}
use Rattle.plain_term.specs.Tree.{Tree, Trees, Pairs, pairs_len, same_trees}
use Rattle.plain_term.specs.Tree.Tree.{Nil, Cons, Tuple, Map, Bin, Shared, Part, Fun}
use Rattle.plain_term.specs.Tree.Trees.{end, ◌▹◌}
use Rattle.plain_term.specs.Tree.Pairs.{stop, pair}
use Rattle.plain_term.specs.Beyond.{is_beyond}
use Rattle.plain_term.specs.Order.{order}
use Rattle.plain_term.specs.Bytes.{bytes_of, shared_bytes}
use Rattle.plain_term.specs.Proper.{is_proper, are_proper, are_proper_pairs, keys_rise, is_base}
use Rattle.plain_term.specs.Parts.{part_at, place_of, head_in, tail_in, element_of, env_in}
use Rattle.term_tags.specs.declared.layouts.TheConstants.{MOST_KEYS}
use Rattle.script_grammar.specs.declared.command.Pick.{Pick}
use Rattle.script_grammar.specs.declared.command.Pick.TheVariants.{Hd, Tl, Elem, MapGet, Env, Part as Bytes}
use Rattle.script_grammar.specs.declared.command.Shape.{Shape}
use Rattle.script_grammar.specs.declared.command.Shape.TheVariants.{Tuple as InTuple, List as InList}
use Rattle.plain_machine.specs.Made.{list_tree, too_many}
use Rattle.plain_machine.specs.Laws.{AreProper}
use Rattle.plain_machine.specs.State.{Process as Live, register}
use Rattle.plain_machine.specs.Parts.{part_in, value_of, value_in, picked, repeated}
use Rattle.plain_machine.proofs.Properly.Growing.{cons-parts, all-parts, fun-parts, part-parts, map-parts}
use Rattle.plain_machine.proofs.Properly.Putting.{pairs-split}

module _ (names shared : List (List ℕ)) where
  -- a tree of a list
  pub at-proper : (ts : List Tree) (k : ℕ) → AreProper names shared ts → is_proper names shared (get_or ts k Nil) ≡ true
  at-proper [] k h = refl
  at-proper (t ∷ ts) zero h = h.0
  at-proper (t ∷ ts) (suc k) h = at-proper ts k h.1

  -- where there is a tree, it is proper
  abbrev pub IfProper : Option Tree → Type 0
  IfProper None = Unit {0}
  IfProper (Some t) = is_proper names shared t ≡ true

  after-proper : (ts : Trees) (k : ℕ) → are_proper names shared ts ≡ true → IfProper (part_at ts k)
  after-proper end k h = tt
  after-proper (t ▹ ts) zero h = (all-parts names [] shared [] t ts h).0
  after-proper (t ▹ ts) (suc k) h = after-proper ts k (all-parts names [] shared [] t ts h).1

  element-proper : (ts : Trees) (i : ℕ) → are_proper names shared ts ≡ true → IfProper (place_of ts i)
  element-proper ts zero h = tt
  element-proper ts (suc k) h = after-proper ts k h

  if-proper : (b : Bool) (o p : Option Tree) → IfProper o → IfProper p → IfProper (cond b o p)
  if-proper true o p h k = h
  if-proper false o p h k = k

  value-proper : (key : Tree) (ps : Pairs) → are_proper_pairs names shared ps ≡ true → IfProper (value_of names shared key ps)
  value-proper key stop h = tt
  value-proper key (pair k v ps) h = let p = pairs-split names shared k v ps h in
      if-proper (is_eq (order names shared key k)) (Some v) (value_of names shared key ps) p.0.value (value-proper key ps p.1)

  head-proper : (t : Tree) → is_proper names shared t ≡ true → IfProper (head_in t)
  head-proper (Cons a b) h = (cons-parts names [] shared [] a b h).0
  head-proper _ h = tt

  tail-proper : (t : Tree) → is_proper names shared t ≡ true → IfProper (tail_in t)
  tail-proper (Cons a b) h = (cons-parts names [] shared [] a b h).1
  tail-proper _ h = tt

  place-proper : (i : ℕ) (t : Tree) → is_proper names shared t ≡ true → IfProper (element_of i t)
  place-proper i (Tuple ts) h = element-proper ts i h
  place-proper i _ h = tt

  in-proper : (key t : Tree) → is_proper names shared t ≡ true → IfProper (value_in names shared key t)
  in-proper key (Map ps) h = if-proper (is_beyond shared key) None (value_of names shared key ps) tt (value-proper key ps (map-parts names [] shared [] ps h).2)
  in-proper key _ h = tt

  env-proper : (i : ℕ) (t : Tree) → is_proper names shared t ≡ true → IfProper (env_in i t)
  env-proper i (Fun name arity creator env) h = element-proper env i (fun-parts names [] shared [] name arity creator env h).1
  env-proper i _ h = tt

  -- a part of so many bytes, where the base has them
  some-part : (base : Tree) (offset len : ℕ) (b : Bool) → is_base base ≡ true → is_proper names shared base ≡ true → (b ≡ true → offset + len ≤ length (bytes_of shared base))
      → IfProper (cond b (Some (Part base offset len)) None)
  some-part base offset len false e h k = tt
  some-part base offset len true e h k =
      and_from (is_base base && is_proper names shared base) (nat_le (offset + len) (length (bytes_of shared base)))
      (and_from (is_base base) (is_proper names shared base) e h) (le-leb (offset + len) (length (bytes_of shared base)) (k refl))

  part-proper : (offset len : ℕ) (t : Tree) → is_proper names shared t ≡ true → IfProper (part_in shared offset len t)
  part-proper offset len (Bin bytes) h = some-part (Bin bytes) offset len (nat_le (offset + len) (length bytes)) refl h (leb-true (offset + len) (length bytes))
  part-proper offset len (Shared id) h =
      some-part (Shared id) offset len (nat_le (offset + len) (length (shared_bytes shared id))) refl h (leb-true (offset + len) (length (shared_bytes shared id)))
  part-proper offset len (Part base start whole) h =
      let p = part-parts names [] shared [] base start whole h in
      some-part base (start + offset) len (nat_le (offset + len) whole) p.0 p.1
      (λ e. omega (arith, leb-true (offset + len) whole e, leb-true (start + whole) (length (bytes_of shared base)) p.2))
  part-proper offset len _ h = tt

  -- what is picked of a proper tree
  pub picked-proper : (q : Live) (how : Pick) (t : Tree) → is_proper names shared t ≡ true → IfProper (picked names shared q how t)
  picked-proper q Hd t h = head-proper t h
  picked-proper q Tl t h = tail-proper t h
  picked-proper q (Elem i) t h = place-proper i t h
  picked-proper q (MapGet k) t h = in-proper (register k.0 q) t h
  picked-proper q (Env i) t h = env-proper i t h
  picked-proper q (Bytes offset len) t h = part-proper offset len t h

  -- pairs whose keys rise and that are not too many are those of a proper map
  pub map-proper : (ps : Pairs) → too_many ps ≡ false → keys_rise names shared ps ≡ true → are_proper_pairs names shared ps ≡ true → is_proper names shared (Map ps) ≡ true
  map-proper ps few rise h = rw (fewer (pairs_len ps) few, rise, h) refl
    where
      fewer : (n : ℕ) → nat_lt MOST_KEYS n ≡ false → nat_le n 32 ≡ true
      fewer n h = grind (arith, nat_tests, h)

  times-proper : (n : ℕ) (t : Tree) → is_proper names shared t ≡ true → are_proper names shared (same_trees n t) ≡ true
  times-proper zero t h = refl
  times-proper (suc n) t h = and_from (is_proper names shared t) (are_proper names shared (same_trees n t)) h (times-proper n t h)

  -- heads before a tail
  pub list-proper : (ts : Trees) (tail : Tree) → are_proper names shared ts ≡ true → is_proper names shared tail ≡ true → is_proper names shared (list_tree ts tail) ≡ true
  list-proper end tail h k = k
  list-proper (t ▹ ts) tail h k = let p = all-parts names [] shared [] t ts h in
      and_from (is_proper names shared t) (is_proper names shared (list_tree ts tail)) p.0 (list-proper ts tail p.1 k)

  -- so many times a proper tree
  pub repeated-proper : (shape : Shape) (n : ℕ) (t : Tree) → is_proper names shared t ≡ true → is_proper names shared (repeated shape n t) ≡ true
  repeated-proper InTuple n t h = times-proper n t h
  repeated-proper InList n t h = list-proper (same_trees n t) Nil (times-proper n t h) refl
