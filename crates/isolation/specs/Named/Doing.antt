-- What the machine does to trees, done to them by name: parts, maps with a pair more, trees of many places, written terms.
use Rattle.std.specs.Prelude.{ℕ, zero, suc, ◌+◌, Bool, false, ◌||◌, ◌&&◌, not, nat_lt, nat_le, if◌then◌else◌, List, length, get_or, Option, Some, None}
use Rattle.std.specs.Ordering.{is_eq, match_ordering}
use Rattle.term_tags.specs.declared.layouts.TheConstants.{MOST_KEYS}
use Rattle.script_grammar.specs.declared.command.Pick.{Pick}
use Rattle.script_grammar.specs.declared.command.Pick.TheVariants.{Hd, Tl, Elem, MapGet, Env, Part as Bytes}
use Rattle.script_grammar.specs.declared.command.Shape.{Shape}
use Rattle.script_grammar.specs.declared.command.Shape.TheVariants.{Tuple as InTuple, List as InList}
use Rattle.script_grammar.specs.Written.{Term, Terms, TermPairs}
use Rattle.script_grammar.specs.Written.{Term as term}
use Rattle.script_grammar.specs.Written.{Terms as terms}
use Rattle.script_grammar.specs.Written.{TermPairs as term_pairs}
use Rattle.isolation.specs.Named.NamedTree.{NamedTree, NamedTrees, NamedPairs}
use Rattle.isolation.specs.Named.NamedTree.NamedTree.{Int, Atom, Pid, Nil, Cons, Tuple, Map, Bin, Shared, Part, Fun}
use Rattle.isolation.specs.Named.NamedTree.NamedTrees.{nothing, before}
use Rattle.isolation.specs.Named.NamedTree.NamedPairs.{unpaired, paired}
use Rattle.isolation.specs.Named.Seen.{named_beyond, named_order, pairs_count}

-- The head, the tail of a list place.
abbrev pub named_head : NamedTree → Option NamedTree
named_head (Cons h t) = Some h
named_head _ = None

abbrev pub named_tail : NamedTree → Option NamedTree
named_tail (Cons h t) = Some t
named_tail _ = None

-- The tree with so many before it, and the one at a place, counted from 1.
abbrev pub named_after : NamedTrees → ℕ → Option NamedTree
named_after nothing k = None
named_after (before t ts) zero = Some t
named_after (before t ts) (suc k) = named_after ts k

abbrev pub named_element : NamedTrees → ℕ → Option NamedTree
named_element ts zero = None
named_element ts (suc k) = named_after ts k

-- The element of a tuple, and what stands in a fun's environment.
abbrev pub named_place : ℕ → NamedTree → Option NamedTree
named_place i (Tuple ts) = named_element ts i
named_place i _ = None

abbrev pub named_env : ℕ → NamedTree → Option NamedTree
named_env i (Fun name arity creator env) = named_element env i
named_env i _ = None

-- The bytes of a binary from an offset on.
abbrev pub named_part : (offset len : ℕ) → NamedTree → Option NamedTree
named_part offset len (Bin bytes) = if nat_le (offset + len) (length bytes) then Some (Part (Bin bytes) offset len) else None
named_part offset len (Shared bytes) = if nat_le (offset + len) (length bytes) then Some (Part (Shared bytes) offset len) else None
named_part offset len (Part base start whole) = if nat_le (offset + len) whole then Some (Part base (start + offset) len) else None
named_part offset len _ = None

-- The value of the first key that is equal to this one, and the value that a map has for a key.
abbrev pub named_value : NamedTree → NamedPairs → Option NamedTree
named_value key unpaired = None
named_value key (paired k v ps) = if is_eq (named_order key k) then Some v else named_value key ps

abbrev pub named_found : NamedTree → NamedTree → Option NamedTree
named_found key (Map ps) = if named_beyond key then None else named_value key ps
named_found key _ = None

-- The part that is picked, where these trees stand in the registers.
abbrev pub named_picked : (held : List NamedTree) → Pick → NamedTree → Option NamedTree
named_picked held Hd t = named_head t
named_picked held Tl t = named_tail t
named_picked held (Elem i) t = named_place i t
named_picked held (MapGet k) t = named_found (get_or held k.0 Nil) t
named_picked held (Env i) t = named_env i t
named_picked held (Bytes offset len) t = named_part offset len t

-- A pair put into others in key order, and pairs put into others one by one.
abbrev pub named_put : (key value : NamedTree) → NamedPairs → NamedPairs
named_put key value unpaired = paired key value unpaired
named_put key value (paired k v ps) =
    match_ordering (named_order key k) (paired key value (paired k v ps)) (paired key value ps) (paired k v (named_put key value ps))

abbrev pub named_put_all : NamedPairs → NamedPairs → NamedPairs
named_put_all sorted unpaired = sorted
named_put_all sorted (paired k v ps) = named_put_all (named_put k v sorted) ps

-- A list with these heads and this tail; so many times a tree, as a tuple or as a list.
abbrev pub named_list : NamedTrees → NamedTree → NamedTree
named_list nothing tail = tail
named_list (before t ts) tail = Cons t (named_list ts tail)

abbrev pub named_times : ℕ → NamedTree → NamedTrees
named_times zero t = nothing
named_times (suc n) t = before t (named_times n t)

abbrev pub named_repeated : Shape → ℕ → NamedTree → NamedTree
named_repeated InTuple n t = Tuple (named_times n t)
named_repeated InList n t = named_list (named_times n t) Nil

-- A binary of up to 64 bytes by its bytes, a longer one as a shared one.
abbrev pub named_bin : List ℕ → NamedTree
named_bin bytes = if nat_le (length bytes) 64 then Bin bytes else Shared bytes

abbrev mutual
  -- The tree that a written term makes, where these trees stand in the registers.
  pub named_made : (held : List NamedTree) → Term → NamedTree
  named_made held (term.Int i) = Int i
  named_made held (term.Atom a) = Atom a
  named_made held (term.Pid n) = Pid n
  named_made held (term.Held r) = get_or held r Nil
  named_made held (term.Listed ts) = named_list (all_named_made held ts) Nil
  named_made held (term.Barred ts t) = named_list (all_named_made held ts) (named_made held t)
  named_made held (term.Tuple ts) = Tuple (all_named_made held ts)
  named_made held (term.Map ps) = Map (named_put_all unpaired (pairs_named_made held ps))
  named_made held (term.Bin bytes) = named_bin bytes

  pub all_named_made : (held : List NamedTree) → Terms → NamedTrees
  all_named_made held terms.end = nothing
  all_named_made held (terms.◌▹◌ t ts) = before (named_made held t) (all_named_made held ts)

  pub pairs_named_made : (held : List NamedTree) → TermPairs → NamedPairs
  pairs_named_made held term_pairs.stop = unpaired
  pairs_named_made held (term_pairs.pair k v ps) = paired (named_made held k) (named_made held v) (pairs_named_made held ps)

abbrev mutual
  -- A term is or holds a map with too many different keys.
  pub named_wide : (held : List NamedTree) → Term → Bool
  named_wide held (term.Listed ts) = all_named_wide held ts
  named_wide held (term.Barred ts t) = all_named_wide held ts || named_wide held t
  named_wide held (term.Tuple ts) = all_named_wide held ts
  named_wide held (term.Map ps) = nat_lt MOST_KEYS (pairs_count (named_put_all unpaired (pairs_named_made held ps))) || pairs_named_wide held ps
  named_wide held _ = false

  pub all_named_wide : (held : List NamedTree) → Terms → Bool
  all_named_wide held terms.end = false
  all_named_wide held (terms.◌▹◌ t ts) = named_wide held t || all_named_wide held ts

  pub pairs_named_wide : (held : List NamedTree) → TermPairs → Bool
  pairs_named_wide held term_pairs.stop = false
  pairs_named_wide held (term_pairs.pair k v ps) = named_wide held k || (named_wide held v || pairs_named_wide held ps)

abbrev mutual
  -- A term is or holds a map with a key beyond the walk limit, which itself has no map with too many keys.
  pub named_big : (held : List NamedTree) → Term → Bool
  named_big held (term.Listed ts) = all_named_big held ts
  named_big held (term.Barred ts t) = all_named_big held ts || named_big held t
  named_big held (term.Tuple ts) = all_named_big held ts
  named_big held (term.Map ps) = pairs_named_big held ps
  named_big held _ = false

  pub all_named_big : (held : List NamedTree) → Terms → Bool
  all_named_big held terms.end = false
  all_named_big held (terms.◌▹◌ t ts) = named_big held t || all_named_big held ts

  pub pairs_named_big : (held : List NamedTree) → TermPairs → Bool
  pairs_named_big held term_pairs.stop = false
  pairs_named_big held (term_pairs.pair k v ps) =
      (not (named_wide held k) && named_beyond (named_made held k)) || (named_big held k || (named_big held v || pairs_named_big held ps))
