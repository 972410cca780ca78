-- Which trees terms stand for.
use Rattle.std.specs.Prelude.{ℕ, ◌+◌, ◌^◌, Bool, true, false, ◌&&◌, not, nat_lt, nat_le, List, [], ◌∷◌, length}
use Rattle.std.specs.Ordering.{is_lt}
use Rattle.plain_term.specs.Tree.{Tree, Trees, Pairs, pairs_len}
use Rattle.plain_term.specs.Tree.Tree.{Int, Atom, Pid, Ref, Nil, Cons, Tuple, Map, Bin, Shared, Part, Fun}
use Rattle.plain_term.specs.Tree.Trees.{end, ◌▹◌}
use Rattle.plain_term.specs.Tree.Pairs.{stop, pair}
use Rattle.plain_term.specs.Beyond.{is_beyond}
use Rattle.plain_term.specs.Bytes.{bytes_of}
use Rattle.plain_term.specs.Measures.{magnitude}
use Rattle.plain_term.specs.Order.{order}
use Rattle.plain_term.specs.declared.reading.TheConstants.{HEAP_BINARY}

-- Each number is a byte.
abbrev pub are_bytes : List ℕ → Bool
are_bytes [] = true
are_bytes (b ∷ bs) = nat_lt b 256 && are_bytes bs

-- What a part may be a part of.
abbrev pub is_base : Tree → Bool
is_base (Bin bytes) = true
is_base (Shared id) = true
is_base _ = false

-- Each key is less than the next.
abbrev pub keys_rise : (names shared : List (List ℕ)) → Pairs → Bool
keys_rise names shared stop = true
keys_rise names shared (pair k v stop) = true
keys_rise names shared (pair k v (pair j w ps)) = is_lt (order names shared k j) && keys_rise names shared (pair j w ps)

abbrev mutual
  -- Integers have a magnitude below 2^127, binaries in the tree at most 64 bytes, a part lies in its
  -- base, and a map has at most 32 keys, which rise and are within the walk limit.
  pub is_proper : (names shared : List (List ℕ)) → Tree → Bool
  is_proper names shared (Int i) = nat_lt (magnitude i) (2 ^ 127)
  is_proper names shared (Atom k) = nat_lt k (length names)
  is_proper names shared (Pid n) = true
  is_proper names shared (Ref n k) = true
  is_proper names shared Nil = true
  is_proper names shared (Cons h t) = is_proper names shared h && is_proper names shared t
  is_proper names shared (Tuple ts) = are_proper names shared ts
  is_proper names shared (Map ps) = nat_le (pairs_len ps) 32 && keys_rise names shared ps && are_proper_pairs names shared ps
  is_proper names shared (Bin bytes) = nat_le (length bytes) HEAP_BINARY && are_bytes bytes
  is_proper names shared (Shared id) = nat_lt 0 id && nat_le id (length shared)
  is_proper names shared (Part base offset len) = is_base base && is_proper names shared base && nat_le (offset + len) (length (bytes_of shared base))
  is_proper names shared (Fun name arity creator env) = nat_lt name (length names) && are_proper names shared env

  -- The same of each tree of a list.
  pub are_proper : (names shared : List (List ℕ)) → Trees → Bool
  are_proper names shared end = true
  are_proper names shared (t ▹ ts) = is_proper names shared t && are_proper names shared ts

  -- The same of each key and value, no key being beyond the walk limit.
  pub are_proper_pairs : (names shared : List (List ℕ)) → Pairs → Bool
  are_proper_pairs names shared stop = true
  are_proper_pairs names shared (pair k v ps) =
      is_proper names shared k && not (is_beyond shared k) && is_proper names shared v && are_proper_pairs names shared ps
