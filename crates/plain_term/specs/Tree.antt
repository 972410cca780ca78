-- The trees that terms stand for. `Trees` and `Pairs` are the plain lists of trees and of pairs of
-- trees: the logic has no `List Tree` inside `Tree`.
use Rattle.std.specs.Prelude.{ℕ, zero, suc, ◌+◌, ℤ, List}

infixr 60 ◌▹◌
mutual
  -- A term by value: no address, no sharing.
  pub data Tree : Type 0 where
    Int : ℤ → Tree
    Atom : ℕ → Tree
    Pid : ℕ → Tree
    Ref : (number k : ℕ) → Tree
    Nil : Tree
    Cons : (head tail : Tree) → Tree
    Tuple : Trees → Tree
    Map : Pairs → Tree
    Bin : List ℕ → Tree
    Shared : ℕ → Tree
    Part : (base : Tree) → (offset len : ℕ) → Tree
    Fun : (name arity creator : ℕ) → Trees → Tree

  -- A list of trees.
  pub data Trees : Type 0 where
    end : Trees
    ◌▹◌ : Tree → Trees → Trees

  -- A list of pairs of key and value.
  pub data Pairs : Type 0 where
    stop : Pairs
    pair : (key value : Tree) → Pairs → Pairs

-- How many trees a list has.
abbrev pub trees_len : Trees → ℕ
trees_len end = 0
trees_len (t ▹ ts) = trees_len ts + 1

-- One list of trees after another.
abbrev pub trees_append : Trees → Trees → Trees
trees_append end us = us
trees_append (t ▹ ts) us = t ▹ trees_append ts us

-- The same tree n times.
abbrev pub same_trees : ℕ → Tree → Trees
same_trees zero t = end
same_trees (suc n) t = t ▹ same_trees n t

-- How many pairs a list has.
abbrev pub pairs_len : Pairs → ℕ
pairs_len stop = 0
pairs_len (pair k v ps) = pairs_len ps + 1

-- The keys of pairs, in order.
abbrev pub keys_of : Pairs → Trees
keys_of stop = end
keys_of (pair k v ps) = k ▹ keys_of ps

-- The values of pairs, in the order of their keys.
abbrev pub values_of : Pairs → Trees
values_of stop = end
values_of (pair k v ps) = v ▹ values_of ps
