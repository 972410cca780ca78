-- What a run over the cells at the front of two lists passes.
use Rattle.std.specs.Prelude.{◌≡◌, ℕ, ◌+◌, ◌*◌, ◌/◌, ◌%◌, ◌||◌, nat_lt, Bool, true, List, length, slice_index}
use Rattle.plain_term.specs.Tree.{Tree}
use Rattle.plain_term.specs.Measures.{nodes, depth}
use Rattle.plain_term.specs.Beyond.{node_limit, depth_limit}
use Rattle.plain_term.specs.Order.{order}
use Rattle.term_words.specs.Role.{always}
use Rattle.term_words.specs.Stands.{Stands}
use Rattle.term_walk.specs.Runs.{Passed}
use Rattle.term_order.specs.Named.{is_named}

-- The words stand for trees with one list of shared binaries.
pub record AreBoth (mem : List ℕ) (a b : ℕ) : Type 0 where
  pub shared : List (List ℕ)
  pub first : Tree
  pub second : Tree
  pub first_stands : Stands always shared mem a first
  pub second_stands : Stands always shared mem b second

-- The words lead to two cells with the same immediate as their heads.
pub record IsSameCell (mem : List ℕ) (left right : ℕ) : Type 0 where
  pub first : left % 4 ≡ 1
  pub second : right % 4 ≡ 1
  pub immediate : slice_index mem (left / 4) % 4 ≡ 3
  pub same : slice_index mem (right / 4) ≡ slice_index mem (left / 4)

-- So many cells of both trees are passed, and the order is that of what the words behind them stand for, with no other names.
pub record PassedBoth (c : ℕ → ℕ → Bool) (shared : List (List ℕ)) (mem : List ℕ) (names : List (List ℕ)) (t u : Tree) (left right cells : ℕ) : Type 0 where
  pub first : Passed c shared mem t left cells
  pub second : Passed c shared mem u right cells
  pub order_is : order names shared t u ≡ order names shared first.rest second.rest
  pub first_named : is_named (length names) t ≡ true → is_named (length names) first.rest ≡ true
  pub second_named : is_named (length names) u ≡ true → is_named (length names) second.rest ≡ true

-- So it is of all trees that the first words stand for.
pub record PassesBoth (mem : List ℕ) (a b left right cells : ℕ) : Type 0 where
  pub each : (c : ℕ → ℕ → Bool) (shared names : List (List ℕ)) (t u : Tree) → Stands c shared mem a t → Stands c shared mem b u
      → PassedBoth c shared mem names t u left right cells

-- Behind so many cells the tree is beyond the walk limit.
abbrev pub is_beyond_after : (shared : List (List ℕ)) → (cells : ℕ) → Tree → Bool
is_beyond_after shared cells t = nat_lt node_limit (2 * cells + nodes shared t) || nat_lt depth_limit (depth t)
