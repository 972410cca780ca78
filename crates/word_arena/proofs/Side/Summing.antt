-- The free words of the blocks before a place.
use Rattle.std.proofs.Common.{◌≡◌, ℕ, ◌+◌, ◌≤◌, List, [], ◌∷◌, ◌++◌, length, refl, subst, arith}
use Rattle.word_arena.specs.Blocks.{size_at, free_at, Blocks, Blocked, block_places, BlockBegins, free_among, free_of}
use Rattle.word_arena.proofs.Side.Places.{free_among-append}
use Rattle.word_arena.proofs.Side.Tiling.{blocks-append, block_places-row}
use Rattle.word_arena.proofs.Side.Facts.{block-within, free-most}
use Rattle.word_arena.proofs.Laid.Relaid.{free_of-row}

pub record Sum (mem : List ℕ) (at all : ℕ) : Type 0 where
  pub ps : List ℕ
  pub row : Blocks mem 0 ps at
  pub is : free_among mem ps ≡ all

pub sum-zero : (mem : List ℕ) → Sum mem 0 0
sum-zero mem = record { ps = []; row = refl; is = refl }

pub sum-next : (mem : List ℕ) (at all : ℕ) → Blocked mem → BlockBegins mem at → Sum mem at all → Sum mem (at + size_at mem at) (all + free_at mem at)
sum-next mem at all blocked begins s =
    record {
      ps = s.ps ++ (at ∷ []);
      row = blocks-append mem 0 at (at + size_at mem at) s.ps (at ∷ []) s.row (refl, (block-within mem at blocked begins).header, refl);
      is = omega (arith, free_among-append mem s.ps (at ∷ []), s.is);
    }

pub sum-all : (mem : List ℕ) (at all : ℕ) → at ≡ length mem → Sum mem at all → all ≡ free_of mem
sum-all mem at all end s =
    let P : ℕ → Type 0 = λ z. Blocks mem 0 s.ps z in
    omega (arith, free_of-row mem s.ps (block_places-row mem s.ps (subst P end s.row)), s.is)

-- Free words are words of the row.
pub free_among-most : (mem : List ℕ) (a b : ℕ) (ps : List ℕ) → Blocks mem a ps b → free_among mem ps + a ≤ b
free_among-most mem a b [] same = omega arith
free_among-most mem a b (p ∷ ps) (place, is, rest) = omega (arith, free_among-most mem (a + size_at mem p) b ps rest, free-most mem p, place)

pub sum-most : (mem : List ℕ) (at all : ℕ) → Sum mem at all → all ≤ at
sum-most mem at all s = omega (arith, free_among-most mem 0 at s.ps s.row, s.is)

pub free_of-most : (mem : List ℕ) → Blocked mem → free_of mem ≤ length mem
free_of-most mem blocked = omega (arith, free_among-most mem 0 (length mem) (block_places mem) blocked.row, free_of-row mem (block_places mem) refl)
