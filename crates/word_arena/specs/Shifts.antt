-- What the table of shifts knows of each short stretch.
use Rattle.std.specs.Prelude.{◌≡◌, ℕ, ◌+◌, ◌*◌, ◌<◌, ◌≤◌, ◌^◌, List, length, slice_index}
use Rattle.word_arena.specs.Blocks.{kind_at, Blocked, BlockBegins}
use Rattle.word_arena.specs.Sums.{free_before}
use Rattle.word_arena.specs.declared.shifts.Shifts.{Shifts}
use Rattle.word_arena.specs.declared.stretches.TheConstants.{SHORT}

-- The table has a short stretch for each word of a memory of so many words, and one for its end.
pub record HasStretches (words : ℕ) (s : Shifts) : Type 0 where
  pub stretches : words < SHORT * length s.firsts.items
  pub sums : length s.sums.items ≡ length s.firsts.items
  pub few : length s.firsts.items ≤ 2 ^ 24

-- No free block begins in the short stretch before so far into it, where a block begins or the stretch ends.
pub record IsFirstFree (mem : List ℕ) (short first : ℕ) : Type 0 where
  pub begins : first < SHORT → BlockBegins mem (short * SHORT + first)
  pub used : (p : ℕ) → BlockBegins mem p → short * SHORT ≤ p → p < short * SHORT + first → 1 ≤ kind_at mem p
  pub most : first ≤ SHORT

-- The table is right about a short stretch: the free words before it, and where its first free block begins.
pub record IsSummedAt (mem sums firsts : List ℕ) (short : ℕ) : Type 0 where
  pub sum : slice_index sums short ≡ free_before mem (short * SHORT)
  pub first : IsFirstFree mem short (slice_index firsts short)

-- The memory is a row of blocks, and the table is right about every short stretch of it.
pub record IsSummed (mem : List ℕ) (s : Shifts) : Type 0 where
  pub blocked : Blocked mem
  pub room : HasStretches (length mem) s
  pub at : (i : ℕ) → i < length s.firsts.items → IsSummedAt mem s.sums.items s.firsts.items i
