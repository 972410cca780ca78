-- Where each stretch has its first block, as blocks come to the memory's front one after the other.
use Rattle.std.specs.Prelude.{◌≡◌, ℕ, ◌+◌, ◌-◌, ◌*◌, ◌/◌, ◌%◌, ◌<◌, ◌≤◌, List, length, slice_index, slice_set}
use Rattle.word_arena.specs.Blocks.{IsUsed}
use Rattle.word_arena.specs.Sums.{slid}
use Rattle.word_arena.specs.declared.holes.Holes.{Holes}
use Rattle.word_arena.specs.declared.stretches.TheConstants.{STRETCH}

-- To the place comes a block in use of those that begin before another place.
pub record BroughtTo (mem : List ℕ) (before at : ℕ) : Type 0 where
  pub block : ℕ
  pub used : IsUsed mem block
  pub below : block < before
  pub is : slid mem block block ≡ at

-- The first of these places that lies in a stretch lies so far into it; at its end where none does.
pub record FirstOf (C : ℕ → Type 0) (stretch first : ℕ) : Type 0 where
  pub begins : first < STRETCH → C (stretch * STRETCH + first)
  pub least : (at : ℕ) → C at → at / STRETCH ≡ stretch → stretch * STRETCH + first ≤ at

-- The row tells of each stretch where the first of these places lies in it; all lie before the stretch `next`, and one in that before it.
pub record Firsts (C : ℕ → Type 0) (firsts : List ℕ) (next : ℕ) : Type 0 where
  pub entries : (i : ℕ) → i < length firsts → FirstOf C i (slice_index firsts i)
  pub high : (at : ℕ) → C at → at < next * STRETCH
  pub last : 0 < next → slice_index firsts (next - 1) < STRETCH
  pub inside : next ≤ length firsts

-- A place was told where no stretch at or behind its own had one yet; the stretches from `told` on have none.
pub record TellsFirst (old new : Holes) (next told at : ℕ) : Type 0 where
  pub met : at / STRETCH < next → (new.firsts.items ≡ old.firsts.items) × (told ≡ next)
  pub written : next ≤ at / STRETCH → (new.firsts.items ≡ slice_set old.firsts.items (at / STRETCH) (at % STRETCH)) × (told ≡ at / STRETCH + 1)
  pub tops : new.tops ≡ old.tops
  pub free : new.free ≡ old.free

-- The last block was told, which is free, or there is none.
pub record EndsRow (words : ℕ) (old new : Holes) (next at : ℕ) : Type 0 where
  pub none : words ≤ at → new ≡ old
  pub met : at < words → at / STRETCH < next → new.firsts.items ≡ old.firsts.items
  pub written : at < words → next ≤ at / STRETCH → new.firsts.items ≡ slice_set old.firsts.items (at / STRETCH) (at % STRETCH)
  pub tops : at < words → new.tops ≡ slice_set old.tops (at / STRETCH) (words - at)
  pub free : new.free ≡ old.free
