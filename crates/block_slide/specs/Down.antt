-- Where places, words and their roles come to when the blocks in use are packed.
use Rattle.std.specs.Prelude.{◌≡◌, ℕ, ◌+◌, ◌-◌, ◌<◌, ◌≤◌, ◌&&◌, ◌||◌, nat_le, nat_lt, if◌then◌else◌, Bool, false, List, [], ◌∷◌, length}
use Rattle.word_arena.specs.Blocks.{block_places}
use Rattle.word_arena.specs.Sums.{free_before, slid, used_at}

-- The place comes down by the free words before it; one outside the memory stays.
abbrev pub packed_place : List ℕ → ℕ → ℕ
packed_place mem a = if nat_le a (length mem) then a - free_before mem a else a

-- Each place from one up to another comes down by so many words.
pub record ComesDown (mem : List ℕ) (from to down : ℕ) : Type 0 where
  pub each : (a : ℕ) → from ≤ a → a < to → packed_place mem a + down ≡ a

-- The place is one of those of these blocks that are in use.
abbrev pub lies_used : List ℕ → (at : ℕ) → List ℕ → Bool
lies_used mem at [] = false
lies_used mem at (p ∷ ps) = (nat_le p at && nat_lt at (p + used_at mem p)) || lies_used mem at ps

-- The place lies in a block in use.
unfoldable pub is_in_use : List ℕ → (at : ℕ) → Bool
is_in_use mem at = lies_used mem at (block_places mem)

-- The word that comes to a place from one of these blocks that are in use may have the role.
abbrev pub comes_with : (ℕ → ℕ → Bool) → List ℕ → (at role : ℕ) → List ℕ → Bool
comes_with c mem at role [] = false
comes_with c mem at role (p ∷ ps) = ((nat_le (slid mem p p) at && nat_lt at (slid mem p p + used_at mem p)) && c (at + free_before mem p) role)
    || comes_with c mem at role ps

-- What the test allows of the word that comes to a place when the blocks in use are packed; nothing behind the last of them.
unfoldable pub packed_test : (ℕ → ℕ → Bool) → List ℕ → ℕ → ℕ → Bool
packed_test c mem at role = comes_with c mem at role (block_places mem)
