-- A whole collection from a row of registers and a stack in the memory.
use Rattle.std.specs.Prelude.{◌≡◌, ℕ, ◌+◌, ◌<◌, ◌≤◌, ◌⊎◌, true, List, ◌++◌, slice_index}
use Rattle.cheney.specs.declared.moving.Moving.{Moving}
use Rattle.cheney.specs.Plan.{IsOutside, Plan}
use Rattle.cheney.specs.Calls.{Later}
use Rattle.cheney.specs.Collected.{CanStart}
use Rattle.cheney.specs.Roots.{IsFreePlace, in_places, words_at}
use Rattle.cheney.specs.Next.{Ended}

-- A collection by this plan can begin from these registers and then the words of n free places from one on.
pub record CanStartWith (p : Plan) (mem : List ℕ) (mv : Moving) (regs : List ℕ) (from n : ℕ) : Type 0 where
  pub begins : CanStart p mem mv (regs ++ words_at mem from 1 n)
  pub free : (j : ℕ) → j < n → IsFreePlace p (from + j)

-- A collection can begin from these.
pub record CanCollectWith (mem : List ℕ) (mv : Moving) (regs : List ℕ) (from n : ℕ) : Type 0 where
  pub plan : Plan
  pub begins : CanStartWith plan mem mv regs from n

-- The collection has ended, with the registers and then the words at these places as the new roots. What no collection
-- changes is as it was but for these places, and so is each other word in neither room that has no role.
pub record EndedWith (p : Plan) (mem mem2 : List ℕ) (mv2 : Moving) (regs2 : List ℕ) (from n : ℕ) : Type 0 where
  pub ended : Ended p mem2 mv2 (regs2 ++ words_at mem2 from 1 n)
  pub later : Later p (in_places from 1 n) mem mem2
  pub others : (q : ℕ) → IsOutside p q → ((k : ℕ) → p.test q k ≡ true → ⊥) → (q < from) ⊎ (from + n ≤ q) → slice_index mem2 q ≡ slice_index mem q
