-- Chains and counts at new places: holders, funs and records lie where one map says.
use Rattle.std.specs.Prelude.{◌≡◌, ℕ, ◌+◌, ◌<◌, ◌≤◌, ◌⊎◌, Bool, true, List, [], ◌∷◌, map, length, slice_index}
use Rattle.term_words.specs.Role.{FIRST, FURTHER, NAMES}
use Rattle.term_words.specs.Object.{IsRecord}
use Rattle.term_words.specs.Counted.{In}
use Rattle.term_words.specs.Relocated.{IsCopiedTo}
use Rattle.shared_rec.specs.Record.{count_in}
use Rattle.off_heap_list.specs.Links.{next_in}
use Rattle.off_heap_list.specs.Exact.{OwnChain}

-- The holder or fun at place p lies at place g p: its six words keep their roles, the one that names a record and the word `next`
-- are mapped, and the others are the same.
pub record IsLinkTo (g : ℕ → ℕ) (c d : ℕ → ℕ → Bool) (old new : List ℕ) (p : ℕ) : Type 0 where
  pub somewhere : 0 < g p
  pub within : g p + 6 ≤ length new
  pub roles : (j a q k : ℕ) → j < 6 → a ≡ p + j → q ≡ g p + j → c a k ≡ true → d q k ≡ true
  pub same : (j a q : ℕ) → j < 6 → a ≡ p + j → q ≡ g p + j → (c a FIRST ≡ true) ⊎ (c a FURTHER ≡ true) → slice_index new q ≡ slice_index old a
  pub names : (j a q : ℕ) → j < 6 → a ≡ p + j → q ≡ g p + j → c a NAMES ≡ true → slice_index new q ≡ g (slice_index old a)
  pub next : next_in new (g p) ≡ g (next_in old p)

-- These holders and funs lie at new places, no two at one; so does each record, with all its words, and there is no other
-- record. Place 0, the end of a chain, is its own.
pub record LinksMoved (g : ℕ → ℕ) (c d : ℕ → ℕ → Bool) (old new : List ℕ) (ps : List ℕ) : Type 0 where
  pub zero : g 0 ≡ 0
  pub objects : (p : ℕ) → In p ps → IsLinkTo g c d old new p
  pub once : (p q : ℕ) → In p ps → In q ps → g p ≡ g q → p ≡ q
  pub records : (v n : ℕ) → IsRecord c old v n → IsCopiedTo c d old new v (g v) n
  pub counts : (v n : ℕ) → IsRecord c old v n → count_in new (g v) ≡ count_in old v
  pub apart : (v u n m : ℕ) → IsRecord c old v n → IsRecord c old u m → g v ≡ g u → v ≡ u
  pub no_more : (u m : ℕ) → IsRecord d new u m → (v : ℕ) × (n : ℕ) × ((u ≡ g v) × IsRecord c old v n)

-- The second chain has the objects of the first at their new places.
pub record IsChainTo (g : ℕ → ℕ) (x y : OwnChain) : Type 0 where
  pub head : y.head ≡ g x.head
  pub os : y.os ≡ map g x.os
  pub mine : (p : ℕ) → In p x.os → y.mine (g p) ≡ true

-- Each of the chains is so, in order.
abbrev pub AreChainsTo : (ℕ → ℕ) → (xs ys : List OwnChain) → Type 0
AreChainsTo g [] [] = Unit {0}
AreChainsTo g [] (y ∷ ys) = ⊥
AreChainsTo g (x ∷ xs) [] = ⊥
AreChainsTo g (x ∷ xs) (y ∷ ys) = IsChainTo g x y × AreChainsTo g xs ys
