-- Several chains in one memory, by their words alone: nothing is said of what the roots reach.
use Rattle.std.specs.Prelude.{◌≡◌, ℕ, ◌+◌, Bool, true, List, [], ◌∷◌, ◌++◌, slice_index}
use Rattle.term_words.specs.Object.{IsRecord}
use Rattle.term_words.specs.Counted.{In, Distinct}
use Rattle.shared_rec.specs.Record.{count_in}
use Rattle.off_heap_list.specs.Links.{Chain, naming, IsLink}
use Rattle.off_heap_list.specs.Exact.{IsReachedLink, OwnChain, objects_of}

-- The objects are the chain's, in order, and lie at its places.
pub record IsChainOf (mem : List ℕ) (x : OwnChain) : Type 0 where
  pub chain : Chain mem x.head x.os
  pub inside : (p : ℕ) → In p x.os → x.mine p ≡ true

-- Each of the chains is so.
abbrev pub AreChains : List ℕ → List OwnChain → Type 0
AreChains mem [] = Unit {0}
AreChains mem (x ∷ xs) = IsChainOf mem x × AreChains mem xs

-- Several chains and a further list, without a common object and each object once: each record's count is the number of
-- objects that name it, in all chains and in the further list.
pub record ManyLinks (c : ℕ → ℕ → Bool) (mem : List ℕ) (xs : List OwnChain) (further : List ℕ) : Type 0 where
  pub chains : AreChains mem xs
  pub once : Distinct (objects_of xs ++ further)
  pub each : (p : ℕ) → In p (objects_of xs) → IsLink c mem p
  pub beside : (p : ℕ) → In p further → IsLink c mem p
  pub counts : (v n : ℕ) → IsRecord c mem v n → count_in mem v ≡ naming mem v (objects_of xs) + naming mem v further

-- Each chain has every holder and fun at its places that the roots reach.
abbrev pub AreListed : (ℕ → ℕ → Bool) → (mem roots : List ℕ) → List OwnChain → Type 0
AreListed c mem roots [] = Unit {0}
AreListed c mem roots (x ∷ xs) = ((p : ℕ) → IsReachedLink c mem roots p → x.mine p ≡ true → In p x.os) × AreListed c mem roots xs

-- The objects lead on to the same ones in both memories.
abbrev pub LeadAlike : (old new : List ℕ) → List ℕ → Type 0
LeadAlike old new os = (p : ℕ) → In p os → slice_index new (p + 2) ≡ slice_index old (p + 2)
