-- Exact counts: a record's count is the number of objects in reach that name it.
use Rattle.std.specs.Prelude.{◌≡◌, ℕ, ◌+◌, ◌/◌, ◌%◌, ◌≤◌, Bool, true, List, [], ◌∷◌, ◌++◌, length}
use Rattle.term_words.specs.Role.{NEXT}
use Rattle.term_words.specs.Object.{IsRecord}
use Rattle.term_words.specs.Reach.{Reach}
use Rattle.term_words.specs.Counted.{In, Distinct}
use Rattle.shared_rec.specs.Record.{count_in}
use Rattle.off_heap_list.specs.Links.{named, Chain, naming, IsLink}

-- The roots reach a holder or fun at place p.
pub record IsReachedLink (c : ℕ → ℕ → Bool) (mem roots : List ℕ) (p : ℕ) : Type 0 where
  pub word : ℕ
  pub reached : Reach mem roots word
  pub boxed : word % 4 ≡ 2
  pub place : word / 4 ≡ p
  pub next : c (p + 2) NEXT ≡ true

-- The list has exactly the holders and funs that the roots reach, each once.
pub record ListsHeld (c : ℕ → ℕ → Bool) (mem roots os : List ℕ) : Type 0 where
  pub once : Distinct os
  pub all : (p : ℕ) → IsReachedLink c mem roots p → In p os
  pub only : (p : ℕ) → In p os → IsReachedLink c mem roots p

-- As many holders and funs that the roots reach name the record at place v: they can be listed, each once.
pub record IsExactCount (c : ℕ → ℕ → Bool) (mem roots : List ℕ) (v n : ℕ) : Type 0 where
  pub each : List ℕ
  pub once : Distinct each
  pub all : (p : ℕ) → IsReachedLink c mem roots p → named mem p ≡ v → In p each
  pub only : (p : ℕ) → In p each → IsReachedLink c mem roots p × (named mem p ≡ v)
  pub number : length each ≡ n

-- No record has count 0.
abbrev pub AllCounted : (ℕ → ℕ → Bool) → List ℕ → Type 0
AllCounted c mem = (v n : ℕ) → IsRecord c mem v n → 1 ≤ count_in mem v

-- Each record's count is the number of holders and funs in reach that name it, and at least 1.
abbrev pub Exact : (ℕ → ℕ → Bool) → (mem roots : List ℕ) → Type 0
Exact c mem roots = (v n : ℕ) → IsRecord c mem v n → IsExactCount c mem roots v (count_in mem v) × (1 ≤ count_in mem v)

-- A chain of its own: its first object, 0 for none, its objects in order, and the places where they may lie.
pub record OwnChain : Type 0 where
  pub head : ℕ
  pub os : List ℕ
  pub mine : ℕ → Bool

-- The objects are the chain's, lie at its places, and every holder or fun there that the roots reach is one of them.
pub record IsOwn (c : ℕ → ℕ → Bool) (mem roots : List ℕ) (x : OwnChain) : Type 0 where
  pub chain : Chain mem x.head x.os
  pub inside : (p : ℕ) → In p x.os → x.mine p ≡ true
  pub all : (p : ℕ) → IsReachedLink c mem roots p → x.mine p ≡ true → In p x.os

-- Each of the chains is so.
abbrev pub AreOwn : (ℕ → ℕ → Bool) → (mem roots : List ℕ) → List OwnChain → Type 0
AreOwn c mem roots [] = Unit {0}
AreOwn c mem roots (x ∷ xs) = IsOwn c mem roots x × AreOwn c mem roots xs

-- The objects of all chains.
abbrev pub objects_of : List OwnChain → List ℕ
objects_of [] = []
objects_of (x ∷ xs) = x.os ++ objects_of xs

-- Several chains and a further list, without a common object and each object once: each record's count is the number of
-- objects that name it, in all chains and in the further list, reachable or not, and at least 1.
pub record Chained (c : ℕ → ℕ → Bool) (mem roots : List ℕ) (xs : List OwnChain) (further : List ℕ) : Type 0 where
  pub own : AreOwn c mem roots xs
  pub once : Distinct (objects_of xs ++ further)
  pub each : (p : ℕ) → In p (objects_of xs) → IsLink c mem p
  pub beside : (p : ℕ) → In p further → IsLink c mem p
  pub counts : (v n : ℕ) → IsRecord c mem v n → count_in mem v ≡ naming mem v (objects_of xs) + naming mem v further
  pub some : AllCounted c mem
