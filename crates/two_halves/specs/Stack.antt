-- Rows of places that stand in the memory, stacks and queues: each place is the word of a value and the place that follows.
use Rattle.std.specs.Prelude.{◌≡◌, ℕ, zero, suc, ◌+◌, ◌<◌, ◌≤◌, ◌⊎◌, Bool, true, List, [], ◌∷◌, slice_index}
use Rattle.term_words.specs.Counted.{In}
use Rattle.two_halves.specs.declared.halves.TheConstants.{PLACE_WORDS}

-- A place lies between these bounds, and none of its words has a role.
pub record IsPlace (c : ℕ → ℕ → Bool) (low limit place : ℕ) : Type 0 where
  pub above : low ≤ place
  pub below : place + PLACE_WORDS ≤ limit
  pub bare : (q k : ℕ) → place ≤ q → q < place + PLACE_WORDS → c q k ≡ true → ⊥

-- So many places follow one another from this one, and lie between these bounds: a stack from the last pushed, a queue from
-- the first to be received.
abbrev pub IsStack : (ℕ → ℕ → Bool) → List ℕ → (low limit place depth : ℕ) → Type 0
IsStack c mem low limit place zero = Unit {0}
IsStack c mem low limit place (suc n) = IsPlace c low limit place × IsStack c mem low limit (slice_index mem (place + 1)) n

-- The words of the values, from that of the first place.
abbrev pub values : List ℕ → (place depth : ℕ) → List ℕ
values mem place zero = []
values mem place (suc n) = slice_index mem place ∷ values mem (slice_index mem (place + 1)) n

-- The places themselves, from the first.
abbrev pub place_list : List ℕ → (place depth : ℕ) → List ℕ
place_list mem place zero = []
place_list mem place (suc n) = place ∷ place_list mem (slice_index mem (place + 1)) n

-- No two of the places have a word in common.
abbrev pub AreApart : List ℕ → Type 0
AreApart [] = Unit {0}
AreApart (p ∷ ps) = ((q : ℕ) → In q ps → (p + PLACE_WORDS ≤ q) ⊎ (q + PLACE_WORDS ≤ p)) × AreApart ps

-- The last of so many places, any number where there is none.
abbrev pub IsLastPlace : List ℕ → (place depth last : ℕ) → Type 0
IsLastPlace mem place zero last = Unit {0}
IsLastPlace mem place (suc zero) last = last ≡ place
IsLastPlace mem place (suc (suc n)) last = IsLastPlace mem (slice_index mem (place + 1)) (suc n) last
