-- Words that are taken for a new object, under any test of places and roles.
use Rattle.std.specs.Prelude.{◌≡◌, ℕ, ◌+◌, ◌-◌, ◌<◌, ◌≤◌, ◌⊎◌, ◌==◌, ◌&&◌, nat_le, nat_lt, if◌then◌else◌, Bool, true, List, length, slice_index}
use Rattle.term_words.specs.Role.{NEXT, FIRST, FURTHER, NAMES}

-- The roles of an object's words, by the number of the word: the first, and all others.
abbrev pub plain : ℕ → ℕ
plain j = if j == 0 then FIRST else FURTHER

-- The roles of a holder's words: word 2 is `next`, and word 3 names its record.
abbrev pub of_holder : ℕ → ℕ
of_holder j = if j == 2 then NEXT else (if j == 3 then NAMES else plain j)

-- The roles of a fun's words: word 1 names its record, and word 2 is `next`.
abbrev pub of_fun : ℕ → ℕ
of_fun j = if j == 1 then NAMES else (if j == 2 then NEXT else plain j)

-- The roles of the words of a tuple of n keys and of the map behind it.
abbrev pub of_map : ℕ → ℕ → ℕ
of_map n j = if nat_le j n then plain j else plain (j - (1 + n))

-- No word from one place up to another has a role.
abbrev pub IsFree : (ℕ → ℕ → Bool) → (from to : ℕ) → Type 0
IsFree c from to = (a k : ℕ) → c a k ≡ true → (a < from) ⊎ (to ≤ a)

-- The n words from place `top` on have no role by the test c, and these roles by the test d, which allows no less.
pub record Taken (roles : ℕ → ℕ) (c d : ℕ → ℕ → Bool) (top n : ℕ) : Type 0 where
  pub free : IsFree c top (top + n)
  pub more : (a k : ℕ) → c a k ≡ true → d a k ≡ true
  pub new : (j q : ℕ) → j < n → q ≡ top + j → d q (roles j) ≡ true

-- The test c, and these roles for the n words from place `top` on.
unfoldable pub with_object : (ℕ → ℕ) → (ℕ → ℕ → Bool) → (top n : ℕ) → ℕ → ℕ → Bool
with_object roles c top n a k = if nat_le top a && nat_lt a (top + n) then roles (a - top) == k else c a k

-- From this place on lie these words.
pub record Lie (mem : List ℕ) (place : ℕ) (words : List ℕ) : Type 0 where
  pub each : (j q : ℕ) → j < length words → q ≡ place + j → slice_index mem q ≡ slice_index words j
