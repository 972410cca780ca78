-- A test says of a place and a role whether the word at that place may have that role.
use Rattle.std.specs.Prelude.{◌≡◌, ℕ, ◌≤◌, ◌⊎◌, Bool, true, ◌||◌, ◌&&◌, ◌==◌, nat_lt, nat_le}

-- The role of the word `next` of a holder or a fun.
abbrev pub NEXT : ℕ
NEXT = 1

-- The role of the count of a record.
abbrev pub COUNT : ℕ
COUNT = 2

-- The role of the first word of an object.
abbrev pub FIRST : ℕ
FIRST = 3

-- The role of another word of an object.
abbrev pub FURTHER : ℕ
FURTHER = 4

-- The role of the word that names a record.
abbrev pub NAMES : ℕ
NAMES = 5

-- The role of a word of a record, other than its first and its count.
abbrev pub RECORD : ℕ
RECORD = 6

-- The role of the first word of a record.
abbrev pub RECORD_FIRST : ℕ
RECORD_FIRST = 8

-- Words of these roles do not change under standing trees; the words `next` and the counts may.
abbrev pub IsContent : ℕ → Type 0
IsContent k = FIRST ≤ k

-- The roles of the words of objects.
abbrev pub OfObject : ℕ → Type 0
OfObject k = (k ≡ NEXT) ⊎ ((FIRST ≤ k) × (k ≤ NAMES))

-- The roles of the words of records.
abbrev pub OfRecord : ℕ → Type 0
OfRecord k = (k ≡ COUNT) ⊎ ((k ≡ RECORD) ⊎ (k ≡ RECORD_FIRST))

-- It is one of these.
abbrev pub is_of_record : ℕ → Bool
is_of_record k = k == COUNT || (k == RECORD || k == RECORD_FIRST)

-- Every word may have every role.
abbrev pub always : ℕ → ℕ → Bool
always a k = true

-- No word lies from `top` up to `limit`, the free places of a room.
unfoldable pub outside : ℕ → ℕ → ℕ → ℕ → Bool
outside top limit a k = nat_lt a top || nat_le limit a

-- What both tests allow.
abbrev pub both : (c d : ℕ → ℕ → Bool) → ℕ → ℕ → Bool
both c d a k = c a k && d a k

-- What an owner sees: words at its own places, words at places that it has in common with others, and records, wherever they lie.
unfoldable pub sees : (own common : ℕ → Bool) → ℕ → ℕ → Bool
sees own common a k = own a || (common a || is_of_record k)

-- What the test allows of what an owner sees.
abbrev pub by : (c : ℕ → ℕ → Bool) → (own common : ℕ → Bool) → ℕ → ℕ → Bool
by c own common = both c (sees own common)

-- The place is one of the owner's, or is common, or the role is that of a record's word.
abbrev pub IsInSight : (own common : ℕ → Bool) → ℕ → ℕ → Type 0
IsInSight own common a k = (own a ≡ true) ⊎ ((common a ≡ true) ⊎ OfRecord k)

-- Each place has one role, 0 for none.
unfoldable pub roles_of : (ℕ → ℕ) → ℕ → ℕ → Bool
roles_of r a k = nat_lt 0 k && r a == k

-- The test allows one role at most at each place.
pub record IsSingle (c : ℕ → ℕ → Bool) : Type 0 where
  pub one : (a j k : ℕ) → c a j ≡ true → c a k ≡ true → j ≡ k

-- No content lies at place a.
abbrev pub Idle : (ℕ → ℕ → Bool) → ℕ → Type 0
Idle c a = (k : ℕ) → IsContent k → c a k ≡ true → ⊥
