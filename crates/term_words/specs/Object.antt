-- The objects and records that words point to: one definition a kind, by place and header. A word
-- points to the place `w / 4`.
use Rattle.std.specs.Prelude.{◌≡◌, ℕ, ◌+◌, ◌*◌, ◌/◌, ◌%◌, ◌^◌, ◌<◌, ◌≤◌, ◌⊎◌, ◌==◌, if◌then◌else◌, Bool, true, false, List, length, ℤ, pos, negsuc, slice_index}
use Rattle.plain_term.specs.Measures.{bin_words, is_small, magnitude}
use Rattle.plain_term.specs.Bytes.{shared_bytes}
use Rattle.term_tags.specs.Words.{small_word, atom_word, pid_word, head_word, record_word}
use Rattle.term_tags.specs.declared.kinds.TheConstants.{ATOMS, PIDS}
use Rattle.term_tags.specs.declared.layouts.TheConstants.{TUPLE, POS_BIG, NEG_BIG, REF, FUN, HOLDER, HEAP_BIN, SUB_BIN, MAP, MOST_PARTS, MOST_ENV, MOST_HEAP_BYTES, MOST_KEYS}
use Rattle.term_tags.specs.declared.records.TheConstants.{BIN_RECORD, FUN_RECORD}
use Rattle.term_words.specs.Role.{NEXT, COUNT, FIRST, FURTHER, NAMES, RECORD, RECORD_FIRST}

-- Byte k of a word, from the lowest.
abbrev pub byte_of : ℕ → ℕ → ℕ
byte_of word k = word / 2 ^ (k * 8) % 256

-- The bytes lie from place q on, lowest byte first, and the rest of the last word is zero.
pub record BytesLie (mem : List ℕ) (q : ℕ) (bytes : List ℕ) : Type 0 where
  pub each : (i a : ℕ) → i < bin_words (length bytes) * 8 → a ≡ q + i / 8
      → byte_of (slice_index mem a) (i % 8) ≡ slice_index bytes i

-- An object of n words lies at place p, where the test allows it.
pub record IsObject (c : ℕ → ℕ → Bool) (mem : List ℕ) (p n : ℕ) : Type 0 where
  pub within : p + n ≤ length mem
  pub first : c p FIRST ≡ true
  pub others : (q : ℕ) → p < q → q < p + n → c q FURTHER ≡ true

-- The word is a list pointer to a cons.
pub record IsCons (c : ℕ → ℕ → Bool) (mem : List ℕ) (w : ℕ) : Type 0 where
  pub tag : w % 4 ≡ 1
  pub object : IsObject c mem (w / 4) 2

-- The word is a boxed pointer to an object with this header.
pub record IsBoxed (c : ℕ → ℕ → Bool) (mem : List ℕ) (w subtag arity : ℕ) : Type 0 where
  pub tag : w % 4 ≡ 2
  pub header : slice_index mem (w / 4) ≡ head_word subtag arity
  pub object : IsObject c mem (w / 4) (1 + arity)

-- The word is a list pointer or a boxed one.
abbrev pub IsPointer : ℕ → Type 0
IsPointer w = (w % 4 ≡ 1) ⊎ (w % 4 ≡ 2)

-- The words of the object that a pointer leads to: two of a cons, else the header and its arity.
abbrev pub object_words : List ℕ → ℕ → ℕ
object_words mem w = if w % 4 == 1 then 2 else 1 + slice_index mem (w / 4) / 64

-- The word is the atom with number k.
pub record IsAtom (w k : ℕ) : Type 0 where
  pub range : k < ATOMS
  pub word : w ≡ atom_word k

-- The word is the pid of process n.
pub record IsPid (w n : ℕ) : Type 0 where
  pub range : n < PIDS
  pub word : w ≡ pid_word n

-- The subtag of a big integer, by its sign.
abbrev pub sign_tag : ℤ → ℕ
sign_tag (pos n) = POS_BIG
sign_tag (negsuc n) = NEG_BIG

-- The word is an integer that fits a word: 60 bits with sign.
pub record IsSmallAs (w : ℕ) (i : ℤ) : Type 0 where
  pub small : is_small i ≡ true
  pub word : w ≡ small_word i

-- A big integer of one digit: its magnitude is below 2^64.
pub record IsBigOne (c : ℕ → ℕ → Bool) (mem : List ℕ) (w : ℕ) (i : ℤ) : Type 0 where
  pub big : is_small i ≡ false
  pub boxed : IsBoxed c mem w (sign_tag i) 1
  pub digit : slice_index mem (w / 4 + 1) ≡ magnitude i
  pub range : magnitude i < 2 ^ 64

-- A big integer of two digits, the low one first: its magnitude is from 2^64 to below 2^127.
pub record IsBigTwo (c : ℕ → ℕ → Bool) (mem : List ℕ) (w : ℕ) (i : ℤ) : Type 0 where
  pub boxed : IsBoxed c mem w (sign_tag i) 2
  pub low : slice_index mem (w / 4 + 1) < 2 ^ 64
  pub high : 0 < slice_index mem (w / 4 + 2)
  pub digits : slice_index mem (w / 4 + 1) + slice_index mem (w / 4 + 2) * 2 ^ 64 ≡ magnitude i
  pub range : magnitude i < 2 ^ 127

-- The word is the integer: small exactly where it fits a word.
abbrev pub IsInt : (ℕ → ℕ → Bool) → List ℕ → ℕ → ℤ → Type 0
IsInt c mem w i = IsSmallAs w i ⊎ (IsBigOne c mem w i ⊎ IsBigTwo c mem w i)

-- The word is the reference k of process n.
pub record IsRef (c : ℕ → ℕ → Bool) (mem : List ℕ) (w n k : ℕ) : Type 0 where
  pub boxed : IsBoxed c mem w REF 2
  pub number : slice_index mem (w / 4 + 1) ≡ n
  pub count : slice_index mem (w / 4 + 2) ≡ k

-- The word is a tuple of n parts.
pub record IsTuple (c : ℕ → ℕ → Bool) (mem : List ℕ) (w n : ℕ) : Type 0 where
  pub range : n ≤ MOST_PARTS
  pub boxed : IsBoxed c mem w TUPLE n

-- The word is a flat map of n pairs; its word 2 is the tuple of the keys.
pub record IsMap (c : ℕ → ℕ → Bool) (mem : List ℕ) (w n : ℕ) : Type 0 where
  pub range : n ≤ MOST_KEYS
  pub boxed : IsBoxed c mem w MAP (n + 2)
  pub count : slice_index mem (w / 4 + 1) ≡ n
  pub keys : IsTuple c mem (slice_index mem (w / 4 + 2)) n

-- The word is a heap binary with these bytes.
pub record IsHeapBin (c : ℕ → ℕ → Bool) (mem : List ℕ) (w : ℕ) (bytes : List ℕ) : Type 0 where
  pub range : length bytes ≤ MOST_HEAP_BYTES
  pub boxed : IsBoxed c mem w HEAP_BIN (1 + bin_words (length bytes))
  pub size : slice_index mem (w / 4 + 1) ≡ length bytes
  pub content : BytesLie mem (w / 4 + 2) bytes

-- A binary record with this serial and these bytes lies at place v. Its word 2, the count, is free.
pub record IsBinRecord (c : ℕ → ℕ → Bool) (mem : List ℕ) (v serial : ℕ) (bytes : List ℕ) : Type 0 where
  pub within : v + (4 + bin_words (length bytes)) ≤ length mem
  pub header : slice_index mem v ≡ record_word BIN_RECORD (4 + bin_words (length bytes))
  pub owner : slice_index mem (v + 1) ≡ serial
  pub size : slice_index mem (v + 3) ≡ length bytes
  pub content : BytesLie mem (v + 4) bytes
  pub first : c v RECORD_FIRST ≡ true
  pub second : c (v + 1) RECORD ≡ true
  pub counted : c (v + 2) COUNT ≡ true
  pub others : (q : ℕ) → v + 3 ≤ q → q < v + (4 + bin_words (length bytes)) → c q RECORD ≡ true

-- A fun record for this name and arity lies at place v. Its word 2, the count, is free.
pub record IsFunRecord (c : ℕ → ℕ → Bool) (mem : List ℕ) (v name arity : ℕ) : Type 0 where
  pub named : name < ATOMS
  pub arity_range : arity ≤ 255
  pub within : v + 4 ≤ length mem
  pub header : slice_index mem v ≡ record_word FUN_RECORD 4
  pub owner : slice_index mem (v + 1) ≡ name * 256 + arity
  pub zero_word : slice_index mem (v + 3) ≡ 0
  pub first : c v RECORD_FIRST ≡ true
  pub second : c (v + 1) RECORD ≡ true
  pub counted : c (v + 2) COUNT ≡ true
  pub fourth : c (v + 3) RECORD ≡ true

-- A record of n words lies at place v: of the bytes of a binary, or of a fun.
abbrev pub IsRecord : (ℕ → ℕ → Bool) → List ℕ → (v n : ℕ) → Type 0
IsRecord c mem v n = ((serial : ℕ) × (bytes : List ℕ) × IsBinRecord c mem v serial bytes × (n ≡ 4 + bin_words (length bytes)))
    ⊎ ((name arity : ℕ) × IsFunRecord c mem v name arity × (n ≡ 4))

-- The word is a holder of a binary of len bytes. Its word 2, `next`, is free; word 3 names the record.
pub record IsHolder (c : ℕ → ℕ → Bool) (mem : List ℕ) (w len : ℕ) : Type 0 where
  pub tag : w % 4 ≡ 2
  pub within : w / 4 + 6 ≤ length mem
  pub header : slice_index mem (w / 4) ≡ head_word HOLDER 5
  pub size : slice_index mem (w / 4 + 1) ≡ len
  pub bytes_word : slice_index mem (w / 4 + 4) ≡ 0
  pub flags_word : slice_index mem (w / 4 + 5) ≡ 0
  pub first : c (w / 4) FIRST ≡ true
  pub second : c (w / 4 + 1) FURTHER ≡ true
  pub next : c (w / 4 + 2) NEXT ≡ true
  pub names : c (w / 4 + 3) NAMES ≡ true
  pub fifth : c (w / 4 + 4) FURTHER ≡ true
  pub sixth : c (w / 4 + 5) FURTHER ≡ true

-- The word is a fun of k environment places. Word 1 names its record; word 2, `next`, is free.
pub record IsFun (c : ℕ → ℕ → Bool) (mem : List ℕ) (w name arity creator k : ℕ) : Type 0 where
  pub range : k ≤ MOST_ENV
  pub creator_range : creator < PIDS
  pub tag : w % 4 ≡ 2
  pub within : w / 4 + (6 + k) ≤ length mem
  pub header : slice_index mem (w / 4) ≡ head_word FUN (k + 5)
  pub arity_word : slice_index mem (w / 4 + 3) ≡ arity
  pub size : slice_index mem (w / 4 + 4) ≡ k
  pub creator_word : slice_index mem (w / 4 + 5) ≡ pid_word creator
  pub record_is : IsFunRecord c mem (slice_index mem (w / 4 + 1)) name arity
  pub first : c (w / 4) FIRST ≡ true
  pub names : c (w / 4 + 1) NAMES ≡ true
  pub next : c (w / 4 + 2) NEXT ≡ true
  pub others : (q : ℕ) → w / 4 + 2 < q → q < w / 4 + (6 + k) → c q FURTHER ≡ true

-- The word is a holder whose record has this serial and its bytes.
pub record IsShared (c : ℕ → ℕ → Bool) (shared : List (List ℕ)) (mem : List ℕ) (w id : ℕ) : Type 0 where
  pub from_one : 0 < id
  pub known : id ≤ length shared
  pub holder : IsHolder c mem w (length (shared_bytes shared id))
  pub record_is : IsBinRecord c mem (slice_index mem (w / 4 + 3)) id (shared_bytes shared id)

-- The word is a sub binary of len bytes from an offset of an original with `whole` bytes.
pub record IsSub (c : ℕ → ℕ → Bool) (mem : List ℕ) (w offset len whole : ℕ) : Type 0 where
  pub boxed : IsBoxed c mem w SUB_BIN 4
  pub size : slice_index mem (w / 4 + 1) ≡ len
  pub start : slice_index mem (w / 4 + 2) ≡ offset
  pub bits : slice_index mem (w / 4 + 3) ≡ 0
  pub inside : offset + len ≤ whole
