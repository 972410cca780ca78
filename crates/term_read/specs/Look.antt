-- What a look at a word tells of each tree that it stands for.
use Rattle.std.specs.Prelude.{◌≡◌, ℕ, ◌+◌, ◌*◌, ◌/◌, ◌^◌, ◌<◌, ◌≤◌, ◌⊎◌, Bool, true, false, List, length, slice_index, ℤ, pos, negsuc, Option, Some, None}
use Rattle.plain_term.specs.Measures.{is_small, magnitude}
use Rattle.plain_term.specs.Bytes.{bytes_of, shared_bytes}
use Rattle.plain_term.specs.Tree.{Tree, trees_len, pairs_len}
use Rattle.plain_term.specs.Tree.Tree.{Int, Atom, Pid, Ref, Nil, Cons, Tuple, Map, Bin, Shared, Part, Fun}
use Rattle.term_words.specs.Stands.{Stands, RowStands, KeysStand, ValuesStand, IsTerm}
use Rattle.term_read.specs.Data.{BytesFrom}
use Rattle.term_read.specs.declared.looks.Bytes.{Bytes}
use Rattle.term_read.specs.declared.looks.Digits.{Digits}
use Rattle.term_read.specs.declared.looks.Look.{Look}
use Rattle.term_read.specs.declared.looks.Look.TheVariants as look

-- The integer is below zero.
abbrev pub is_negative : ℤ → Bool
is_negative (pos n) = false
is_negative (negsuc n) = true

-- These are the sign and the digits of an integer that fits no word.
pub record HasDigits (i : ℤ) (d : Digits) : Type 0 where
  pub big : is_small i ≡ false
  pub sign : d.negative ≡ is_negative i
  pub digits : d.low + d.high * 2 ^ 64 ≡ magnitude i

-- Of the tree that the word stands for, the look tells its kind and its numbers, and where the words of its parts stand.
abbrev pub IsSeen : (ℕ → ℕ → Bool) → List (List ℕ) → List ℕ → ℕ → Tree → Look → Type 0
IsSeen c shared mem w (Int i) l = ((is_small i ≡ true) × (l ≡ look.Small i)) ⊎ ((d : Digits) × HasDigits i d × (l ≡ look.Big d))
IsSeen c shared mem w (Atom k) l = l ≡ look.Atom k
IsSeen c shared mem w (Pid n) l = l ≡ look.Pid n
IsSeen c shared mem w (Ref n k) l = l ≡ look.Ref n k
IsSeen c shared mem w Nil l = l ≡ look.Nil
IsSeen c shared mem w (Cons h t) l = (l ≡ look.Cons (w / 4)) × (w / 4 + 2 ≤ length mem)
    × Stands c shared mem (slice_index mem (w / 4)) h × Stands c shared mem (slice_index mem (w / 4 + 1)) t
IsSeen c shared mem w (Tuple ts) l = (l ≡ look.Tuple (record { first = w / 4 + 1; len = trees_len ts })) × (w / 4 + 1 + trees_len ts ≤ length mem)
    × RowStands c shared mem (w / 4 + 1) ts
IsSeen c shared mem w (Map ps) l = (l ≡ look.Map (record { keys = slice_index mem (w / 4 + 2) / 4 + 1; values = w / 4 + 3; len = pairs_len ps }))
    × (slice_index mem (w / 4 + 2) / 4 + 1 + pairs_len ps ≤ length mem) × (w / 4 + 3 + pairs_len ps ≤ length mem)
    × KeysStand c shared mem (slice_index mem (w / 4 + 2) / 4 + 1) ps × ValuesStand c shared mem (w / 4 + 3) ps
IsSeen c shared mem w (Fun name arity creator env) l =
    (l ≡ look.Fun (record { name = name; arity = arity; creator = creator; env = record { first = w / 4 + 6; len = trees_len env } }))
    × (w / 4 + 6 + trees_len env ≤ length mem) × RowStands c shared mem (w / 4 + 6) env
IsSeen c shared mem w (Bin bytes) l = (l ≡ look.Heap (record { first = w / 4 + 2; start = 0; len = length bytes })) × BytesFrom mem (w / 4 + 2) 0 bytes
IsSeen c shared mem w (Shared id) l = (l ≡ look.Holder (record { first = slice_index mem (w / 4 + 3) + 4; start = 0; len = length (shared_bytes shared id) }))
    × BytesFrom mem (slice_index mem (w / 4 + 3) + 4) 0 (shared_bytes shared id)
IsSeen c shared mem w (Part base offset len) l =
    (v : ℕ) × (l ≡ look.Part (record { base = slice_index mem (w / 4 + 4); bytes = record { first = v; start = offset; len = len } }))
    × Stands c shared mem (slice_index mem (w / 4 + 4)) base × (length (bytes_of shared (Part base offset len)) ≡ len)
    × BytesFrom mem v offset (bytes_of shared (Part base offset len))

-- So it is of each tree that the word stands for.
pub record Sees (mem : List ℕ) (w : ℕ) (l : Look) : Type 0 where
  pub each : (c : ℕ → ℕ → Bool) (shared : List (List ℕ)) (t : Tree) → Stands c shared mem w t → IsSeen c shared mem w t l

-- Where the bytes of a binary lie.
abbrev pub data_in : Look → Option Bytes
data_in (look.Heap bytes) = Some bytes
data_in (look.Holder bytes) = Some bytes
data_in (look.Part part) = Some part.bytes
data_in _ = None

-- The n words from a place on are words of the memory, and each stands for a tree.
pub record TermsFrom (mem : List ℕ) (first n : ℕ) : Type 0 where
  pub within : first + n ≤ length mem
  pub each : (j : ℕ) → j < n → IsTerm mem (slice_index mem (first + j))

-- Each byte is one of a word of the memory.
abbrev pub HasBytes : List ℕ → Bytes → Type 0
HasBytes mem b = (i : ℕ) → i < b.len → b.first + (b.start + i) / 8 < length mem

-- The places that the look tells lie in the memory, and the words of its parts stand for trees.
abbrev pub LiesInMemory : List ℕ → Look → Type 0
LiesInMemory mem (look.Cons place) = TermsFrom mem place 2
LiesInMemory mem (look.Tuple row) = TermsFrom mem row.first row.len
LiesInMemory mem (look.Map rows) = TermsFrom mem rows.keys rows.len × TermsFrom mem rows.values rows.len
LiesInMemory mem (look.Fun parts) = TermsFrom mem parts.env.first parts.env.len
LiesInMemory mem (look.Heap bytes) = HasBytes mem bytes
LiesInMemory mem (look.Holder bytes) = HasBytes mem bytes
LiesInMemory mem (look.Part part) = IsTerm mem part.base × HasBytes mem part.bytes
LiesInMemory mem _ = Unit {0}
