-- Where the bytes of a binary lie.
use Rattle.std.specs.Prelude.{◌≡◌, ℕ, ◌+◌, ◌/◌, ◌%◌, ◌<◌, Bool, List, length, slice_index, Option, Some, None}
use Rattle.term_words.specs.Object.{byte_of}
use Rattle.plain_term.specs.Tree.{Tree}
use Rattle.term_words.specs.Stands.{Stands}
use Rattle.term_read.specs.Parts.{binary_of, whole_of}
use Rattle.term_read.specs.declared.looks.Bytes.{Bytes}

-- The bytes lie in the words from place `first` on, from byte `start` of these.
pub record BytesFrom (mem : List ℕ) (first start : ℕ) (bytes : List ℕ) : Type 0 where
  pub within : (i : ℕ) → i < length bytes → first + (start + i) / 8 < length mem
  pub each : (i : ℕ) → i < length bytes → byte_of (slice_index mem (first + (start + i) / 8)) ((start + i) % 8) ≡ slice_index bytes i

-- The answer says where these bytes lie, or is none where there are none.
abbrev pub IsData : List ℕ → Option (List ℕ) → Option Bytes → Type 0
IsData mem None result = result ≡ None
IsData mem (Some bytes) result = (d : Bytes) × (result ≡ Some d) × BytesFrom mem d.first d.start bytes × (d.len ≡ length bytes)

-- The answer says where the bytes of the binary lie, of each tree that the word stands for.
pub record HasData (mem : List ℕ) (w : ℕ) (result : Option Bytes) : Type 0 where
  pub each : (c : ℕ → ℕ → Bool) (shared : List (List ℕ)) (t : Tree) → Stands c shared mem w t → IsData mem (binary_of shared t) result

-- The answer is the place from which these bytes lie, or is none where there are none.
abbrev pub IsFirstOfBytes : List ℕ → Option (List ℕ) → Option ℕ → Type 0
IsFirstOfBytes mem None result = result ≡ None
IsFirstOfBytes mem (Some bytes) result = (v : ℕ) × (result ≡ Some v) × BytesFrom mem v 0 bytes

-- The answer is the place from which the bytes of a whole binary lie, of each tree that the word stands for.
pub record HasFirst (mem : List ℕ) (w : ℕ) (result : Option ℕ) : Type 0 where
  pub each : (c : ℕ → ℕ → Bool) (shared : List (List ℕ)) (t : Tree) → Stands c shared mem w t → IsFirstOfBytes mem (whole_of shared t) result
