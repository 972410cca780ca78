-- What the readers answer of a tree.
use Rattle.std.specs.Prelude.{◌≡◌, ℕ, Bool, List, length, slice_get, Option, Some, None, option_map, option_and_then}
use Rattle.plain_term.specs.Tree.{Tree, pairs_len, keys_of, values_of}
use Rattle.plain_term.specs.Tree.Tree.{Map, Bin, Shared, Part}
use Rattle.plain_term.specs.Bytes.{bytes_of}
use Rattle.plain_term.specs.Parts.{part_at}
use Rattle.term_words.specs.Stands.{Stands}

-- Key i of a map, from 0.
abbrev pub key_of : ℕ → Tree → Option Tree
key_of i (Map ps) = part_at (keys_of ps) i
key_of i _ = None

-- Value i of a map, from 0.
abbrev pub map_value_of : ℕ → Tree → Option Tree
map_value_of i (Map ps) = part_at (values_of ps) i
map_value_of i _ = None

-- The number of pairs of a map.
abbrev pub map_len_of : Tree → Option ℕ
map_len_of (Map ps) = Some (pairs_len ps)
map_len_of _ = None

-- The bytes of a binary, and of nothing else.
abbrev pub binary_of : List (List ℕ) → Tree → Option (List ℕ)
binary_of shared (Bin bytes) = Some (bytes_of shared (Bin bytes))
binary_of shared (Shared id) = Some (bytes_of shared (Shared id))
binary_of shared (Part base offset len) = Some (bytes_of shared (Part base offset len))
binary_of shared _ = None

-- The bytes of a binary that is no part of another.
abbrev pub whole_of : List (List ℕ) → Tree → Option (List ℕ)
whole_of shared (Bin bytes) = Some (bytes_of shared (Bin bytes))
whole_of shared (Shared id) = Some (bytes_of shared (Shared id))
whole_of shared _ = None

-- The answer is the word of this part, or none where there is no such part.
abbrev pub AnswersPart : (ℕ → ℕ → Bool) → List (List ℕ) → List ℕ → Option Tree → Option ℕ → Type 0
AnswersPart c shared mem None result = result ≡ None
AnswersPart c shared mem (Some t) result = (v : ℕ) × (result ≡ Some v) × Stands c shared mem v t

-- The answer is the word of the part that f names, of each tree that the word stands for.
pub record FindsPart (f : Tree → Option Tree) (mem : List ℕ) (w : ℕ) (result : Option ℕ) : Type 0 where
  pub each : (c : ℕ → ℕ → Bool) (shared : List (List ℕ)) (t : Tree) → Stands c shared mem w t → AnswersPart c shared mem (f t) result

-- The answer is what f says, of each tree that the word stands for.
pub record TellsOf (f : List (List ℕ) → Tree → Option ℕ) (mem : List ℕ) (w : ℕ) (result : Option ℕ) : Type 0 where
  pub each : (c : ℕ → ℕ → Bool) (shared : List (List ℕ)) (t : Tree) → Stands c shared mem w t → result ≡ f shared t

-- The number of pairs of a map, whatever the shared lists.
abbrev pub map_len_in : List (List ℕ) → Tree → Option ℕ
map_len_in shared t = map_len_of t

-- The number of bytes of a binary.
abbrev pub byte_len_in : List (List ℕ) → Tree → Option ℕ
byte_len_in shared t = option_map length (binary_of shared t)

-- Byte i of a binary, from 0.
abbrev pub binary_byte_in : ℕ → List (List ℕ) → Tree → Option ℕ
binary_byte_in i shared t = option_and_then (λ bytes. slice_get bytes i) (binary_of shared t)
