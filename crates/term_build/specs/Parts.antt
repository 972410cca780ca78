-- What is put into an object: the words and trees that its builder finds, and the record that it names.
use Rattle.std.specs.Prelude.{◌≡◌, ℕ, ◌/◌, ◌%◌, ◌^◌, ◌<◌, ◌≤◌, nat_lt, if◌then◌else◌, ℤ, Bool, List, [], ◌∷◌, length}
use Rattle.plain_term.specs.Bytes.{shared_bytes}
use Rattle.plain_term.specs.Measures.{is_small, magnitude}
use Rattle.term_tags.specs.Words.{head_word}
use Rattle.term_words.specs.Object.{IsBinRecord, sign_tag}

-- The digits of 64 bits of a magnitude, the low one first, and a second one only where it is needed.
abbrev pub digits_of : ℕ → List ℕ
digits_of m = if nat_lt m (2 ^ 64) then m ∷ [] else m % 2 ^ 64 ∷ m / 2 ^ 64 ∷ []

-- The words of an integer's object: none where it is small, else a header with its sign, and its digits.
abbrev pub integer_words : ℤ → List ℕ
integer_words i = if is_small i then [] else head_word (sign_tag i) (length (digits_of (magnitude i))) ∷ digits_of (magnitude i)

-- The record at place v is that of shared binary id, which has len bytes.
pub record IsRecordOf (c : ℕ → ℕ → Bool) (shared : List (List ℕ)) (mem : List ℕ) (v len id : ℕ) : Type 0 where
  pub from_one : 0 < id
  pub known : id ≤ length shared
  pub size : length (shared_bytes shared id) ≡ len
  pub record_is : IsBinRecord c mem v id (shared_bytes shared id)
