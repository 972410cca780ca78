-- What the owner of a row of words has of the memory, and what a `&` to it lends.
use Rattle.std.specs.Prelude.{ℕ, ◌*◌, ◌^◌, Bool, true, false, List, [], ◌∷◌}
use base.Fraction.{full_share}
use base.Fml.{Lft, Fml, ftrue, fsep, flt}
use mir.Syntax.{Ty, w64, ty_int, ty_array}
use denote.Builtin.{u64}
use denote.RawPtr.{Ptr, lies_at, room_for, in_block, ◌+ₚ◌}
use denote.Sharing.{nothing, said, beside}
use denote.Struct.Lending.{lent_at}

-- the type that a block of n words is for
abbrev pub block_of_words : ℕ → Ty
block_of_words n = ty_array (ty_int w64) n

-- a place holds its word, or is room for one
abbrev pub word_own : Bool → Ptr → ℕ → Fml
word_own true p x = lies_at u64 full_share p x
word_own false p x = room_for (ty_int w64) p

-- the places from p on
abbrev pub all_own : Ptr → List ℕ → List Bool → Fml
all_own p [] fs = ftrue
all_own p (x ∷ xs) [] = ftrue
all_own p (x ∷ xs) (f ∷ fs) = fsep (word_own f p x) (all_own (p +ₚ 8) xs fs)

-- the places of a row of n words, whose bytes can be counted
abbrev pub words_own : Ptr → ℕ → List ℕ → List Bool → Fml
words_own p n xs fs = fsep (flt (n * 8) (2 ^ 63)) (in_block p (all_own p xs fs))

-- a word that can be read where its place holds one
abbrev pub word_lent : Bool → Ptr → ℕ → Lft → Fml
word_lent true p x = lent_at u64 p x
word_lent false p x = nothing

-- the words that can be read from p on
abbrev pub all_lent : Ptr → List ℕ → List Bool → Lft → Fml
all_lent p [] fs = nothing
all_lent p (x ∷ xs) [] = nothing
all_lent p (x ∷ xs) (f ∷ fs) = beside (word_lent f p x) (all_lent (p +ₚ 8) xs fs)

-- what a `&` to a row of n words lends
abbrev pub words_lent : Ptr → ℕ → List ℕ → List Bool → Lft → Fml
words_lent p n xs fs = beside (said (flt (n * 8) (2 ^ 63))) (all_lent p xs fs)
