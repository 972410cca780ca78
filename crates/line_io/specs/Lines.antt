-- The lines of an input, from all its bytes at once.
use Rattle.std.specs.Prelude.{ℕ, Bool, ◌==◌, ◌&&◌, ◌||◌, nat_lt, nat_le, if◌then◌else◌, List, [], ◌∷◌, length, take, map, filter}
use Rattle.std.specs.List.{list_any, before_first}
use Rattle.std.specs.Str.Lines.{strip_carriage_return}
use Rattle.line_io.specs.declared.reader.Limits.{Limits}
use Rattle.line_io.specs.declared.reader.TheConstants.{LONGEST_LINE}

-- a line is a text without its end, or only known to be too long
pub data Line : Type 0 where
  text : List ℕ → Line
  long : Line

-- the byte that ends a line
abbrev pub is_end : ℕ → Bool
is_end b = b == 10

-- a piece of the input has its line end
abbrev pub is_whole : List ℕ → Bool
is_whole piece = list_any is_end piece

-- b goes before the first piece, or is a piece of its own where there is none
abbrev pub onto_first : ℕ → List (List ℕ) → List (List ℕ)
onto_first b [] = (b ∷ []) ∷ []
onto_first b (piece ∷ others) = (b ∷ piece) ∷ others

-- the input cut after each byte 10; only the last piece may lack it
abbrev pub pieces : List ℕ → List (List ℕ)
pieces [] = []
pieces (b ∷ bytes) = if is_end b then (b ∷ []) ∷ pieces bytes else onto_first b (pieces bytes)

-- a piece without its line end, which is byte 10 and at most one byte 13 directly before it
abbrev pub without_end : List ℕ → List ℕ
without_end piece = if is_whole piece then strip_carriage_return (before_first is_end piece) else piece

-- a piece as a line: too long exactly where more than 4,096 bytes are left of it
abbrev pub as_line : List ℕ → Line
as_line piece = if nat_lt LONGEST_LINE (length (without_end piece)) then long else text (without_end piece)

-- the pieces that count as lines: the last one without a line end counts where the input has ended
abbrev pub finished : Bool → List (List ℕ) → List (List ℕ)
finished ended ps = if ended then ps else filter is_whole ps

-- the lines of the bytes, within both limits; `ended` says whether the input has ended after these bytes
unfoldable pub lines : List ℕ → Bool → Limits → List Line
lines bytes ended limits = map as_line (take limits.lines
    (finished (ended && nat_le (length bytes) limits.bytes) (pieces (take limits.bytes bytes))))

-- more bytes came than are allowed, or a byte after the last line that is allowed
unfoldable pub is_too_much : List ℕ → Limits → Bool
is_too_much bytes limits = nat_lt limits.bytes (length bytes) || nat_lt limits.lines (length (pieces bytes))
